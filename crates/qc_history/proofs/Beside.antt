-- Numbers beside the started names of a history, one entry after another.
use Rattle.std.proofs.Common.{◌≡◌, ℕ, ◌+◌, ◌<◌, inl, inr, true, List, [], ◌∷◌, length, refl, sym, ap, ◌∙◌, arith}
use Rattle.std.specs.Prelude.{Option, None, Some, is_some, slice_index, slice_set}
use Rattle.std.proofs.lemmas.List.{get_or-set_same, get_or-set_other}
use Rattle.std.proofs.lemmas.Option.{same_Some}
use Rattle.qc_event.specs.declared.event.Entry.{Entry}
use Rattle.qc_event.specs.declared.event.Event.{Event}
use Rattle.qc_event.specs.History.{Past, Name, start}
use Rattle.qc_event.proofs.OneEntry.{Starting}
use Rattle.qc_history.specs.Places.{starts_in, place}
use Rattle.qc_history.proofs.Placing.{has_start, place_step, place_once, place_within}
use Rattle.qc_history.proofs.Spots.{one_of}
use Rattle.qc_history.specs.Slots.{code, IsBeside}

-- CODES

pub code_none : (o : Option ℕ) → code o ≡ 0 → o ≡ None
code_none None h = refl
code_none (Some i) h = absurd (omega (arith, h))

pub code_some : (o : Option ℕ) (i : ℕ) → code o ≡ i + 1 → o ≡ Some i
code_some None i h = absurd (omega (arith, h))
code_some (Some j) i h = let same : j ≡ i = omega (arith, h) in ap (λ k. Some k) same

-- NAMES AND THEIR PLACES

-- an entry that is no start leaves each name its place
pub place_stays : (e : Entry) (past : Past) (n : Name) (i : ℕ) → starts_in e.event ≡ 0 → place (e ∷ past) n ≡ Some i → place past n ≡ Some i
place_stays e past n i calm is = elim (place_step e past n i is) [
  | inl old ↦ old
  | inr new ↦ absurd (started_here e.event new.1 calm)
]
  where
    started_here : (ev : Event) → Starting n ev → starts_in ev ≡ 0 → ⊥
    started_here ev s h = let one : starts_in ev ≡ 1 = ap starts_in s.1 in absurd (omega (arith, one, h))

-- ONE ENTRY AFTER ANOTHER

pub beside_wider : (number : Past → Name → ℕ) (past : Past) (xs ys : List ℕ) → ((i : ℕ) → slice_index ys i ≡ slice_index xs i) → IsBeside number past xs → IsBeside number past ys
beside_wider number past xs ys same was = record {
  at_place = λ n i is. same i ∙ was.at_place n i is;
  beyond = λ i more. same i ∙ was.beyond i more;
}

pub beside_none : (number : Past → Name → ℕ) → IsBeside number [] []
beside_none number = record { at_place = λ n i is. absurd cc; beyond = λ i more. refl }

-- no number changes, and what starts has none
pub beside_stays : (number : Past → Name → ℕ) (e : Entry) (past : Past) (xs : List ℕ) → IsBeside number past xs
    → ((n : Name) → is_some (start past n) ≡ true → number past n ≡ number (e ∷ past) n)
    → ((n : Name) → place past n ≡ None → Starting n e.event → number (e ∷ past) n ≡ 0)
    → IsBeside number (e ∷ past) xs
beside_stays number e past xs was same fresh = record {
  at_place = λ n i is. elim (place_step e past n i is) [
    | inl old ↦ was.at_place n i old ∙ same n (has_start past n i old)
    | inr new ↦ was.beyond i (omega (arith, new.2)) ∙ sym (fresh n new.0 new.1)
  ];
  beyond = λ i more. was.beyond i (omega (arith, more));
}

-- one name's number changes
pub beside_set : (number : Past → Name → ℕ) (e : Entry) (past : Past) (xs : List ℕ) (m : Name) (at value : ℕ) → IsBeside number past xs → at < length xs
    → starts_in e.event ≡ 0 → place past m ≡ Some at → value ≡ number (e ∷ past) m
    → ((n : Name) → (n ≡ m → ⊥) → number past n ≡ number (e ∷ past) n)
    → IsBeside number (e ∷ past) (slice_set xs at value)
beside_set number e past xs m at value was inside calm here is same = record {
  at_place = λ n i placed. let old = place_stays e past n i calm placed in elim (one_of i at) [
    | inl there ↦
        let this : n ≡ m = place_once past n m i old (here ∙ ap (λ k. Some k) (sym there)) in
        ap (slice_index (slice_set xs at value)) there ∙ get_or-set_same xs at value 0 inside ∙ is ∙ ap (number (e ∷ past)) (sym this)
    | inr other ↦ get_or-set_other xs at i value 0 other ∙ was.at_place n i old ∙ same n (λ this. other (same_Some i at (sym old ∙ ap (place past) this ∙ here)))
  ];
  beyond = λ i more. get_or-set_other xs at i value 0 (λ there. let within = place_within past m at here in absurd (omega (arith, within, more, there, calm))) ∙ was.beyond i (omega (arith, more));
}
