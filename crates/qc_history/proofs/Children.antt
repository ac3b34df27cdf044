-- The children of a name, one after another: which is the first that has no end.
use Rattle.std.proofs.Common.{◌≡◌, ℕ, zero, suc, ◌+◌, ◌<◌, ◌⊎◌, inl, inr, Bool, true, false, List, [], ◌∷◌, ◌++◌, length, drop, get_or, refl, sym, ap, ◌∙◌, subst, arith, append-nil}
use mathlib.Core.Bool.{true≢false}
use Rattle.std.specs.Prelude.{Option, None, Some, is_some, is_none, slice_get, find, if◌then◌else◌, option_to_list}
use Rattle.std.proofs.lemmas.Option.{slice_get_within, same_Some, slice_get-get_or}
use Rattle.qc_event.specs.declared.event.Event.{Event}
use Rattle.qc_event.specs.declared.event.Event.TheVariants as event
use Rattle.qc_event.specs.declared.event.How.{How}
use Rattle.qc_event.specs.declared.event.Kind.{Kind}
use Rattle.qc_event.specs.Base.{Setting}
use Rattle.qc_event.specs.History.{Past, Name, end, end_in, child_in, is_child, children}
use Rattle.qc_event.specs.Legal.{Legal}
use Rattle.qc_event.proofs.LastNumber.{child_last}
use Rattle.qc_event.proofs.LegalOrderly.{legal_orderly}
use Rattle.qc_event.proofs.Lawful.{child_starts}
use Rattle.qc_event.proofs.OneEntry.{not_some}
use Rattle.qc_event.proofs.Orderly.{Orderly}
use Rattle.qc_history.specs.Spots.{Spot}
use Rattle.qc_history.specs.Places.{child_places}
use Rattle.qc_history.specs.Index.{Shape, IsIndexOf}
use Rattle.qc_history.proofs.Finding.{spot_is}
use Rattle.qc_event.proofs.Lists.{get_last}
use Rattle.qc_history.proofs.Placing.{get_other, child_place, counted, as_many_children}
use Rattle.qc_history.proofs.Spots.{one_of}

-- the child at a place has the next number
pub nth_child : (past : Past) (p : Name) (j : ℕ) (c : Name) → Orderly past → 0 < length p → slice_get (children past p) j ≡ Some c → c ≡ p ++ (j + 1) ∷ []
nth_child [] p j c orderly pos is = absurd cc
nth_child (e ∷ past) p j c orderly pos is = step e.event refl (nth_child past p j c orderly.0 pos)
  where
    unchanged : child_in p e.event ≡ None → (slice_get (children past p) j ≡ Some c → c ≡ p ++ (j + 1) ∷ []) → c ≡ p ++ (j + 1) ∷ []
    unchanged none before = before (ap (λ xs. slice_get xs j) (sym (append-nil (children past p)) ∙ ap (λ o. children past p ++ option_to_list o) (sym none)) ∙ is)

    starts : (m : Name) (k : Kind) (b : Bool) → is_child p m ≡ b → e.event ≡ event.Start m k → (j ≡ length (children past p)) ⊎ (j ≡ length (children past p) → ⊥) → (slice_get (children past p) j ≡ Some c → c ≡ p ++ (j + 1) ∷ []) → c ≡ p ++ (j + 1) ∷ []
    starts m k false child ev at before = unchanged (ap (child_in p) ev ∙ ap (λ (b : Bool). if b then Some m else None) child) before
    starts m k true child ev at before =
        let last = child_last p m child in
        let added : slice_get (children past p ++ m ∷ []) j ≡ Some c = ap (λ o. slice_get (children past p ++ option_to_list o) j) (sym (ap (child_in p) ev ∙ ap (λ (b : Bool). if b then Some m else None) child)) ∙ is in
        elim at [
          | inl here ↦
              let next : last.0 ≡ length (children past p) + 1 = (child_starts past e p last.0 pos (k, ev ∙ ap (λ x. event.Start x k) last.1) orderly.1).next in
              sym (same_Some m c (sym (get_last (children past p) m j here) ∙ added)) ∙ last.1 ∙ ap (λ x. p ++ x ∷ []) (omega (arith, next, here))
          | inr other ↦ before (sym (get_other (children past p) m j other) ∙ added)
        ]

    step : (ev : Event) → e.event ≡ ev → (slice_get (children past p) j ≡ Some c → c ≡ p ++ (j + 1) ∷ []) → c ≡ p ++ (j + 1) ∷ []
    step (event.Start m k) ev before = starts m k (is_child p m) refl ev (one_of j (length (children past p))) before
    step ev is_ev before = unchanged (ap (child_in p) is_ev) before

-- ONE CHILD AFTER ANOTHER

pub found : (f : Name → Bool) (cs : List Name) (k : ℕ) (c : Name) → slice_get cs k ≡ Some c → f c ≡ true → find f (drop k cs) ≡ Some c
found f [] k c is h = absurd cc
found f (x ∷ cs) zero c is h = ap (λ (b : Bool). if b then Some x else find f cs) (ap f (same_Some x c is) ∙ h) ∙ is
found f (x ∷ cs) (suc k) c is h = found f cs k c is h

pub passed : (f : Name → Bool) (cs : List Name) (k : ℕ) (c : Name) → slice_get cs k ≡ Some c → f c ≡ false → find f (drop k cs) ≡ find f (drop (suc k) cs)
passed f [] k c is h = absurd cc
passed f (x ∷ cs) zero c is h = ap (λ (b : Bool). if b then Some x else find f cs) (ap f (same_Some x c is) ∙ h)
passed f (x ∷ cs) (suc k) c is h = passed f cs k c is h

-- whether a name has no end
abbrev pub unended : Past → Name → Bool
unended past c = is_none (end past c)

module _ (setting : Setting) (past : Past) (index : Shape) (p : Name) (k i : ℕ) (s : Spot) (was : IsIndexOf past index) (legal : Legal setting past) (pos : 0 < length p) (here : slice_get (child_places past p) k ≡ Some i) (spot : slice_get index.spots i ≡ Some s) where
  abbrev child : Name
  child = p ++ suc k ∷ []

  its_end : is_some s.end ≡ is_some (end past child)
  its_end =
      ap (λ (x : Spot). is_some x.end) (spot_is past index child i s was (child_place past p (suc k) (legal_orderly setting past legal) pos ∙ here) spot)
      ∙ counted length (λ e. end_in child e.event) past

  listed : slice_get (children past p) k ≡ Some child
  listed =
      let less : k < length (children past p) = subst (λ n. k < n) (as_many_children past p) (slice_get_within (child_places past p) k i here) in
      let at = slice_get-get_or (children past p) k [] less in
      let next : k + 1 ≡ suc k = omega arith in
      at ∙ ap Some (nth_child past p k (get_or (children past p) k []) (legal_orderly setting past legal) pos at ∙ ap (λ x. p ++ x ∷ []) next)

  pub child_open : is_some s.end ≡ false → find (unended past) (drop k (children past p)) ≡ Some child
  child_open none = found (unended past) (children past p) k child listed (ap is_none (not_some (end past child) (λ h. true≢false (sym h ∙ sym its_end ∙ none))))

  pub child_ended : is_some s.end ≡ true → find (unended past) (drop k (children past p)) ≡ find (unended past) (drop (suc k) (children past p))
  child_ended some = passed (unended past) (children past p) k child listed (has_one (end past child) (sym its_end ∙ some))
    where
      has_one : (o : Option How) → is_some o ≡ true → is_none o ≡ false
      has_one None h = absurd (true≢false (sym h))
      has_one (Some how) h = refl
