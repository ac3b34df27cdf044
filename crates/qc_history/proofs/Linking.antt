-- Chains, one entry after another, and the way back along them.
use Rattle.std.proofs.Common.{◌≡◌, ℕ, ◌+◌, ◌<◌, ◌≤◌, Bool, true, false, List, [], ◌∷◌, ◌++◌, length, reverse, refl, sym, ap, ◌∙◌, arith, append-nil}
use mathlib.Core.Bool.{true≢false}
use Rattle.std.specs.Prelude.{Option, None, Some, if◌then◌else◌, option_to_list, slice_get, slice_index, slice_set}
use Rattle.std.proofs.lemmas.Bool.{eq-eqb, eqb-true, false_from_ne_true}
use Rattle.std.proofs.lemmas.List.{get_or-set_same, get_or-set_other, length-reverse, reverse-append}
use Rattle.std.proofs.lemmas.Option.{none-some, same_Some}
use Rattle.qc_event.specs.declared.event.Entry.{Entry}
use Rattle.qc_event.specs.declared.event.Event.{Event}
use Rattle.qc_event.specs.History.{Past, every}
use Rattle.qc_event.proofs.Lists.{get_first, get_last}
use Rattle.qc_history.specs.Chains.{is_key, last_of, AreLinked}

-- PLACES

-- the entry behind so many older ones
pub entry_there : (newer older : Past) (e : Entry) → slice_get (reverse (newer ++ e ∷ older)) (length older) ≡ Some e
entry_there [] older e = ap (λ es. slice_get es (length older)) (reverse-append (e ∷ []) older) ∙ get_last (reverse older) e (length older) (sym (length-reverse older))
entry_there (n ∷ newer) older e =
    ap (λ es. slice_get es (length older)) (reverse-append (n ∷ []) (newer ++ e ∷ older))
    ∙ get_first (reverse (newer ++ e ∷ older)) (n ∷ []) (length older) e (entry_there newer older e)

-- KEYS

is_key_itself : (k : ℕ) (o : Option ℕ) → o ≡ Some k → is_key k o ≡ true
is_key_itself k o is = ap (is_key k) is ∙ eq-eqb k k refl

key_is : (k : ℕ) (o : Option ℕ) → is_key k o ≡ true → o ≡ Some k
key_is k None h = absurd (true≢false (sym h))
key_is k (Some j) h = ap (λ i. Some i) (eqb-true j k h)

module _ (key : Event → Option ℕ) where
  -- THE LAST

  pub last_here : (e : Entry) (past : Past) (k : ℕ) → key e.event ≡ Some k → length past + 1 ≡ last_of key k (e ∷ past)
  last_here e past k is = ap (λ (b : Bool). if b then length past + 1 else last_of key k past) (sym (is_key_itself k (key e.event) is))

  pub last_stays : (e : Entry) (past : Past) (k : ℕ) → (key e.event ≡ Some k → ⊥) → last_of key k past ≡ last_of key k (e ∷ past)
  last_stays e past k other = ap (λ (b : Bool). if b then length past + 1 else last_of key k past) (sym (false_from_ne_true (is_key k (key e.event)) (λ h. other (key_is k (key e.event) h))))

  pub last_few : (past : Past) (k : ℕ) → last_of key k past ≤ length past
  last_few [] k = omega arith
  last_few (e ∷ past) k = by_test (is_key k (key e.event)) (last_few past k)
    where
      by_test : (b : Bool) → last_of key k past ≤ length past → (if b then length past + 1 else last_of key k past) ≤ length (e ∷ past)
      by_test true few = omega arith
      by_test false few = omega (arith, few)

  -- LINKS

  -- what stands beside later entries does not matter
  pub linked_same : (past : Past) (xs ys : List ℕ) → ((i : ℕ) → i < length past → slice_index ys i ≡ slice_index xs i) → AreLinked key past xs → AreLinked key past ys
  linked_same [] xs ys same was = tt
  linked_same (e ∷ past) xs ys same was = (
    linked_same past xs ys (λ i less. same i (omega (arith, less))) was.0,
    λ k is. same (length past) (omega arith) ∙ was.1 k is,
  )

  pub linked_stays : (e : Entry) (past : Past) (xs : List ℕ) → key e.event ≡ None → AreLinked key past xs → AreLinked key (e ∷ past) xs
  linked_stays e past xs none was = (was, λ k is. absurd (none-some k (sym none ∙ is)))

  pub linked_set : (e : Entry) (past : Past) (xs : List ℕ) (k at value : ℕ) → AreLinked key past xs → key e.event ≡ Some k → length past < length xs → at ≡ length past → value ≡ last_of key k past → AreLinked key (e ∷ past) (slice_set xs at value)
  linked_set e past xs k at value was is wide here last = (
    linked_same past xs (slice_set xs at value) (λ i less. get_or-set_other xs at i value 0 (λ there. absurd (omega (arith, there, here, less)))) was,
    λ j also. ap (slice_index (slice_set xs at value)) (sym here) ∙ get_or-set_same xs at value 0 (omega (arith, here, wide)) ∙ last ∙ ap (λ i. last_of key i past) (same_Some k j (sym is ∙ also)),
  )

  -- THE WAY BACK

  -- what the entry with this place, and those before it, answer
  pub record Step {Y : Type 0} (f : Entry → Option Y) (k i : ℕ) (past : Past) : Type 0 where
    pub newer : Past
    pub here : Entry
    pub older : Past
    pub parts : past ≡ newer ++ here ∷ older
    pub place : length older ≡ i
    pub its_key : key here.event ≡ Some k
    pub answers : every f past ≡ every f older ++ option_to_list (f here)

  module _ {Y : Type 0} (f : Entry → Option Y) (k : ℕ) (only : (e : Entry) → (key e.event ≡ Some k → ⊥) → f e ≡ None) where
    passed : (e : Entry) (past : Past) → (key e.event ≡ Some k → ⊥) → every f (e ∷ past) ≡ every f past
    passed e past other = ap (λ o. every f past ++ option_to_list o) (only e other) ∙ append-nil (every f past)

    -- where there is no last, nothing answers
    pub none_left : (past : Past) → last_of key k past ≡ 0 → every f past ≡ []
    none_left [] none = refl
    none_left (e ∷ past) none = by_test (is_key k (key e.event)) refl (none_left past) none
      where
        by_test : (b : Bool) → is_key k (key e.event) ≡ b → (last_of key k past ≡ 0 → every f past ≡ []) → (if b then length past + 1 else last_of key k past) ≡ 0 → every f (e ∷ past) ≡ []
        by_test true h before zero = absurd (omega (arith, zero))
        by_test false h before zero = passed e past (λ is. true≢false (sym (is_key_itself k (key e.event) is) ∙ h)) ∙ before zero

    -- the last answers after those before it
    pub one_back : (past : Past) (i : ℕ) → last_of key k past ≡ i + 1 → Step f k i past
    one_back [] i is = absurd (omega (arith, is))
    one_back (e ∷ past) i is = by_test (is_key k (key e.event)) refl (one_back past i) is
      where
        further : (key e.event ≡ Some k → ⊥) → Step f k i past → Step f k i (e ∷ past)
        further other s = record {
          newer = e ∷ s.newer;
          here = s.here;
          older = s.older;
          parts = ap (λ p. e ∷ p) s.parts;
          place = s.place;
          its_key = s.its_key;
          answers = passed e past other ∙ s.answers;
        }

        by_test : (b : Bool) → is_key k (key e.event) ≡ b → (last_of key k past ≡ i + 1 → Step f k i past) → (if b then length past + 1 else last_of key k past) ≡ i + 1 → Step f k i (e ∷ past)
        by_test true h before last = record { newer = []; here = e; older = past; parts = refl; place = omega (arith, last); its_key = key_is k (key e.event) h; answers = refl }
        by_test false h before last = further (λ found. true≢false (sym (is_key_itself k (key e.event) found) ∙ h)) (before last)

  -- what stands beside the last is the one before it
  pub link_back : (newer older : Past) (e : Entry) (xs : List ℕ) (k : ℕ) → AreLinked key (newer ++ e ∷ older) xs → key e.event ≡ Some k → slice_index xs (length older) ≡ last_of key k older
  link_back [] older e xs k was is = was.1 k is
  link_back (n ∷ newer) older e xs k was is = link_back newer older e xs k was.0 is
