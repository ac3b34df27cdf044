-- What one entry more changes of what a history says of a name.
use Rattle.std.proofs.Common.{◌≡◌, ℕ, inl, inr, Bool, true, false, List, [], ◌∷◌, ◌++◌, length, refl, sym, ap, ◌∙◌, subst, append-nil}
use mathlib.Core.Bool.{true≢false}
use Rattle.std.specs.Prelude.{Option, None, Some, is_some, option_to_list, if◌then◌else◌}
use Rattle.std.specs.Option.{option_or, option_map}
use Rattle.std.proofs.lemmas.List.{nil_from_length}
use Rattle.qc_event.specs.declared.event.Entry.{Entry}
use Rattle.qc_event.specs.declared.event.Event.TheVariants as event
use Rattle.qc_event.specs.declared.event.How.{How}
use Rattle.qc_event.specs.declared.event.Kind.{Kind}
use Rattle.qc_event.specs.declared.event.Outcome.{Outcome}
use Rattle.qc_event.specs.History.{Past, Name, Begun, same, start, start_in, end, end_in, ready_in, is_ready, is_child, child_in}
use Rattle.qc_event.specs.Dead.{outcome, outcome_of}
use Rattle.qc_event.proofs.Absent.{same_is, same_itself}
use Rattle.qc_event.proofs.LastNumber.{child_last, is_child-last, last_longer}
use Rattle.qc_event.proofs.Lineage.{IsFresh}
use Rattle.qc_event.proofs.OneEntry.{Starting, some_or_none, ready_step, start_stays, end_now}
use Rattle.qc_event.proofs.Orderly.{KeepsOrder, Orderly, BecomesReady}
use Rattle.qc_history.specs.Spots.{Spot, new_spot, with_child, with_end, with_ready}
use Rattle.qc_history.specs.Places.{started, start_place, end_place, ready_place, child_places, spot_of}
use Rattle.qc_history.proofs.Placing.{uncounted, count_stays, count_now, as_many_children}

-- PART BY PART

abbrev spot_with : Option ℕ → Outcome → Option ℕ → Option ℕ → List ℕ → Spot
spot_with b o d r c = record { start = b; outcome = o; end = d; ready = r; children = c }

-- spots are the same whose parts are
same_parts : (b b' : Option ℕ) (o o' : Outcome) (d d' r r' : Option ℕ) (c c' : List ℕ) → b ≡ b' → o ≡ o' → d ≡ d' → r ≡ r' → c ≡ c' → spot_with b o d r c ≡ spot_with b' o' d' r' c'
same_parts b b' o o' d d' r r' c c' p q s t u = cc

module _ (e : Entry) (past : Past) (n : Name) where
  start_place_stays : start_in n e.seat e.event ≡ None → start_place past n ≡ start_place (e ∷ past) n
  start_place_stays none = count_stays length (λ e. start_in n e.seat e.event) e past none

  outcome_stays : end_in n e.event ≡ None → outcome past n ≡ outcome (e ∷ past) n
  outcome_stays none = ap outcome_of (or_none (end past n) (end_in n e.event) none)
    where
      or_none : (a b : Option How) → b ≡ None → a ≡ option_or a b
      or_none None b is = sym is
      or_none (Some y) b is = refl

  end_place_stays : end_in n e.event ≡ None → end_place past n ≡ end_place (e ∷ past) n
  end_place_stays none = count_stays length (λ e. end_in n e.event) e past none

  ready_place_stays : ready_in n e.event ≡ None → ready_place past n ≡ ready_place (e ∷ past) n
  ready_place_stays none = count_stays length (λ e. ready_in n e.event) e past none

  child_places_stay : child_in n e.event ≡ None → child_places past n ≡ child_places (e ∷ past) n
  child_places_stay none = sym (append-nil (child_places past n)) ∙ ap (λ o. child_places past n ++ option_to_list (option_map (λ _. started past) o)) (sym none)

  -- the spot of a name with which the event has nothing to do
  pub spot_stays : start_in n e.seat e.event ≡ None → end_in n e.event ≡ None → ready_in n e.event ≡ None → child_in n e.event ≡ None → spot_of past n ≡ spot_of (e ∷ past) n
  spot_stays no_start no_end no_ready no_child =
      same_parts (start_place past n) _ (outcome past n) _ (end_place past n) _ (ready_place past n) _ (child_places past n) _
      (start_place_stays no_start) (outcome_stays no_end) (end_place_stays no_end) (ready_place_stays no_ready) (child_places_stay no_child)

pub if_not : {Y : Type 0} (b : Bool) (y : Y) → (b ≡ true → ⊥) → (if b then Some y else None) ≡ None
if_not true y h = absurd (h refl)
if_not false y h = refl

-- A START

-- who is ready was started
pub ready_started : (past : Past) (n : Name) → Orderly past → is_ready past n ≡ true → is_some (start past n) ≡ true
ready_started [] n orderly h = absurd (true≢false (sym h))
ready_started (e ∷ past) n orderly h = elim (ready_step e past n h) [
  | inl old ↦ start_stays e past n (ready_started past n orderly.0 old)
  | inr now ↦ let ready : BecomesReady past n = subst (KeepsOrder past) now orderly.1 in start_stays e past n ready.is_open.started
]

pub never_ready : (past : Past) (n : Name) → Orderly past → start past n ≡ None → is_ready past n ≡ false
never_ready past n orderly none = by_test (is_ready past n) refl
  where
    by_test : (b : Bool) → is_ready past n ≡ b → b ≡ false
    by_test true ready = absurd (some_or_none (start past n) (ready_started past n orderly ready) none)
    by_test false ready = refl

pub none_ready : (o : Option (Unit {0})) → is_some o ≡ false → o ≡ None
none_ready None h = refl
none_ready (Some u) h = absurd (true≢false h)

-- no name is its own child
not_own_child : (n : Name) → is_child n n ≡ true → ⊥
not_own_child n h = let last = child_last n n h in last_longer n last.0 (sym last.1)

-- a name that starts now, of which nothing was known
module _ (e : Entry) (past : Past) (m : Name) (k : Kind) (is : e.event ≡ event.Start m k) (fresh : IsFresh past m) (orderly : Orderly past) where
  pub other_stays : (n : Name) → (n ≡ m → ⊥) → (is_child n m ≡ true → ⊥) → spot_of past n ≡ spot_of (e ∷ past) n
  other_stays n other not_child = spot_stays e past n
      (ap (start_in n e.seat) is ∙ if_not (same m n) _ (λ h. other (sym (same_is m n h))))
      (ap (end_in n) is) (ap (ready_in n) is) (ap (child_in n) is ∙ if_not (is_child n m) m not_child)

  starts_now : start_in m e.seat e.event ≡ Some (let b : Begun = record { seat = e.seat; kind = k } in b)
  starts_now = ap (start_in m e.seat) is ∙ ap (λ (b : Bool). if b then Some (let b : Begun = record { seat = e.seat; kind = k } in b) else None) (same_itself m)

  pub new_is_new : new_spot (Some (length past)) ≡ spot_of (e ∷ past) m
  new_is_new =
      same_parts _ (start_place (e ∷ past) m) _ (outcome (e ∷ past) m) _ (end_place (e ∷ past) m) _ (ready_place (e ∷ past) m) _ (child_places (e ∷ past) m)
      (count_now length (λ e. start_in m e.seat e.event) e past _ fresh.no_start starts_now)
      (ap outcome_of (sym fresh.no_end) ∙ outcome_stays e past m (ap (end_in m) is))
      (sym (uncounted length (λ e. end_in m e.event) past fresh.no_end) ∙ end_place_stays e past m (ap (end_in m) is))
      (sym (uncounted length (λ e. ready_in m e.event) past (none_ready _ (never_ready past m orderly fresh.no_start))) ∙ ready_place_stays e past m (ap (ready_in m) is))
      (sym (nil_from_length (child_places past m) (as_many_children past m ∙ ap length fresh.no_children))
      ∙ child_places_stay e past m (ap (child_in m) is ∙ if_not (is_child m m) m (not_own_child m)))

  pub only_new : (n : Name) → Starting n e.event → n ≡ m
  only_new n starting = let h : event.Start n starting.0 ≡ event.Start m k = sym starting.1 ∙ is in cc

  -- what was started before is another name
  pub not_new : (n : Name) → is_some (start past n) ≡ true → n ≡ m → ⊥
  not_new n h same = some_or_none (start past n) h (ap (start past) same ∙ fresh.no_start)

-- the parent of a name that starts now
pub child_spot : (e : Entry) (past : Past) (p : Name) (j : ℕ) (k : Kind) → e.event ≡ event.Start (p ++ j ∷ []) k → with_child (started past) (spot_of past p) ≡ spot_of (e ∷ past) p
child_spot e past p j k is =
    same_parts (start_place past p) _ (outcome past p) _ (end_place past p) _ (ready_place past p) _ (child_places past p ++ started past ∷ []) _
    (start_place_stays e past p (ap (start_in p e.seat) is ∙ if_not (same (p ++ j ∷ []) p) _ (λ h. last_longer p j (same_is (p ++ j ∷ []) p h))))
    (outcome_stays e past p (ap (end_in p) is))
    (end_place_stays e past p (ap (end_in p) is))
    (ready_place_stays e past p (ap (ready_in p) is))
    (ap (λ (b : Bool). child_places past p ++ option_to_list (option_map (λ _. started past) (if b then Some (p ++ j ∷ []) else None))) (sym (is_child-last p j))
    ∙ ap (λ ev. child_places past p ++ option_to_list (option_map (λ _. started past) (child_in p ev))) (sym is))

-- AN END, AND A READY TOP

pub end_spot : (e : Entry) (past : Past) (m : Name) (how : How) → e.event ≡ event.End m how → end past m ≡ None → with_end (outcome_of (Some how)) (length past) (spot_of past m) ≡ spot_of (e ∷ past) m
end_spot e past m how is none =
    same_parts (start_place past m) _ (outcome_of (Some how)) _ (Some (length past)) _ (ready_place past m) _ (child_places past m) _
    (start_place_stays e past m (ap (start_in m e.seat) is))
    (ap outcome_of (sym (ap (λ o. option_or o (end_in m e.event)) none ∙ end_now m e.event how is)))
    (count_now length (λ e. end_in m e.event) e past how none (end_now m e.event how is))
    (ready_place_stays e past m (ap (ready_in m) is))
    (child_places_stay e past m (ap (child_in m) is))

pub ready_spot : (e : Entry) (past : Past) (m : Name) → e.event ≡ event.Ready m → is_ready past m ≡ false → with_ready (length past) (spot_of past m) ≡ spot_of (e ∷ past) m
ready_spot e past m is none =
    same_parts (start_place past m) _ (outcome past m) _ (end_place past m) _ (Some (length past)) _ (child_places past m) _
    (start_place_stays e past m (ap (start_in m e.seat) is))
    (outcome_stays e past m (ap (end_in m) is))
    (end_place_stays e past m (ap (end_in m) is))
    (count_now length (λ e. ready_in m e.event) e past tt (none_ready _ none) (ap (ready_in m) is ∙ ap (λ (b : Bool). if b then Some tt else None) (same_itself m)))
    (child_places_stay e past m (ap (child_in m) is))
