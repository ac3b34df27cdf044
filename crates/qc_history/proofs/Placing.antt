-- The places of names: each started name has one, and no two have the same.
use Rattle.std.proofs.Common.{◌≡◌, ℕ, zero, suc, ◌+◌, ◌<◌, ◌⊎◌, inl, inr, Bool, true, false, List, [], ◌∷◌, ◌++◌, length, reverse, refl, sym, ap, ◌∙◌, subst, arith, append-nil}
use mathlib.Core.Bool.{true≢false}
use Rattle.std.specs.Prelude.{Option, None, Some, is_some, slice_get, ◌==◌, option_to_list, if◌then◌else◌}
use Rattle.std.specs.Option.{option_or, option_map}
use Rattle.std.proofs.lemmas.Bool.{cases_Bool, eqb-true, eq-eqb}
use Rattle.std.proofs.lemmas.List.{length-append, length-reverse, reverse-append}
use Rattle.std.proofs.lemmas.Option.{same_Some}
use Rattle.qc_event.specs.declared.event.Entry.{Entry}
use Rattle.qc_event.specs.declared.event.Event.{Event}
use Rattle.qc_event.specs.declared.event.Event.TheVariants as event
use Rattle.qc_event.specs.declared.event.Kind.{Kind}
use Rattle.qc_event.specs.History.{Past, Name, earliest, same, start, start_in, is_child, child_in, children}
use Rattle.qc_event.proofs.Absent.{same_is, same_itself}
use Rattle.qc_event.proofs.LastNumber.{child_last, is_child-last, same_last}
use Rattle.qc_event.proofs.Lists.{get_last}
use Rattle.qc_event.proofs.OneEntry.{Starting, starting, first_is, not_some, some_or_none}
use Rattle.qc_event.proofs.Orderly.{KeepsOrder, Orderly}
use Rattle.qc_event.proofs.Lawful.{Lawful, lawful, child_starts}
use Rattle.qc_history.specs.Spots.{child_at}
use Rattle.qc_history.specs.Places.{IsWhere, starts_in, started, before_first, place, child_places}

-- LISTS

pub get_other : {X : Type 0} (xs : List X) (y : X) (i : ℕ) → (i ≡ length xs → ⊥) → slice_get (xs ++ y ∷ []) i ≡ slice_get xs i
get_other [] y zero h = absurd (h refl)
get_other [] y (suc i) h = refl
get_other (x ∷ xs) y zero h = refl
get_other (x ∷ xs) y (suc i) h = get_other xs y i (λ is. h (omega arith))

pub or_nothing : {X Y : Type 0} (a : Option X) (f : Y → X) (new : Option Y) → new ≡ None → option_or a (option_map f new) ≡ a
or_nothing None f new none = ap (option_map f) none
or_nothing (Some x) f new none = refl

pub map_some : {X Y : Type 0} (x y : X) (new : Option Y) → option_map (λ _. x) new ≡ Some y → (is_some new ≡ true) × (x ≡ y)
map_some x y None h = absurd cc
map_some x y (Some b) h = (refl, cc)

-- THE FIRST ANSWER

-- there was a first answer just where there is one
pub counted : {Y : Type 0} (count : Past → ℕ) (f : Entry → Option Y) (past : Past) → is_some (before_first count f past) ≡ is_some (earliest f past)
counted count f [] = refl
counted {Y} count f (e ∷ past) = either (count past) (before_first count f past) (earliest f past) (f e) (counted count f past)
  where
    either : (k : ℕ) (p : Option ℕ) (old new : Option Y) → is_some p ≡ is_some old → is_some (option_or p (option_map (λ _. k) new)) ≡ is_some (option_or old new)
    either k None None None h = refl
    either k None None (Some y) h = refl
    either k None (Some x) new h = absurd (true≢false (sym h))
    either k (Some p) None new h = absurd (true≢false h)
    either k (Some p) (Some y) new h = refl

pub uncounted : {Y : Type 0} (count : Past → ℕ) (f : Entry → Option Y) (past : Past) → earliest f past ≡ None → before_first count f past ≡ None
uncounted count f past none = not_some (before_first count f past) (λ h. some_or_none (earliest f past) (sym (counted count f past) ∙ h) none)

-- an entry that does not answer changes nothing, and the first that answers is counted
pub count_stays : {Y : Type 0} (count : Past → ℕ) (f : Entry → Option Y) (e : Entry) (past : Past) → f e ≡ None → before_first count f past ≡ before_first count f (e ∷ past)
count_stays count f e past none = sym (or_nothing (before_first count f past) (λ _. count past) (f e) none)

pub count_now : {Y : Type 0} (count : Past → ℕ) (f : Entry → Option Y) (e : Entry) (past : Past) (y : Y) → earliest f past ≡ None → f e ≡ Some y → Some (count past) ≡ before_first count f (e ∷ past)
count_now count f e past y none now =
    ap (option_map (λ _. count past)) (sym now) ∙ ap (λ o. option_or o (option_map (λ _. count past) (f e))) (sym (uncounted count f past none))

pub count_step : {Y : Type 0} (count : Past → ℕ) (f : Entry → Option Y) (e : Entry) (past : Past) (i : ℕ) → before_first count f (e ∷ past) ≡ Some i
    → (before_first count f past ≡ Some i) ⊎ ((before_first count f past ≡ None) × (is_some (f e) ≡ true) × (count past ≡ i))
count_step count f e past i is = elim (first_is (before_first count f past) (option_map (λ _. count past) (f e)) i is) [
  | inl old ↦ inl old
  | inr new ↦ let now = map_some (count past) i (f e) new.1 in inr (new.0, now.0, now.1)
]

-- no answer is nowhere
pub nowhere : {Y : Type 0} (f : Entry → Option Y) (past : Past) → earliest f past ≡ None → IsWhere f past None
nowhere f past none = record { same = ap is_some (sym none); within = λ i is. absurd cc; there = λ i e is. absurd cc }

-- the first answer stands where as many entries were before it
pub answered_there : {Y : Type 0} (f : Entry → Option Y) (past : Past) → IsWhere f past (before_first length f past)
answered_there f [] = nowhere f [] refl
answered_there {Y} f (e ∷ past) =
    let before : IsWhere f past (before_first length f past) = answered_there f past in
    record {
      same = counted length f (e ∷ past);
      within = λ i is. elim (count_step length f e past i is) [
        | inl old ↦ let h = before.within i old in omega arith
        | inr new ↦ let here = new.2 in omega arith
      ];
      there = λ i x is at. elim (count_step length f e past i is) [
        | inl old ↦
            let h = before.within i old in
            before.there i x old (sym (get_other (reverse past) e i (λ last. omega (arith, last, h, length-reverse past))) ∙ ap (λ xs. slice_get xs i) (sym (reverse-append (e ∷ []) past)) ∙ at)
            ∙ stays (earliest f past) (f e) (sym (counted length f past) ∙ ap is_some old)
        | inr new ↦
            let here = new.2 in
            let none : earliest f past ≡ None = not_some (earliest f past) (λ h. some_or_none (before_first length f past) (counted length f past ∙ h) new.0) in
            let same_entry : e ≡ x = same_Some e x (sym (get_last (reverse past) e i (omega (arith, here, length-reverse past))) ∙ ap (λ xs. slice_get xs i) (sym (reverse-append (e ∷ []) past)) ∙ at) in
            ap f (sym same_entry) ∙ ap (λ o. option_or o (f e)) (sym none)
      ];
    }
  where
    stays : (old new : Option Y) → is_some old ≡ true → old ≡ option_or old new
    stays None new h = absurd (true≢false (sym h))
    stays (Some y) new h = refl

-- PLACES

pub placed : (past : Past) (n : Name) → is_some (place past n) ≡ is_some (start past n)
placed past n = counted started (λ e. start_in n e.seat e.event) past

-- what was not started has no place
pub no_place : (past : Past) (n : Name) → start past n ≡ None → place past n ≡ None
no_place past n none = uncounted started (λ e. start_in n e.seat e.event) past none

-- what has a place was started
pub has_start : (past : Past) (n : Name) (i : ℕ) → place past n ≡ Some i → is_some (start past n) ≡ true
has_start past n i is = sym (placed past n) ∙ ap is_some is

-- a place is an old one, or that of the name that the entry starts
pub place_step : (e : Entry) (past : Past) (n : Name) (i : ℕ) → place (e ∷ past) n ≡ Some i → (place past n ≡ Some i) ⊎ ((place past n ≡ None) × Starting n e.event × (i ≡ started past))
place_step e past n i is = elim (count_step started (λ e. start_in n e.seat e.event) e past i is) [
  | inl old ↦ inl old
  | inr new ↦ inr (new.0, starting n e.seat e.event new.1, sym new.2)
]

one_start : (n : Name) (ev : Event) → Starting n ev → starts_in ev ≡ 1
one_start n ev s = ap starts_in s.1

pub place_within : (past : Past) (n : Name) (i : ℕ) → place past n ≡ Some i → i < started past
place_within [] n i is = absurd cc
place_within (e ∷ past) n i is = elim (place_step e past n i is) [
  | inl old ↦ let h = place_within past n i old in omega arith
  | inr new ↦ let one = one_start n e.event new.1 in let here = new.2 in omega arith
]

same_name : (m n : Name) (k l : Kind) → event.Start m k ≡ event.Start n l → m ≡ n
same_name m n k l is = cc

pub place_once : (past : Past) (m n : Name) (i : ℕ) → place past m ≡ Some i → place past n ≡ Some i → m ≡ n
place_once [] m n i h g = absurd cc
place_once (e ∷ past) m n i h g = elim (place_step e past m i h) [
  | inl old ↦ elim (place_step e past n i g) [
    | inl also ↦ place_once past m n i old also
    | inr new ↦ let l = place_within past m i old in let is = new.2 in absurd (omega arith)
  ]
  | inr new ↦ elim (place_step e past n i g) [
    | inl old ↦ let l = place_within past n i old in let is = new.2 in absurd (omega arith)
    | inr also ↦ same_name m n new.1.0 also.1.0 (sym new.1.1 ∙ also.1.1)
  ]
]

-- CHILDREN

pub as_many_children : (past : Past) (p : Name) → length (child_places past p) ≡ length (children past p)
as_many_children [] p = refl
as_many_children (e ∷ past) p =
    length-append (child_places past p) (option_to_list (option_map (λ _. started past) (child_in p e.event)))
    ∙ both (child_in p e.event) (as_many_children past p)
    ∙ sym (length-append (children past p) (option_to_list (child_in p e.event)))
  where
    both : (o : Option Name) → length (child_places past p) ≡ length (children past p) → length (child_places past p) + length (option_to_list (option_map (λ _. started past) o)) ≡ length (children past p) + length (option_to_list o)
    both None same = ap (λ n. n + 0) same
    both (Some c) same = ap (λ n. n + 1) same

child_at_last : (xs : List ℕ) (y j : ℕ) → j ≡ length xs + 1 → child_at (xs ++ y ∷ []) j ≡ Some y
child_at_last xs y zero h = absurd (omega arith)
child_at_last xs y (suc j) h = get_last xs y j (omega arith)

child_at_other : (xs : List ℕ) (y j : ℕ) → (j ≡ length xs + 1 → ⊥) → child_at (xs ++ y ∷ []) j ≡ child_at xs j
child_at_other xs y zero h = refl
child_at_other xs y (suc j) h = get_other xs y j (λ is. h (omega arith))

one_more : (e : Entry) (past : Past) (p : Name) (j : ℕ) → Lawful past → KeepsOrder past e.event → 0 < length p → place past (p ++ j ∷ []) ≡ child_at (child_places past p) j → place (e ∷ past) (p ++ j ∷ []) ≡ child_at (child_places (e ∷ past) p) j
one_more e past p j law keeps pos before = step e.event refl
  where
    After : Event → Type 0
    After ev = option_or (place past (p ++ j ∷ [])) (option_map (λ _. started past) (start_in (p ++ j ∷ []) e.seat ev)) ≡ child_at (child_places past p ++ option_to_list (option_map (λ _. started past) (child_in p ev))) j

    unchanged : (ev : Event) → start_in (p ++ j ∷ []) e.seat ev ≡ None → child_in p ev ≡ None → After ev
    unchanged ev no_start no_child =
        or_nothing (place past (p ++ j ∷ [])) (λ _. started past) _ no_start
        ∙ before
        ∙ ap (λ xs. child_at xs j) (sym (append-nil (child_places past p)))
        ∙ ap (λ o. child_at (child_places past p ++ option_to_list (option_map (λ _. started past) o)) j) (sym no_child)

    not_same : (m : Name) (b : Bool) → same m (p ++ j ∷ []) ≡ b → (m ≡ p ++ j ∷ [] → ⊥) → b ≡ false
    not_same m true is other = absurd (other (same_is m (p ++ j ∷ []) is))
    not_same m false is other = refl

    if_no : {Y : Type 0} (b : Bool) (y : Y) → b ≡ false → (if b then Some y else None) ≡ None
    if_no true y h = absurd (true≢false h)
    if_no false y h = refl

    if_yes : {Y : Type 0} (b : Bool) (y : Y) → b ≡ true → (if b then Some y else None) ≡ Some y
    if_yes true y h = refl
    if_yes false y h = absurd (true≢false (sym h))

    starts_this : (k : Kind) → e.event ≡ event.Start (p ++ j ∷ []) k → After (event.Start (p ++ j ∷ []) k)
    starts_this k is =
        let next : j ≡ length (children past p) + 1 = (child_starts past e p j pos (k, is) keeps).next in
        let none : place past (p ++ j ∷ []) ≡ None = no_place past (p ++ j ∷ []) (not_some (start past (p ++ j ∷ [])) (λ h. let n = (law.number p j pos h).1 in omega arith)) in
        ap (λ o. option_or o (option_map (λ _. started past) (start_in (p ++ j ∷ []) e.seat (event.Start (p ++ j ∷ []) k)))) none
        ∙ ap (option_map (λ _. started past)) (if_yes (same (p ++ j ∷ []) (p ++ j ∷ [])) _ (same_itself (p ++ j ∷ [])))
        ∙ sym (child_at_last (child_places past p) (started past) j (omega (arith, as_many_children past p)))
        ∙ ap (λ o. child_at (child_places past p ++ option_to_list (option_map (λ _. started past) o)) j) (sym (if_yes (is_child p (p ++ j ∷ [])) (p ++ j ∷ []) (is_child-last p j)))

    starts_sibling : (k : Kind) (i : ℕ) → (i ≡ j → ⊥) → e.event ≡ event.Start (p ++ i ∷ []) k → After (event.Start (p ++ i ∷ []) k)
    starts_sibling k i other is =
        let next : i ≡ length (children past p) + 1 = (child_starts past e p i pos (k, is) keeps).next in
        or_nothing (place past (p ++ j ∷ [])) (λ _. started past) _ (if_no (same (p ++ i ∷ []) (p ++ j ∷ [])) _ (not_same (p ++ i ∷ []) _ refl (λ h. other (same_last p p i j h).1)))
        ∙ before
        ∙ sym (child_at_other (child_places past p) (started past) j (λ h. other (omega (arith, as_many_children past p))))
        ∙ ap (λ o. child_at (child_places past p ++ option_to_list (option_map (λ _. started past) o)) j) (sym (if_yes (is_child p (p ++ i ∷ [])) (p ++ i ∷ []) (is_child-last p i)))

    by_number : (m : Name) (k : Kind) (i : ℕ) → m ≡ p ++ i ∷ [] → e.event ≡ event.Start m k → (i ≡ j) ⊎ (i ≡ j → ⊥) → After (event.Start m k)
    by_number m k i last is (inl here) =
        let this : m ≡ p ++ j ∷ [] = last ∙ ap (λ x. p ++ x ∷ []) here in
        subst (λ x. After (event.Start x k)) (sym this) (starts_this k (is ∙ ap (λ x. event.Start x k) this))
    by_number m k i last is (inr other) = subst (λ x. After (event.Start x k)) (sym last) (starts_sibling k i other (is ∙ ap (λ x. event.Start x k) last))

    same_or_not : (i : ℕ) → (i ≡ j) ⊎ (i ≡ j → ⊥)
    same_or_not i = elim (cases_Bool (i == j)) [ inl equal ↦ inl (eqb-true i j equal) | inr un ↦ inr (λ h. true≢false (sym (eq-eqb i j h) ∙ un)) ]

    by_child : (m : Name) (k : Kind) (b : Bool) → is_child p m ≡ b → e.event ≡ event.Start m k → After (event.Start m k)
    by_child m k true child is = let last = child_last p m child in by_number m k last.0 last.1 is (same_or_not last.0)
    by_child m k false child is =
        unchanged (event.Start m k)
        (if_no (same m (p ++ j ∷ [])) _ (not_same m _ refl (λ h. true≢false (sym (is_child-last p j) ∙ ap (is_child p) (sym h) ∙ child))))
        (if_no (is_child p m) m child)

    step : (ev : Event) → e.event ≡ ev → After ev
    step (event.Start m k) is = by_child m k (is_child p m) refl is
    step ev is = unchanged ev refl refl

-- a child's place is the one listed under its number
pub child_place : (past : Past) (p : Name) (j : ℕ) → Orderly past → 0 < length p → place past (p ++ j ∷ []) ≡ child_at (child_places past p) j
child_place [] p zero orderly pos = refl
child_place [] p (suc j) orderly pos = refl
child_place (e ∷ past) p j orderly pos = one_more e past p j (lawful past orderly.0) orderly.1 pos (child_place past p j orderly.0 pos)
