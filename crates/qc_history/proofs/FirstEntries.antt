-- The first entries about names, one entry after another.
use Rattle.std.proofs.Common.{◌≡◌, ℕ, ◌+◌, ◌<◌, Bool, true, false, [], ◌∷◌, length, reverse, refl, sym, ap, ◌∙◌, subst, ◌⊎◌, inl, inr, List, arith}
use mathlib.Core.Bool.{true≢false}
use Rattle.std.specs.Prelude.{Option, None, Some, is_some, if◌then◌else◌, option_and_then, slice_get, slice_index, slice_set}
use Rattle.std.specs.Option.{option_or, option_map, option_map_or}
use Rattle.std.proofs.lemmas.List.{length-reverse}
use Rattle.std.proofs.lemmas.Option.{none-some, same_Some, slice_get_cases}
use Rattle.std.proofs.lemmas.Bool.{cases_Bool}
use Rattle.qc_event.specs.declared.event.Entry.{Entry}
use Rattle.qc_event.specs.Base.{Setting}
use Rattle.qc_event.specs.History.{Past, Name, same, start, earliest}
use Rattle.qc_event.specs.Legal.{Legal}
use Rattle.qc_event.proofs.Absent.{same_is, same_itself}
use Rattle.qc_event.proofs.OneEntry.{first_is, if_is, none_before, not_some, some_or_none, start_stays}
use Rattle.qc_history.specs.Places.{IsWhere, place, before_first}
use Rattle.qc_history.proofs.Looking.{unstarted}
use Rattle.qc_history.proofs.Placing.{count_stays, count_now, counted, uncounted, answered_there}
use Rattle.qc_history.specs.Slots.{code}
use Rattle.qc_history.specs.Firsts.{Subject, AreFirstsOf, ComesAfterStart, is_about, about_in, first_about, after_first}
use Rattle.qc_history.proofs.Beside.{code_none, code_some, beside_none, beside_stays, beside_set, beside_wider, place_stays}

same_name : (n m : Name) → (n ≡ m) ⊎ (n ≡ m → ⊥)
same_name n m = elim (cases_Bool (same n m)) [ inl is ↦ inl (same_is n m is) | inr un ↦ inr (λ is. true≢false (sym (ap (same n) (sym is) ∙ same_itself n) ∙ un)) ]

-- WHOM AN ENTRY IS ABOUT

module _ (subject : Subject) (n : Name) where
  -- where an entry is found, it is about the name
  pub about_found : (e x : Entry) → about_in subject n e ≡ Some x → (e ≡ x) × (subject x.event ≡ Some n)
  about_found e x is =
      let parts = if_is (is_about subject n e.event) e x is in
      (parts.1, subst (λ (y : Entry). subject y.event ≡ Some n) parts.1 (by_subject (subject e.event) parts.0))
    where
      by_subject : (o : Option Name) → option_map_or (λ m. same m n) o false ≡ true → o ≡ Some n
      by_subject None h = absurd (true≢false (sym h))
      by_subject (Some m) h = ap (λ k. Some k) (same_is m n h)

  pub about_now : (e : Entry) → subject e.event ≡ Some n → about_in subject n e ≡ Some e
  about_now e is = ap (λ o. if option_map_or (λ m. same m n) o false then Some e else None) is ∙ ap (λ (b : Bool). if b then Some e else None) (same_itself n)

  pub about_other : (e : Entry) → (subject e.event ≡ Some n → ⊥) → about_in subject n e ≡ None
  about_other e other = by_found (about_in subject n e) refl
    where
      by_found : (o : Option Entry) → about_in subject n e ≡ o → o ≡ None
      by_found None is = refl
      by_found (Some x) is = let found = about_found e x is in absurd (other (ap (λ (y : Entry). subject y.event) found.0 ∙ found.1))

  -- so is the first that is found
  pub first_found : (past : Past) (x : Entry) → first_about subject past n ≡ Some x → subject x.event ≡ Some n
  first_found [] x is = absurd cc
  first_found (e ∷ past) x is = elim (first_is (first_about subject past n) (about_in subject n e) x is) [
    | inl old ↦ first_found past x old
    | inr new ↦ (about_found e x new.1).1
  ]

  -- what the first entry tells is the first that is told
  pub first_tells : {Y : Type 0} (f g : Entry → Option Y) → ((e : Entry) → f e ≡ option_and_then g (about_in subject n e)) → ((e : Entry) → subject e.event ≡ Some n → is_some (g e) ≡ true)
      → (past : Past) → option_and_then g (first_about subject past n) ≡ earliest f past
  first_tells f g by_name tells [] = refl
  first_tells {Y} f g by_name tells (e ∷ past) =
      step (first_about subject past n) refl (about_in subject n e)
      ∙ ap (λ o. option_or o (option_and_then g (about_in subject n e))) (first_tells f g by_name tells past)
      ∙ ap (option_or (earliest f past)) (sym (by_name e))
    where
      kept : (old new : Option Y) → is_some old ≡ true → old ≡ option_or old new
      kept None new h = absurd (true≢false (sym h))
      kept (Some y) new h = refl

      step : (old : Option Entry) → first_about subject past n ≡ old → (new : Option Entry) → option_and_then g (option_or old new) ≡ option_or (option_and_then g old) (option_and_then g new)
      step None is new = refl
      step (Some x) is new = kept (g x) (option_and_then g new) (tells x (first_found past x is))

-- ONE ENTRY AFTER ANOTHER

pub firsts_none : (subject : Subject) → AreFirstsOf subject [] []
firsts_none subject = record { beside = beside_none (after_first subject); only_started = λ n none. refl }

pub firsts_wider : (subject : Subject) (past : Past) (xs ys : List ℕ) → ((i : ℕ) → slice_index ys i ≡ slice_index xs i) → AreFirstsOf subject past xs → AreFirstsOf subject past ys
firsts_wider subject past xs ys same was = record { beside = beside_wider (after_first subject) past xs ys same was.beside; only_started = was.only_started }

-- the number of a name that the entry is not about
number_stays : (subject : Subject) (e : Entry) (past : Past) (n : Name) → (subject e.event ≡ Some n → ⊥) → after_first subject past n ≡ after_first subject (e ∷ past) n
number_stays subject e past n other = ap code (count_stays length (about_in subject n) e past (about_other subject n e other))

module _ (subject : Subject) (comes : ComesAfterStart subject) (setting : Setting) (e : Entry) (past : Past) (xs : List ℕ) (was : AreFirstsOf subject past xs) (legal : Legal setting (e ∷ past)) where
  -- what has no place yet has no entry about it
  still_started : (n : Name) → place (e ∷ past) n ≡ None → first_about subject (e ∷ past) n ≡ None
  still_started n none =
      let before : place past n ≡ None = (none_before (place past n) _ none).0 in
      ap (λ o. option_or o (about_in subject n e)) (was.only_started n before)
      ∙ about_other subject n e (λ is. some_or_none (start past n) (comes.started setting past e n legal is) (unstarted past n before))

  -- the entry is about no one
  pub about_no_one : subject e.event ≡ None → AreFirstsOf subject (e ∷ past) xs
  about_no_one none = record {
    beside =
        beside_stays (after_first subject) e past xs was.beside
        (λ n began. number_stays subject e past n (λ is. none-some n (sym none ∙ is)))
        (λ n unplaced starting. sym (number_stays subject e past n (λ is. none-some n (sym none ∙ is))) ∙ ap code (uncounted length (about_in subject n) past (was.only_started n unplaced)));
    only_started = still_started;
  }

  module _ (m : Name) (is : subject e.event ≡ Some m) where
    others : (n : Name) → (n ≡ m → ⊥) → after_first subject past n ≡ after_first subject (e ∷ past) n
    others n other = number_stays subject e past n (λ this. other (same_Some n m (sym this ∙ is)))

    pub placed_before : (at : ℕ) → place (e ∷ past) m ≡ Some at → place past m ≡ Some at
    placed_before at here = place_stays e past m at (comes.calm e.event m is) here

    -- whom it is about has a place
    pub has_place : place (e ∷ past) m ≡ None → ⊥
    has_place none = some_or_none (start (e ∷ past) m) (start_stays e past m (comes.started setting past e m legal is)) (unstarted (e ∷ past) m none)

    -- it is the first about the name
    pub about_first : (at : ℕ) → place past m ≡ Some at → at < length xs → slice_index xs at ≡ 0 → AreFirstsOf subject (e ∷ past) (slice_set xs at (length past + 1))
    about_first at here inside zero =
        let none : before_first length (about_in subject m) past ≡ None = code_none _ (sym (was.beside.at_place m at here) ∙ zero) in
        let unanswered : first_about subject past m ≡ None = not_some (first_about subject past m) (λ h. some_or_none (before_first length (about_in subject m) past) (counted length (about_in subject m) past ∙ h) none) in
        record {
          beside =
              beside_set (after_first subject) e past xs m at (length past + 1) was.beside inside (comes.calm e.event m is) here
              (ap code (count_now length (about_in subject m) e past e unanswered (about_now subject m e is))) others;
          only_started = still_started;
        }

    -- it is not
    pub about_again : (at : ℕ) → place past m ≡ Some at → (slice_index xs at ≡ 0 → ⊥) → AreFirstsOf subject (e ∷ past) xs
    about_again at here some = record {
      beside =
          beside_stays (after_first subject) e past xs was.beside
          (λ n began. elim (same_name n m) [
            | inl this ↦ ap (after_first subject past) this ∙ ap code (kept (before_first length (about_in subject m) past) (λ none. some (was.beside.at_place m at here ∙ ap code none))) ∙ ap (after_first subject (e ∷ past)) (sym this)
            | inr other ↦ others n other
          ])
          (λ n unplaced starting. sym (number_stays subject e past n (λ this. some_or_none (start past n) (comes.started setting past e n legal this) (unstarted past n unplaced))) ∙ ap code (uncounted length (about_in subject n) past (was.only_started n unplaced)));
      only_started = still_started;
    }
      where
        kept : (o : Option ℕ) → (o ≡ None → ⊥) → o ≡ option_or o (option_map (λ _. length past) (about_in subject m e))
        kept None h = absurd (h refl)
        kept (Some i) h = refl

-- LOOKING

module _ (subject : Subject) (past : Past) (xs : List ℕ) (n : Name) (was : AreFirstsOf subject past xs) where
  pub nothing_there : (at : ℕ) → place past n ≡ Some at → slice_index xs at ≡ 0 → first_about subject past n ≡ None
  nothing_there at here zero =
      not_some (first_about subject past n) (λ h. some_or_none (before_first length (about_in subject n) past) (counted length (about_in subject n) past ∙ h)
      (code_none _ (sym (was.beside.at_place n at here) ∙ zero)))

  -- the entry at the place that stands there
  pub record IsFirst (i : ℕ) : Type 0 where
    pub within : i < length past
    pub there : (e : Entry) → slice_get (reverse past) i ≡ Some e → Some e ≡ first_about subject past n

  pub its_entry : (at i : ℕ) → place past n ≡ Some at → slice_index xs at ≡ i + 1 → IsFirst i
  its_entry at i here is =
      let found : IsWhere (about_in subject n) past (Some i) = subst (IsWhere (about_in subject n) past) (code_some _ i (sym (was.beside.at_place n at here) ∙ is)) (answered_there (about_in subject n) past) in
      record { within = found.within i refl; there = λ e at. itself e (about_in subject n e) refl (ap is_some (found.there i e refl at) ∙ sym found.same) ∙ found.there i e refl at }
    where
      itself : (e : Entry) (o : Option Entry) → about_in subject n e ≡ o → is_some o ≡ true → Some e ≡ about_in subject n e
      itself e None is h = absurd (true≢false (sym h))
      itself e (Some x) is h = ap (λ y. Some y) (about_found subject n e x is).0 ∙ sym is

  -- and what stands at the place is that entry
  pub is_there : (i : ℕ) → IsFirst i → slice_get (reverse past) i ≡ first_about subject past n
  is_there i first = elim (slice_get_cases (reverse past) i).1 [
    | inl item ↦ item.2 ∙ first.there item.0 item.2
    | inr over ↦ absurd (omega (arith, over.0, first.within, length-reverse past))
  ]
