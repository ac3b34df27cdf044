-- What stands at a place of a list.
use Rattle.std.proofs.Common.{◌≡◌, inl, inr, ℕ, zero, suc, Bool, true, false, List, [], ◌∷◌, refl, sym, ap, ◌∙◌, subst, filter}
use mathlib.Core.Bool.{true≢false}
use Rattle.std.specs.Prelude.{Option, None, Some, slice_get, option_to_list, ◌||◌, if◌then◌else◌}
use Rattle.std.specs.List.{AllByRecursion, list_all, list_any}
use Rattle.std.proofs.lemmas.Bool.{and_parts, and_from, or_cases}
use Rattle.std.proofs.lemmas.List.Folds.{list_any-append, list_all-append}
use Rattle.std.proofs.Math.Bool.{or-false}
use Rattle.qc_event.specs.declared.event.Entry.{Entry}
use Rattle.qc_event.specs.History.{Past, earliest, every}
use Rattle.qc_event.proofs.OneEntry.{first_is}

pub some_same : {X : Type 0} (x y : X) → Some x ≡ Some y → x ≡ y
some_same x y is = cc

pub at_place : {X : Type 0} (P : X → Type 0) (xs : List X) (i : ℕ) (x : X) → AllByRecursion P xs → slice_get xs i ≡ Some x → P x
at_place P [] i x all is = absurd cc
at_place P (y ∷ xs) zero x all is = subst P (some_same y x is) all.0
at_place P (y ∷ xs) (suc i) x all is = at_place P xs i x all.1 is

pub each_place : {X : Type 0} (P : X → Type 0) (xs : List X) → ((i : ℕ) (x : X) → slice_get xs i ≡ Some x → P x) → AllByRecursion P xs
each_place P [] at = tt
each_place P (x ∷ xs) at = (at zero x refl, each_place P xs (λ i y is. at (suc i) y is))

pub all_from : {X : Type 0} (f : X → Bool) (xs : List X) → ((i : ℕ) (x : X) → slice_get xs i ≡ Some x → f x ≡ true) → list_all f xs ≡ true
all_from f [] at = refl
all_from f (x ∷ xs) at = and_from (f x) (list_all f xs) (at zero x refl) (all_from f xs (λ i y is. at (suc i) y is))

-- what passes a test among some
pub record Found {X : Type 0} (f : X → Bool) (xs : List X) : Type 0 where
  pub place : ℕ
  pub one : X
  pub is : slice_get xs place ≡ Some one
  pub passes : f one ≡ true

pub any_place : {X : Type 0} (f : X → Bool) (xs : List X) → list_any f xs ≡ true → Found f xs
any_place f [] h = absurd (true≢false (sym h))
any_place f (x ∷ xs) h = by_test (f x) refl h (any_place f xs)
  where
    by_test : (b : Bool) → f x ≡ b → (b || list_any f xs) ≡ true → (list_any f xs ≡ true → Found f xs) → Found f (x ∷ xs)
    by_test true is h rest = record { place = zero; one = x; is = refl; passes = is }
    by_test false is h rest = let r = rest h in record { place = suc r.place; one = r.one; is = r.is; passes = r.passes }

-- what holds of all that is kept holds of each that is
pub kept_place : {X : Type 0} (P : X → Type 0) (keep : X → Bool) (xs : List X) (i : ℕ) (x : X) → AllByRecursion P (filter keep xs) → slice_get xs i ≡ Some x → keep x ≡ true → P x
kept_place P keep [] i x all is keeps = absurd cc
kept_place P keep (y ∷ xs) zero x all is keeps =
    let same = some_same y x is in
    let kept : keep y ≡ true = ap keep same ∙ keeps in
    subst P same (subst (λ b. AllByRecursion P (if b then y ∷ filter keep xs else filter keep xs)) kept all).0
kept_place P keep (y ∷ xs) (suc i) x all is keeps = kept_place P keep xs i x (by_test (keep y) all) is keeps
  where
    by_test : (b : Bool) → AllByRecursion P (if b then y ∷ filter keep xs else filter keep xs) → AllByRecursion P (filter keep xs)
    by_test true h = h.1
    by_test false h = h

pub kept_at : {X : Type 0} (f keep : X → Bool) (xs : List X) (i : ℕ) (x : X) → list_all f (filter keep xs) ≡ true → slice_get xs i ≡ Some x → keep x ≡ true → f x ≡ true
kept_at {X = X} f keep xs i x all is keeps = kept_place (λ y. f y ≡ true) keep xs i x (by_list (filter keep xs) all) is keeps
  where
    by_list : (ys : List X) → list_all f ys ≡ true → AllByRecursion (λ y. f y ≡ true) ys
    by_list [] h = tt
    by_list (y ∷ ys) h = let both = and_parts (f y) (list_all f ys) h in (both.0, by_list ys both.1)

-- an entry that is kept, and whose answer passes a test
pub record Answered {Y : Type 0} (keep : Entry → Bool) (f : Entry → Option Y) (passes : Y → Bool) (past : Past) : Type 0 where
  pub place : ℕ
  pub entry : Entry
  pub is : slice_get past place ≡ Some entry
  pub kept : keep entry ≡ true
  pub answer : Y
  pub tells : f entry ≡ Some answer
  pub passing : passes answer ≡ true

pub any_answered : {Y : Type 0} (keep : Entry → Bool) (f : Entry → Option Y) (passes : Y → Bool) (past : Past) → list_any passes (every f (filter keep past)) ≡ true → Answered keep f passes past
any_answered keep f passes [] h = absurd (true≢false (sym h))
any_answered {Y = Y} keep f passes (e ∷ past) h = by_keep (keep e) refl h (any_answered keep f passes past)
  where
    later : Answered keep f passes past → Answered keep f passes (e ∷ past)
    later a = record { place = suc a.place; entry = a.entry; is = a.is; kept = a.kept; answer = a.answer; tells = a.tells; passing = a.passing }

    by_answer : (o : Option Y) → f e ≡ o → keep e ≡ true → list_any passes (option_to_list o) ≡ true → Answered keep f passes (e ∷ past)
    by_answer None is kept h = absurd (true≢false (sym h))
    by_answer (Some y) is kept h = record { place = zero; entry = e; is = refl; kept = kept; answer = y; tells = is; passing = sym (or-false (passes y)) ∙ h }

    by_keep : (b : Bool) → keep e ≡ b → list_any passes (every f (if b then e ∷ filter keep past else filter keep past)) ≡ true → (list_any passes (every f (filter keep past)) ≡ true → Answered keep f passes past) → Answered keep f passes (e ∷ past)
    by_keep false kept h rest = later (rest h)
    by_keep true kept h rest =
        elim (or_cases _ _ (sym (list_any-append passes (every f (filter keep past)) (option_to_list (f e))) ∙ h)) [
          | inl old ↦ later (rest old)
          | inr new ↦ by_answer (f e) refl kept new
        ]

-- whose answer is the first
pub record ToldInPast {Y : Type 0} (f : Entry → Option Y) (y : Y) (past : Past) : Type 0 where
  pub place : ℕ
  pub entry : Entry
  pub is : slice_get past place ≡ Some entry
  pub tells : f entry ≡ Some y

pub earliest_place : {Y : Type 0} (f : Entry → Option Y) (y : Y) (past : Past) → earliest f past ≡ Some y → ToldInPast f y past
earliest_place f y [] h = absurd cc
earliest_place f y (e ∷ past) h = elim (first_is (earliest f past) (f e) y h) [
  | inl old ↦ let t = earliest_place f y past old in record { place = suc t.place; entry = t.entry; is = t.is; tells = t.tells }
  | inr new ↦ record { place = zero; entry = e; is = refl; tells = new.1 }
]

-- what passes of each answer passes of all
pub every_passes : {Y : Type 0} (passes : Y → Bool) (f : Entry → Option Y) (past : Past) → ((i : ℕ) (e : Entry) (y : Y) → slice_get past i ≡ Some e → f e ≡ Some y → passes y ≡ true) → list_all passes (every f past) ≡ true
every_passes passes f [] at = refl
every_passes {Y = Y} passes f (e ∷ past) at =
    list_all-append passes (every f past) (option_to_list (f e)) ∙ and_from _ _ (every_passes passes f past (λ i x y is tells. at (suc i) x y is tells)) (by_answer (f e) refl)
  where
    by_answer : (o : Option Y) → f e ≡ o → list_all passes (option_to_list o) ≡ true
    by_answer None tells = refl
    by_answer (Some y) tells = and_from (passes y) true (at zero e y refl tells) refl
