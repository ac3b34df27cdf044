-- Rows that are made of ranges, one more at a time; and the numbers of the bodies in them.
use Rattle.std.proofs.Common.{◌≡◌, ℕ, zero, suc, ◌+◌, ◌*◌, ◌/◌, ◌%◌, Bool, true, false, List, [], ◌∷◌, ◌++◌, map, refl, sym, ap, ◌∙◌, arith}
use Rattle.std.specs.Prelude.{◌==◌, if◌then◌else◌}
use Rattle.std.specs.List.{range_with_len}
use Rattle.std.proofs.lemmas.Bool.{eqb-true, eqb-false}
use Rattle.std.proofs.lemmas.List.{map-append}
use Rattle.std.proofs.lemmas.List.FromFn.{map-range_with_len_more}
use Rattle.qc_script.specs.MadePlan.{number_at, bodies_at}

-- what is made of one number more
pub one_more : {B : Type 0} (f : ℕ → B) (first n place : ℕ) (made : List B) (x : B) → first + n ≡ place → made ≡ map f (range_with_len first n) → x ≡ f place → made ++ x ∷ [] ≡ map f (range_with_len first (n + 1))
one_more f first n place made x at before is =
    ap (λ ys. ys ++ x ∷ []) before ∙ ap (λ y. map f (range_with_len first n) ++ y ∷ []) is ∙ sym (map-range_with_len_more f first n place at)

-- the same of what is seen so
pub one_more_seen : {A B : Type 0} (view : A → B) (f : ℕ → B) (first n place : ℕ) (made : List A) (x : A) → first + n ≡ place → map view made ≡ map f (range_with_len first n) → view x ≡ f place → map view (made ++ x ∷ []) ≡ map f (range_with_len first (n + 1))
one_more_seen view f first n place made x at before is = map-append view made (x ∷ []) ∙ one_more f first n place (map view made) (view x) at before is

-- by whether this top runs children at once
one_top : (i : ℕ) (b : Bool) → (i % 10 == 4) ≡ b → 2 * i + (i + 5) / 10 + (if b then 3 else 2) ≡ 2 * (i + 1) + (i + 1 + 5) / 10
one_top i true is = let four : i % 10 ≡ 4 = eqb-true (i % 10) 4 is in omega arith
one_top i false is = let other = eqb-false (i % 10) 4 is in omega arith

-- the number of a top's body, from its place alone
pub number_from : (i : ℕ) → number_at i ≡ 2 * i + (i + 5) / 10
number_from zero = refl
number_from (suc i) = ap (λ n. n + bodies_at i) (number_from i) ∙ one_top i (i % 10 == 4) refl ∙ ap (λ k. 2 * k + (k + 5) / 10) (omega arith)
