-- Tests of the numbers of a range.
use Rattle.std.proofs.Common.{◌≡◌, ℕ, zero, suc, ◌+◌, ◌<◌, Bool, true, false, ap, ◌∙◌, arith, subst}
use Rattle.std.proofs.Math.Bool.{and-false}
use Rattle.std.specs.Prelude.{Some, find, cond, ◌&&◌}
use Rattle.std.specs.List.{list_all, range_with_len}

module _ (test : ℕ → Bool) where
  from_zero : (a : ℕ) (b : Bool) → test (a + 0) ≡ b → test a ≡ b
  from_zero a b is = subst (λ k. test k ≡ b) (omega arith) is

  from_next : (a j : ℕ) (b : Bool) → test (a + suc j) ≡ b → test ((a + 1) + j) ≡ b
  from_next a j b is = subst (λ k. test k ≡ b) (omega arith) is

  pub not_all_in_range : (a n k : ℕ) → k < n → test (a + k) ≡ false → list_all test (range_with_len a n) ≡ false
  not_all_in_range a zero k lt here = absurd (omega arith)
  not_all_in_range a (suc n) zero lt here = ap (λ b. b && list_all test (range_with_len (a + 1) n)) (from_zero a false here)
  not_all_in_range a (suc n) (suc k) lt here =
      ap (λ b. test a && b) (not_all_in_range (a + 1) n k (omega arith) (from_next a k false here)) ∙ and-false (test a)

  pub first_in_range : (a n k : ℕ) → k < n → ((j : ℕ) → j < k → test (a + j) ≡ false) → test (a + k) ≡ true → find test (range_with_len a n) ≡ Some (a + k)
  first_in_range a zero k lt before here = absurd (omega arith)
  first_in_range a (suc n) zero lt before here =
      let own : a ≡ a + 0 = omega arith in
      ap (λ b. cond b (Some a) (find test (range_with_len (a + 1) n))) (from_zero a true here) ∙ ap Some own
  first_in_range a (suc n) (suc k) lt before here =
      let next : (a + 1) + k ≡ a + suc k = omega arith in
      ap (λ b. cond b (Some a) (find test (range_with_len (a + 1) n))) (from_zero a false (before 0 (omega arith)))
      ∙ first_in_range (a + 1) n k (omega arith) (λ j h. from_next a j false (before (suc j) (omega arith))) (from_next a k true here)
      ∙ ap Some next
