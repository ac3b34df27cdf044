use Rattle.std.proofs.Common.{◌≡◌, ℕ, zero, suc, ◌+◌, List, [], ◌∷◌, ◌++◌, take, refl, sym, ap, ◌∙◌, arith}
use Rattle.std.specs.Prelude.{option_to_list, slice_get}
use Rattle.qc_trail.proofs.trail.Trail.to_vec.Goals as goal

-- one item further
one_more : {A : Type 0} → (xs : List A) (i n : ℕ) → n ≡ i + 1 → take n xs ≡ take i xs ++ option_to_list (slice_get xs i)
one_more xs i zero is = absurd (omega (arith, is))
one_more [] zero (suc n) is = refl
one_more [] (suc i) (suc n) is = refl
one_more (x ∷ xs) zero (suc zero) is = refl
one_more (x ∷ xs) zero (suc (suc n)) is = absurd (omega (arith, is))
one_more (x ∷ xs) (suc i) (suc n) is = ap (λ (l : List _). x ∷ l) (one_more xs i n (omega (arith, is)))

pub loop-at-preserved : goal.loop-at-preserved
loop-at-preserved c =
    c.in_ok-append_some.ensures
    ∙ ap (λ (l : List _). l ++ option_to_list c.get.result) c.loop-at.invariant
    ∙ ap (λ (o : _). take c.loop-at.at c.args.self.now ++ option_to_list o) c.get.ensures
    ∙ sym (one_more c.args.self.now c.loop-at.at (c.loop-at.at + 1) refl)
