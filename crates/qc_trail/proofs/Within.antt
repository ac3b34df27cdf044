-- Something stands at a place within a list.
use Rattle.std.proofs.Common.{◌≡◌, ℕ, zero, suc, ◌<◌, List, [], ◌∷◌, length, arith}
use Rattle.std.specs.Prelude.{None, slice_get}

pub something_within : {X : Type 0} → (xs : List X) (i : ℕ) → i < length xs → slice_get xs i ≡ None → ⊥
something_within [] i less none = absurd (omega (arith, less))
something_within (x ∷ xs) zero less none = absurd cc
something_within (x ∷ xs) (suc i) less none = something_within xs i (omega (arith, less)) none
