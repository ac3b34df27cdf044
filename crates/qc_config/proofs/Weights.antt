-- How many votes a set of copies has.
use Rattle.std.proofs.Common.{◌≡◌, ℕ, zero, suc, ◌+◌, ◌<◌, ◌≤◌, Bool, true, false, List, [], ◌∷◌, length, take, get_or, refl, arith, sum}
use Rattle.std.specs.Prelude.{if◌then◌else◌, ◌&&◌}
use mathlib.Core.Bool.{true≢false}
use Rattle.std.proofs.lemmas.List.Sums.{sum_by-cons}
use Rattle.qc_config.specs.Copies as copies
use Rattle.qc_config.specs.Config.{weight}

pub nothing_held : (votes : List ℕ) → weight votes [] ≡ 0
nothing_held [] = refl
nothing_held (v ∷ votes) = refl

-- the weight of one more copy
pub weight_more : (votes : List ℕ) (held : List Bool) (c : ℕ) → c < length votes → weight (take (suc c) votes) held ≡ weight (take c votes) held + (if copies.has held c then get_or votes c 0 else 0)
weight_more [] held c h = absurd (omega arith)
weight_more (v ∷ votes) [] zero h = refl
weight_more (v ∷ votes) [] (suc c) h = refl
weight_more (v ∷ votes) (b ∷ held) zero h = omega (arith)
weight_more (v ∷ votes) (b ∷ held) (suc c) h = omega (arith, weight_more votes held c (omega arith))

pub sum-cons : (v : ℕ) (votes : List ℕ) → sum (v ∷ votes) ≡ v + sum votes
sum-cons v votes = sum_by-cons (λ x. x) v votes

-- a set has no more than all votes
pub weight_most : (votes : List ℕ) (held : List Bool) → weight votes held ≤ sum votes
weight_most [] held = omega arith
weight_most (v ∷ votes) [] = omega arith
weight_most (v ∷ votes) (true ∷ held) = omega (arith, sum-cons v votes, weight_most votes held)
weight_most (v ∷ votes) (false ∷ held) = omega (arith, sum-cons v votes, weight_most votes held)

-- two sets with no copy in common have no more than all votes together
pub weight_apart : (votes : List ℕ) (r w : List Bool) → ((k : ℕ) → k < length votes → (copies.has r k && copies.has w k) ≡ false) → weight votes r + weight votes w ≤ sum votes
weight_apart [] r w apart = omega arith
weight_apart (v ∷ votes) [] w apart = omega (arith, weight_most (v ∷ votes) w)
weight_apart (v ∷ votes) (a ∷ r) [] apart = omega (arith, weight_most (v ∷ votes) (a ∷ r))
weight_apart (v ∷ votes) (true ∷ r) (true ∷ w) apart = absurd (true≢false (apart 0 (omega arith)))
weight_apart (v ∷ votes) (true ∷ r) (false ∷ w) apart = omega (arith, sum-cons v votes, weight_apart votes r w (λ k h. apart (suc k) (omega arith)))
weight_apart (v ∷ votes) (false ∷ r) (true ∷ w) apart = omega (arith, sum-cons v votes, weight_apart votes r w (λ k h. apart (suc k) (omega arith)))
weight_apart (v ∷ votes) (false ∷ r) (false ∷ w) apart = omega (arith, sum-cons v votes, weight_apart votes r w (λ k h. apart (suc k) (omega arith)))

pub ruleset weights = (weight_more)
