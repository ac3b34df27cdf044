-- What the bodies of a row weigh and fit, one by one.
use Rattle.std.proofs.Common.{ℕ, zero, suc, ◌+◌, ◌<◌, ◌≤◌, List, [], ◌∷◌, map, length, slice_index_or, arith}
use Rattle.std.specs.List.{AllByRecursion}
use Rattle.qc_event.specs.Base.{Setting}
use Rattle.qc_script.specs.Plan.{Numbered, IsTried, PlanFits, row_of}
use Rattle.qc_interp.proofs.Stepping.Plans.{weight}

pub row_heavier : {A : Type 0} (f : A → Numbered) (xs : List A) (i : ℕ) (d : A) → i < length xs → weight (f (slice_index_or xs i d)).plan + 5 ≤ weight (row_of (map f xs))
row_heavier f [] i d lt = absurd (omega (arith, lt))
row_heavier f (x ∷ xs) zero d lt = omega arith
row_heavier f (x ∷ xs) (suc i) d lt = let rest = row_heavier f xs i d (omega (arith, lt)) in omega (arith, rest)

-- a body that a transaction of this depth may run
abbrev pub BodyFits : Setting → ℕ → Numbered → Type 0
BodyFits setting depth b = (depth < 16) × IsTried b.tries × PlanFits setting (depth + 1) b.plan

pub row_fits : (setting : Setting) (depth : ℕ) (bodies : List Numbered) → PlanFits setting depth (row_of bodies) → AllByRecursion (BodyFits setting depth) bodies
row_fits setting depth [] h = tt
row_fits setting depth (b ∷ bodies) h = ((h.0, h.1, h.2), row_fits setting depth bodies h.3)
