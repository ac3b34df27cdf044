use Rattle.std.proofs.Common.{ℕ, ◌+◌, ◌<◌, ◌++◌, ◌∷◌, []}
use Rattle.qc_looks.specs.Names.{IsAbortedManager}
use Rattle.qc_looks.proofs.names.is_child_aborted.Given as goal

-- none of the children so far is
abbrev pub invariant-loop-k : goal.invariant-loop-k
invariant-loop-k l = (j : ℕ) → j < l.k → IsAbortedManager l.history (l.n ++ (j + 1) ∷ []) l.cause → ⊥
