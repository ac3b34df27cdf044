-- Below a top a start is that of a next child.
use Rattle.std.proofs.Common.{ℕ, ◌<◌, [], ◌∷◌, length, arith}
use Rattle.qc_event.specs.Base.{Setting}
use Rattle.qc_event.specs.declared.event.Kind.{Kind}
use Rattle.qc_event.specs.History.{Past, Name}
use Rattle.qc_event.specs.Starts.{Stands, Starts}
use Rattle.qc_event.specs.Users.{MayStartNext}

pub starts_below : (setting : Setting) (past : Past) (seat : ℕ) (n : Name) (k : Kind) → 1 < length n → MayStartNext (λ p. Stands setting seat p (length n) k) past seat n → Starts setting past seat n k
starts_below setting past seat [] k long may = absurd (omega arith)
starts_below setting past seat (x ∷ []) k long may = absurd (omega arith)
starts_below setting past seat (x ∷ y ∷ r) k long may = may

pub next_below : (setting : Setting) (past : Past) (seat : ℕ) (n : Name) (k : Kind) → 1 < length n → Starts setting past seat n k → MayStartNext (λ p. Stands setting seat p (length n) k) past seat n
next_below setting past seat [] k long may = absurd may
next_below setting past seat (x ∷ []) k long may = absurd (omega arith)
next_below setting past seat (x ∷ y ∷ r) k long may = may
