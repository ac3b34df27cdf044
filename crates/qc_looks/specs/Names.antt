-- Managers that were aborted.
use Rattle.std.specs.Prelude.{◌≡◌, Some}
use Rattle.qc_event.specs.declared.event.Cause.{Cause}
use Rattle.qc_event.specs.declared.event.How.TheVariants.{Abort}
use Rattle.qc_event.specs.History.{Past, Name, end}
use Rattle.qc_event.specs.Standing.{Started, IsManager}

-- A started manager was aborted with this cause.
pub record IsAbortedManager (past : Past) (c : Name) (cause : Cause) : Type 0 where
  pub manages : Started past c (λ b. IsManager b.kind)
  pub ended : end past c ≡ Some (Abort cause)
