-- A manager below a transaction that was aborted, as an entry tells it.
use Rattle.std.specs.Prelude.{◌≡◌, IsTrue, Some}
use Rattle.qc_event.specs.declared.event.Cause.{Cause}
use Rattle.qc_event.specs.declared.event.Event.{Event}
use Rattle.qc_event.specs.declared.event.Event.TheVariants as event
use Rattle.qc_event.specs.declared.event.How.TheVariants.{Abort}
use Rattle.qc_event.specs.History.{Past, Name, end, is_child}
use Rattle.qc_event.specs.Standing.{IsManager, Started}

-- the child is a manager below the transaction, and was aborted with this cause
pub record IsAborted (past : Past) (n : Name) (c : Cause) (child : Name) : Type 0 where
  pub is_one : IsTrue (is_child n child)
  pub manages : Started past child (λ b. IsManager b.kind)
  pub ended : end past child ≡ Some (Abort c)

-- the event ends such a child
abbrev pub AbortsChild : Past → Name → Cause → Event → Type 0
AbortsChild past n c (event.End child how) = IsAborted past n c child
AbortsChild past n c _ = ⊥
