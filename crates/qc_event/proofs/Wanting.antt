-- What was wanting at a step.
use Rattle.qc_event.specs.declared.short.Short.{Short}
use Rattle.qc_event.specs.declared.short.Short.TheVariants as short
use Rattle.qc_event.specs.History.{Past}
use Rattle.qc_event.specs.Wants.{IsExactWant, IsWant}

pub want_of : (past : Past) (s : Short) → IsExactWant past s → IsWant past s
want_of past short.Memory exact = tt
want_of past short.Room exact = exact
