-- What is collected is for a manager that reads.
use Rattle.qc_event.specs.declared.event.Kind.TheVariants as kind
use Rattle.qc_managers.proofs.manager.read.Given as goal

abbrev pub ghost-collect : goal.ghost-collect
ghost-collect g a = kind.Read a.rec
