-- What is collected and put is for the kind with which the manager was started.
use Rattle.qc_managers.proofs.Answered.{kind_at}
use Rattle.qc_managers.proofs.reconfiguration.reconfigure.Given as goal

abbrev pub ghost-collect : goal.ghost-collect
ghost-collect g a = kind_at (g.C.Carrier.view a.carrier.now).seen a.manager.now

abbrev pub ghost-put : goal.ghost-put
ghost-put g a = kind_at (g.C.Carrier.view a.carrier.now).seen a.manager.now
