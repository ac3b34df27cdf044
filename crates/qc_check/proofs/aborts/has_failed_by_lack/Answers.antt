use Rattle.qc_event.specs.Aborts.{FailedByLack}
use Rattle.qc_event.specs.Manager as manager
use Rattle.qc_check.proofs.Decides.{decides_found, decides_none}
use Rattle.qc_check.proofs.aborts.has_failed_by_lack.Goals as goal

pub returns-in-Some : goal.returns-in-Some
returns-in-Some g c =
    let past = g.H.Looks.past c.args.h.now in
    decides_found (FailedByLack past c.args.m.now c.args.lack.now) (manager.stage past (manager.first_for c.args.setting.now c.args.kind.now) c.args.m.now c.args.kind.now) c.in-Some.stage c.failed_by_lack.result c.in-Some.ensures c.failed_by_lack.ensures

pub returns-in-None : goal.returns-in-None
returns-in-None g c =
    let past = g.H.Looks.past c.args.h.now in
    decides_none (FailedByLack past c.args.m.now c.args.lack.now) (manager.stage past (manager.first_for c.args.setting.now c.args.kind.now) c.args.m.now c.args.kind.now) c.in-None.ensures
