use Rattle.qc_event.specs.Manager as manager
use Rattle.qc_event.specs.Requests.{IsNextAsk}
use Rattle.qc_check.proofs.Decides.{decides_found, decides_none}
use Rattle.qc_check.proofs.requests.is_next_ask.Goals as goal

pub returns-in-Some : goal.returns-in-Some
returns-in-Some g c =
    let past = g.H.Looks.past c.args.h.now in
    decides_found (IsNextAsk past c.args.m.now c.args.kind.now c.args.ask.now) (manager.stage past (manager.first_for c.args.setting.now c.args.kind.now) c.args.m.now c.args.kind.now) c.in-Some.stage c.is_ask_at.result c.in-Some.ensures c.is_ask_at.ensures

pub returns-in-None : goal.returns-in-None
returns-in-None g c =
    let past = g.H.Looks.past c.args.h.now in
    decides_none (IsNextAsk past c.args.m.now c.args.kind.now c.args.ask.now) (manager.stage past (manager.first_for c.args.setting.now c.args.kind.now) c.args.m.now c.args.kind.now) c.in-None.ensures
