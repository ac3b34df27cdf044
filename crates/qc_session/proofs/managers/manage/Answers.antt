-- A manager runs from its start to its end.
use Rattle.std.proofs.Common.{sym, subst, ◌+◌, length}
use Rattle.std.specs.Prelude.{IsTrue}
use Rattle.qc_event.specs.History.{is_child}
use Rattle.qc_event.specs.Tables.{setting_of}
use Rattle.qc_net.specs.Courier.{link_of}
use Rattle.qc_script.specs.Managers.{manager_for}
use Rattle.qc_script.proofs.Managing.{is_manager}
use Rattle.qc_session.specs.Acting.{StandsBelow}
use Rattle.qc_session.specs.Managing.{HasStarted}
use Rattle.qc_session.proofs.Going.{went_after, went_both}
use Rattle.qc_session.proofs.Managing.{all_answers, all_fail, carried_tidy, refused_gave}
use Rattle.qc_session.proofs.Running.{runs_now}
use Rattle.qc_desk.proofs.Begun.{user_nonroot}
use Rattle.qc_session.proofs.Starting.{manages_below}
use Rattle.qc_session.proofs.Walks.{carried_walk}
use Rattle.qc_session.proofs.managers.manage.Goals as goal
use Rattle.qc_session.proofs.Knowing.{seen_legal}

pub start_child-requires-clause-stands : goal.start_child-requires-clause-stands
start_child-requires-clause-stands g c =
    subst (StandsBelow (setting_of g.N.Store.table g.N.Store.base) (length c.args.of.now + 1)) (sym c.kind.ensures) (manages_below (setting_of g.N.Store.table g.N.Store.base) (length c.args.of.now + 1) (manager_for c.args.what.now) c.requires.fits)

pub returns-in-Err-clause-err : goal.returns-in-Err-clause-err
returns-in-Err-clause-err g c = λ client for. refused_gave client c.args.of.now (manager_for c.args.what.now) c.args.line.now.pass.seen c.start_child.new.line.pass.seen c.in-Err.why (c.in-Err.ensures.err client for) c.in-Err.ensures.refused

pub ask-came_to-requires-clause-manager : goal.ask-came_to-requires-clause-manager
ask-came_to-requires-clause-manager g c =
    let line = c.args.line.now in
    let v = line.pass in
    let w = c.start_child.new.line.pass in
    let of = c.args.of.now in
    let kd = manager_for c.args.what.now in
    let nonroot = user_nonroot (setting_of g.N.Store.table g.N.Store.base) v.seen of (seen_legal line.known) c.requires.user in
    let h = subst (HasStarted v w of c.in-Ok.name) c.kind.ensures c.in-Ok.ensures.ok in
    let began = runs_now (setting_of g.N.Store.table g.N.Store.base) v w of c.in-Ok.name kd h c.start_child.ensures.went.legal nonroot in
    began.0

pub ask-came_to-requires-clause-no_child : goal.ask-came_to-requires-clause-no_child
ask-came_to-requires-clause-no_child g c =
    let line = c.args.line.now in
    let v = line.pass in
    let w = c.start_child.new.line.pass in
    let of = c.args.of.now in
    let kd = manager_for c.args.what.now in
    let nonroot = user_nonroot (setting_of g.N.Store.table g.N.Store.base) v.seen of (seen_legal line.known) c.requires.user in
    let h = subst (HasStarted v w of c.in-Ok.name) c.kind.ensures c.in-Ok.ensures.ok in
    let began = runs_now (setting_of g.N.Store.table g.N.Store.base) v w of c.in-Ok.name kd h c.start_child.ensures.went.legal nonroot in
    began.1

pub returns-clause-ok : goal.returns-clause-ok
returns-clause-ok g c = λ client for.
    let line = c.args.line.now in
    let v = line.pass in
    let w = c.start_child.new.line.pass in
    let of = c.args.of.now in
    let kd = manager_for c.args.what.now in
    let nonroot = user_nonroot (setting_of g.N.Store.table g.N.Store.base) v.seen of (seen_legal line.known) c.requires.user in
    let h = subst (HasStarted v w of c.in-Ok.name) c.kind.ensures c.in-Ok.ensures.ok in
    let began = runs_now (setting_of g.N.Store.table g.N.Store.base) v w of c.in-Ok.name kd h c.start_child.ensures.went.legal nonroot in
    let asked = c.ask-came_to.new.carrier in
    let x = asked.pass in
    let y = c.close.new.line.pass in
    let grown = c.ask-came_to.ensures.grown in
    let carried = carried_walk w x (g.L.Link.view (link_of c.start_child.new.line.courier)).plan (g.L.Link.view (link_of asked.courier)).plan c.start_child.new.line.patience asked.patience (λ n. IsTrue (is_child c.in-Ok.name n)) c.ask-came_to.ensures.became.0 grown in
    let legal = seen_legal asked.known in
    all_answers (setting_of g.N.Store.table g.N.Store.base) v w x y client for of c.in-Ok.name kd (is_manager c.args.what.now) nonroot h began.0 grown carried c.close.ensures.went.legal legal c.ask-came_to.result c.close.result c.close.ensures.ok

pub returns-clause-err : goal.returns-clause-err
returns-clause-err g c = λ client for.
    let line = c.args.line.now in
    let v = line.pass in
    let w = c.start_child.new.line.pass in
    let of = c.args.of.now in
    let kd = manager_for c.args.what.now in
    let nonroot = user_nonroot (setting_of g.N.Store.table g.N.Store.base) v.seen of (seen_legal line.known) c.requires.user in
    let h = subst (HasStarted v w of c.in-Ok.name) c.kind.ensures c.in-Ok.ensures.ok in
    let began = runs_now (setting_of g.N.Store.table g.N.Store.base) v w of c.in-Ok.name kd h c.start_child.ensures.went.legal nonroot in
    let asked = c.ask-came_to.new.carrier in
    let x = asked.pass in
    let y = c.close.new.line.pass in
    let grown = c.ask-came_to.ensures.grown in
    let carried = carried_walk w x (g.L.Link.view (link_of c.start_child.new.line.courier)).plan (g.L.Link.view (link_of asked.courier)).plan c.start_child.new.line.patience asked.patience (λ n. IsTrue (is_child c.in-Ok.name n)) c.ask-came_to.ensures.became.0 grown in
    let legal = seen_legal asked.known in
    all_fail (setting_of g.N.Store.table g.N.Store.base) v w x y client for of c.in-Ok.name kd (is_manager c.args.what.now) nonroot h began.0 grown carried c.close.ensures.went.legal legal c.close.result c.close.ensures.err

pub returns-clause-went : goal.returns-clause-went
returns-clause-went g c =
    let line = c.args.line.now in
    let v = line.pass in
    let w = c.start_child.new.line.pass in
    let of = c.args.of.now in
    let kd = manager_for c.args.what.now in
    let nonroot = user_nonroot (setting_of g.N.Store.table g.N.Store.base) v.seen of (seen_legal line.known) c.requires.user in
    let h = subst (HasStarted v w of c.in-Ok.name) c.kind.ensures c.in-Ok.ensures.ok in
    let began = runs_now (setting_of g.N.Store.table g.N.Store.base) v w of c.in-Ok.name kd h c.start_child.ensures.went.legal nonroot in
    let asked = c.ask-came_to.new.carrier in
    let x = asked.pass in
    let y = c.close.new.line.pass in
    let grown = c.ask-came_to.ensures.grown in
    let carried = carried_walk w x (g.L.Link.view (link_of c.start_child.new.line.courier)).plan (g.L.Link.view (link_of asked.courier)).plan c.start_child.new.line.patience asked.patience (λ n. IsTrue (is_child c.in-Ok.name n)) c.ask-came_to.ensures.became.0 grown in
    let legal = seen_legal asked.known in
    went_both (went_after c.close.ensures.went c.ask-came_to.ensures.became.0 c.ask-came_to.ensures.became.1 (grown.newer, grown.grown)
    (λ was. carried_tidy (setting_of g.N.Store.table g.N.Store.base) v w x of c.in-Ok.name kd (is_manager c.args.what.now) h began.0 grown carried legal was)) c.start_child.ensures.went
