-- A manager is aborted for its cause.
use Rattle.qc_event.specs.Tables.{setting_of}
use Rattle.qc_session.proofs.Managing.{closed_for, refused_may}
use Rattle.std.specs.Prelude.{IfErr}
use Rattle.qc_managers.specs.Managed.{ManagerIsRefused}
use Rattle.qc_session.specs.Managing.{NotClosed}
use Rattle.std.proofs.Common.{sym, ◌∙◌, subst}
use Rattle.qc_net.specs.Courier.{held_of, link_of}
use Rattle.qc_script.specs.Managers.{manager_for}
use Rattle.qc_session.proofs.Going.{went_nowhere}
use Rattle.qc_session.proofs.managers.close.Goals as goal

pub returns-in-Ok-abort_manager-clause-err : goal.returns-in-Ok-abort_manager-clause-err
returns-in-Ok-abort_manager-clause-err g c =
    let v = c.args.line.now.pass in
    let w = c.abort_manager.new.line.pass in
    let is = sym c.cause.ensures ∙ c.in-Some.is in
    subst (NotClosed v w c.args.name.now) (sym c.told.ensures)
    (closed_for (setting_of g.N.Store.table g.N.Store.base) v w c.args.name.now (manager_for c.args.what.now) c.in-Err.no c.in-Some.cause is (refused_may (setting_of g.N.Store.table g.N.Store.base) v w c.args.name.now (manager_for c.args.what.now) c.in-Err.no c.in-Some.cause is (subst (λ r. IfErr r (ManagerIsRefused (setting_of g.N.Store.table g.N.Store.base) v.number v.seen c.args.name.now (manager_for c.args.what.now))) c.in-Err.is c.requires.refused)) c.in-Ok-abort_manager.ensures.ok)

pub returns-in-None-clause-went : goal.returns-in-None-clause-went
returns-in-None-clause-went g c =
    let line = c.args.line.now in
    went_nowhere (setting_of g.N.Store.table g.N.Store.base) line.pass (g.L.Link.view (link_of line.courier)).plan line.patience line.system line.torn (held_of line.courier) line.known line.keeps
