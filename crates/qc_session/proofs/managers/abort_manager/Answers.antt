-- A manager ends for its cause, or memory or room was wanting.
use Rattle.qc_carry.proofs.Walking.{of_entered, of_looked}
use Rattle.qc_event.specs.Tables.{setting_of}
use Rattle.qc_event.specs.declared.event.Event.TheVariants as event
use Rattle.qc_event.specs.declared.event.How.TheVariants.{Abort as Aborts}
use Rattle.qc_desk.specs.Refusing.{against_abort}
use Rattle.qc_desk.specs.declared.view.View.{View}
use Rattle.qc_session.proofs.Managing.{manager_mine, wanting}
use Rattle.qc_session.proofs.Tidy.{manager_tidy}
use Rattle.qc_session.specs.Acting.{IsWanting}
use Rattle.std.proofs.Common.{ap, refl, sym, subst}
use Rattle.qc_net.specs.Courier.{held_of, link_of}
use Rattle.qc_script.proofs.Managing.{is_manager}
use Rattle.qc_script.specs.Managers.{manager_for}
use Rattle.qc_session.proofs.Going.{went_by, went_looking}
use Rattle.qc_session.proofs.managers.abort_manager.Goals as goal
use Rattle.qc_session.proofs.Knowing.{seen_legal}

pub returns-in-Ok-clause-ok : goal.returns-in-Ok-clause-ok
returns-in-Ok-clause-ok g c = of_entered (against_abort c.args.name.now) (event.End c.args.name.now (Aborts c.args.cause.now)) c.args.line.now.pass c.abort-aborted.new.self.pass c.in-Ok.ensures.ok

pub returns-in-Err-clause-err : goal.returns-in-Err-clause-err
returns-in-Err-clause-err g c =
    let v = c.args.line.now.pass in
    let w = c.abort-aborted.new.self.pass in
    subst (IsWanting v w) (sym c.short_of.ensures) (wanting c.args.name.now v w c.in-Err.no c.in-Err.ensures.err)

pub returns-in-Ok-clause-went : goal.returns-in-Ok-clause-went
returns-in-Ok-clause-went g c =
    let v = c.args.line.now.pass in
    let line = c.abort-aborted.new.self in
    let s = c.in-Ok.ensures.ok in
    let runs = c.requires.may.running in
    went_by (setting_of g.N.Store.table g.N.Store.base) v line.pass (λ k. (g.L.Link.view (link_of k)).plan) _ (of_entered (against_abort c.args.name.now) (event.End c.args.name.now (Aborts c.args.cause.now)) v line.pass s) c.abort-aborted.ensures.rest line.known (held_of line.courier) line.keeps
    (λ was. manager_tidy (setting_of g.N.Store.table g.N.Store.base) v line.pass (seen_legal line.known) (ap (λ (x : View). x.number) s.3) was (event.End c.args.name.now (Aborts c.args.cause.now)) s.0 s.1 (ap (λ (x : View). x.seen) s.3) c.args.name.now (Aborts c.args.cause.now) refl (manager_mine v.number v.seen c.args.name.now (manager_for c.args.what.now) (is_manager c.args.what.now) runs) runs.children_ended)

pub returns-in-Err-clause-went : goal.returns-in-Err-clause-went
returns-in-Err-clause-went g c =
    let v = c.args.line.now.pass in
    let line = c.abort-aborted.new.self in
    went_looking (setting_of g.N.Store.table g.N.Store.base) v line.pass (λ k. (g.L.Link.view (link_of k)).plan) (of_looked v line.pass c.in-Err.ensures.err.0) c.abort-aborted.ensures.rest line.known (held_of line.courier) line.keeps
