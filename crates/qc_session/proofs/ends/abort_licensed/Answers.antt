-- A user transaction is aborted, or was not in the way to be.
use Rattle.qc_carry.proofs.Walking.{of_entered, of_looked}
use Rattle.qc_event.specs.Tables.{setting_of}
use Rattle.qc_event.specs.declared.event.Event.TheVariants as event
use Rattle.qc_event.specs.declared.event.How.TheVariants.{Abort as Aborts}
use Rattle.qc_desk.specs.Refusing.{against_abort}
use Rattle.qc_desk.specs.declared.view.View.{View}
use Rattle.qc_session.proofs.Aborting.{unaborted}
use Rattle.qc_session.proofs.Tidy.{user_tidy}
use Rattle.qc_session.specs.Acting.{IsUnaborted}
use Rattle.std.proofs.Common.{ap, refl, sym, subst}
use Rattle.qc_net.specs.Courier.{held_of, link_of}
use Rattle.qc_session.proofs.Going.{went_by, went_looking}
use Rattle.qc_session.proofs.ends.abort_licensed.Goals as goal
use Rattle.qc_session.proofs.Knowing.{seen_legal}

pub returns-in-Ok-clause-ok : goal.returns-in-Ok-clause-ok
returns-in-Ok-clause-ok g c = of_entered (against_abort c.args.target.now) (event.End c.args.target.now (Aborts c.args.cause.now)) c.args.line.now.pass c.abort-aborted.new.self.pass c.in-Ok.ensures.ok

pub returns-in-Err-clause-err : goal.returns-in-Err-clause-err
returns-in-Err-clause-err g c =
    let v = c.args.line.now.pass in
    let w = c.abort-aborted.new.self.pass in
    subst (IsUnaborted v w c.args.target.now) (sym c.no_of.ensures) (unaborted c.args.target.now v w c.in-Err.no c.in-Err.ensures.err)

pub returns-in-Ok-clause-went : goal.returns-in-Ok-clause-went
returns-in-Ok-clause-went g c =
    let v = c.args.line.now.pass in
    let line = c.abort-aborted.new.self in
    let s = c.in-Ok.ensures.ok in
    went_by (setting_of g.N.Store.table g.N.Store.base) v line.pass (λ k. (g.L.Link.view (link_of k)).plan) _ (of_entered (against_abort c.args.target.now) (event.End c.args.target.now (Aborts c.args.cause.now)) v line.pass s) c.abort-aborted.ensures.rest line.known (held_of line.courier) line.keeps
    (λ was. user_tidy (setting_of g.N.Store.table g.N.Store.base) v line.pass (seen_legal line.known) (ap (λ (x : View). x.number) s.3) was (event.End c.args.target.now (Aborts c.args.cause.now)) s.0 s.1 (ap (λ (x : View). x.seen) s.3) _ _ refl c.requires.user)

pub returns-in-Err-clause-went : goal.returns-in-Err-clause-went
returns-in-Err-clause-went g c =
    let v = c.args.line.now.pass in
    let line = c.abort-aborted.new.self in
    went_looking (setting_of g.N.Store.table g.N.Store.base) v line.pass (λ k. (g.L.Link.view (link_of k)).plan) (of_looked v line.pass c.in-Err.ensures.err.0) c.abort-aborted.ensures.rest line.known (held_of line.courier) line.keeps
