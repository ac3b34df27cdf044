-- A session is marked, or memory or room was wanting.
use Rattle.qc_carry.proofs.Walking.{of_entered, of_looked}
use Rattle.qc_event.specs.Tables.{setting_of}
use Rattle.qc_event.specs.declared.event.Event.TheVariants as event
use Rattle.qc_event.proofs.Wanting.{want_of}
use Rattle.qc_desk.specs.Refusing.{against_nothing}
use Rattle.qc_desk.specs.declared.view.View.{View}
use Rattle.qc_session.proofs.Tidy.{mark_tidy}
use Rattle.std.proofs.Common.{ap, refl}
use Rattle.std.proofs.lemmas.Result.{err_from_is_err_and}
use Rattle.qc_net.specs.Courier.{held_of, link_of}
use Rattle.qc_session.proofs.Going.{went_by, went_looking}
use Rattle.qc_session.proofs.marks.mark.Goals as goal
use Rattle.qc_session.proofs.Knowing.{seen_legal}

pub returns-clause-ok : goal.returns-clause-ok
returns-clause-ok g c = of_entered against_nothing (event.Mark c.args.by.now c.args.session) c.args.line.now.pass c.mark-marked.new.self.pass c.in_ok-marked.ensures.ok

pub returns-in_err-marked-clause-err : goal.returns-in_err-marked-clause-err
returns-in_err-marked-clause-err g c =
    let v = c.args.line.now.pass in
    let w = c.mark-marked.new.self.pass in
    let p = err_from_is_err_and c.from_residual.result c.from_residual.ensures.1 in
    let wanted = c.in_err-marked.ensures.err in
    rw (p.1, p.2) (of_looked v w wanted.0, want_of w.seen c.in_err-marked.field-0.0 wanted.1)

pub returns-clause-went : goal.returns-clause-went
returns-clause-went g c =
    let v = c.args.line.now.pass in
    let line = c.mark-marked.new.self in
    let s = c.in_ok-marked.ensures.ok in
    went_by (setting_of g.N.Store.table g.N.Store.base) v line.pass (λ k. (g.L.Link.view (link_of k)).plan) _ (of_entered against_nothing (event.Mark c.args.by.now c.args.session) v line.pass s) c.mark-marked.ensures.rest line.known (held_of line.courier) line.keeps
    (λ was. mark_tidy (setting_of g.N.Store.table g.N.Store.base) v line.pass (seen_legal line.known) (ap (λ (x : View). x.number) s.3) was (event.Mark c.args.by.now c.args.session) s.0 s.1 (ap (λ (x : View). x.seen) s.3) _ _ refl)

pub returns-in_err-marked-clause-went : goal.returns-in_err-marked-clause-went
returns-in_err-marked-clause-went g c =
    let v = c.args.line.now.pass in
    let line = c.mark-marked.new.self in
    went_looking (setting_of g.N.Store.table g.N.Store.base) v line.pass (λ k. (g.L.Link.view (link_of k)).plan) (of_looked v line.pass c.in_err-marked.ensures.err.0) c.mark-marked.ensures.rest line.known (held_of line.courier) line.keeps
