-- What a child leaves once it has started, or why it has not.
use Rattle.qc_carry.proofs.Walking.{of_entered_as, of_looked}
use Rattle.qc_event.specs.Tables.{setting_of}
use Rattle.qc_desk.specs.declared.view.View.{View}
use Rattle.qc_script.specs.Calls.{RefusesChild, WasRefused}
use Rattle.qc_session.proofs.Own.{made_so}
use Rattle.qc_session.proofs.Refused.{child_refused}
use Rattle.qc_session.proofs.Tidy.{start_tidy}
use Rattle.std.proofs.Common.{[], ap, sym, subst}
use Rattle.qc_net.specs.Courier.{held_of, link_of}
use Rattle.qc_session.proofs.Going.{went_by, went_looking}
use Rattle.qc_desk.specs.Refusing.{against_child}
use Rattle.qc_session.proofs.starts.start_child.Goals as goal
use Rattle.qc_session.proofs.Knowing.{seen_legal}
use Rattle.qc_session.proofs.Exact.{child_exact}

pub returns-in-Err-clause-err : goal.returns-in-Err-clause-err
returns-in-Err-clause-err g c = λ client for.
    let v = c.args.line.now.pass in
    let w = c.start-started.new.self.pass in
    let r = c.in-Err.ensures.err in
    subst (WasRefused client c.args.of.now v.seen w.seen) (sym c.no_of.ensures) (child_refused client v.seen w.seen (made_so (setting_of g.N.Store.table g.N.Store.base) v w client for (seen_legal c.start-started.new.self.known) [] (of_looked v w r.0)) c.args.of.now c.in-Err.no r.1)

pub returns-in-Ok-clause-went : goal.returns-in-Ok-clause-went
returns-in-Ok-clause-went g c =
    let v = c.args.line.now.pass in
    let line = c.start-started.new.self in
    let s = c.in-Ok.ensures.ok in
    went_by (setting_of g.N.Store.table g.N.Store.base) v line.pass (λ k. (g.L.Link.view (link_of k)).plan) _ (of_entered_as (against_child c.args.of.now) _ v line.pass s) c.start-started.ensures.rest line.known (held_of line.courier) line.keeps
    (λ was. start_tidy (setting_of g.N.Store.table g.N.Store.base) v line.pass (seen_legal line.known) (ap (λ (x : View). x.number) s.5) was s.1 s.0 s.3 (ap (λ (x : View). x.seen) s.5) c.in-Ok.name c.args.kind s.2.1)

pub returns-in-Err-clause-went : goal.returns-in-Err-clause-went
returns-in-Err-clause-went g c =
    let v = c.args.line.now.pass in
    let line = c.start-started.new.self in
    went_looking (setting_of g.N.Store.table g.N.Store.base) v line.pass (λ k. (g.L.Link.view (link_of k)).plan) (of_looked v line.pass c.in-Err.ensures.err.0) c.start-started.ensures.rest line.known (held_of line.courier) line.keeps

pub returns-in-Err-clause-refused : goal.returns-in-Err-clause-refused
returns-in-Err-clause-refused g c =
    let seen = c.start-started.new.self.pass.seen in
    subst (RefusesChild seen c.args.of.now) (sym c.no_of.ensures) (child_exact seen c.args.of.now c.in-Err.no c.in-Err.ensures.err.1)
