-- A user transaction commits, or why it does not.
use Rattle.qc_carry.proofs.Walking.{of_entered, of_looked}
use Rattle.qc_event.specs.Tables.{setting_of}
use Rattle.qc_event.specs.declared.event.Answer.TheVariants as answer
use Rattle.qc_event.specs.declared.event.Event.TheVariants as event
use Rattle.qc_event.specs.declared.event.How.TheVariants.{Commit as Commits}
use Rattle.qc_desk.specs.Refusing.{against_commit}
use Rattle.qc_desk.specs.declared.view.View.{View}
use Rattle.qc_script.specs.Calls.{NotCommitted, RefusesCommit}
use Rattle.qc_session.proofs.Committing.{below_committed}
use Rattle.qc_session.proofs.Own.{made_so}
use Rattle.qc_session.proofs.Refused.{commit_refused}
use Rattle.qc_session.proofs.Tidy.{user_tidy}
use Rattle.std.proofs.Common.{[], ap, refl, sym, subst}
use Rattle.qc_net.specs.Courier.{held_of, link_of}
use Rattle.qc_session.proofs.Going.{went_by, went_looking}
use Rattle.qc_session.proofs.ends.commit_below.Goals as goal
use Rattle.qc_session.proofs.Knowing.{seen_legal}
use Rattle.qc_session.proofs.Exact.{commit_exact}

pub returns-in-Ok-clause-ok : goal.returns-in-Ok-clause-ok
returns-in-Ok-clause-ok g c = λ client for.
    let v = c.args.line.now.pass in
    let w = c.end-ended.new.self.pass in
    below_committed (setting_of g.N.Store.table g.N.Store.base) v w client for (seen_legal c.end-ended.new.self.known) c.args.of.now c.requires.below (of_entered (against_commit c.args.of.now) (event.End c.args.of.now (Commits answer.Nothing)) v w c.in-Ok.ensures.ok)

pub returns-in-Err-clause-err : goal.returns-in-Err-clause-err
returns-in-Err-clause-err g c = λ client for.
    let v = c.args.line.now.pass in
    let w = c.end-ended.new.self.pass in
    let r = c.in-Err.ensures.err in
    subst (NotCommitted client c.args.of.now v.seen w.seen) (sym c.no_of.ensures) (commit_refused client v.seen w.seen (made_so (setting_of g.N.Store.table g.N.Store.base) v w client for (seen_legal c.end-ended.new.self.known) [] (of_looked v w r.0)) c.args.of.now c.in-Err.no r.1)

pub returns-in-Ok-clause-went : goal.returns-in-Ok-clause-went
returns-in-Ok-clause-went g c =
    let v = c.args.line.now.pass in
    let line = c.end-ended.new.self in
    let s = c.in-Ok.ensures.ok in
    went_by (setting_of g.N.Store.table g.N.Store.base) v line.pass (λ k. (g.L.Link.view (link_of k)).plan) _ (of_entered (against_commit c.args.of.now) (event.End c.args.of.now (Commits answer.Nothing)) v line.pass s) c.end-ended.ensures.rest line.known (held_of line.courier) line.keeps
    (λ was. user_tidy (setting_of g.N.Store.table g.N.Store.base) v line.pass (seen_legal line.known) (ap (λ (x : View). x.number) s.3) was (event.End c.args.of.now (Commits answer.Nothing)) s.0 s.1 (ap (λ (x : View). x.seen) s.3) _ _ refl c.requires.user)

pub returns-in-Err-clause-went : goal.returns-in-Err-clause-went
returns-in-Err-clause-went g c =
    let v = c.args.line.now.pass in
    let line = c.end-ended.new.self in
    went_looking (setting_of g.N.Store.table g.N.Store.base) v line.pass (λ k. (g.L.Link.view (link_of k)).plan) (of_looked v line.pass c.in-Err.ensures.err.0) c.end-ended.ensures.rest line.known (held_of line.courier) line.keeps

pub returns-in-Err-clause-refused : goal.returns-in-Err-clause-refused
returns-in-Err-clause-refused g c =
    let seen = c.end-ended.new.self.pass.seen in
    subst (RefusesCommit seen c.args.of.now) (sym c.no_of.ensures) (commit_exact seen c.args.of.now c.in-Err.no c.in-Err.ensures.err.1)
