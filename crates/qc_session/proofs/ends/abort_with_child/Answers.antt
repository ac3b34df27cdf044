-- The child is looked at before the transaction is aborted for it.
use Rattle.qc_carry.proofs.Walking.{of_shown}
use Rattle.qc_event.proofs.Later.{started_still}
use Rattle.qc_event.specs.Dead.{is_aborted, outcome_of}
use Rattle.qc_event.specs.Standing.{IsUser, Started}
use Rattle.qc_event.specs.Tables.{setting_of}
use Rattle.qc_event.specs.declared.event.Cause.TheVariants as cause
use Rattle.qc_event.specs.declared.event.Event.TheVariants as event
use Rattle.qc_event.specs.declared.event.How.TheVariants.{Abort as Aborts}
use Rattle.qc_session.proofs.Aborting.{all_licensed, all_ended_on, all_unaborted_on, child_grounded}
use Rattle.std.proofs.Common.{ap, inr, sym, ◌∙◌, subst}
use Rattle.qc_net.specs.Courier.{held_of, link_of}
use Rattle.qc_session.proofs.Going.{went_looking, went_on_from}
use Rattle.qc_session.proofs.ends.abort_with_child.Goals as goal

pub returns-then-not-is_abort-clause-err : goal.returns-then-not-is_abort-clause-err
returns-then-not-is_abort-clause-err g c =
    let v = c.args.line.now.pass in
    (of_shown v c.ended-how.new.self.pass c.args.line.now.client c.ended-how.ensures.looked, inr (ap (λ o. is_aborted (outcome_of o)) (sym c.ended-how.ensures.end) ∙ sym c.is_abort.ensures ∙ c.if-not-is_abort.true))

pub abort_licensed-requires-clause-user : goal.abort_licensed-requires-clause-user
abort_licensed-requires-clause-user g c =
    let v = c.args.line.now.pass in
    let walk = of_shown v c.ended-how.new.self.pass c.args.line.now.client c.ended-how.ensures.looked in
    subst (λ p. Started p c.args.target.now (λ b. IsUser b.kind)) (sym walk.grown) (started_still walk.newer v.seen c.args.target.now (λ b. IsUser b.kind) c.requires.user)

pub abort_licensed-requires-clause-licensed : goal.abort_licensed-requires-clause-licensed
abort_licensed-requires-clause-licensed g c =
    let v = c.args.line.now.pass in
    let u = c.ended-how.new.self.pass in
    let walk = of_shown v u c.args.line.now.client c.ended-how.ensures.looked in
    all_licensed (setting_of g.N.Store.table g.N.Store.base) u.seen u.number c.args.target.now (cause.Child c.args.child.now) (abort_licensed-requires-clause-user g c)
    (λ s body k. child_grounded walk.newer v.seen u.seen c.args.target.now c.args.child.now walk.grown c.requires.grounded (ap (λ o. is_aborted (outcome_of o)) (sym c.ended-how.ensures.end) ∙ sym c.is_abort.ensures ∙ c.if-not-is_abort.false) s body)

pub returns-clause-ok : goal.returns-clause-ok
returns-clause-ok g c =
    all_ended_on c.args.line.now.pass c.ended-how.new.self.pass c.abort_licensed.new.line.pass (event.End c.args.target.now (Aborts (cause.Child c.args.child.now))) c.abort_licensed.result (of_shown c.args.line.now.pass c.ended-how.new.self.pass c.args.line.now.client c.ended-how.ensures.looked) c.abort_licensed.ensures.ok

pub returns-clause-err : goal.returns-clause-err
returns-clause-err g c =
    all_unaborted_on c.args.line.now.pass c.ended-how.new.self.pass c.abort_licensed.new.line.pass c.args.target.now (cause.Child c.args.child.now) c.abort_licensed.result (of_shown c.args.line.now.pass c.ended-how.new.self.pass c.args.line.now.client c.ended-how.ensures.looked) c.abort_licensed.ensures.err

pub returns-then-not-is_abort-clause-went : goal.returns-then-not-is_abort-clause-went
returns-then-not-is_abort-clause-went g c =
    let v = c.args.line.now.pass in
    let line = c.ended-how.new.self in
    went_looking (setting_of g.N.Store.table g.N.Store.base) v line.pass (λ k. (g.L.Link.view (link_of k)).plan) (of_shown v line.pass c.args.line.now.client c.ended-how.ensures.looked) c.ended-how.ensures.rest line.known (held_of line.courier) line.keeps

pub returns-clause-went : goal.returns-clause-went
returns-clause-went g c =
    let v = c.args.line.now.pass in
    let line = c.ended-how.new.self in
    went_on_from (setting_of g.N.Store.table g.N.Store.base) v line.pass c.abort_licensed.new.line.pass (λ k. (g.L.Link.view (link_of k)).plan) line.known (of_shown v line.pass c.args.line.now.client c.ended-how.ensures.looked) c.ended-how.ensures.rest c.abort_licensed.ensures.went
