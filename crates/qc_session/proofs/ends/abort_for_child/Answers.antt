-- Whether an ancestor is aborted is looked at before the transaction is aborted for a child.
use Rattle.qc_carry.proofs.Walking.{of_shown}
use Rattle.qc_event.proofs.Later.{alive_before, started_still}
use Rattle.qc_event.specs.Dead.{dead}
use Rattle.qc_event.specs.Standing.{IsUser, Started}
use Rattle.qc_event.specs.Tables.{setting_of}
use Rattle.qc_event.specs.declared.event.Cause.TheVariants as cause
use Rattle.qc_event.specs.declared.event.Event.TheVariants as event
use Rattle.qc_event.specs.declared.event.How.TheVariants.{Abort as Aborts}
use Rattle.qc_session.proofs.Aborting.{all_ended_on, all_unfounded_on, on_any}
use Rattle.qc_session.proofs.Refused.{dead_refuses}
use Rattle.std.proofs.Common.{◌≡◌, sym, ◌∙◌, subst}
use Rattle.std.specs.Prelude.{None}
use Rattle.qc_net.specs.Courier.{held_of, link_of}
use Rattle.qc_session.proofs.Going.{went_looking, went_on_from}
use Rattle.qc_session.proofs.ends.abort_for_child.Goals as goal

pub returns-in-Some-clause-err : goal.returns-in-Some-clause-err
returns-in-Some-clause-err g c =
    let v = c.args.line.now.pass in
    let u = c.dead-fallen.new.self.pass in
    let is = sym c.dead-fallen.ensures.dead ∙ c.in-Some.is in
    (of_shown v u c.args.line.now.client c.dead-fallen.ensures.looked, tt, dead_refuses u.seen c.args.target.now c.in-Some.ancestor is, is)

pub abort_with_child-requires-clause-user : goal.abort_with_child-requires-clause-user
abort_with_child-requires-clause-user g c =
    let v = c.args.line.now.pass in
    let walk = of_shown v c.dead-fallen.new.self.pass c.args.line.now.client c.dead-fallen.ensures.looked in
    subst (λ p. Started p c.args.target.now (λ b. IsUser b.kind)) (sym walk.grown) (started_still walk.newer v.seen c.args.target.now (λ b. IsUser b.kind) c.requires.user)

pub abort_with_child-requires-clause-grounded : goal.abort_with_child-requires-clause-grounded
abort_with_child-requires-clause-grounded g c =
    let v = c.args.line.now.pass in
    let walk = of_shown v c.dead-fallen.new.self.pass c.args.line.now.client c.dead-fallen.ensures.looked in
    (c.requires.grounded.0, subst (λ p. Started p c.args.child.now (λ b. IsUser b.kind)) (sym walk.grown) (started_still walk.newer v.seen c.args.child.now (λ b. IsUser b.kind) c.requires.grounded.1))

pub returns-clause-ok : goal.returns-clause-ok
returns-clause-ok g c =
    let v = c.args.line.now.pass in
    let u = c.dead-fallen.new.self.pass in
    all_ended_on v u c.abort_with_child.new.line.pass (event.End c.args.target.now (Aborts (cause.Child c.args.child.now))) c.abort_with_child.result (of_shown v u c.args.line.now.client c.dead-fallen.ensures.looked) c.abort_with_child.ensures.ok

pub returns-clause-alive : goal.returns-clause-alive
returns-clause-alive g c =
    let v = c.args.line.now.pass in
    let walk = of_shown v c.dead-fallen.new.self.pass c.args.line.now.client c.dead-fallen.ensures.looked in
    on_any c.abort_with_child.result _ (alive_before walk.newer v.seen c.args.target.now (subst (λ p. dead p c.args.target.now ≡ None) walk.grown (sym c.dead-fallen.ensures.dead ∙ c.in_default.is)))

pub returns-clause-err : goal.returns-clause-err
returns-clause-err g c =
    let v = c.args.line.now.pass in
    let u = c.dead-fallen.new.self.pass in
    all_unfounded_on v u c.abort_with_child.new.line.pass c.args.target.now (cause.Child c.args.child.now) c.abort_with_child.result (of_shown v u c.args.line.now.client c.dead-fallen.ensures.looked) c.abort_with_child.ensures.err

pub returns-in-Some-clause-went : goal.returns-in-Some-clause-went
returns-in-Some-clause-went g c =
    let v = c.args.line.now.pass in
    let line = c.dead-fallen.new.self in
    went_looking (setting_of g.N.Store.table g.N.Store.base) v line.pass (λ k. (g.L.Link.view (link_of k)).plan) (of_shown v line.pass c.args.line.now.client c.dead-fallen.ensures.looked) c.dead-fallen.ensures.rest line.known (held_of line.courier) line.keeps

pub returns-clause-went : goal.returns-clause-went
returns-clause-went g c =
    let v = c.args.line.now.pass in
    let line = c.dead-fallen.new.self in
    went_on_from (setting_of g.N.Store.table g.N.Store.base) v line.pass c.abort_with_child.new.line.pass (λ k. (g.L.Link.view (link_of k)).plan) line.known (of_shown v line.pass c.args.line.now.client c.dead-fallen.ensures.looked) c.dead-fallen.ensures.rest c.abort_with_child.ensures.went
