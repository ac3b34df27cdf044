-- An access takes its reply, or is stopped.
use Rattle.std.proofs.Common.{[], refl}
use Rattle.qc_event.specs.declared.event.Answer.TheVariants as answer
use Rattle.qc_event.specs.declared.event.Event.TheVariants as event
use Rattle.qc_event.specs.declared.event.How.TheVariants.{Commit}
use Rattle.qc_event.specs.Tables.{setting_of}
use Rattle.qc_desk.specs.Refusing.{against_access}
use Rattle.qc_carry.proofs.Ending.{ends_stopped}
use Rattle.qc_carry.proofs.OwnStays.{still_own}
use Rattle.qc_carry.proofs.Walking as walking
use Rattle.qc_carry.proofs.finish.take.Goals as goal

pub stopped-requires-clause-own : goal.stopped-requires-clause-own
stopped-requires-clause-own g c =
    let v = c.args.pass.now in
    let u = c.take_reply-taken.new.pass in
    still_own (setting_of g.N.Store.table g.N.Store.base) v u [] (walking.of_looked v u c.in-Err.ensures.err.0) c.take_reply-taken.ensures.known.legal c.args.ask.now.access c.requires.waits.own refl

pub returns-in-Ok-clause-ends : goal.returns-in-Ok-clause-ends
returns-in-Ok-clause-ends g c = (
  walking.of_entered (against_access c.args.ask.now.access) (event.End c.args.ask.now.access (Commit (answer.Reply c.args.tuple.now))) c.args.pass.now c.take_reply-taken.new.pass c.in-Ok.ensures.ok,
  tt,
)

pub returns-in-Err-clause-ends : goal.returns-in-Err-clause-ends
returns-in-Err-clause-ends g c =
    let v = c.args.pass.now in
    let u = c.take_reply-taken.new.pass in
    ends_stopped v u c.stopped.new.pass c.args.ask.now c.stopped.result (walking.of_looked v u c.in-Err.ensures.err.0) c.stopped.ensures.stopped
