-- A refusal that came stands in the history.
use Rattle.std.proofs.Common.{subst}
use Rattle.qc_event.specs.declared.event.Refusal.TheVariants as refusal
use Rattle.qc_desk.specs.Answers.{HasAnswered}
use Rattle.qc_carry.proofs.Answered.{refusal_stands}
use Rattle.qc_carry.proofs.finish.answer.Goals as goal

pub end_refused-requires-clause-refused : goal.end_refused-requires-clause-refused
end_refused-requires-clause-refused g c =
    let ask = c.args.ask.now in
    let seen = c.args.pass.now.seen in
    refusal_stands seen ask (refusal.Blocked c.in-Blocked.field-0) (subst (HasAnswered ask.copy seen ask) c.in-Blocked.is c.requires.came)

pub end_refused-requires-in-Dead-clause-refused : goal.end_refused-requires-in-Dead-clause-refused
end_refused-requires-in-Dead-clause-refused g c =
    let ask = c.args.ask.now in
    let seen = c.args.pass.now.seen in
    refusal_stands seen ask (refusal.Dead c.in-Dead.field-0) (subst (HasAnswered ask.copy seen ask) c.in-Dead.is c.requires.came)
