use Rattle.qc_desk.proofs.Consulting.{asked_later}
use Rattle.qc_mail.proofs.server.serve.Goals as goal

pub invariant_of-result-clause-asked : goal.invariant_of-result-clause-asked
invariant_of-result-clause-asked g c = asked_later c.args.note.seen c.serve-answer.new.seer.seen c.args.ask c.serve-answer.ensures.seer.older c.requires.asked
