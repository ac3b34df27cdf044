use Rattle.std.proofs.Common.{sym, ap, ◌∙◌}
use Rattle.qc_event.specs.Seats.{copy_seat}
use Rattle.rows_mail.proofs.IsDown.{may_be_down}
use Rattle.rows_mail.proofs.downs.down.Goals as goal

pub unable-requires-clause-may : goal.unable-requires-clause-may
unable-requires-clause-may g c = may_be_down c.args.seer.now.seen c.args.copy.now.pass.number c.args.ask.now (c.args.copy.now.own.1 ∙ sym (ap copy_seat c.requires.copy)) c.requires.asked
