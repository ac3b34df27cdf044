use Rattle.std.proofs.Common.{arith}
use Rattle.qc_mail.proofs.Numbers.{reaches, number_is}
use Rattle.qc_mail.proofs.mail.Mail.tray.Goals as goal

pub index-requires : goal.index-requires
index-requires g c = omega (arith, reaches c.args.self.now.trays.items c.from.result (λ t. t.copy) g.M.Mailed.copies c.args.copy c.args.self.now.in_order c.from.ensures c.requires.served)

pub returns : goal.returns
returns g c = number_is c.args.self.now.trays.items c.from.result (λ t. t.copy) g.M.Mailed.copies c.args.copy c.index.result.now c.args.self.now.in_order c.from.ensures c.requires.served c.index.ensures
