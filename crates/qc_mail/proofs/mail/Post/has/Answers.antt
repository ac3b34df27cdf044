use Rattle.std.proofs.Common.{◌≡◌, arith, ap, ◌∙◌}
use Rattle.std.specs.Prelude.{nat_lt}
use Rattle.qc_mail.proofs.Numbers.{as_many}
use Rattle.qc_mail.proofs.mail.Post.has.Goals as goal

pub returns : goal.returns
returns g c =
    let all : c.len.result ≡ g.M.Mailed.copies = omega (arith, c.len.ensures, as_many c.args.self.now.ends.items (λ e. e.copy) g.M.Mailed.copies c.args.self.now.in_order) in
    ap (λ n. nat_lt n c.len.result) c.from.ensures ∙ ap (λ n. nat_lt c.args.copy n) all
