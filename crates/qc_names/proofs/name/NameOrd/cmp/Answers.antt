use Rattle.std.proofs.Common.{◌≡◌, ◌∙◌, slice_get}
use Rattle.std.specs.Option.{option_cmp}
use Rattle.std.specs.Ordering.{nat_cmp}
use Rattle.qc_names.proofs.Ancestors.{tops_order}
use Rattle.qc_names.proofs.name.NameOrd.cmp.Goals as goal

pub returns-in_default : goal.returns-in_default
returns-in_default c =
    let told : c.cmp.result ≡ option_cmp nat_cmp (slice_get c.args.self.now 0) (slice_get c.args.other.now 0) = rw (← c.number.ensures, ← c.number-2.ensures) c.cmp.ensures in
    told ∙ tops_order c.args.self.now c.args.other.now (λ same. c.in_default.not-Equal (told ∙ same))
