use Rattle.std.proofs.Common.{◌∙◌, ap, refl}
use Rattle.qc_event.specs.Manager.{BlockedBy}
use Rattle.qc_managers.specs.Gathered.{Gathered}
use Rattle.qc_managers.specs.Told.{Told}
use Rattle.qc_managers.proofs.GatheredMore.{gathered_silent}
use Rattle.qc_managers.proofs.gather.Gather.blocked.Goals as goal

pub returns : goal.returns
returns c = λ first told is.
    let was = c.self.view_is ∙ is in
    let t : Told = record { copy = c.args.copy; result = BlockedBy c.args.holder.now } in
    ap (λ (g : Gathered). record g { heard = c.blocked.new.self }) was
    ∙ gathered_silent first told t c.blocked.new.self refl (c.blocked.ensures told (ap (λ (g : Gathered). g.heard) was))
