use Rattle.std.proofs.Common.{◌∙◌, ap, refl}
use Rattle.qc_event.specs.Manager.{Missing}
use Rattle.qc_managers.specs.Gathered.{Gathered}
use Rattle.qc_managers.specs.Told.{Told}
use Rattle.qc_managers.proofs.GatheredMore.{gathered_silent}
use Rattle.qc_managers.proofs.gather.Gather.miss.Goals as goal

pub returns : goal.returns
returns c = λ first told is.
    let was = c.self.view_is ∙ is in
    let t : Told = record { copy = c.args.copy; result = Missing c.args.why } in
    ap (λ (g : Gathered). record g { heard = c.miss.new.self }) was
    ∙ gathered_silent first told t c.miss.new.self refl (c.miss.ensures told (ap (λ (g : Gathered). g.heard) was))
