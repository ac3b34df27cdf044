use Rattle.std.proofs.Common.{◌∙◌, ap}
use Rattle.qc_managers.specs.Gathered.{Putting, put}
use Rattle.qc_managers.proofs.puts.Puts.miss.Goals as goal

pub returns : goal.returns
returns c = λ config phase told is.
    let was = c.self.view_is ∙ is in
    ap (λ (p : Putting). record p { heard = c.miss.new.self }) was
    ∙ ap (λ h. record (put config phase told) { heard = h }) (c.miss.ensures told (ap (λ (p : Putting). p.heard) was))
