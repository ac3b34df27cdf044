use Rattle.std.proofs.Common.{◌≡◌, ◌∙◌, ap}
use Rattle.qc_config.specs.Config.{holds_write}
use Rattle.qc_managers.specs.Told.{replied_in}
use Rattle.qc_managers.specs.Heard.{next_of}
use Rattle.qc_managers.specs.Gathered.{Putting}
use Rattle.qc_managers.proofs.puts.Puts.next.Goals as goal
use Rattle.qc_event.proofs.Booleans.{same_truth}

pub returns-clause-next : goal.returns-clause-next
returns-clause-next c = λ config phase told is.
    let was = c.self.view_is ∙ is in
    let heard = ap (λ (p : Putting). p.heard) was in
    let enough : c.has_write-enough.result ≡ holds_write config (replied_in told) =
    same_truth _ _ c.has_write-enough.ensures
    ∙ ap (λ r. holds_write c.self.inside.config r) (c.replied.ensures told heard)
    ∙ ap (λ (p : Putting). holds_write p.config (replied_in told)) was in
    c.next.ensures.next told heard
    ∙ ap (λ b. next_of b c.self.inside.config told) enough
    ∙ ap (λ (p : Putting). next_of (holds_write config (replied_in told)) p.config told) was
