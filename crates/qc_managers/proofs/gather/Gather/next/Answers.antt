use Rattle.std.proofs.Common.{◌≡◌, ◌∙◌, ap}
use Rattle.qc_config.specs.Config.{holds_read}
use Rattle.qc_managers.specs.Told.{newest_in, replied_in}
use Rattle.qc_managers.specs.Heard.{next_of}
use Rattle.qc_managers.specs.Gathered.{Gathered}
use Rattle.qc_managers.proofs.gather.Gather.next.Goals as goal
use Rattle.qc_event.proofs.Booleans.{same_truth}

pub returns-clause-next : goal.returns-clause-next
returns-clause-next c = λ first told is.
    let was = c.self.view_is ∙ is in
    let heard = ap (λ (g : Gathered). g.heard) was in
    let enough : c.has_read-enough.result ≡ holds_read (newest_in first told).config (replied_in told) =
    same_truth _ _ c.has_read-enough.ensures
    ∙ ap (λ r. holds_read c.self.inside.config r) (c.replied.ensures told heard)
    ∙ ap (λ (g : Gathered). holds_read g.newest.config (replied_in told)) was in
    c.next.ensures.next told heard
    ∙ ap (λ b. next_of b c.self.inside.config told) enough
    ∙ ap (λ (g : Gathered). next_of (holds_read (newest_in first told).config (replied_in told)) g.newest.config told) was
