use Rattle.std.proofs.Common.{◌≡◌, [], sym, subst}
use Rattle.std.specs.Prelude.{is_none}
use Rattle.qc_event.specs.History.{Past}
use Rattle.qc_event.specs.Legal.{Legal}
use Rattle.qc_event.specs.Standing.{open_child}
use Rattle.qc_history.proofs.history.History.settled.Goals as goal

pub returns : goal.returns
returns c = λ setting legal.
    subst (λ (p : Past). c.settled.result ≡ is_none (open_child p [])) c.self.view_is
    (c.settled.ensures setting _ c.self.invariant.2 (subst (Legal setting) (sym c.self.view_is) legal))
