use Rattle.std.proofs.Common.{◌≡◌, sym, subst}
use Rattle.qc_event.specs.History.{Past, refused}
use Rattle.qc_event.specs.Legal.{Legal}
use Rattle.qc_history.proofs.history.History.refusal.Goals as goal

pub returns : goal.returns
returns c = λ setting legal.
    subst (λ (p : Past). c.refusal.result ≡ refused p c.args.access.now) c.self.view_is
    (c.refusal.ensures setting c.self.invariant.2 c.self.invariant.1
    (subst (Legal setting) (sym c.self.view_is) legal))
