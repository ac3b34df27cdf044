use Rattle.std.proofs.Common.{◌≡◌, sym, subst}
use Rattle.std.specs.Prelude.{option_and_then}
use Rattle.qc_event.specs.History.{Past, granted}
use Rattle.qc_event.specs.Legal.{Legal}
use Rattle.qc_history.specs.Grants.{tuple_at}
use Rattle.qc_history.proofs.history.History.granted.Goals as goal

pub returns : goal.returns
returns c = λ setting legal.
    subst (λ (p : Past). c.granted.result ≡ option_and_then (tuple_at c.args.copy) (granted p c.args.access.now)) c.self.view_is
    (c.granted.ensures setting c.self.invariant.2 c.self.invariant.1
    (subst (Legal setting) (sym c.self.view_is) legal))
