use Rattle.std.proofs.Common.{◌≡◌, sym, ap, ◌∙◌, subst}
use Rattle.qc_event.specs.History.{Past, granted}
use Rattle.qc_event.specs.Legal.{Legal}
use Rattle.qc_history.specs.Index.{IsOf}
use Rattle.qc_looks.specs.Indexed.{Known}
use Rattle.qc_looks.specs.Requests.{AreRequests}
use Rattle.qc_looks.proofs.indexed.IndexedLooks.granted.Goals as goal

pub returns : goal.returns
returns c =
    let same = c.entries-entries.ensures in
    subst (λ (p : Past). c.granted.result ≡ granted p c.args.access.now) same
    (c.granted.ensures _ (subst (AreRequests c.self.inside.requests) (sym same) c.self.invariant.requests_are) (subst (IsOf c.names.result.now) (sym same) c.names.ensures)
    (subst (Legal _) (sym same) c.self.invariant.legal))
    ∙ ap (λ (k : Known). granted k.past c.args.access.now) c.self.view_is
