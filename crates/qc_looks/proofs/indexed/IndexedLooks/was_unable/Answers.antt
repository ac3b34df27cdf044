use Rattle.std.proofs.Common.{◌≡◌, sym, ap, ◌∙◌, subst}
use Rattle.qc_event.specs.Requests.{was_unable}
use Rattle.qc_event.specs.History.{Past}
use Rattle.qc_event.specs.Legal.{Legal}
use Rattle.qc_history.specs.Index.{IsOf}
use Rattle.qc_looks.specs.Indexed.{Known}
use Rattle.qc_looks.specs.Requests.{AreRequests}
use Rattle.qc_looks.proofs.indexed.IndexedLooks.was_unable.Goals as goal

pub returns : goal.returns
returns c =
    let same = c.entries-entries.ensures in
    subst (λ (p : Past). c.was_unable.result ≡ was_unable p c.args.n.now c.args.why) same
    (c.was_unable.ensures _ (subst (AreRequests c.self.inside.requests) (sym same) c.self.invariant.requests_are) (subst (IsOf c.names.result.now) (sym same) c.names.ensures)
    (subst (Legal _) (sym same) c.self.invariant.legal))
    ∙ ap (λ (k : Known). was_unable k.past c.args.n.now c.args.why) c.self.view_is
