use Rattle.std.proofs.Common.{◌≡◌, sym, ap, ◌∙◌, subst}
use Rattle.qc_event.specs.History.{Past, asked}
use Rattle.qc_event.specs.Legal.{Legal}
use Rattle.qc_history.specs.Index.{IsOf}
use Rattle.qc_looks.specs.Indexed.{Known}
use Rattle.qc_looks.specs.Requests.{AreRequests}
use Rattle.qc_looks.proofs.indexed.IndexedLooks.asked.Goals as goal

pub returns : goal.returns
returns c =
    let same = c.entries-entries.ensures in
    subst (λ (p : Past). c.asked.result ≡ asked p c.args.access.now) same
    (c.asked.ensures _ (subst (AreRequests c.self.inside.requests) (sym same) c.self.invariant.requests_are) (subst (IsOf c.names.result.now) (sym same) c.names.ensures)
    (subst (Legal _) (sym same) c.self.invariant.legal))
    ∙ ap (λ (k : Known). asked k.past c.args.access.now) c.self.view_is
