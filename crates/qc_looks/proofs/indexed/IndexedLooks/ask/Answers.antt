use Rattle.std.proofs.Common.{◌≡◌, ◌<◌, length, sym, ap, ◌∙◌, subst}
use Rattle.std.specs.Prelude.{Some, slice_get}
use Rattle.qc_event.specs.History.{Past, asks}
use Rattle.qc_event.specs.Legal.{Legal}
use Rattle.qc_history.specs.Index.{IsOf}
use Rattle.qc_looks.specs.Asks.{AreAsks}
use Rattle.qc_looks.specs.Indexed.{Known}
use Rattle.qc_looks.proofs.indexed.IndexedLooks.ask.Goals as goal

pub ask-requires-clause-kept : goal.ask-requires-clause-kept
ask-requires-clause-kept c =
    let same = c.entries-entries.ensures in
    (_, subst (AreAsks c.self.inside.asks) (sym same) c.self.invariant.asks_are, subst (IsOf c.names.result.now) (sym same) c.names.ensures, subst (Legal _) (sym same) c.self.invariant.legal)

pub ask-requires-clause-within : goal.ask-requires-clause-within
ask-requires-clause-within c =
    subst (λ (p : Past). c.args.k < length (asks p c.args.m.now)) (sym (c.entries-entries.ensures ∙ ap (λ (k : Known). k.past) c.self.view_is)) c.requires

pub returns : goal.returns
returns c =
    subst (λ (p : Past). slice_get (asks p c.args.m.now) c.args.k ≡ Some c.ask.result) (c.entries-entries.ensures ∙ ap (λ (k : Known). k.past) c.self.view_is) c.ask.ensures
