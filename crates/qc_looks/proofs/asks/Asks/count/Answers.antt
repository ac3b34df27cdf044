use Rattle.std.proofs.Common.{length, sym, ap, ◌∙◌}
use Rattle.qc_event.specs.declared.event.Entry.{Entry}
use Rattle.qc_event.specs.History.{ask_below}
use Rattle.qc_history.proofs.GrantPlaces.{as_many}
use Rattle.qc_history.proofs.Looking.{unstarted}
use Rattle.qc_looks.proofs.Asking.{none_asked}
use Rattle.qc_looks.proofs.asks.Asks.count.Goals as goal

pub returns-in-Some : goal.returns-in-Some
returns-in-Some c = λ setting past kept names legal.
    let m = c.args.m.now in
    ap length c.list.ensures
    ∙ ap length (kept.at_place m c.in-Some.place (sym (c.place.ensures.place setting past names legal) ∙ c.in-Some.is))
    ∙ as_many (λ (e : Entry). ask_below m e.event) past

pub returns-in-None : goal.returns-in-None
returns-in-None c = λ setting past kept names legal.
    let m = c.args.m.now in
    sym (ap length (none_asked setting past m legal (unstarted past m (sym (c.place.ensures.place setting past names legal) ∙ c.in-None.is))))
    ∙ as_many (λ (e : Entry). ask_below m e.event) past
