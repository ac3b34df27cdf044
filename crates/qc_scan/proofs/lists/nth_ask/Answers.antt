use Rattle.std.proofs.Common.{rules, tests, sym, ap, ◌∙◌}
use Rattle.std.specs.Prelude.{slice_get}
use Rattle.std.proofs.lemmas.Iterator.{YieldsList-from_slice}
use Rattle.std.proofs.lemmas.Iterator.Consumers.{YieldsList-from_filter_map, nth_from_yields_List}
use Rattle.qc_event.specs.declared.event.Entry.{Entry}
use Rattle.qc_event.specs.History.{ask_below}
use Rattle.qc_scan.proofs.Everyone.{every_is, option_itself}
use Rattle.qc_scan.proofs.lists.nth_ask.Goals as goal

pub returns : goal.returns
returns c =
    let asks = λ (e : Entry). ask_below c.args.m.now e.event in
    option_itself c.nth.result
    ∙ nth_from_yields_List c.nth.result _ c.args.k c.nth.ensures.ran
    (YieldsList-from_filter_map _ asks (YieldsList-from_slice c.args.h.now cc) c.filter_map.ensures.closure (λ x r q k. search (rules, tests)))
    ∙ sym (ap (λ all. slice_get all c.args.k) (every_is asks c.args.h.now))
