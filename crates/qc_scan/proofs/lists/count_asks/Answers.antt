use Rattle.std.proofs.Common.{rules, tests, length, sym, ap, ◌∙◌}
use Rattle.std.proofs.lemmas.Iterator.{YieldsList-from_slice}
use Rattle.std.proofs.lemmas.Iterator.Consumers.{YieldsList-from_filter_map, count_from_yields_List}
use Rattle.qc_event.specs.declared.event.Entry.{Entry}
use Rattle.qc_event.specs.History.{ask_below}
use Rattle.qc_scan.proofs.Everyone.{every_is}
use Rattle.qc_scan.proofs.lists.count_asks.Goals as goal

pub returns : goal.returns
returns c =
    let asks = λ (e : Entry). ask_below c.args.m.now e.event in
    count_from_yields_List c.filter_map.result _ c.count.ensures.ran
    (YieldsList-from_filter_map _ asks (YieldsList-from_slice c.args.h.now cc) c.filter_map.ensures.closure (λ x r q k. search (rules, tests)))
    ∙ sym (ap length (every_is asks c.args.h.now))
