use Rattle.std.proofs.Common.{rules, tests, length, sym, ap, ◌∙◌}
use Rattle.std.proofs.lemmas.Iterator.{YieldsList-from_slice}
use Rattle.std.proofs.lemmas.Iterator.Consumers.{YieldsList-from_filter_map, count_from_yields_List}
use Rattle.qc_event.specs.declared.event.Entry.{Entry}
use Rattle.qc_event.specs.History.{child_in}
use Rattle.qc_scan.proofs.Everyone.{every_is}
use Rattle.qc_scan.proofs.lists.children.Goals as goal

pub returns : goal.returns
returns c =
    let started = λ (e : Entry). child_in c.args.n.now e.event in
    count_from_yields_List c.filter_map.result _ c.count.ensures.ran
    (YieldsList-from_filter_map _ started (YieldsList-from_slice c.args.h.now cc) c.filter_map.ensures.closure (λ x r q k. search (rules, tests)))
    ∙ sym (ap length (every_is started c.args.h.now))
