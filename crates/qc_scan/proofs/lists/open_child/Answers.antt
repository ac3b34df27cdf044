use Rattle.std.proofs.Common.{rules, tests, reverse, sym, ap, ◌∙◌}
use Rattle.std.specs.Prelude.{find, is_none}
use Rattle.std.proofs.lemmas.Iterator.{YieldsList-from_slice}
use Rattle.std.proofs.lemmas.Iterator.Consumers.{YieldsList-from_filter_map}
use Rattle.std.proofs.lemmas.Iterator.Search.{find_from_yields_List}
use Rattle.qc_event.specs.declared.event.Entry.{Entry}
use Rattle.qc_event.specs.History.{Name, child_in, end}
use Rattle.qc_scan.proofs.Everyone.{every_is, option_itself}
use Rattle.qc_scan.proofs.lists.open_child.Goals as goal

pub returns : goal.returns
returns c =
    let started = λ (e : Entry). child_in c.args.n.now e.event in
    let open_one = λ (n : Name). is_none (end (reverse c.args.h.now) n) in
    option_itself c.find.result
    ∙ find_from_yields_List open_one _ _ c.find.result c.find.ensures.ran
    (YieldsList-from_filter_map _ started (YieldsList-from_slice c.args.h.now cc) c.filter_map.ensures.closure (λ x r q k. search (rules, tests)))
    (λ x b q k. search (rules, tests))
    ∙ sym (ap (find open_one) (every_is started c.args.h.now))
