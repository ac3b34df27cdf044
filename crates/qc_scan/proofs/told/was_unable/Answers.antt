use Rattle.std.proofs.Common.{false, rules, tests, ◌∙◌}
use Rattle.std.specs.Option.{option_map_or}
use Rattle.std.proofs.lemmas.Iterator.{YieldsList-from_slice}
use Rattle.std.proofs.lemmas.Iterator.Search.{any_from_yields_List}
use Rattle.qc_event.specs.declared.event.Entry.{Entry}
use Rattle.qc_event.specs.Requests.{is_why, unable_in}
use Rattle.qc_scan.proofs.Stands.{any_reversed}
use Rattle.qc_scan.proofs.told.was_unable.Goals as goal

pub returns : goal.returns
returns c =
    let tells = λ (e : Entry). option_map_or (is_why c.args.why) (unable_in c.args.n.now e.event) false in
    any_from_yields_List tells _ _ c.any.result c.any.ensures.ran (YieldsList-from_slice c.args.h.now cc) (λ x b q k. search (rules, tests))
    ∙ any_reversed tells c.args.h.now
