use Rattle.std.proofs.Common.{◌==◌, ◌&&◌, false, nat_le, rules, tests, ◌∙◌}
use Rattle.std.specs.Option.{option_map_or}
use Rattle.std.proofs.lemmas.Iterator.{YieldsList-from_slice}
use Rattle.std.proofs.lemmas.Iterator.Search.{any_from_yields_List}
use Rattle.qc_event.specs.declared.event.Entry.{Entry}
use Rattle.qc_event.specs.Users.{mark_of, top_number}
use Rattle.qc_scan.proofs.Stands.{any_reversed}
use Rattle.qc_scan.proofs.told.is_marked.Goals as goal

pub returns : goal.returns
returns c =
    let marks = λ (e : Entry). option_map_or (λ m. (m.1 == c.args.session) && nat_le c.args.number (top_number m.0)) (mark_of e.event) false in
    any_from_yields_List marks _ _ c.any.result c.any.ensures.ran (YieldsList-from_slice c.args.h.now cc) (λ x b q k. search (rules, tests))
    ∙ any_reversed marks c.args.h.now
