use Rattle.std.proofs.Common.{rules, tests, ap, ◌∙◌}
use Rattle.std.specs.Prelude.{is_some}
use Rattle.qc_event.specs.declared.event.Entry.{Entry}
use Rattle.qc_event.specs.History as words
use Rattle.qc_scan.proofs.Found.{found}
use Rattle.qc_scan.proofs.scan.is_ready.Goals as goal

pub returns : goal.returns
returns c =
    c.is_some.ensures
    ∙ ap is_some (found (λ (e : Entry). words.ready_in c.args.n.now e.event) _ _ (λ x r q k. search (rules, tests)) _ _ _ c.iter.ensures.rest c.iter.ensures.runs c.find_map.ensures.runs)
