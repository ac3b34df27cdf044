use Rattle.std.proofs.Common.{rules, tests}
use Rattle.qc_event.specs.declared.event.Entry.{Entry}
use Rattle.qc_event.specs.History as words
use Rattle.qc_scan.proofs.Found.{found}
use Rattle.qc_scan.proofs.scan.start.Goals as goal

pub returns : goal.returns
returns c = found (λ (e : Entry). words.start_in c.args.n.now e.seat e.event) _ _ (λ x r q k. search (rules, tests)) _ _ _ c.iter.ensures.rest c.iter.ensures.runs c.find_map.ensures.runs
