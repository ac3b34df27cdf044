-- Once the loop ends, the records so far are all that have a value.
use Rattle.std.proofs.Common.{◌++◌, ◌∙◌, ap}
use Rattle.std.proofs.lemmas.Iterator.{YieldsList-from_slice, YieldsList-from_zip}
use Rattle.std.proofs.lemmas.Iterator.Consumers.{YieldsList-end}
use Rattle.qc_report.specs.Report as spec
use Rattle.qc_report.proofs.push_finals.Goals as goal

pub returns : goal.returns
returns c =
    let rows = YieldsList-from_slice c.args.table.now.records cc in
    let values = YieldsList-from_slice c.args.finals.now cc in
    let all = YieldsList-end (YieldsList-from_zip rows values) c.loop-row.yielded c.loop-row.row-iterator c.loop-row.yielded_by _ c.next.new.self c.in-None.is c.next.ensures.steps in
    c.loop-row.invariant ∙ ap (λ ps. c.args.page.now ++ spec.final_lines ps) all.0
