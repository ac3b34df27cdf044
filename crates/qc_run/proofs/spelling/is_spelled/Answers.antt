use Rattle.std.proofs.Common.{List, subst}
use Rattle.std.specs.Prelude.{All}
use Rattle.qc_codec.specs.Fields.{current_format, datum}
use Rattle.qc_event.specs.declared.table.Row.{Row}
use Rattle.qc_script.specs.Steps.{plan_of_script}
use Rattle.qc_run.proofs.Spelled.{spelled}
use Rattle.qc_run.proofs.spelling.is_spelled.Goals as goal

pub returns : goal.returns
returns c = λ bytes is.
    let small = subst (λ (rows : List Row). All (λ (row : Row). (datum current_format).fits row.start) rows) c.as_slice.ensures c.starts_fit.ensures in
    spelled bytes (plan_of_script c.args.script.now) is c.requires small
