use Rattle.qc_script.specs.Steps.{plan_of_script}
use Rattle.qc_run.proofs.MadeSpelled.{made_spelled}
use Rattle.qc_run.proofs.spelling.made_is_spelled.Goals as goal

pub returns : goal.returns
returns c = λ n made. made_spelled (plan_of_script c.args.script.now) n made
