-- What is read is proper, since it is what the value is.
use Rattle.serde_json.specs.View.{view}
use Rattle.qc_script.proofs.ProperScript.{gives_proper}
use Rattle.qc_script.proofs.script.Script.read.Goals as goal

pub returns-in-Ok-clause-proper : goal.returns-in-Ok-clause-proper
returns-in-Ok-clause-proper c = gives_proper (view c.in-Ok.value) c.script_of.result c.script_of.ensures
