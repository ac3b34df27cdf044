use Rattle.std.proofs.Common.{rules}
use Rattle.qc_script.proofs.Objects.{elements-items_of}
use Rattle.qc_script.proofs.reader.bodies.list_of.Goals as goal

pub returns-in-Some : goal.returns-in-Some
returns-in-Some c = search (rules, elements-items_of)
