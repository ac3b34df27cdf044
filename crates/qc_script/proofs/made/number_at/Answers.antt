use Rattle.std.proofs.Common.{sym}
use Rattle.qc_script.proofs.MadeRows.{number_from}
use Rattle.qc_script.proofs.made.number_at.Goals as goal

pub returns-clause-number : goal.returns-clause-number
returns-clause-number c = sym (number_from c.args.place)
