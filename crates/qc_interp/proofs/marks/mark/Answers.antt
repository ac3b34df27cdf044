use Rattle.qc_script.specs.Calls.{Marks}
use Rattle.qc_script.specs.Plan.{Plan}
use Rattle.qc_interp.specs.Running.{Acted}
use Rattle.qc_interp.proofs.Stepping.Marking.{marked_on}
use Rattle.qc_interp.proofs.Stepping.Results.{on_ok}
use Rattle.qc_interp.proofs.marks.mark.Goals as goal

pub returns-clause-ok : goal.returns-clause-ok
returns-clause-ok g c =
    let v = g.T.Tx.view c.args.tx.now in
    let w = g.T.Tx.view c.kill.new.self in
    let of = c.args.of.now in
    on_ok (Marks v w of c.args.session) (Acted v.client of v.seen w.seen (Plan.kill_then c.args.session)) c.kill.result (λ m. marked_on v.client of c.args.session v.seen w.seen c.requires.runs m) c.kill.ensures.ok
