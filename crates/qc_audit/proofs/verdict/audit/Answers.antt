use Rattle.std.proofs.lemmas.Result.{err_from_is_err_and}
use Rattle.qc_audit.proofs.Judged.{bad_is}
use Rattle.qc_audit.proofs.Proper.{proper, few}
use Rattle.qc_audit.proofs.verdict.audit.Goals as goal

pub returns-in_err-table-clause-malformed : goal.returns-in_err-table-clause-malformed
returns-in_err-table-clause-malformed c =
    let p = err_from_is_err_and c.from_residual.result c.from_residual.ensures.1 in
    rw (p.1, p.2) (λ is table trail s. c.in_err-table.ensures.bad (bad_is c.in_err-table.field-0.0 is) table trail s)

pub judge-requires-clause-proper : goal.judge-requires-clause-proper
judge-requires-clause-proper c = proper c.in_ok-table.field-0.table c.in_ok-table.field-0.trail c.args.bytes.now c.in_ok-table.ensures.found

pub judge-requires-clause-few : goal.judge-requires-clause-few
judge-requires-clause-few c = few c.in_ok-table.field-0.table c.in_ok-table.field-0.trail c.args.bytes.now c.in_ok-table.ensures.found c.requires
