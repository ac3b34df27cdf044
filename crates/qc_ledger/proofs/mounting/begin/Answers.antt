-- What is wrong with the bodies is handed on.
use Rattle.std.proofs.Common.{arith, ap, subst, List, ℕ}
use Rattle.qc_journal.specs.Image.{bodies_of}
use Rattle.qc_journal.specs.Journal.{Keeps, limit_of}
use Rattle.qc_ledger.specs.Image.{IsLedgerFault}
use Rattle.qc_ledger.proofs.Firsts.{no_disk, passed_on}
use Rattle.qc_ledger.proofs.mounting.begin.Goals as goal

pub returns-in_err-past-clause-refused : goal.returns-in_err-past-clause-refused
returns-in_err-past-clause-refused g c =
    let limit = limit_of c.args.journal.now in
    let bodies = bodies_of c.args.bodies.now.items in
    passed_on c.args.who c.from_residual.result c.in_err-past.field-0.0 (IsLedgerFault c.args.who c.args.table.now limit (bodies_of c.deref.result.now)) (λ fault. Keeps c.args.journal.now bodies → IsLedgerFault c.args.who c.args.table.now limit bodies fault)
    (λ f is k. subst (λ (b : List (List ℕ)). IsLedgerFault c.args.who c.args.table.now limit b f) (ap bodies_of c.deref.ensures.value) is)
    c.from_residual.ensures.1 (c.in_err-past.ensures.fault limit)

pub returns-in_err-past-clause-cause : goal.returns-in_err-past-clause-cause
returns-in_err-past-clause-cause g c = record {
  later = omega arith;
  failed = λ is. absurd (no_disk c.args.who c.from_residual.result c.in_err-past.field-0.0 (IsLedgerFault c.args.who c.args.table.now 0 (bodies_of c.deref.result.now)) c.from_residual.ensures.1 (c.in_err-past.ensures.fault 0) is);
}
