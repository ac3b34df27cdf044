use Rattle.bench_steps.proofs.Legal.{run_is_legal}
use Rattle.bench_steps.proofs.measure.both_times.Goals as goal

pub report_of-requires : goal.report_of-requires
report_of-requires g c =
    let legal = run_is_legal _ _ _ c.run-ran.result (λ audits. (c.run-ran.ensures.audit_alone audits).0) c.run-ran.ensures.legal_history in
    record { legal = legal; index = c.in_ok-index.ensures legal.0 legal.1 }
