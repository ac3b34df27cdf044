use Rattle.std.proofs.Common.{ap, ◌∙◌}
use Rattle.crossbeam_queue.specs.Passes.{view}
use Rattle.qc_lane.proofs.Receipts.{noted_tells}
use Rattle.qc_lane.proofs.ends.Outlet.receipt.Goals as goal

pub invariant_of-result-clause-tells : goal.invariant_of-result-clause-tells
invariant_of-result-clause-tells g c =
    let t = noted_tells (view c.args.self.now.pass) c.args.request.now c.requires.last in
    (ap (λ v. v.from) c.note.ensures.noted.1 ∙ t.0, ap (λ v. v.known) c.note.ensures.noted.1 ∙ t.1)
