use Rattle.std.proofs.Common.{arith, length}
use Rattle.std.specs.List.{All}
use Rattle.std.proofs.lemmas.Result.{IfOk-weaker}
use Rattle.qc_event.specs.Base.{IsProperBase}
use Rattle.qc_codec.specs.Gives.{Spells}
use Rattle.qc_codec.proofs.Whole.{found, bad}
use Rattle.qc_trail_codec.specs.declared.record.SavedTrail.{SavedTrail}
use Rattle.qc_trail_codec.specs.Saving.{records_of, CanBeSaved}
use Rattle.qc_trail_codec.specs.Trail as saved
use Rattle.qc_trail_codec.proofs.Again.{trail_again}
use Rattle.qc_trail_codec.proofs.Saved.{exact_trail}
use Rattle.qc_trail_codec.proofs.trail.read_trail.Goals as goal

pub returns-clause-found : goal.returns-clause-found
returns-clause-found c = found (saved.trail c.args.format) (exact_trail c.args.format) c.args.bytes.now c.all.result (λ i. omega (arith, c.type_inv.bytes i)) c.all.ensures

pub returns-clause-bad : goal.returns-clause-bad
returns-clause-bad c = bad (saved.trail c.args.format) (exact_trail c.args.format) c.args.bytes.now c.all.result c.all.ensures

pub returns-clause-base : goal.returns-clause-base
returns-clause-base c =
    IfOk-weaker c.all.result (Spells (saved.trail c.args.format) c.args.bytes.now) (λ (t : SavedTrail). IsProperBase (records_of t.base) t.base) (λ t spells. (trail_again c.args.format t spells.1).0)
    (found (saved.trail c.args.format) (exact_trail c.args.format) c.args.bytes.now c.all.result (λ i. omega (arith, c.type_inv.bytes i)) c.all.ensures)

pub returns-clause-entries : goal.returns-clause-entries
returns-clause-entries c =
    IfOk-weaker c.all.result (Spells (saved.trail c.args.format) c.args.bytes.now) (λ (t : SavedTrail). All (CanBeSaved (length t.base)) t.entries) (λ t spells. (trail_again c.args.format t spells.1).1)
    (found (saved.trail c.args.format) (exact_trail c.args.format) c.args.bytes.now c.all.result (λ i. omega (arith, c.type_inv.bytes i)) c.all.ensures)
