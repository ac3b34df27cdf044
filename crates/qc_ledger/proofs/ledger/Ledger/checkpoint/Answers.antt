-- The base of a ledger has no tuples.
use Rattle.std.proofs.Common.{List, subst}
use Rattle.qc_config.specs.declared.tuple.Tuple.{Tuple}
use Rattle.qc_disk.specs.Disk.{LeavesOnly}
use Rattle.qc_journal.specs.Journal.{disk_of}
use Rattle.qc_pair.specs.Fold.{folded_base, made_in, other_in, IsFullFor}
use Rattle.qc_pair.specs.Folding.{IsFolding}
use Rattle.qc_ledger.proofs.ledger.Ledger.checkpoint.Goals as goal

pub returns-in-Ok-clause-any_moment : goal.returns-in-Ok-clause-any_moment
returns-in-Ok-clause-any_moment g c = λ bodies k.
    let fold = c.args.fold.now in
    subst (λ (tuples : List Tuple). LeavesOnly g.D.Disk.view (disk_of (other_in fold)) (disk_of (other_in c.fold.new.self)) (IsFolding bodies (made_in fold) (folded_base fold tuples)))
    c.new.ensures.items (c.fold.ensures.any_moment bodies k)

pub returns-in-Ok-clause-room : goal.returns-in-Ok-clause-room
returns-in-Ok-clause-room g c = λ place. subst (λ (tuples : List Tuple). IsFullFor c.args.fold.now tuples place → ⊥) c.new.ensures.items (c.in-Ok.ensures.room place)

pub returns-in-Err-clause-any_moment : goal.returns-in-Err-clause-any_moment
returns-in-Err-clause-any_moment g c = λ bodies k.
    let fold = c.args.fold.now in
    subst (λ (tuples : List Tuple). LeavesOnly g.D.Disk.view (disk_of (other_in fold)) (disk_of (other_in c.fold.new.self)) (IsFolding bodies (made_in fold) (folded_base fold tuples)))
    c.new.ensures.items (c.fold.ensures.any_moment bodies k)
