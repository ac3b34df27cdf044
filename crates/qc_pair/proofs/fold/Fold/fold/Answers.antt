-- What is folded is the base of the run.
use Rattle.std.proofs.Common.{◌∙◌, refl}
use Rattle.qc_journal.specs.Journal.{disk_of}
use Rattle.qc_pair.specs.Fold.{folded_base, made_in, other_in}
use Rattle.qc_pair.proofs.Folds.{room_for, same_run}
use Rattle.qc_pair.proofs.fold.Fold.fold.Goals as goal

pub returns-clause-room : goal.returns-clause-room
returns-clause-room g c = room_for c.args.self.now (folded_base c.args.self.now c.args.tuples.items) _ _ c.fold_base.result
    refl (c.deref.ensures.value ∙ c.in_ok-base.ensures.base) c.in_ok-base.ensures.some c.fold_base.ensures.room

pub returns-clause-any_moment : goal.returns-clause-any_moment
returns-clause-any_moment g c = λ bodies k.
    same_run g.D.Disk.view (disk_of (other_in c.args.self.now)) (disk_of (other_in c.fold_base.new.self)) bodies _ _
    (made_in c.args.self.now) (folded_base c.args.self.now c.args.tuples.items)
    refl (c.deref.ensures.value ∙ c.in_ok-base.ensures.base) (c.fold_base.ensures.any_moment bodies k)
