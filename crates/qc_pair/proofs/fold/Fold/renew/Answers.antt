-- What is folded is the base as of the epoch.
use Rattle.std.proofs.Common.{ℕ, List, ◌∙◌, refl}
use Rattle.std.specs.Prelude.{Ok}
use Rattle.qc_journal.specs.Journal.{disk_of}
use Rattle.qc_journal.specs.declared.fault.Fault.{Fault}
use Rattle.qc_pair.specs.Fold.{made_in, other_in, renewed_base}
use Rattle.qc_pair.proofs.Folds.{room_for, same_run}
use Rattle.qc_pair.proofs.fold.Fold.renew.Goals as goal

pub returns-in-Err-fold_base-clause-any_moment : goal.returns-in-Err-fold_base-clause-any_moment
returns-in-Err-fold_base-clause-any_moment g c = λ bodies k.
    same_run g.D.Disk.view (disk_of (other_in c.args.self)) _ bodies _ _ (made_in c.args.self) (renewed_base c.args.self c.args.epoch c.args.tuples.items)
    refl (c.deref.ensures.value ∙ c.in-Ok.ensures.base) (c.fold_base.ensures.any_moment bodies k)

pub returns-clause-room : goal.returns-clause-room
returns-clause-room g c = room_for {T = Unit {0}} {E = Fault} c.args.self (renewed_base c.args.self c.args.epoch c.args.tuples.items) _ _ (Ok tt)
    refl (c.deref.ensures.value ∙ c.in-Ok.ensures.base) c.in-Ok.ensures.some c.in-Ok-fold_base.ensures.room

pub returns-clause-any_moment : goal.returns-clause-any_moment
returns-clause-any_moment g c = λ bodies k.
    same_run g.D.Disk.view (disk_of (other_in c.args.self)) _ bodies _ _ (made_in c.args.self) (renewed_base c.args.self c.args.epoch c.args.tuples.items)
    refl (c.deref.ensures.value ∙ c.in-Ok.ensures.base) (c.fold_base.ensures.any_moment bodies k)
