-- What is folded is the made body.
use Rattle.std.proofs.Common.{ℕ, List, refl, subst}
use Rattle.std.specs.Prelude.{OnOk}
use Rattle.qc_journal.specs.Journal.{disk_of, limit_of}
use Rattle.qc_pair.specs.Fold.{made_in, other_in}
use Rattle.qc_pair.specs.Folding.{IsFullFold}
use Rattle.qc_pair.proofs.Folds.{same_run}
use Rattle.qc_pair.proofs.fold.Fold.fold_base.Goals as goal

pub returns-clause-room : goal.returns-clause-room
returns-clause-room g c =
    subst (λ (m : List ℕ). OnOk c.fold.result ((place : ℕ) → IsFullFold (limit_of (other_in c.args.self.now)) m c.args.base.now place → ⊥)) c.deref.ensures.value c.fold.ensures.room

pub returns-clause-any_moment : goal.returns-clause-any_moment
returns-clause-any_moment g c = λ bodies k.
    same_run g.D.Disk.view (disk_of (other_in c.args.self.now)) (disk_of c.fold.new.journal) bodies _ _ (made_in c.args.self.now) c.args.base.now
    c.deref.ensures.value refl (c.fold.ensures.any_moment bodies k)
