-- Where a copy's pair was not folded, the ledger's is not.
use Rattle.std.proofs.Common.{inl, length}
use Rattle.qc_event.specs.Tables.{setting_of}
use Rattle.qc_journal.specs.Journal.{disk_of}
use Rattle.qc_pair.specs.Fold.{other_in}
use Rattle.qc_system.proofs.OtherDisks.{other_keeps}
use Rattle.qc_system.proofs.finish.fold_last.Goals as goal

pub returns-else-folding-clause-left : goal.returns-else-folding-clause-left
returns-else-folding-clause-left g c = λ past older.
    inl (other_keeps (length g.N.Store.base) (setting_of g.N.Store.table g.N.Store.base) g.N.Mounting.found 0 c.args.fold.now (g.met.D.Disk.leaves_now (disk_of (other_in c.args.fold.now)).disk.value) ∣ c.requires.other ∣₁)
