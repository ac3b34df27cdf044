-- What a copy leaves that looks before it rises, and what a fault of a fold is to a checkpoint.
use Rattle.std.proofs.Common.{◌≡◌, ℕ, ◌+◌, List, refl, sym, ap, ◌∙◌, subst}
use Rattle.std.specs.Prelude.{Bool, not, if◌then◌else◌, None, Err, IsErrOf}
use Rattle.qc_config.specs.declared.tuple.Tuple.{Tuple}
use Rattle.qc_disk.specs.declared.disk.Disk.{Ghosts}
use Rattle.qc_event.specs.Base.{Setting}
use Rattle.qc_journal.specs.Journal.{disk_of}
use Rattle.qc_journal.specs.declared.fault.Fault.{Fault}
use Rattle.qc_journal.specs.declared.fault.Fault.TheVariants as fault
use Rattle.qc_ledger.specs.Runs.{Falls}
use Rattle.qc_pair.specs.Fold.{swapped_in, IsFullFor}
use Rattle.qc_pair.specs.Folding.{IsFoldNo}
use Rattle.qc_pair.specs.Pair.{number_at}
use Rattle.qc_pair.specs.declared.fold.Fold.{Fold}
use Rattle.qc_desk.specs.Entries.{IsOlder}
use Rattle.qc_site.specs.Calls.{GrantMoments, SiteState, SiteWroteNone}
use Rattle.qc_site.specs.Checkpoint.{fold_no, IsFoldRefusal}
use Rattle.qc_site.specs.Log.{log_journal}
use Rattle.qc_site.specs.declared.fault.SiteNo.{SiteNo}
use Rattle.qc_site.specs.declared.fault.SiteNo.TheVariants.{Disk}
use Rattle.qc_site.specs.declared.log.GrantLog.{GrantLog}
use Rattle.qc_site.proofs.PairMounts.{other_number}
use Rattle.qc_site.proofs.Since.{grants_on}

-- WHAT IS WRITTEN

-- it looked, and then nothing was written
pub none_then : {D : Type 0} {g : Ghosts D} (setting : Setting) (copy : ℕ) (old mid new : SiteState g) → mid.log ≡ old.log → IsOlder old.replica.pass.seen mid.replica.pass.seen → SiteWroteNone setting copy mid new
    → SiteWroteNone setting copy old new
none_then {D} {g} setting copy old mid new same older one = record {
  content = one.content ∙ ap (λ (l : GrantLog D g). (g.view (disk_of (log_journal l))).content) same;
  moments = subst (λ (l : GrantLog D g). GrantMoments setting copy None l new.log) same one.moments;
  falls = subst (λ (l : GrantLog D g). Falls (log_journal l) (log_journal new.log)) same one.falls;
  grown = λ before since grown.
      one.grown before since (grants_on setting copy before since old.log mid.log old.replica.pass.seen mid.replica.pass.seen (ap (λ (l : GrantLog D g). log_journal l) same) older grown);
}

-- WHAT IS SAID

module _ {D : Type 0} {g : Ghosts D} (copy : ℕ) (fold : Fold D g) (tuples : List Tuple) where
  -- a fault of a fold
  pub fold_refuses : (new : Fold D g) (f : Fault) (disk : ℕ) (said : SiteNo) → said ≡ fold_no disk f → disk ≡ (if swapped_in new then copy + 1 else copy + 1 + 17) → swapped_in new ≡ swapped_in fold
      → IsFoldNo f → ((place : ℕ) → f ≡ fault.Full place → IsFullFor fold tuples place) → IsFoldRefusal copy fold tuples said
  fold_refuses new f disk said is at same may full = subst (IsFoldRefusal copy fold tuples) (sym is) (by f may full)
    where
      by : (f : Fault) → IsFoldNo f → ((place : ℕ) → f ≡ fault.Full place → IsFullFor fold tuples place) → IsFoldRefusal copy fold tuples (fold_no disk f)
      by fault.Disk may full = tt
      by (fault.Broken place) may full = absurd may
      by (fault.Full place) may full = (at ∙ other_number (swapped_in new) (copy + 1) ∙ ap (λ (b : Bool). number_at (not b) (copy + 1)) same, full place refl)
      by fault.Memory may full = refl

-- a disk's fault is told where the disk failed, and nowhere else
pub fold_disk : {S T : Type 0} (f : Fault) (disk : ℕ) (said : SiteNo) → said ≡ fold_no disk f → IsFoldNo f → IsErrOf {T = T} (Err said) Disk → IsErrOf {T = S} (Err f) fault.Disk
fold_disk f disk said is may failed = let one : said ≡ Disk = cc in ap (λ x. Err x) (by f may (sym is ∙ one))
  where
    by : (f : Fault) → IsFoldNo f → fold_no disk f ≡ Disk → f ≡ fault.Disk
    by fault.Disk may at = refl
    by (fault.Broken place) may at = absurd may
    by (fault.Full place) may at = absurd cc
    by fault.Memory may at = absurd cc

pub disk_fold : {S T : Type 0} (f : Fault) (disk : ℕ) (said : SiteNo) → said ≡ fold_no disk f → IsErrOf {T = S} (Err f) fault.Disk → IsErrOf {T = T} (Err said) Disk
disk_fold f disk said is failed = let one : f ≡ fault.Disk = cc in ap (λ x. Err x) (is ∙ ap (fold_no disk) one)
