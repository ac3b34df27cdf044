-- What the mounting of a copy's pair gives, and why it is refused.
use Rattle.std.proofs.Common.{◌≡◌, inl, ℕ, ◌+◌, List, ◌++◌, refl, sym, ap, ◌∙◌, subst}
use Rattle.std.specs.Prelude.{◌↔◌, Bool, true, false, not, Option, IsSome, Result, Ok, Err, IfErr, if◌then◌else◌}
use Rattle.std.specs.Result.{IsErrAnd, IsErrOf}
use Rattle.qc_codec.specs.Base.{format_in}
use Rattle.qc_codec.specs.declared.image.ImageFault.{ImageFault}
use Rattle.qc_codec.specs.declared.past.Past.{Past}
use Rattle.qc_disk.specs.declared.disk.Disk.{Ghosts}
use Rattle.qc_event.specs.declared.short.Short.TheVariants as short
use Rattle.qc_event.specs.declared.table.Table.{Table}
use Rattle.qc_journal.specs.Journal.{Keeps}
use Rattle.qc_ledger.proofs.Halves.{active_failed, active_fault, fine_told, opened_half, LeavesHalf}
use Rattle.qc_pair.specs.Fold.{active_number, other_in, swapped_in}
use Rattle.qc_pair.specs.Opening.{active_told, HaveActive, IsMountNo, IsPairRefusal, MountsDisk, OpensPair}
use Rattle.qc_pair.specs.Pair.{active_of, number_at, number_of, other_of, swapped}
use Rattle.qc_pair.specs.declared.fault.PairNo.{PairNo}
use Rattle.qc_pair.specs.declared.fault.PairNo.TheVariants as no
use Rattle.qc_pair.specs.declared.fold.Fold.{Fold}
use Rattle.qc_pair.specs.declared.kind.Kind.TheVariants as kind
use Rattle.qc_pair.specs.declared.pair.Pair.{Pair}
use Rattle.qc_pair.proofs.Halves.{active_has, active_keeps, opens_fold}
use Rattle.qc_site.specs.Image.{to_write, AreGranted, AreMountableAsCopy, IsCopyFault}
use Rattle.qc_site.specs.Mounted.{journal_of, records_of}
use Rattle.qc_site.specs.Pairs.{own_found, pair_no, spare_found, FindsCopyPair}
use Rattle.qc_site.specs.Refusing.{IsOfCopyImage}
use Rattle.qc_site.specs.declared.fault.SiteNo.{SiteNo}
use Rattle.qc_site.specs.declared.fault.SiteNo.TheVariants.{Disk, Image, Strange, Short}
use Rattle.qc_site.specs.declared.mounted.Mounted.{Mounted}

-- the number of the other disk
pub other_number : (swapped : Bool) (who : ℕ) → (if swapped then who else who + 17) ≡ number_at (not swapped) who
other_number true who = refl
other_number false who = refl

-- WHICH DISK FAILED

-- a refusal is of a disk exactly where it was that disk that failed
fails_of : (disk n : ℕ) (refusal : SiteNo) → (pair_no disk refusal ≡ no.Disk n) ↔ ((n ≡ disk) × (refusal ≡ Disk))
fails_of disk n Disk = ((λ is. let same : disk ≡ n = cc in (sym same, refl)), (λ is. ap no.Disk (sym is.0)))
fails_of disk n (Image bad) = ((λ is. absurd cc), (λ is. let never : Image bad ≡ Disk = is.1 in absurd cc))
fails_of disk n Strange = ((λ is. absurd cc), (λ is. let never : Strange ≡ Disk = is.1 in absurd cc))
fails_of disk n (Short want) = ((λ is. absurd cc), (λ is. let never : Short want ≡ Disk = is.1 in absurd cc))

pub refused_fails : {T : Type 0} (disk n : ℕ) (refusal : SiteNo) (answer : PairNo) → answer ≡ pair_no disk refusal → (answer ≡ no.Disk n) ↔ ((n ≡ disk) × IsErrOf {T = T} (Err refusal) Disk)
refused_fails disk n refusal answer same = (
  (λ is. let both = (fails_of disk n refusal).0 (sym same ∙ is) in (both.0, ap (λ x. Err x) both.1)),
  (λ is. let one : refusal ≡ Disk = cc in same ∙ (fails_of disk n refusal).1 (is.0, one)),
)

-- none fails where there is no refusal
pub none_fails : {T : Type 0} (answer : T) (n disk : ℕ) → ⊥ ↔ ((n ≡ disk) × IsErrOf (Ok answer) Disk)
none_fails answer n disk = ((λ is. absurd is), (λ is. let never : Ok answer ≡ Err Disk = is.1 in absurd cc))

-- and for want of memory
pub not_for_memory : (n : ℕ) (answer : PairNo) → answer ≡ no.Memory → answer ≡ no.Disk n → ⊥
not_for_memory n answer same is = let one : no.Memory ≡ no.Disk n = sym same ∙ is in cc

-- WHERE IT WAS NOT OPENED

module _ (who : ℕ) (written : ℕ → List (List ℕ) → List (List ℕ)) {D : Type 0} (g : Ghosts D) (own spare : D) where
  -- a refusal of the opening leaves each disk
  pub own_refused : (r : Result (Mounted D g × Fold D g × ℕ) (D × D × PairNo)) (refused : D × D × PairNo) → IsErrAnd r (λ e. e ≡ refused) → MountsDisk g.view (refused.2 ≡ no.Disk who) own refused.0
      → LeavesHalf kind.Copy who written g own spare false (IsErrAnd r (λ e. e.2 ≡ no.Disk who)) own (own_found r)
  own_refused (Ok mounted) refused same left = absurd same
  own_refused (Err e) refused same left = subst (λ (x : D × D × PairNo). LeavesHalf kind.Copy who written g own spare false (x.2 ≡ no.Disk who) own x.0) (sym same)
      (opened_half kind.Copy who written g own spare false (refused.2 ≡ no.Disk who) (refused.2 ≡ no.Disk who) own refused.0 left (λ is. is) (λ is. is))

  pub spare_refused : (r : Result (Mounted D g × Fold D g × ℕ) (D × D × PairNo)) (refused : D × D × PairNo) → IsErrAnd r (λ e. e ≡ refused) → MountsDisk g.view (refused.2 ≡ no.Disk (who + 17)) spare refused.1
      → LeavesHalf kind.Copy who written g own spare true (IsErrAnd r (λ e. e.2 ≡ no.Disk (who + 17))) spare (spare_found r)
  spare_refused (Ok mounted) refused same left = absurd same
  spare_refused (Err e) refused same left = subst (λ (x : D × D × PairNo). LeavesHalf kind.Copy who written g own spare true (x.2 ≡ no.Disk (who + 17)) spare x.1) (sym same)
      (opened_half kind.Copy who written g own spare true (refused.2 ≡ no.Disk (who + 17)) (refused.2 ≡ no.Disk (who + 17)) spare refused.1 left (λ is. is) (λ is. is))

module _ (copy : ℕ) (table : Table) (past : Past) (limit : ℕ) (told spare_told : Option (List ℕ)) where
  abbrev tells : Bool → Option (List ℕ)
  tells is_spare = active_told kind.Copy (copy + 1) told spare_told is_spare

  abbrev HasFault : ℕ → List (List ℕ) → ImageFault → Type 0
  HasFault disk bodies fault = IsCopyFault disk table past limit bodies fault

  -- a pair may not be found in any format
  abbrev pub IsFindingNo : PairNo → Type 0
  IsFindingNo refusal = IsMountNo kind.Copy (copy + 1) told spare_told HasFault refusal

  -- it is one of the pair
  pub refused_so : {T S : Type 0} (r : Result T (S × S × PairNo)) (refused : S × S × PairNo) → IsErrAnd r (λ e. e ≡ refused) → IsPairRefusal kind.Copy (copy + 1) told spare_told refused.2
      → IfErr r (λ e. IsFindingNo e.2)
  refused_so (Ok x) refused same is = tt
  refused_so {T} {S} (Err e) refused same is = subst (λ (x : S × S × PairNo). IsFindingNo x.2) (sym same) (inl is)

  -- THE ACTIVE DISK

  -- so is a fault of it or of its bodies
  pub begin_refused : (is_spare : Bool) (disk : ℕ) (bodies : List (List ℕ)) (K : Type 0) (refusal : SiteNo) → disk ≡ number_at is_spare (copy + 1) → HaveActive kind.Copy (copy + 1) told spare_told is_spare bodies
      → (IsSome (tells is_spare) → K) → IsOfCopyImage disk (λ fault. K → IsCopyFault disk table past limit bodies fault) refusal → IsFindingNo (pair_no disk refusal)
  begin_refused is_spare disk bodies K Disk at active keeps is = active_failed kind.Copy (copy + 1) told spare_told HasFault is_spare disk at
  begin_refused is_spare disk bodies K (Image bad) at active keeps is = active_fault kind.Copy (copy + 1) told spare_told HasFault is_spare disk at bodies bad active is.0 (λ some. is.1 (keeps some))
  begin_refused is_spare disk bodies K Strange at active keeps is = absurd is
  begin_refused is_spare disk bodies K (Short short.Memory) at active keeps is = inl tt
  begin_refused is_spare disk bodies K (Short short.Room) at active keeps is = absurd is

  -- what was begun over the active journal of an opened pair mounts it
  pub copy_mounted : {D : Type 0} {g : Ghosts D} (pair : Pair D g) (fold : Fold D g) (mounted : Mounted D g) (disk : ℕ) (found : List (List ℕ)) → OpensPair kind.Copy (copy + 1) told spare_told pair found
      → other_in fold ≡ other_of pair → active_number fold ≡ number_of pair → swapped_in fold ≡ swapped pair
      → disk ≡ number_at (swapped pair) (copy + 1) → (format : ℕ) → format ≡ format_in found → AreGranted disk table past found → (Keeps (active_of pair) found → AreMountableAsCopy disk table past limit found)
      → records_of mounted ≡ found ++ to_write disk table found → (Keeps (active_of pair) found → Keeps (journal_of mounted) (records_of mounted))
      → FindsCopyPair copy table past limit format told spare_told mounted fold
  copy_mounted pair fold mounted disk found opened other number same is format format_is granted fine all kept =
      let which = swapped_in fold in
      let at : disk ≡ number_at which (copy + 1) = is ∙ ap (λ (s : Bool). number_at s (copy + 1)) (sym same) in
      let opens = opens_fold kind.Copy (copy + 1) told spare_told pair fold found opened other number same in
      let keeps : IsSome (tells which) → Keeps (active_of pair) found = λ some. active_keeps kind.Copy (copy + 1) told spare_told pair found opened (subst (λ (s : Bool). IsSome (tells s)) same some) in
      record {
        mounts = record {
          found = found;
          format_is = sym format_is;
          granted = subst (λ (n : ℕ). AreGranted n table past found) at granted;
          fine = fine_told (AreMountableAsCopy (number_at which (copy + 1)) table past limit found) (tells which) found (active_has kind.Copy (copy + 1) told spare_told which found opens.have)
              (λ some. subst (λ (n : ℕ). AreMountableAsCopy n table past limit found) at (fine (keeps some)));
          all = all ∙ ap (λ (n : ℕ). found ++ to_write n table found) at;
        };
        opens = opens;
        keeps = λ some. kept (keeps some);
      }
