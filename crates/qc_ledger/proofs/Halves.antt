-- What the mounting of a pair leaves of each of its disks, and why it is refused.
use Rattle.std.proofs.Common.{◌≡◌, inl, inr, ℕ, ◌+◌, List, ◌++◌, refl, sym, ap, ◌∙◌, subst, arith}
use Rattle.std.specs.Prelude.{◌↔◌, Bool, true, false, Option, None, Some, IfSome, IsSome, Ok, Err, if◌then◌else◌}
use Rattle.std.specs.Result.{IsErrOf}
use Rattle.qc_disk.specs.Disk.{CountsOnce, HasCause}
use Rattle.qc_disk.specs.declared.disk.Disk.{Ghosts}
use Rattle.qc_event.specs.declared.short.Short.TheVariants as short
use Rattle.qc_event.specs.declared.table.Table.{Table}
use Rattle.qc_codec.specs.Ledger.{past_in}
use Rattle.qc_codec.specs.declared.image.BadImage.{BadImage}
use Rattle.qc_codec.specs.declared.image.ImageFault.{ImageFault}
use Rattle.qc_codec.specs.declared.past.Past.{Past}
use Rattle.qc_journal.specs.Image.{HasAt, HasRecords}
use Rattle.qc_journal.specs.Journal.{Keeps, disk_of}
use Rattle.qc_journal.specs.declared.journal.Journal.{Journal}
use Rattle.qc_journal.proofs.Moments.{continues, grows_on, weakened}
use Rattle.qc_ledger.specs.Image.{AreLedgers, AreMountableAsLedger, IsLedgerFault, to_write}
use Rattle.qc_ledger.specs.Mounted.{HasSome, journal_of, records_of}
use Rattle.qc_ledger.specs.Pairs.{IsLedgerPairNo, MountsHalf, MountsLedgerPair, pair_no}
use Rattle.qc_ledger.specs.Refusing.{IsOfLedgerImage}
use Rattle.qc_ledger.specs.Runs.{Costs, CostsOnce, Leaves, LosesNone}
use Rattle.qc_ledger.specs.declared.book.Book.{Book}
use Rattle.qc_ledger.specs.declared.fault.LedgerNo.{LedgerNo}
use Rattle.qc_ledger.specs.declared.fault.LedgerNo.TheVariants as ledger_no
use Rattle.qc_pair.specs.Fold.{active_number, other_in, own_disk, spare_disk, swapped_in}
use Rattle.qc_pair.specs.Opening.{active_told, HaveActive, IsMountNo, MountsDisk, OpensPair}
use Rattle.qc_pair.specs.Pair.{active_of, number_at, number_of, other_of, swapped}
use Rattle.qc_pair.specs.declared.fault.PairNo.{PairNo}
use Rattle.qc_pair.specs.declared.fault.PairNo.TheVariants.{Disk, Image}
use Rattle.qc_pair.specs.declared.fold.Fold.{Fold}
use Rattle.qc_pair.specs.declared.kind.Kind.{Kind}
use Rattle.qc_pair.specs.declared.kind.Kind.TheVariants as kind
use Rattle.qc_pair.specs.declared.pair.Pair.{Pair}
use Rattle.qc_pair.proofs.Halves.{active_has, active_keeps, opens_fold}

-- COSTS

module _ (before now : ℕ) (P Q : Type 0) where
  cause_by : (Q → P) → HasCause before now P → HasCause before now Q
  cause_by same cause = record { later = cause.later; failed = λ is. cause.failed (same is) }

  counts_by : (P → Q) → CountsOnce before now P → CountsOnce before now Q
  counts_by same counts = record { once = counts.once; spared = λ never. counts.spared (λ is. never (same is)) }

-- BOTH DISKS

-- What is written behind the bodies that a journal keeps leaves of it, and costs.
pub record GoesBehind {D : Type 0} {g : Ghosts D} (bodies more : List (List ℕ)) (Failed : Type 0) (old new : Journal D g) : Type 0 where
  pub any_moment : Keeps old bodies → Leaves old new (HasSome bodies more)
  pub grows : Keeps old bodies → LosesNone old new
  pub cause : Costs old new Failed
  pub counts_once : CostsOnce old new Failed

module _ (kind : Kind) (who : ℕ) (written : ℕ → List (List ℕ) → List (List ℕ)) {D : Type 0} (g : Ghosts D) (own spare : D) where
  -- what an active disk is, by which of both it is
  abbrev pub IsActive : Bool → List (List ℕ) → Type 0
  IsActive is_spare bodies = HaveActive kind who (g.view own).content (g.view spare).content is_spare bodies

  abbrev pub IsActiveTold : Bool → Type 0
  IsActiveTold is_spare = IsSome (active_told kind who (g.view own).content (g.view spare).content is_spare)

  -- what a mounting leaves of one of both disks
  abbrev pub LeavesHalf : Bool → Type 0 → D → D → Type 0
  LeavesHalf is_spare Failed old new = MountsHalf kind who (g.view own).content (g.view spare).content written is_spare g.view Failed old new

  -- an opening alone leaves it
  pub opened_half : (is_spare : Bool) (Opened Failed : Type 0) (old new : D) → MountsDisk g.view Opened old new → (Opened → Failed) → (Failed → Opened) → LeavesHalf is_spare Failed old new
  opened_half is_spare Opened Failed old new opened to from = record {
    any_moment = λ some. weakened g.view old new _ _ opened.any_moment (λ image left. inl left);
    grows = opened.grows;
    cause = cause_by _ _ Opened Failed from opened.cause;
    counts_once = counts_by _ _ Opened Failed to opened.counts_once;
  }

  -- and what is written behind the active bodies
  active_half : (is_spare : Bool) (bodies : List (List ℕ)) (Opened Failed : Type 0) (old : D) (mid new : Journal D g) → MountsDisk g.view Opened old (disk_of mid) → (Opened → ⊥)
      → IsActive is_spare bodies → (IsSome (g.view old).content → Keeps mid bodies) → GoesBehind bodies (written (number_at is_spare who) bodies) Failed mid new → LeavesHalf is_spare Failed old (disk_of new)
  active_half is_spare bodies Opened Failed old mid new opened never active keeps behind =
      let spared = opened.counts_once.spared never in
      record {
        any_moment = λ some. continues g.view old (disk_of mid) (disk_of new) _ (HasSome bodies (written (number_at is_spare who) bodies)) _
            opened.any_moment (behind.any_moment (keeps some)) (λ image left. inl left) (λ image has. inr (bodies, active, has));
        grows = λ some index had. grows_on g.view old (disk_of mid) (disk_of new) (HasAt index had) (HasSome bodies (written (number_at is_spare who) bodies)) opened.any_moment.later
            (opened.grows some index had) (behind.any_moment (keeps some)) (behind.grows (keeps some) index had);
        cause = subst (λ (n : ℕ). HasCause n (g.view (disk_of new)).faults Failed) spared behind.cause;
        counts_once = subst (λ (n : ℕ). CountsOnce n (g.view (disk_of new)).faults Failed) spared behind.counts_once;
      }

  -- what is written behind the active bodies, where a disk of the active one's number may fail by it
  active_begun : (is_spare : Bool) (bodies : List (List ℕ)) (disk : ℕ) (Wrote Failed : Type 0) (active new : Journal D g) → disk ≡ number_at is_spare who → GoesBehind bodies (written disk bodies) Wrote active new
      → (Failed → Wrote) → (Wrote → Failed) → GoesBehind bodies (written (number_at is_spare who) bodies) Failed active new
  active_begun is_spare bodies disk Wrote Failed active new at behind from to = record {
    any_moment = subst (λ (n : ℕ). Keeps active bodies → Leaves active new (HasSome bodies (written n bodies))) at behind.any_moment;
    grows = behind.grows;
    cause = cause_by _ _ Wrote Failed from behind.cause;
    counts_once = counts_by _ _ Wrote Failed to behind.counts_once;
  }

  module _ (bodies : List (List ℕ)) (Opened Wrote : Type 0) (Failed : ℕ → Type 0) (disk : ℕ) (active other new : Journal D g) where
    -- a disk of this number failed exactly where it was the active one, and what was written behind its bodies failed
    abbrev pub FailsActive : ℕ → Type 0
    FailsActive n = Failed n ↔ ((n ≡ disk) × Wrote)

    -- of the disk itself
    pub own_begun : (is_spare : Bool) → disk ≡ number_at is_spare who → MountsDisk g.view Opened own (disk_of (if is_spare then other else active)) → (Opened → ⊥)
        → IsActive is_spare bodies → (IsActiveTold is_spare → Keeps active bodies) → GoesBehind bodies (written disk bodies) Wrote active new → FailsActive who
        → LeavesHalf false (Failed who) own (disk_of (if is_spare then other else new))
    own_begun true at opened never is keeps behind fails =
        opened_half false Opened (Failed who) own (disk_of other) opened (λ no_disk. absurd (never no_disk)) (λ failed. absurd (omega (arith, at, (fails.0 failed).0)))
    own_begun false at opened never is keeps behind fails =
        active_half false bodies Opened (Failed who) own active new opened never is keeps
        (active_begun false bodies disk Wrote (Failed who) active new at behind (λ failed. (fails.0 failed).1) (λ wrote. fails.1 (sym at, wrote)))

    -- of the spare
    pub spare_begun : (is_spare : Bool) → disk ≡ number_at is_spare who → MountsDisk g.view Opened spare (disk_of (if is_spare then active else other)) → (Opened → ⊥)
        → IsActive is_spare bodies → (IsActiveTold is_spare → Keeps active bodies) → GoesBehind bodies (written disk bodies) Wrote active new → FailsActive (who + 17)
        → LeavesHalf true (Failed (who + 17)) spare (disk_of (if is_spare then new else other))
    spare_begun true at opened never is keeps behind fails =
        active_half true bodies Opened (Failed (who + 17)) spare active new opened never is keeps
        (active_begun true bodies disk Wrote (Failed (who + 17)) active new at behind (λ failed. (fails.0 failed).1) (λ wrote. fails.1 (sym at, wrote)))
    spare_begun false at opened never is keeps behind fails =
        opened_half true Opened (Failed (who + 17)) spare (disk_of other) opened (λ no_disk. absurd (never no_disk)) (λ failed. absurd (omega (arith, at, (fails.0 failed).0)))

-- THE FOLD

module _ {D : Type 0} {g : Ghosts D} (fold : Fold D g) (journal active other : Journal D g) (is_spare : Bool) (same : journal ≡ active) (other_same : other_in fold ≡ other) (swapped_same : swapped_in fold ≡ is_spare) where
  picked : (s : Bool) (a b : Journal D g) → (if s then disk_of a else disk_of b) ≡ disk_of (if s then a else b)
  picked true a b = refl
  picked false a b = refl

  -- the disks of a pair that was parted are those that it had
  pub own_parted : own_disk fold (disk_of journal) ≡ disk_of (if is_spare then other else active)
  own_parted =
      picked (swapped_in fold) (other_in fold) journal
      ∙ ap (λ (s : Bool). disk_of (if s then other_in fold else journal)) swapped_same
      ∙ ap (λ (j : Journal D g). disk_of (if is_spare then j else journal)) other_same
      ∙ ap (λ (j : Journal D g). disk_of (if is_spare then other else j)) same

  pub spare_parted : spare_disk fold (disk_of journal) ≡ disk_of (if is_spare then active else other)
  spare_parted =
      picked (swapped_in fold) journal (other_in fold)
      ∙ ap (λ (s : Bool). disk_of (if s then journal else other_in fold)) swapped_same
      ∙ ap (λ (j : Journal D g). disk_of (if is_spare then journal else j)) other_same
      ∙ ap (λ (j : Journal D g). disk_of (if is_spare then j else other)) same

-- REFUSALS

module _ (kind : Kind) (who : ℕ) (told spare_told : Option (List ℕ)) (Has : ℕ → List (List ℕ) → ImageFault → Type 0) (is_spare : Bool) (disk : ℕ) (is : disk ≡ number_at is_spare who) where
  -- the active disk failed
  pub active_failed : IsMountNo kind who told spare_told Has (Disk disk)
  active_failed = by is_spare is
    where
      by : (s : Bool) → disk ≡ number_at s who → IsMountNo kind who told spare_told Has (Disk disk)
      by true at = inl (inr at)
      by false at = inl (inl at)

  -- its bodies have a fault
  pub active_fault : (bodies : List (List ℕ)) (bad : BadImage) → HaveActive kind who told spare_told is_spare bodies → bad.disk ≡ disk
      → (IsSome (active_told kind who told spare_told is_spare) → Has disk bodies bad.fault) → IsMountNo kind who told spare_told Has (Image bad)
  active_fault bodies bad active at has = inr (is_spare, bodies, active, at ∙ is, (λ some. subst (λ (n : ℕ). Has n bodies bad.fault) (sym at) (has some)))

-- what the bytes have, and what holds where they are told
pub fine_told : (Fine : Type 0) (told : Option (List ℕ)) (found : List (List ℕ)) → IfSome told (HasRecords found) → (IsSome told → Fine) → IfSome told (λ bytes. HasRecords found bytes × Fine)
fine_told Fine None found has fine = tt
fine_told Fine (Some bytes) found has fine = (has, fine refl)

-- THE LEDGER'S PAIR

-- a refusal is of the disk exactly where it was the disk that failed
fails_of : (disk n : ℕ) (refusal : LedgerNo) → (pair_no disk refusal ≡ Disk n) ↔ ((n ≡ disk) × (refusal ≡ ledger_no.Disk))
fails_of disk n ledger_no.Disk = ((λ is. let same : disk ≡ n = cc in (sym same, refl)), (λ is. ap Disk (sym is.0)))
fails_of disk n (ledger_no.Image bad) = ((λ is. absurd cc), (λ is. let never : ledger_no.Image bad ≡ ledger_no.Disk = is.1 in absurd cc))
fails_of disk n (ledger_no.Full place) = ((λ is. absurd cc), (λ is. let never : ledger_no.Full place ≡ ledger_no.Disk = is.1 in absurd cc))
fails_of disk n (ledger_no.Short why) = ((λ is. absurd cc), (λ is. let never : ledger_no.Short why ≡ ledger_no.Disk = is.1 in absurd cc))

pub refused_fails : {T : Type 0} (disk n : ℕ) (refusal : LedgerNo) (answer : PairNo) → answer ≡ pair_no disk refusal → (answer ≡ Disk n) ↔ ((n ≡ disk) × IsErrOf {T = T} (Err refusal) ledger_no.Disk)
refused_fails disk n refusal answer same = (
  (λ is. let both = (fails_of disk n refusal).0 (sym same ∙ is) in (both.0, ap Err both.1)),
  (λ is. let one : refusal ≡ ledger_no.Disk = cc in same ∙ (fails_of disk n refusal).1 (is.0, one)),
)

-- none fails
pub none_fails : {T : Type 0} (answer : T) (n disk : ℕ) → ⊥ ↔ ((n ≡ disk) × IsErrOf (Ok answer) ledger_no.Disk)
none_fails answer n disk = ((λ is. absurd is), (λ is. let never : Ok answer ≡ Err ledger_no.Disk = is.1 in absurd cc))

module _ (table : Table) (limit : ℕ) (told spare_told : Option (List ℕ)) where
  -- a fault of the active disk or of its bodies is the pair's
  pub ledger_refused : (is_spare : Bool) (disk : ℕ) (bodies : List (List ℕ)) (K : Type 0) (refusal : LedgerNo) → disk ≡ number_at is_spare 0 → HaveActive kind.Ledger 0 told spare_told is_spare bodies
      → (IsSome (active_told kind.Ledger 0 told spare_told is_spare) → K) → IsOfLedgerImage disk (λ fault. K → IsLedgerFault disk table limit bodies fault) refusal → IsLedgerPairNo table limit told spare_told (pair_no disk refusal)
  ledger_refused is_spare disk bodies K ledger_no.Disk at active keeps is = active_failed kind.Ledger 0 told spare_told (λ n b f. IsLedgerFault n table limit b f) is_spare disk at
  ledger_refused is_spare disk bodies K (ledger_no.Image bad) at active keeps is = active_fault kind.Ledger 0 told spare_told (λ n b f. IsLedgerFault n table limit b f) is_spare disk at bodies bad active is.0 (λ some. is.1 (keeps some))
  ledger_refused is_spare disk bodies K (ledger_no.Full place) at active keeps is = absurd is
  ledger_refused is_spare disk bodies K (ledger_no.Short short.Memory) at active keeps is = inl tt
  ledger_refused is_spare disk bodies K (ledger_no.Short short.Room) at active keeps is = absurd is

  -- what was begun over the active journal of an opened pair mounts it
  pub ledger_mounted : {D : Type 0} {g : Ghosts D} (pair : Pair D g) (fold : Fold D g) (book : Book D g) (disk : ℕ) (bodies : List (List ℕ)) (past : Past) → OpensPair kind.Ledger 0 told spare_told pair bodies
      → other_in fold ≡ other_of pair → active_number fold ≡ number_of pair → swapped_in fold ≡ swapped pair
      → disk ≡ number_at (swapped pair) 0 → AreLedgers disk table bodies → (Keeps (active_of pair) bodies → AreMountableAsLedger disk table limit bodies) → past ≡ past_in bodies
      → records_of book ≡ bodies ++ to_write disk table bodies → (Keeps (active_of pair) bodies → Keeps (journal_of book) (records_of book))
      → MountsLedgerPair table limit told spare_told book fold past (past.epoch + 1)
  ledger_mounted pair fold book disk bodies past opened other number swapped_same is ledgers fine past_is records kept =
      let which = swapped_in fold in
      let at : disk ≡ number_at which 0 = is ∙ ap (λ (s : Bool). number_at s 0) (sym swapped_same) in
      let opens = opens_fold kind.Ledger 0 told spare_told pair fold bodies opened other number swapped_same in
      let keeps : IsSome (active_told kind.Ledger 0 told spare_told which) → Keeps (active_of pair) bodies = λ some.
      active_keeps kind.Ledger 0 told spare_told pair bodies opened (subst (λ (s : Bool). IsSome (active_told kind.Ledger 0 told spare_told s)) swapped_same some) in
      record {
        mounts = record {
          found = bodies;
          ledgers = subst (λ (n : ℕ). AreLedgers n table bodies) at ledgers;
          fine = fine_told (AreMountableAsLedger (number_at which 0) table limit bodies) (active_told kind.Ledger 0 told spare_told which) bodies (active_has kind.Ledger 0 told spare_told which bodies opens.have)
              (λ some. subst (λ (n : ℕ). AreMountableAsLedger n table limit bodies) at (fine (keeps some)));
          past_is = past_is;
          next = refl;
          all = records ∙ ap (λ (n : ℕ). bodies ++ to_write n table bodies) at;
        };
        opens = opens;
        keeps = λ some. kept (keeps some);
      }
