-- What the parts of a run keep, each said once.
use Rattle.std.specs.Prelude.{ℕ, ◌≤◌, ◌≡◌, ◌≢◌, ◌⊎◌, List, [], ◌++◌, All, length, reverse, IfSome}
use Rattle.qc_audit.specs.Saved.{saved_text, IsSaved}
use Rattle.qc_config.specs.declared.tuple.Tuple.{Tuple}
use Rattle.qc_disk.specs.Disk.{DiskView}
use Rattle.qc_disk.specs.Shop.{TellsAlike, disks_of_place, ShopView as Shop}
use Rattle.qc_event.specs.History.{Name, limit}
use Rattle.qc_event.specs.Legal.{Legal}
use Rattle.qc_event.specs.Standing.{HasEnded}
use Rattle.qc_event.specs.Tables.{base_of, setting_of}
use Rattle.qc_event.specs.declared.event.Entry.{Entry}
use Rattle.qc_event.specs.declared.short.Short.{Short}
use Rattle.qc_event.specs.declared.short.Short.TheVariants as short
use Rattle.qc_event.specs.declared.table.Table.{Table}
use Rattle.qc_io.specs.Io.{Rose, Keeps, Appends, AppendsFront, SinkView, SourceView}
use Rattle.qc_opening.specs.Disks.{by_place, first_numbers}
use Rattle.qc_opening.specs.Images.{AreSound, IsFirstFault, Offers}
use Rattle.qc_opening.specs.Pairs.{HaveNoGrantsInPairs}
use Rattle.qc_opening.specs.Refusing.{disks_in, ComeBack}
use Rattle.qc_opening.specs.declared.mount_no.MountNo.{MountNo}
use Rattle.qc_opening.specs.declared.mount_no.MountNo.TheVariants as no
use Rattle.qc_opening.specs.SinceFolds.{SinceFolds}
use Rattle.qc_opening.specs.Stored.{AllTell, AreImages, HaveGrown, HavePaid, UnablesHadCause, WereFolded}
use Rattle.qc_refine.specs.Pairs.{RestoreInPairs, StandInPairsWithin}
use Rattle.qc_report.specs.Report.{Text}
use Rattle.qc_script.specs.Plan.{ScriptPlan}
use Rattle.qc_script.specs.Reading.{IsScript, ScriptIsRefused}
use Rattle.qc_script.specs.declared.bad_script.BadScript.TheVariants.{Memory}
use Rattle.qc_trail_codec.specs.declared.record.SavedTrail.{SavedTrail}
use Rattle.qc_run.specs.Run.{journal_limit, form_of, text_by, BeginsIn, FollowsIn, IsDiskFault, IsInDoubt, IsOrMemory, IsReported, IsTold, NoneBegun, RanToEnd, ReadsScript, RunsScript, TellsFault}
use Rattle.qc_run.specs.Audit.{IsAudited, MayAudit}
use Rattle.qc_run.specs.Words.{place_of, IsAudit, IsNoCommand, IsReading}
use Rattle.qc_run.specs.declared.finishing.Form.{Form}
use Rattle.qc_run.specs.declared.finishing.Form.TheVariants.{Summary, Trail}
use Rattle.qc_run.specs.declared.ran.Ran.{Ran}
use Rattle.qc_run.specs.declared.status.Status.{Status}
use Rattle.qc_run.specs.declared.status.Status.TheVariants as status

-- What was written, by the status: a text, a front of it, a fault's line, or nothing.
pub record Wrote (before now : SinkView) (answer : Status) (text : Text) : Type 0 where
  pub whole : IsReported answer → Appends before.taken now.taken text
  pub front : answer ≡ status.WriteFault → AppendsFront before.taken now.taken text
  pub line : IsTold answer → TellsFault before.taken now.taken before.faults now.faults answer
  pub none : answer ≡ status.Memory → Keeps before.taken now.taken
  pub cause : answer ≡ status.WriteFault → Rose before.faults now.faults
  pub faults : before.faults ≤ now.faults

-- a trail that is written as it is saved is one that can be read
abbrev pub IsSavedBy : Form → Table → List (List Tuple) → List Entry → Type 0
IsSavedBy Trail table start trail = let whole : SavedTrail = record { base = start; entries = trail } in IsSaved table whole (saved_text table whole)
IsSavedBy _ table start trail = Unit {0}

-- what a session that was run may answer
abbrev pub IsPerformed : Status → Type 0
IsPerformed status.Done = Unit {0}
IsPerformed status.InDoubt = Unit {0}
IsPerformed status.WriteFault = Unit {0}
IsPerformed status.Memory = Unit {0}
IsPerformed status.Room = Unit {0}
IsPerformed _ = ⊥

-- what a session that ran to its end may answer
abbrev pub IsConcluded : Status → Type 0
IsConcluded status.Room = ⊥
IsConcluded answer = IsPerformed answer

-- what is answered for want of memory or room
abbrev pub IsHalted : Short → Status → Type 0
IsHalted short.Memory answer = answer ≡ status.Memory
IsHalted short.Room answer = answer ≡ status.Room

-- whether a top is in doubt, by the status
abbrev pub TellsDoubt : Status → List Entry → Type 0
TellsDoubt status.Done trail = (top : Name) → IsInDoubt (reverse trail) top → ⊥
TellsDoubt status.InDoubt trail = (top : Name) × IsInDoubt (reverse trail) top
TellsDoubt _ trail = Unit {0}

-- Nothing was begun, and what is told is the fault, whatever a report would be.
pub record IsRefusedRun {D : Type 0} (before now : SinkView) (ran : Ran D) : Type 0 where
  pub none : NoneBegun ran.start ran.trail
  pub wrote : (text : Text) → Wrote before now ran.status text

-- Nor was a disk obtained.
pub record IsEarly {D : Type 0} (before now : SinkView) (ran : Ran D) : Type 0 where
  pub refusal : IsRefusedRun before now ran
  pub no_disks : ran.disks.items ≡ []

-- A shop gave so many disks of a place, the first ones of a store of so many copies. Of the others it tells as before.
pub record HasGiven (copies : ℕ) (place : Text) (before now : Shop) (many : ℕ) : Type 0 where
  pub gave : now.gave ≡ before.gave ++ disks_of_place place (first_numbers copies many)
  pub others : (p : Text) (n : ℕ) → All (λ which. n ≢ which) (first_numbers copies many) → TellsAlike before now p n

module _ {D : Type 0} (view : D → DiskView) (s : ScriptPlan) (shop : Shop) (place : Text) where
  -- The session of a script was run, from what the disks of a store restored, and left this.
  pub record HasRun (ran : Ran D) : Type 0 where
    pub answer : IsPerformed ran.status
    pub epoch : ℕ
    pub legal : Legal (setting_of s.table ran.start) (reverse ran.trail)
    pub begins : BeginsIn epoch s ran.trail
    pub follows : RanToEnd ran.status → FollowsIn epoch s ran.trail
    pub room : ran.status ≡ status.Room → length ran.trail ≡ limit
    pub doubt : TellsDoubt ran.status ran.trail
    pub sound : (images : List (List ℕ)) → Offers s.table (shop.offers place) images → AreSound s.table journal_limit images
    pub restores : (images : List (List ℕ)) → Offers s.table (shop.offers place) images → RestoreInPairs s.table images ran.start
    pub first : HaveNoGrantsInPairs s.table (by_place s.table.copies (shop.offers place)) → ran.start ≡ base_of s.table
    pub stands : AllTell s.table.copies (by_place s.table.copies (shop.offers place)) → (images : List (List ℕ)) → AreImages view ran.disks.items images
        → ∥ StandInPairsWithin 1 s.table ran.start epoch (reverse ran.trail) images ∥₁
    pub grown : SinceFolds s.table (by_place s.table.copies (shop.offers place)) (λ now. HaveGrown view s.table now epoch ran.start ran.disks.items (reverse ran.trail))
    pub paid : SinceFolds s.table (by_place s.table.copies (shop.offers place)) (λ now. HavePaid view s.table now (by_place s.table.copies (shop.counts place)) epoch ran.start ran.disks.items (reverse ran.trail))
    pub unable : SinceFolds s.table (by_place s.table.copies (shop.offers place)) (λ now. UnablesHadCause s.table journal_limit now epoch ran.start (reverse ran.trail))
    pub folded : RanToEnd ran.status → HasEnded (reverse ran.trail)
        → SinceFolds s.table (by_place s.table.copies (shop.offers place)) (λ now. WereFolded view s.table journal_limit now (by_place s.table.copies (shop.counts place)) epoch ran.start ran.disks.items (reverse ran.trail))

  -- why no store was mounted, where the shop's count of faults is this now
  abbrev pub IsUnmounted : ℕ → List D → Status → Type 0
  IsUnmounted now disks (status.DiskFault which) = IsDiskFault view s.table.copies shop.faults now (shop.counts place) disks which
  IsUnmounted now disks (status.Image bad) = (images : List (List ℕ)) → Offers s.table (shop.offers place) images → IsFirstFault s.table journal_limit bad images
  IsUnmounted now disks status.Memory = Unit {0}
  IsUnmounted now disks _ = ⊥

  -- the disks that the shop gave come back, each as a mounting that was refused left it
  abbrev pub CameBack : List D → Type 0
  CameBack disks = (refused : MountNo D) × (disks_in refused ≡ disks) × ComeBack view (shop.offers place) (shop.counts place) s.table refused

  -- No store was mounted, where the shop's count of faults is this now, and nothing was begun.
  pub record WasUnmounted (now : ℕ) (ran : Ran D) : Type 0 where
    pub none : NoneBegun ran.start ran.trail
    pub why : IsUnmounted now ran.disks.items ran.status
    pub back : CameBack ran.disks.items

  -- A script was run, and what was written of it has this form; or no store was mounted for it. The shop is this now, and
  -- all disks that it gave come back.
  pub record IsAnswer (form : Form) (shop_now : Shop) (before now : SinkView) (ran : Ran D) : Type 0 where
    pub wrote : Wrote before now ran.status (text_by form s.table ran.start ran.trail)
    pub saved : IsReported ran.status → IsSavedBy form s.table ran.start ran.trail
    pub came : WasUnmounted shop_now.faults ran ⊎ HasRun ran
    pub given : HasGiven s.table.copies place shop shop_now (length ran.disks.items)

-- the status of a refusal to mount, or want of memory in its place
abbrev pub IsStatusOf : {D : Type 0} → MountNo D → Status → Type 0
IsStatusOf (no.Disk which disks) answer = IsOrMemory (status.DiskFault which) answer
IsStatusOf (no.Image fault disks) answer = IsOrMemory (status.Image fault) answer
IsStatusOf (no.Memory disks) answer = answer ≡ status.Memory

-- why bytes are no script
abbrev pub IsNoScript : List ℕ → Status → Type 0
IsNoScript bytes (status.Script e) = ScriptIsRefused bytes e × (e ≢ Memory)
IsNoScript bytes status.Memory = Unit {0}
IsNoScript bytes _ = ⊥

-- why a script that was to be read was not
abbrev pub IsUnread : SourceView → SourceView → Status → Type 0
IsUnread before now status.ReadFault = Rose before.faults now.faults
IsUnread before now (status.Script e) = IfSome before.left (λ bytes. ScriptIsRefused bytes e) × (e ≢ Memory)
IsUnread before now status.Memory = Unit {0}
IsUnread before now _ = ⊥

-- why there was no script: the words are no command, or they read one, and there was none; or there was no memory
abbrev pub HadNoScript : List (List ℕ) → SourceView → SourceView → Status → Type 0
HadNoScript words before now status.Usage = IsNoCommand words
HadNoScript words before now status.Memory = Unit {0}
HadNoScript words before now answer = IsReading words × IsUnread before now answer

-- A trail was audited: nothing was begun and no disk was obtained, and what was answered and written is the verdict.
pub record HasAudited {D : Type 0} (source_before source_now : SourceView) (before now : SinkView) (ran : Ran D) : Type 0 where
  pub may : MayAudit ran.status
  pub said : IsAudited source_before source_now before now ran.status
  pub none : NoneBegun ran.start ran.trail
  pub no_disks : ran.disks.items ≡ []
  pub text : Text
  pub wrote : Wrote before now ran.status text

module _ {D H : Type 0} (view : D → DiskView) (shop_view : H → Shop) where
  -- What is answered to bytes, over disks of a place, where this is written of a run. Where they are no script the shop is as
  -- it was.
  abbrev pub IsAnswerToBytes : Form → List ℕ → H → Text → H → SinkView → SinkView → Ran D → Type 0
  IsAnswerToBytes form bytes shop place shop_now before now ran =
      (IsEarly before now ran × IsNoScript bytes ran.status × (shop_now ≡ shop))
      ⊎ ((s : ScriptPlan) × IsScript bytes s × IsAnswer view s (shop_view shop) place form (shop_view shop_now) before now ran)

  -- what is answered where the source is to hold a script
  abbrev pub IsAnswerToSource : Form → SourceView → SourceView → H → Text → H → SinkView → SinkView → Ran D → Type 0
  IsAnswerToSource form source_before source_now shop place shop_now before now ran =
      (IsEarly before now ran × IsUnread source_before source_now ran.status × (shop_now ≡ shop))
      ⊎ ((s : ScriptPlan) × ReadsScript source_before.left source_now.left s × IsAnswer view s (shop_view shop) place form (shop_view shop_now) before now ran)

  -- what is answered where this script is to be made, over disks of the empty place: there may be no memory for it
  abbrev pub IsAnswerToMaking : ScriptPlan → H → H → SinkView → SinkView → Ran D → Type 0
  IsAnswerToMaking s shop shop_now before now ran =
      (IsEarly before now ran × (ran.status ≡ status.Memory) × (shop_now ≡ shop))
      ⊎ IsAnswer view s (shop_view shop) [] Summary (shop_view shop_now) before now ran

  -- what is answered to words: there was no script, or one was run, or a trail was audited
  abbrev pub IsAnswerToWords : List (List ℕ) → SourceView → SourceView → H → H → SinkView → SinkView → Ran D → Type 0
  IsAnswerToWords words source_before source_now shop shop_now before now ran =
      (IsAudit words × HasAudited source_before source_now before now ran × (shop_now ≡ shop))
      ⊎ ((IsEarly before now ran × HadNoScript words source_before source_now ran.status × (shop_now ≡ shop))
      ⊎ ((s : ScriptPlan) × ((it : RunsScript words source_before.left source_now.left s)
      × IsAnswer view s (shop_view shop) (place_of it.asked) (form_of it.asked) (shop_view shop_now) before now ran)))
