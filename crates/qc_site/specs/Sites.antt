-- A site: what it has in hand, what it enters, and what its disk keeps.
use Rattle.std.specs.Prelude.{ℕ, ◌≡◌, ◌⊎◌, List, [], ◌∷◌, Option, None, Some, IfSome, Err}
use Rattle.qc_config.specs.declared.tuple.Tuple.{Tuple}
use Rattle.qc_event.specs.Base.{Setting}
use Rattle.qc_event.specs.Dead.{dead}
use Rattle.qc_event.specs.Grants.{grant_with, MayGrant}
use Rattle.qc_disk.specs.declared.disk.Disk.{Ghosts}
use Rattle.qc_event.specs.declared.event.Answered.{Answered}
use Rattle.qc_event.specs.declared.event.Answered.TheVariants as answer
use Rattle.qc_event.specs.declared.event.Ask.{Ask}
use Rattle.qc_event.specs.declared.event.Entry.{Entry}
use Rattle.qc_event.specs.declared.event.Event.TheVariants as event
use Rattle.qc_event.specs.declared.event.Grant.{Grant}
use Rattle.qc_event.specs.declared.event.Refusal.TheVariants as refusal
use Rattle.qc_event.specs.declared.event.Why.TheVariants as why
use Rattle.qc_event.specs.History.{Past, grants}
use Rattle.qc_event.specs.Wants.{IsWant}
use Rattle.qc_event.specs.Seats.{copy_seat}
use Rattle.qc_journal.specs.Journal.{disk_of, limit_of, place_of, IsTooLong}
use Rattle.qc_journal.specs.declared.journal.Journal.{Journal}
use Rattle.qc_ledger.specs.Entered.{AtMost, GrowsBy, IsBehind}
use Rattle.qc_ledger.specs.Runs.{Leaves}
use Rattle.qc_desk.specs.Entries.{IsOlder, entry}
use Rattle.qc_desk.specs.Answers.{refused_entry}
use Rattle.qc_site.specs.AtDesk.{hand_entries, unable_entry}
use Rattle.qc_site.specs.Back.{grant_body, IsAnswer}
use Rattle.qc_site.specs.Log.{IsOver}
use Rattle.qc_site.specs.Replica.{Standing}
use Rattle.qc_site.specs.declared.back.BackNo.TheVariants as no_back
use Rattle.qc_site.specs.declared.back.Strange.{Strange}
use Rattle.qc_site.specs.declared.fault.SiteNo.{SiteNo}
use Rattle.qc_site.specs.declared.fault.SiteNo.TheVariants as no_site
use Rattle.qc_site.specs.declared.log.GrantLog.{GrantLog}

module _ (copy : ℕ) where
  -- The disk keeps what the copy granted, by what it has seen, and maybe the grant in hand.
  abbrev pub KeepsGranted : {D : Type 0} {g : Ghosts D} → List (List ℕ) → GrantLog D g → Standing → Type 0
  KeepsGranted before log standing = IsOver before log (grants standing.pass.seen copy) standing.hand

  -- at most the grant in hand was entered
  abbrev pub EntersHand : Standing → Standing → Type 0
  EntersHand old new = AtMost (hand_entries copy old.hand) old.pass.mine new.pass.mine

  -- at most the grant in hand was entered, and then this
  abbrev pub EntersThen : Standing → Standing → Entry → Type 0
  EntersThen old new e = IsBehind (hand_entries copy old.hand) (e ∷ []) old.pass.mine new.pass.mine

  abbrev pub granted_entry : Ask → Tuple → Entry
  granted_entry ask tuple = entry (copy_seat copy) (event.Granted copy (grant_with ask tuple))

  -- what each answer enters: a repeat nothing
  abbrev pub AnswerEnters : Ask → Answered → Standing → Standing → Type 0
  AnswerEnters ask (answer.Granted tuple) old new = EntersHand old new ⊎ EntersThen old new (granted_entry ask tuple)
  AnswerEnters ask (answer.Blocked holder) old new = EntersThen old new (refused_entry copy ask (refusal.Blocked holder))
  AnswerEnters ask (answer.Dead ancestor) old new = EntersThen old new (refused_entry copy ask (refusal.Dead ancestor))
  AnswerEnters ask answer.Down old new = EntersThen old new (unable_entry copy ask why.Down)
  AnswerEnters ask answer.Full old new = EntersThen old new (unable_entry copy ask why.Full)
  AnswerEnters ask answer.Strange old new = EntersThen old new (unable_entry copy ask why.Strange)

-- A request was answered by the locks.
abbrev pub IsByLocks : Answered → Type 0
IsByLocks (answer.Granted tuple) = Unit {0}
IsByLocks (answer.Blocked holder) = Unit {0}
IsByLocks (answer.Dead ancestor) = Unit {0}
IsByLocks _ = ⊥

-- an answer leaves the copy up, able to serve
abbrev pub LeavesUp : Answered → Type 0
LeavesUp answer.Down = ⊥
LeavesUp answer.Strange = ⊥
LeavesUp _ = Unit {0}

-- an answer that writes nothing to the disk
abbrev pub IsUnwritten : Answered → Type 0
IsUnwritten (answer.Blocked holder) = Unit {0}
IsUnwritten (answer.Dead ancestor) = Unit {0}
IsUnwritten answer.Full = Unit {0}
IsUnwritten _ = ⊥

-- an answer of a call that wrote nothing
abbrev pub WritesNone : Answered → Type 0
WritesNone answer.Strange = Unit {0}
WritesNone said = IsUnwritten said

-- what a call leaves in hand that may grant what was asked: nothing, what was in hand, or a grant of that
abbrev pub IsLeftBy : Ask → Option Grant → Option Grant → Type 0
IsLeftBy ask old new = (new ≡ None) ⊎ (new ≡ old) ⊎ ((tuple : Tuple) × (new ≡ Some (grant_with ask tuple)))

-- memory was wanting, or the history takes no more entries
abbrev pub IsSiteWant : Past → SiteNo → Type 0
IsSiteWant past (no_site.Short short) = IsWant past short
IsSiteWant past _ = ⊥

-- the record of a grant of this request would pass the limit
abbrev pub IsTooLongFor : {D : Type 0} {g : Ghosts D} → GrantLog D g → Ask → Tuple → Type 0
IsTooLongFor log ask tuple = IsTooLong (place_of log.journal) (limit_of log.journal) (grant_body log.copies (grant_with ask tuple))

-- Of what a copy had seen at some time up to now it might have made a grant of this request, which was not dead, and it has granted
-- no more since; and the record of that grant would pass the limit.
pub record IsFullFor {D : Type 0} {g : Ghosts D} (setting : Setting) (copy : ℕ) (ask : Ask) (past : Past) (log : GrantLog D g) : Type 0 where
  pub tuple : Tuple
  pub earlier : Past
  pub older : IsOlder earlier past
  pub may : MayGrant setting earlier (copy_seat copy) copy (grant_with ask tuple)
  pub alive : dead earlier ask.access ≡ None
  pub given : grants past copy ≡ grants earlier copy
  pub too_long : IsTooLongFor log ask tuple

-- where a copy's disk tells its bytes, it is strange so by what they are, against these grants and the one in hand
abbrev pub Differs : {D : Type 0} {g : Ghosts D} → GrantLog D g → List Grant → Option Grant → Strange → Type 0
Differs {D} {g} log given hand strange = IfSome (g.view (disk_of log.journal)).content (IsAnswer log.copies log.earlier given hand (Err (no_back.Strange strange)))

-- one that is strange was so before, or it is so since for a reason
abbrev pub IsStrangeFor : (Strange → Type 0) → Option Strange → Option Strange → Type 0
IsStrangeFor Why old new = IfSome new (λ strange. (old ≡ Some strange) ⊎ Why strange)

-- a crash at any moment leaves the records that some image had when the call began, or these and that of a grant of this request
abbrev pub GrowsByGrant : {D : Type 0} {g : Ghosts D} → ℕ → Ask → Journal D g → Journal D g → Type 0
GrowsByGrant {D} {g} copies ask old new = (tuple : Tuple) × Leaves old new (GrowsBy (grant_body copies (grant_with ask tuple)) (g.view (disk_of old)).may_leave)
