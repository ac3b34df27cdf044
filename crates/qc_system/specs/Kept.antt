-- What the disks of a system keep since they were mounted.
use Rattle.std.specs.Prelude.{◌≡◌, ◌≤◌, ◌+◌, ◌-◌, ◌^◌, ◌∷◌, ◌++◌, [], ℕ, Bool, true, false, IsTrue, List, None, length, map, min}
use Rattle.std.specs.List.{count_by}
use Rattle.qc_disk.specs.declared.disk.Disk.{Ghosts}
use Rattle.qc_event.specs.declared.event.Entry.{Entry}
use Rattle.qc_event.specs.declared.event.Event.{Event}
use Rattle.qc_event.specs.declared.event.Event.TheVariants as event
use Rattle.qc_event.specs.declared.event.Grant.{Grant}
use Rattle.qc_event.specs.declared.event.Why.TheVariants as why
use Rattle.qc_event.specs.Base.{Setting}
use Rattle.qc_event.specs.Dead.{dead}
use Rattle.qc_event.specs.Grants.{MayGrant}
use Rattle.qc_event.specs.History.{Past, Name, grants}
use Rattle.qc_event.specs.Wants.{IsWant}
use Rattle.qc_event.specs.Listed.{listed}
use Rattle.qc_event.specs.Requests.{was_unable}
use Rattle.qc_event.specs.Seats.{copy_seat}
use Rattle.qc_journal.specs.Image.{row}
use Rattle.qc_journal.specs.Journal.{IsTooLong, disk_of}
use Rattle.qc_ledger.specs.Entered.{KeepsLogged, told_body, tops_of}
use Rattle.qc_ledger.specs.Since.{AreTopsBy}
use Rattle.qc_ledger.specs.declared.fault.LedgerNo.{LedgerNo}
use Rattle.qc_ledger.specs.declared.fault.LedgerNo.TheVariants as no
use Rattle.qc_ledger.specs.Shelf.{journal_in as journal_of_shelf}
use Rattle.qc_ledger.specs.declared.shelf.Shelf.{Shelf}
use Rattle.qc_desk.specs.declared.view.View.{View}
use Rattle.qc_desk.specs.Entries.{IsOlder}
use Rattle.qc_site.specs.Back.{grant_body}
use Rattle.qc_site.specs.Log.{log_journal}
use Rattle.qc_site.specs.Replica.{Standing}
use Rattle.qc_site.specs.Since.{AreGrantsBy}
use Rattle.qc_site.specs.Sites.{KeepsGranted}
use Rattle.qc_site.specs.declared.log.GrantLog.{GrantLog}
use Rattle.qc_system.specs.Grown.{GrownFrom}
use Rattle.qc_system.specs.Parts.{Found}

-- where a copy's disk tells its bytes, it keeps what was found there, and what the copy granted since; and it did at each moment
-- since it was this disk
abbrev pub KeepsSince : {D : Type 0} {g : Ghosts D} → Setting → ℕ → Found → GrantLog D g → Standing → Type 0
KeepsSince {D} {g} setting copy found log standing = found.told ≡ true
    → KeepsGranted copy found.before log standing × GrownFrom found.first found.before (AreGrantsBy setting copy standing.pass.seen) (g.view (disk_of (log_journal log)))

-- where the ledger's disk tells its bytes, it keeps what was found there, and the tops that were committed since, with the
-- names that are listed of each; and it did at each moment since it was this disk
abbrev pub TopsSince : {D : Type 0} {g : Ghosts D} → Found → Shelf D g → View → Type 0
TopsSince {D} {g} found shelf pass = found.told ≡ true
    → KeepsLogged (listed pass.seen) found.before shelf (tops_of pass.mine) × GrownFrom found.first found.before (AreTopsBy (listed pass.seen) pass.seen) (g.view (disk_of (journal_of_shelf shelf)))

-- what a ledger's refusal of a top rests on: that it was unable to log it, for this reason
abbrev pub HasRefused : Past → Name → LedgerNo → Type 0
HasRefused past top no.Disk = IsTrue (was_unable past top why.Down)
HasRefused past top (no.Image bad) = ⊥
HasRefused past top (no.Full place) = IsTrue (was_unable past top why.Full)
HasRefused past top (no.Short short) = IsWant past short

-- whether someone was unable since a disk failed
abbrev pub is_down : Event → Bool
is_down (event.Unable n why.Down) = true
is_down _ = false

-- how often someone was
abbrev pub downs : Past → ℕ
downs past = count_by (λ (e : Entry). is_down e.event) past

-- a count of faults, of which this many were told since it was at first, up to the end of its range
abbrev pub Pays : ℕ → ℕ → ℕ → Type 0
Pays first told now = min (first + told) (2 ^ 64 - 1) ≤ now

-- Where an entry says that the ledger was unable to log a top for want of room: the top's record, with the names that are told to
-- be aborted below it, behind those from before and one for each top that was committed until then, would pass a limit.
abbrev pub HadNoRoomFor : (Name → List Name) → List (List ℕ) → ℕ → Past → Event → Type 0
HadNoRoomFor told before most earlier (event.Unable top why.Full) = IsTooLong (length (row (before ++ map (told_body told) (tops_of earlier)))) most (told_body told top)
HadNoRoomFor told before most earlier _ = Unit {0}

-- so it was of each of the ledger's own entries
abbrev pub HadNoRoom : (Name → List Name) → List (List ℕ) → ℕ → Past → Type 0
HadNoRoom told before most [] = Unit {0}
HadNoRoom told before most (e ∷ earlier) = HadNoRoomFor told before most earlier e.event × HadNoRoom told before most earlier

-- where the ledger's disk tells its bytes, so it was by the names that are listed
abbrev pub NoRoomForTops : Found → ℕ → View → Type 0
NoRoomForTops found most pass = found.told ≡ true → HadNoRoom (listed pass.seen) found.before most pass.mine

-- At a time when it had granted what its entries up to now tell, a copy might have made a grant of this access, which was not dead,
-- and the grant's record, behind those from before and one for each of its grants, would pass a limit.
pub record WasFullFor (setting : Setting) (copy : ℕ) (before : List (List ℕ)) (most : ℕ) (past own : Past) (access : Name) : Type 0 where
  pub earlier : Past
  pub older : IsOlder earlier past
  pub given : grants earlier copy ≡ grants own copy
  pub grant : Grant
  pub of_access : grant.access ≡ access
  pub may : MayGrant setting earlier (copy_seat copy) copy grant
  pub alive : dead earlier access ≡ None
  pub too_long : IsTooLong (length (row (before ++ map (grant_body (length setting.base)) (grants own copy)))) most (grant_body (length setting.base) grant)

-- so it was where an entry of the copy says that it was unable to serve a request for want of room, by those before it
abbrev pub CopyHadNoRoomFor : Setting → ℕ → List (List ℕ) → ℕ → Past → Past → Event → Type 0
CopyHadNoRoomFor setting copy before most past earlier (event.Unable access why.Full) = WasFullFor setting copy before most past earlier access
CopyHadNoRoomFor setting copy before most past earlier _ = Unit {0}

-- so it was of each of the copy's own entries
abbrev pub CopyHadNoRoom : Setting → ℕ → List (List ℕ) → ℕ → Past → Past → Type 0
CopyHadNoRoom setting copy before most past [] = Unit {0}
CopyHadNoRoom setting copy before most past (e ∷ earlier) = CopyHadNoRoomFor setting copy before most past earlier e.event × CopyHadNoRoom setting copy before most past earlier

-- no request was refused since a copy's disk does not say what the history says
abbrev pub NoneStrange : Past → Type 0
NoneStrange own = (access : Name) → IsTrue (was_unable own access why.Strange) → ⊥

-- where a copy's disk tells its bytes, so it is of the copy's requests
abbrev pub NoRoomSince : Setting → ℕ → Found → ℕ → Standing → Type 0
NoRoomSince setting copy found most standing = found.told ≡ true → CopyHadNoRoom setting copy found.before most standing.pass.seen standing.pass.mine
