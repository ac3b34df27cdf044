-- What the ledger enters in the history, and what its disk keeps of it.
use Rattle.std.specs.Prelude.{◌≡◌, ◌⊎◌, ℕ, length, List, [], ◌∷◌, ◌++◌, map, IsTrue, Option, None, Some, Result, Ok, Err}
use Rattle.std.specs.Option.{option_map}
use Rattle.qc_disk.specs.declared.disk.Disk.{Ghosts}
use Rattle.qc_event.specs.declared.event.Entry.{Entry}
use Rattle.qc_event.specs.declared.event.Event.TheVariants as event
use Rattle.qc_event.specs.declared.event.Why.{Why}
use Rattle.qc_event.specs.declared.event.Why.TheVariants.{Down, Full}
use Rattle.qc_codec.specs.Ledger as records
use Rattle.qc_codec.specs.Ledger.{commit_of}
use Rattle.qc_event.specs.History.{Name, Past, end, every, is_ready}
use Rattle.qc_event.specs.Seats.{ledger_seat}
use Rattle.qc_desk.specs.declared.view.View.{View}
use Rattle.qc_desk.specs.Entries.{entry}
use Rattle.qc_journal.specs.Journal.{Keeps, in_hand}
use Rattle.qc_journal.specs.declared.journal.State.{State}
use Rattle.qc_journal.specs.declared.journal.State.TheVariants as state
use Rattle.qc_journal.specs.Image.{HasRecords}
use Rattle.qc_ledger.specs.Runs.{HasOrMore}
use Rattle.qc_ledger.specs.declared.fault.LedgerNo.{LedgerNo}
use Rattle.qc_ledger.specs.declared.fault.LedgerNo.TheVariants as no
use Rattle.qc_ledger.specs.Shelf.{journal_in, top_body, top_in}
use Rattle.qc_ledger.specs.declared.shelf.Shelf.{Shelf}

-- that a top was not logged
abbrev pub unlogged_entry : Name → Why → Entry
unlogged_entry top why = entry ledger_seat (event.Unable top why)

-- the commit of the top in hand
abbrev pub commits_of : Option Name → Past
commits_of None = []
commits_of (Some top) = commit_of top ∷ []

-- the tops that entries commit, in order
abbrev pub tops_of : Past → List Name
tops_of past = every (λ e. records.top_in e.event) past

-- A top may be committed by a pass: it was seen to be ready, and the pass has not ended it.
pub record MayFinish (pass : View) (top : Name) : Type 0 where
  pub is_top : length top ≡ 1
  pub ready : IsTrue (is_ready pass.seen top)
  pub first : end pass.mine top ≡ None

-- the top whose record stands and which is not committed yet
abbrev pub pending_by : State → Option Name → List Name
pending_by (state.Up missing) None = []
pending_by (state.Up missing) (Some top) = top ∷ []
pending_by (state.Down held) hand = []

-- the top whose record may stand
abbrev pub unsure_by : State → Option Name → Option Name
unsure_by (state.Up missing) hand = None
unsure_by (state.Down held) hand = hand

-- the body of a top's record, with the names that are told to be aborted below it
abbrev pub told_body : (Name → List Name) → Name → List ℕ
told_body told top = top_body top (told top)

-- The disk tells its bytes. Each image has records from before, then one for each of these tops and the pending one, and
-- the one in hand may stand behind them.
pub record KeepsLogged {D : Type 0} {g : Ghosts D} (told : Name → List Name) (before : List (List ℕ)) (shelf : Shelf D g) (tops : List Name) : Type 0 where
  pub keeps : Keeps (journal_in shelf) (before ++ map (told_body told) (tops ++ pending_by (journal_in shelf).state (top_in shelf)))
  pub hand : in_hand (journal_in shelf) ≡ option_map (told_body told) (unsure_by (journal_in shelf).state (top_in shelf))

-- nothing was entered, or all of these
abbrev pub AtMost : Past → Past → Past → Type 0
AtMost these old new = (new ≡ old) ⊎ (new ≡ these ++ old)

-- At most the first were entered, and then these.
pub record IsBehind (first these old new : Past) : Type 0 where
  pub mid : Past
  pub first_of_all : AtMost first old mid
  pub all : new ≡ these ++ mid

-- at most the commit of the top in hand was entered
abbrev pub CommitsHand : Option Name → Past → Past → Type 0
CommitsHand hand old new = AtMost (commits_of hand) old new

-- at most the commit of the top in hand was entered, and then these
abbrev pub EntersBehind : Option Name → Past → Past → Past → Type 0
EntersBehind hand these old new = IsBehind (commits_of hand) these old new

-- at most the commit of the top in hand was entered, and then at most that of this top
abbrev pub EntersTop : Option Name → Name → Past → Past → Type 0
EntersTop hand top old new = CommitsHand hand old new ⊎ EntersBehind hand (commit_of top ∷ []) old new

-- what each refusal of a logging enters
abbrev pub RefusalEnters : LedgerNo → Option Name → Name → Past → Past → Type 0
RefusalEnters no.Disk hand top old new = EntersBehind hand (unlogged_entry top Down ∷ []) old new
RefusalEnters (no.Image bad) hand top old new = ⊥
RefusalEnters (no.Full place) hand top old new = EntersBehind hand (unlogged_entry top Full ∷ []) old new
RefusalEnters (no.Short short) hand top old new = CommitsHand hand old new

-- a logging may be refused for this
abbrev pub IsLogNo : LedgerNo → Type 0
IsLogNo (no.Image bad) = ⊥
IsLogNo _ = Unit {0}

-- a revival may be refused for this
abbrev pub IsReviveNo : LedgerNo → Type 0
IsReviveNo (no.Image bad) = ⊥
IsReviveNo (no.Full place) = ⊥
IsReviveNo _ = Unit {0}

-- An image has the records that some image had when the call began, or these and the one that the call writes.
pub record GrowsBy (body : List ℕ) (left : List ℕ → Type 0) (image : List ℕ) : Type 0 where
  pub earlier : List ℕ
  pub was_left : left earlier
  pub bodies : List (List ℕ)
  pub had : HasRecords bodies earlier
  pub has : HasOrMore bodies body image

-- A top whose record would pass the limit at a place is not logged: nothing is entered where it had ended, and else it is
-- refused for that, or for want of memory or of room.
abbrev pub RefusesLong : ℕ → Past → Past → Result (Unit {0}) LedgerNo → Type 0
RefusesLong place old new (Ok answer) = new ≡ old
RefusesLong place old new (Err no.Disk) = ⊥
RefusesLong place old new (Err (no.Image bad)) = ⊥
RefusesLong place old new (Err (no.Full at)) = at ≡ place
RefusesLong place old new (Err (no.Short short)) = Unit {0}
