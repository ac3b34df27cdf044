-- What a call of a ledger leaves of it, and what its answers and its refusals say.
use Rattle.std.specs.Prelude.{ℕ, ◌≡◌, List, IsTrue, Option, None, Some, is_some}
use Rattle.qc_codec.specs.declared.past.Logged.{Logged}
use Rattle.qc_disk.specs.declared.disk.Disk.{Ghosts}
use Rattle.qc_event.specs.History.{Name, end}
use Rattle.qc_journal.specs.Journal.{IsUp, disk_of, limit_of}
use Rattle.qc_ledger.specs.Entered.{EntersTop, GrowsBy, KeepsLogged, tops_of}
use Rattle.qc_ledger.specs.Runs.{Falls, GoesOn, Leaves, LosesNone}
use Rattle.qc_ledger.specs.Shelf.{journal_in, top_body, top_in}
use Rattle.qc_ledger.specs.Since.{TopsGrow}
use Rattle.qc_ledger.specs.declared.ledger.Ledger.{Ledger}
use Rattle.qc_ledger.specs.declared.shelf.Shelf.{Shelf}
use Rattle.qc_desk.specs.declared.store.Store.{Ghosts as Desk}
use Rattle.qc_desk.specs.declared.view.View.{View}
use Rattle.qc_desk.specs.Entries.{IsOlder}

-- A ledger as a call finds it or leaves it: its journal with the top in hand, and its pass.
pub record LedgerState {D : Type 0} (g : Ghosts D) : Type 0 where
  pub shelf : Shelf D g
  pub pass : View

abbrev pub ledger_state : {D N : Type 0} {g : Ghosts D} {h : Desk N} → Ledger D N g h → LedgerState g
ledger_state ledger = record { shelf = ledger.shelf; pass = ledger.pass }

-- WHAT IT LEAVES

-- the names that are told to be aborted below a top are those that it is logged with
abbrev pub IsToldOf : Option Logged → (Name → List Name) → Type 0
IsToldOf None told = Unit {0}
IsToldOf (Some logged) told = logged.aborted ≡ told logged.top

module _ {D : Type 0} {g : Ghosts D} where
  -- A crash at any moment of a call leaves an image from before it, or the records of one and behind them that of the top.
  abbrev pub TopMoments : Option Logged → Shelf D g → Shelf D g → Type 0
  TopMoments None old new = Leaves (journal_in old) (journal_in new) (g.view (disk_of (journal_in old))).may_leave
  TopMoments (Some logged) old new = Leaves (journal_in old) (journal_in new)
      (GrowsBy (top_body logged.top logged.aborted) (g.view (disk_of (journal_in old))).may_leave)

  -- What a call leaves, which writes the record of a top, or nothing. Where the disk tells its bytes, each image goes on to keep
  -- a record for each committed top and at most that of the top in hand, and none loses a record. Since a moment each had the
  -- records from before it, and behind them those of tops up to now. The place of the next record never falls.
  pub record LedgerBecame (logged : Option Logged) (old new : LedgerState g) : Type 0 where
    pub kept : (told : Name → List Name) (before : List (List ℕ)) → IsToldOf logged told
        → KeepsLogged told before old.shelf (tops_of old.pass.mine) → KeepsLogged told before new.shelf (tops_of new.pass.mine)
    pub moments : (told : Name → List Name) (before : List (List ℕ)) → KeepsLogged told before old.shelf (tops_of old.pass.mine)
        → TopMoments logged old.shelf new.shelf
    pub grows : (told : Name → List Name) (before : List (List ℕ)) → KeepsLogged told before old.shelf (tops_of old.pass.mine)
        → LosesNone (journal_in old.shelf) (journal_in new.shelf)
    pub grown : (told : Name → List Name) (before : List (List ℕ)) (since : ℕ) → IsToldOf logged told
        → KeepsLogged told before old.shelf (tops_of old.pass.mine)
        → TopsGrow told before since old.shelf old.pass.seen → TopsGrow told before since new.shelf new.pass.seen
    pub seen : IsOlder old.pass.seen new.pass.seen
    pub limit : limit_of (journal_in new.shelf) ≡ limit_of (journal_in old.shelf)
    pub place : GoesOn (journal_in old.shelf) (journal_in new.shelf)

  -- Whatever the disk tells, nothing was written: of what a crash may leave some falls away.
  pub record LedgerWroteNone (old new : LedgerState g) : Type 0 where
    pub moments : TopMoments None old.shelf new.shelf
    pub falls : Falls (journal_in old.shelf) (journal_in new.shelf)
    pub grown : (told : Name → List Name) (before : List (List ℕ)) (since : ℕ)
        → TopsGrow told before since old.shelf old.pass.seen → TopsGrow told before since new.shelf new.pass.seen

  -- WHAT IT SAYS

  -- A top was logged: its commit stands, and the ledger is up with nothing in hand. At most the commit of the top in hand was
  -- entered, and then at most this top's.
  pub record HasLogged (top : Name) (old new : LedgerState g) : Type 0 where
    pub stands : IsTrue (is_some (end new.pass.seen top))
    pub up : IsUp (journal_in new.shelf)
    pub none : top_in new.shelf ≡ None
    pub enters : EntersTop (top_in old.shelf) top old.pass.mine new.pass.mine
