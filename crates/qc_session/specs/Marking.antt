-- What a client knows of the marks that it made.
use Rattle.std.specs.Prelude.{ℕ, ◌≡◌, ◌==◌, ◌≤◌, List, filter}
use Rattle.std.specs.List.{AllByRecursion, list_any}
use Rattle.qc_board.specs.Boards.{Mark, Seated, Shown}
use Rattle.qc_board.specs.Marks.{Has}
use Rattle.qc_event.specs.declared.event.Entry.{Entry}
use Rattle.qc_event.specs.declared.event.Event.{Event}
use Rattle.qc_event.specs.declared.event.Event.TheVariants as event
use Rattle.qc_event.specs.History.{Past}
use Rattle.qc_event.specs.Users.{top_number}

-- a seat at a board of sixteen sessions, each of which may be marked
pub record IsSeatAt (board : Shown) (seat : Seated) : Type 0 where
  pub sessions : board.sessions ≡ 16
  pub same : seat.board ≡ board.board
  pub may : seat.may ≡ 65535

-- where an event marks a session, a mark of it up to at least that top is among these
abbrev pub KnowsMark : List Mark → Event → Type 0
KnowsMark marks (event.Mark by session) = (upto : ℕ) × Has marks (session, upto) × (top_number by ≤ upto)
KnowsMark marks _ = Unit {0}

-- the entries that were made under one of these numbers
abbrev pub made_under : List ℕ → Past → Past
made_under numbers past = filter (λ (e : Entry). list_any (λ k. k == e.seat) numbers) past

-- so is each that was made under one of these numbers
abbrev pub KnowsMarks : List ℕ → Past → List Mark → Type 0
KnowsMarks numbers seen marks = AllByRecursion (λ (e : Entry). KnowsMark marks e.event) (made_under numbers seen)
