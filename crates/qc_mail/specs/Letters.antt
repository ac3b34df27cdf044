-- What goes through a copy's queue.
use Rattle.std.specs.Prelude.{◌<◌, ℕ, List, Option, MatchOption}
use Rattle.qc_event.specs.History.{Past}
use Rattle.qc_event.specs.declared.event.Entry.{Entry}
use Rattle.qc_lane.specs.declared.lane.Request.{Request}
use Rattle.qc_desk.specs.Consulting.{HasAsked}

-- a request, none where the copy is to stop, and what the note beside it has seen
pub record Written : Type 0 where
  pub request : Option Request
  pub seen : Option (List Entry)

-- what a request asks was seen, of one of so many copies
abbrev pub IsSeen : ℕ → Request → Past → Type 0
IsSeen copies r seen = HasAsked seen r.ask × (r.ask.copy < copies)

-- a request comes with a note that has seen it
abbrev pub IsWritten : ℕ → Written → Type 0
IsWritten copies w = MatchOption w.request (Unit {0}) (λ r. MatchOption w.seen ⊥ (IsSeen copies r))
