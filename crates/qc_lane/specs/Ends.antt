-- Which queue an end is of, and which request was taken last.
use Rattle.std.specs.Prelude.{◌≡◌, List, [], ◌∷◌, ◌++◌, length, Option}
use Rattle.atomic_table.specs.Seated.{TableId}
use Rattle.crossbeam_queue.specs.declared.array_queue.Doing.{Doing}
use Rattle.crossbeam_queue.specs.declared.array_queue.Slotted.{Slotted}
use Rattle.qc_lane.specs.declared.lane.Request.{Request}
use Rattle.qc_lane.specs.Lanes.{of}

-- the name of no queue
abbrev pub no_queue : TableId
no_queue = record { words = 0; slots = 0; views_name = 0; atom = 0; block = 0; offset = 0; slot_names = [] }

-- the name of a queue
abbrev pub queue_id : {T V Q A : Type 0} → Slotted (Option T) (Doing T V) Q A → TableId
queue_id q = q.table.shared.table_id

-- A request was taken last, and has the number that it should have.
pub record IsLast (got : List Request) (r : Request) : Type 0 where
  pub before : List Request
  pub last : got ≡ before ++ r ∷ []
  pub number : r.number ≡ length (of r.from before)
