-- What a transaction does: it starts children, and marks sessions.
use Rattle.std.specs.Prelude.{ℕ, ◌&&◌, not, if◌then◌else◌, List, [], ◌∷◌, ◌++◌, Option, None, Some, option_to_list}
use Rattle.qc_event.specs.declared.event.Event.{Event}
use Rattle.qc_event.specs.declared.event.Event.TheVariants as event
use Rattle.qc_event.specs.declared.event.How.{How}
use Rattle.qc_event.specs.History.{Past, Name, same, end, is_child}
use Rattle.qc_interp.specs.Turns.{is_done}

-- a child that is started, or a session that is marked
pub data Deed : Type 0 where
  child : Name → Deed
  mark : ℕ → Deed

-- What a transaction does by an event that comes next. A mark that it makes once it is done counts for nothing.
abbrev pub deed_in : Past → Name → Event → Option Deed
deed_in past n (event.Start m kind) = if is_child n m then Some (Deed.child m) else None
deed_in past n (event.Mark by session) = if same by n && not (is_done past n) then Some (Deed.mark session) else None
deed_in past n _ = None

-- what a transaction did, in order
abbrev pub deeds : Past → Name → List Deed
deeds [] n = []
deeds (e ∷ past) n = deeds past n ++ option_to_list (deed_in past n e.event)

-- how the child ended
abbrev pub deed_end : Past → Deed → Option How
deed_end past (Deed.child c) = end past c
deed_end past (Deed.mark session) = None

-- it is a child of which this is so
abbrev pub OfChild : (Name → Type 0) → Deed → Type 0
OfChild P (Deed.child c) = P c
OfChild P (Deed.mark session) = ⊥
