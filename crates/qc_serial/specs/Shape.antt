-- The serial machine without its values, and the values alone.
use Rattle.std.specs.Prelude.{ℕ, Bool, true, IsTrue, nat_lt, List, [], ◌∷◌, length, slice_set, Option, None, Some, if◌then◌else◌}
use Rattle.std.proofs.Common.{suc}
use Rattle.std.specs.Option.{option_map}
use Rattle.qc_config.specs.Val.{Datum}
use Rattle.qc_serial.specs.declared.event.SerialEvent.{SerialEvent}
use Rattle.qc_serial.specs.declared.event.SerialEvent.TheVariants.{Read, Write}
use Rattle.qc_serial.specs.Machine.{State, may_begin, has_value, allows, next}

-- whether the machine allows an event, whatever its values are
abbrev pub shape_allows : State → SerialEvent → Bool
shape_allows m (Read n rec value) = may_begin m n
shape_allows m (Write n rec value) = may_begin m n
shape_allows m e = allows m e

-- each event keeps to the machine's stack when it comes
abbrev pub Shaped : State → List SerialEvent → Type 0
Shaped m [] = Unit {0}
Shaped m (e ∷ es) = IsTrue (shape_allows m e) × Shaped (next m e) es

-- each read finds its value, and each written record is there
abbrev pub Reads : List Datum → List SerialEvent → Type 0
Reads values [] = Unit {0}
Reads values (Read n rec value ∷ es) = IsTrue (has_value values rec value) × Reads values es
Reads values (Write n rec value ∷ es) = IsTrue (nat_lt rec (length values)) × Reads (slice_set values rec value) es
Reads values (e ∷ es) = Reads values es

-- the values after events
abbrev pub after : List Datum → List SerialEvent → List Datum
after values [] = values
after values (Write n rec value ∷ es) = after (slice_set values rec value) es
after values (e ∷ es) = after values es

-- whether an event that reads finds its value, and one that writes its record
abbrev pub finds : List Datum → SerialEvent → Bool
finds values (Read n rec value) = has_value values rec value
finds values (Write n rec value) = nat_lt rec (length values)
finds values e = true

-- the values after an event
abbrev pub kept : List Datum → SerialEvent → List Datum
kept values (Write n rec value) = slice_set values rec value
kept values e = values

-- the place of the first event that does not find what it reads or writes
abbrev pub first_unfound : List Datum → List SerialEvent → Option ℕ
first_unfound values [] = None
first_unfound values (e ∷ es) = if finds values e then option_map (λ k. suc k) (first_unfound (kept values e) es) else Some 0
