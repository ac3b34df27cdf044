-- What a journal is ready for.
use Rattle.std.specs.Prelude.{ℕ, ◌+◌, List, length, Option, Some, None}
use Rattle.qc_journal.specs.declared.journal.State.{State}
use Rattle.qc_journal.specs.declared.journal.State.TheVariants.{Up, Down}

-- nothing is in hand, and the gate stands closed
abbrev pub IsUpState : State → Type 0
IsUpState (Up missing) = Unit {0}
IsUpState (Down held) = ⊥

-- how many bytes there may be too few for the gate at a place
abbrev pub missing_at : ℕ → State → ℕ
missing_at place (Up missing) = missing
missing_at place (Down held) = place + 1

-- the body in hand
abbrev pub hand_of : State → Option (List ℕ)
hand_of (Up missing) = None
hand_of (Down None) = None
hand_of (Down (Some body)) = Some body.items

-- where the record in hand and its next gate end
abbrev pub hand_end : ℕ → Option (List ℕ) → ℕ
hand_end place None = 0
hand_end place (Some body) = place + 6 + length body

abbrev pub hand_size : Option (List ℕ) → ℕ
hand_size None = 0
hand_size (Some body) = length body
