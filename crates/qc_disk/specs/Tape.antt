-- The parts of a tape, and what a call may do to it.
use Rattle.std.specs.Prelude.{◌≡◌, List, [], ◌∷◌, ◌++◌, ℕ}
use Rattle.qc_disk.specs.Replay.{Act, does}
use Rattle.qc_disk.specs.Kept.{first_of, acts_of, records_kept}
use Rattle.qc_disk.specs.declared.tape.Tape.{Tape}

-- what it was made with: what is there with all calls undone
abbrev pub tape_first : Tape → List ℕ
tape_first tape = first_of (records_kept tape.records) tape.bytes.items

-- what each call did, the oldest first
abbrev pub tape_acts : Tape → List Act
tape_acts tape = acts_of (records_kept tape.records) tape.bytes.items

-- what is there now
abbrev pub tape_bytes : Tape → List ℕ
tape_bytes tape = tape.bytes.items

-- One more act is recorded, and done to the bytes.
pub record Applied (old new : Tape) (act : Act) : Type 0 where
  pub first : tape_first new ≡ tape_first old
  pub acts : tape_acts new ≡ tape_acts old ++ act ∷ []
  pub bytes : tape_bytes new ≡ does act (tape_bytes old)

-- Nothing is changed.
pub record Untouched (old new : Tape) : Type 0 where
  pub first : tape_first new ≡ tape_first old
  pub acts : tape_acts new ≡ tape_acts old
  pub bytes : tape_bytes new ≡ tape_bytes old
