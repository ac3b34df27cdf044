-- What a serial machine with one value per record makes of a history.
use Rattle.std.specs.Prelude.{ℕ, ◌≡◌, List, [], ◌++◌, None, reverse}
use Rattle.qc_config.specs.Val.{Datum}
use Rattle.qc_event.specs.declared.event.Entry.{Entry}
use Rattle.qc_event.specs.History.{Past, Name}
use Rattle.qc_event.specs.Dead.{dead}
use Rattle.qc_event.specs.Standing.{Started, IsUser}
use Rattle.qc_serial.specs.Machine as machine
use Rattle.qc_serial.specs.Walk.{walk, serialise}
use Rattle.qc_serial.specs.Own.{own, own_past}

-- The serial machine accepts the order that completion gives a transaction, in which the transaction
-- has exactly its own starts, ends and answers.
pub record IsSerialFor (values : List Datum) (past : Past) (t : Name) : Type 0 where
  pub accepted : machine.Accepts (machine.begin values) (serialise past t)
  pub own : own t (serialise past t) ≡ own_past t past

-- the root, or a user transaction that was started
abbrev pub IsUserOf : Past → Name → Type 0
IsUserOf past [] = Unit {0}
IsUserOf past t = Started past t (λ b. IsUser b.kind)

-- so it is for every user transaction that has no aborted ancestor
abbrev pub IsSerial : List Datum → Past → Type 0
IsSerial values past = (t : Name) → IsUserOf past t → dead past t ≡ None → IsSerialFor values past t

-- so it is at every moment of a history, the oldest entry first
abbrev pub IsSerialThroughout : List Datum → List Entry → Type 0
IsSerialThroughout values trail = (front later : List Entry) → trail ≡ front ++ later → IsSerial values (reverse front)

-- the values of the serial machine once every transaction has ended
abbrev pub final_values : List Datum → Past → List Datum
final_values values past = (machine.run (machine.begin values) (walk past [])).values
