-- What a ledger's records tell, and which may stand behind which.
use Rattle.std.specs.Prelude.{ℕ, ◌≡◌, ◌≢◌, ◌<◌, ◌+◌, ◌/◌, ◌^◌, ◌⊎◌, true, List, [], ◌∷◌, All, Option, None, Some, MatchOption, is_some, unwrap_or}
use Rattle.std.specs.List.{filter_map, last_or}
use Rattle.std.specs.Option.{option_map}
use Rattle.qc_event.specs.declared.event.Answer.TheVariants.{Nothing}
use Rattle.qc_event.specs.declared.event.Entry.{Entry}
use Rattle.qc_event.specs.declared.event.Event.{Event}
use Rattle.qc_event.specs.declared.event.Event.TheVariants as event
use Rattle.qc_event.specs.declared.event.How.TheVariants.{Commit}
use Rattle.qc_event.specs.declared.table.Table.{Table}
use Rattle.qc_event.specs.History.{Name}
use Rattle.qc_event.specs.Seats.{ledger_seat}
use Rattle.qc_codec.specs.Base.{base_in, epoch_of_base, ledger_base}
use Rattle.qc_codec.specs.Bodies as body
use Rattle.qc_codec.specs.Fields.{current_format}
use Rattle.qc_codec.specs.Form.{Form, all_of}
use Rattle.qc_codec.specs.Order.{EachMay, FirstMayNot}
use Rattle.qc_codec.specs.declared.past.Logged.{Logged}
use Rattle.qc_codec.specs.declared.past.Past.{Past}
use Rattle.qc_codec.specs.declared.record.BaseRecord.{BaseRecord}
use Rattle.qc_codec.specs.declared.record.LedgerRecord.{LedgerRecord}
use Rattle.qc_codec.specs.declared.record.LedgerRecord.TheVariants as ledger_record
use Rattle.qc_codec.specs.declared.record.Made.{Made}

-- how the disk of a number was made in a format, for a store of this table
abbrev pub made_in : ℕ → ℕ → Table → Made
made_in format number table = record { format = format; who = number; table = table }

-- how it is made in the current one
abbrev pub made_for : ℕ → Table → Made
made_for number table = made_in current_format number table

-- the ledger's record of a top
abbrev pub record_of_top : Logged → LedgerRecord
record_of_top l = ledger_record.Top l.top l.aborted

-- the top that a record of the ledger tells
abbrev pub logged_in : LedgerRecord → Option Logged
logged_in (ledger_record.Top top aborted) = Some (record { top = top; aborted = aborted })
logged_in _ = None

-- the commit of a top
abbrev pub commit_of : Name → Entry
commit_of top = record { seat = ledger_seat; event = event.End top (Commit Nothing) }

-- the top that an event commits
abbrev pub top_in : Event → Option Name
top_in (event.End (number ∷ []) (Commit given)) = Some (number ∷ [])
top_in _ = None

-- the values that bodies are in a form, in order
abbrev pub readings : {A : Type 0} → Form A → List (List ℕ) → List A
readings form bodies = filter_map (all_of form) bodies

-- what bodies of the ledger's records tell: the last epoch, which is that of the base where none follows it, and 0 where there is
-- neither; the epoch of the base, where there is one; and the tops in order
abbrev pub past_in : List (List ℕ) → Past
past_in bodies = record {
  epoch = unwrap_or (last_or None (filter_map body.epoch_of (readings body.ledger bodies))) (epoch_of_base (base_in ledger_base bodies));
  base = option_map (λ (b : BaseRecord). b.epoch) (base_in ledger_base bodies);
  tops = filter_map logged_in (readings body.ledger bodies);
}

-- the epoch of a top's number
abbrev pub epoch_in : ℕ → ℕ
epoch_in number = number / 2 ^ 32

-- a top of an earlier epoch, or a name below one
abbrev pub IsOld : ℕ → Name → Type 0
IsOld epoch [] = ⊥
IsOld epoch (number ∷ n) = epoch_in number < epoch

-- A record may stand behind others that tell a past: the next epoch, or a top of the last one that was not logged, where an epoch
-- record began it and not a base.
abbrev pub MayFollow : Past → LedgerRecord → Type 0
MayFollow past (ledger_record.Made made) = ⊥
MayFollow past (ledger_record.Epoch epoch) = epoch ≡ past.epoch + 1
MayFollow past (ledger_record.Top (number ∷ []) aborted) = (epoch_in number ≡ past.epoch) × (past.base ≢ Some past.epoch) × All (λ (l : Logged). l.top ≢ number ∷ []) past.tops
MayFollow past (ledger_record.Top _ aborted) = ⊥

-- a record says that the disk of a number was made with it
abbrev pub IsMade : ℕ → LedgerRecord → Type 0
IsMade disk (ledger_record.Made made) = made.who ≡ disk
IsMade disk _ = ⊥

-- a body is a record that may stand behind what these tell
abbrev pub IsNextBody : List (List ℕ) → List ℕ → Type 0
IsNextBody bodies bytes = MatchOption (all_of body.ledger bytes) ⊥ (MayFollow (past_in bodies))

module _ (disk : ℕ) where
  -- a body may stand behind others: the first tells how the disk was made, and the second may be a base
  abbrev pub MayStand : List (List ℕ) → List ℕ → Type 0
  MayStand [] bytes = MatchOption (all_of body.ledger bytes) ⊥ (IsMade disk)
  MayStand (first ∷ []) bytes = (is_some (base_in ledger_base (first ∷ bytes ∷ [])) ≡ true) ⊎ IsNextBody (first ∷ []) bytes
  MayStand (first ∷ second ∷ bodies) bytes = IsNextBody (first ∷ second ∷ bodies) bytes

  -- each body may stand behind those before it
  abbrev pub AreInOrder : List (List ℕ) → Type 0
  AreInOrder bodies = EachMay MayStand bodies

  -- The first body that may not stand behind those before it has this index.
  abbrev pub IsOutOfOrder : ℕ → List (List ℕ) → Type 0
  IsOutOfOrder index bodies = FirstMayNot MayStand index bodies
