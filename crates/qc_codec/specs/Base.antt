-- The base record of a journal, into which another was folded.
use Rattle.std.specs.Prelude.{ℕ, ◌+◌, Bool, if◌then◌else◌, nat_lt, List, [], ◌∷◌, length, map, Option, None, unwrap_or}
use Rattle.std.specs.Option.{option_and_then, option_map}
use Rattle.qc_config.specs.declared.tuple.Tuple.{Tuple}
use Rattle.qc_event.specs.declared.table.Table.{Table}
use Rattle.qc_event.specs.Tables.{first_tuple}
use Rattle.qc_codec.specs.Bodies as body
use Rattle.qc_codec.specs.Fields.{Layout, current, current_format, layout}
use Rattle.qc_codec.specs.Form.{Form, all_of}
use Rattle.qc_codec.specs.declared.record.BaseRecord.{BaseRecord}
use Rattle.qc_codec.specs.declared.record.Made.{Made}

-- how what stands behind a made record is laid out: by its table and in its format
abbrev pub layout_of : Made → Layout
layout_of made = layout made.table.copies made.format

-- a base behind a made record: a copy's has a tuple for each record of the table, the ledger's none
abbrev pub copy_base : Made → Form BaseRecord
copy_base made = body.base (layout_of made) (length made.table.records)

abbrev pub ledger_base : Made → Form BaseRecord
ledger_base made = body.base (layout_of made) 0

-- a base of a store of this table in the current format
abbrev pub current_copy_base : Table → Form BaseRecord
current_copy_base table = body.base (current table.copies) (length table.records)

abbrev pub current_ledger_base : Table → Form BaseRecord
current_ledger_base table = body.base (current table.copies) 0

-- the format of a journal's bodies, which their made record tells; the current one where there are none
abbrev pub format_in : List (List ℕ) → ℕ
format_in [] = current_format
format_in (first ∷ bodies) = unwrap_or (option_map (λ (made : Made). made.format) (all_of body.made first)) current_format

-- the base record of a journal's bodies, where there is one: it stands second, and is read by the made record
abbrev pub base_in : (Made → Form BaseRecord) → List (List ℕ) → Option BaseRecord
base_in form (first ∷ second ∷ bodies) = option_and_then (λ (made : Made). all_of (form made) second) (all_of body.made first)
base_in form _ = None

-- the number of a base, 0 where there is none
abbrev pub number_of_base : Option BaseRecord → ℕ
number_of_base base = unwrap_or (option_map (λ (b : BaseRecord). b.number) base) 0

-- its epoch, 0 where there is none
abbrev pub epoch_of_base : Option BaseRecord → ℕ
epoch_of_base base = unwrap_or (option_map (λ (b : BaseRecord). b.epoch) base) 0

-- its tuples, the table's first ones where there is none
abbrev pub tuples_of_base : Table → Option BaseRecord → List Tuple
tuples_of_base table base = unwrap_or (option_map (λ (b : BaseRecord). b.tuples) base) (map first_tuple table.records)

-- PAIRS

module _ (form : Made → Form BaseRecord) (own spare : List (List ℕ)) where
  -- whether the spare's bodies are active: the number of their base is greater
  abbrev pub is_swapped : Bool
  is_swapped = nat_lt (number_of_base (base_in form own)) (number_of_base (base_in form spare))

  -- the bodies that are active
  abbrev pub active : List (List ℕ)
  active = if is_swapped then spare else own

  -- the number of their disk; a spare's is greater by 17
  abbrev pub active_disk : ℕ → ℕ
  active_disk disk = if is_swapped then disk + 17 else disk
