-- What disks tell of the runs that wrote them, and the tuples that they restore.
use Rattle.std.specs.Prelude.{ℕ, List, [], map, length, slice_index_or}
use Rattle.std.specs.List.{range_with_len}
use Rattle.qc_config.specs.Val.{Datum}
use Rattle.qc_codec.specs.Restored.{restored_row}
use Rattle.qc_codec.specs.declared.past.Logged.{Logged}
use Rattle.qc_config.specs.declared.tuple.Tuple.{Tuple}
use Rattle.qc_event.specs.declared.event.Grant.{Grant}
use Rattle.qc_event.specs.Base.{Setting, start_tuple}
use Rattle.qc_event.specs.Manager.{greatest_among}
use Rattle.qc_event.specs.Sound.{column}

-- What disks tell: the tops that were logged, and what each copy granted, both in order.
pub record Kept : Type 0 where
  pub tops : List Logged
  pub granted : List (List Grant)

-- what a copy granted
abbrev pub granted_at : Kept → ℕ → List Grant
granted_at kept copy = slice_index_or kept.granted copy []

-- the tuples that disks restore, by copy and record
abbrev pub restored : List (List Tuple) → ℕ → Kept → List (List Tuple)
restored start records kept = map (λ copy. restored_row kept.tops records (start_tuple start copy) (granted_at kept copy)) (range_with_len 0 (length start))

-- what a run starts from over what disks restore: the first configurations are as they were
abbrev pub restored_setting : List (List Tuple) → Setting → Kept → Setting
restored_setting first setting kept = record { firsts = setting.firsts; base = restored first (length setting.firsts) kept }

-- the value of a record that tuples restore: that of the greatest version over all copies
abbrev pub restored_value : List (List Tuple) → ℕ → Datum
restored_value tuples rec = (greatest_among (column tuples rec)).value
