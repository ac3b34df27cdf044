-- What the clauses of a run follow from: its history is legal over the tuples from which it started.
use Rattle.std.proofs.Common.{ℕ, ◌≡◌, List, sym, ap, subst, ◌∙◌, reverse}
use Rattle.std.specs.Prelude.{map, Option}
use Rattle.std.specs.List.{range_with_len}
use Rattle.qc_config.specs.declared.tuple.Tuple.{Tuple}
use Rattle.qc_event.specs.Base.{IsProper as IsProperSetting}
use Rattle.qc_event.specs.Legal.{Legal}
use Rattle.qc_event.specs.Sound.{IsSound}
use Rattle.qc_event.specs.Tables.{base_of, setting_of, first_values}
use Rattle.qc_event.specs.declared.event.Entry.{Entry}
use Rattle.qc_event.specs.declared.table.Table.{Table}
use Rattle.qc_opening.specs.Pairs.{active_number, of_active, MountedInPairs}
use Rattle.qc_opening.proofs.Proper.{setting_proper}
use Rattle.qc_refine.specs.Final.{final_value}
use Rattle.qc_refine.proofs.Order.LastValues.{last_values}
use Rattle.qc_script.specs.Plan.{ScriptPlan}
use Rattle.qc_script.specs.Reading.{IsProper}
use Rattle.qc_run.specs.Run.{HasSerialValues}
use Rattle.qc_run.proofs.Starts.{start_is_sound, firsts_length}

-- the last values by versions are those of the serial machine
pub serial_values : (table : Table) (start : List (List Tuple)) (trail : List Entry) → Legal (setting_of table start) (reverse trail) → HasSerialValues table start trail
serial_values table start trail legal values sound many =
    ap (λ n. map (final_value start (reverse trail)) (range_with_len 0 n)) (sym (firsts_length table))
    ∙ sym (last_values (setting_of table start) values (reverse trail) legal sound (many ∙ sym (firsts_length table)))

-- a script's first tuples are sound for its table's start values
pub sound_from : (s : ScriptPlan) (start : List (List Tuple)) → IsProper s → start ≡ base_of s.table → IsSound (setting_of s.table start) (first_values s.table)
sound_from s start proper is = subst (λ base. IsSound (setting_of s.table base) (first_values s.table)) (sym is) (start_is_sound s proper)

-- what the disks of a proper script's store restore is a proper setting
pub proper_start : (s : ScriptPlan) (told : ℕ → Option (List ℕ)) (records : ℕ → List (List ℕ)) (epoch : ℕ) (start : List (List Tuple)) → IsProper s → MountedInPairs s.table told records epoch start → IsProperSetting (setting_of s.table start)
proper_start s told records epoch start proper m = setting_proper s proper (active_number m.swapped) (of_active s.table m.swapped told) records epoch start m.mounted
