-- What a base carries that disks restore beside a legal history, and which it is where nothing was logged.
use Rattle.std.proofs.Common.{◌≡◌, ℕ, ◌<◌, List, [], length, refl, sym, ap, ◌∙◌, subst, arith, append-nil}
use mathlib.Core.Bool.{true≢false}
use Rattle.std.specs.Prelude.{map, Some}
use Rattle.std.proofs.lemmas.List.{get_or-replicate, length-map, length-replicate}
use Rattle.std.proofs.lemmas.List.Elements.{All-nil}
use Rattle.qc_config.specs.Val.{Datum}
use Rattle.qc_config.specs.declared.tuple.Tuple.{Tuple}
use Rattle.qc_event.specs.declared.table.Row.{Row}
use Rattle.qc_event.specs.declared.table.Table.{Table}
use Rattle.qc_event.specs.Base.{start_tuple}
use Rattle.qc_event.specs.History.{Past}
use Rattle.qc_event.specs.Legal.{Legal}
use Rattle.qc_event.specs.Manager.{greatest_among}
use Rattle.qc_event.specs.Sound.{IsSound, column}
use Rattle.qc_event.specs.Tables.{base_of, first_tuple, setting_of}
use Rattle.qc_serial.specs.Serial.{final_values}
use Rattle.qc_refine.specs.Folded.{AreFoldedPairs, begins}
use Rattle.qc_refine.specs.Images.{CarryFinal}
use Rattle.qc_refine.specs.Restored.{Kept, restored, restored_setting}
use Rattle.qc_refine.specs.Standing.{StandBeside, committed_too}
use Rattle.qc_refine.proofs.Copies.Grids.{grid_is}
use Rattle.qc_refine.proofs.Order.LastValues.{last_value}
use Rattle.qc_refine.proofs.Restoring.FoldedPairs.{folded_sound}

-- WHAT IS CARRIED

-- What disks restore whose pairs are as they were or were folded carries the serial machine's values.
module _ (table : Table) (base : List (List Tuple)) (epoch : ℕ) (past : Past) (first : List (List Tuple)) (before now : Kept) (beside : StandBeside first epoch (setting_of table base) before now past)
    (first' : List (List Tuple)) (now' : Kept) (folded : AreFoldedPairs (setting_of table base) past first first' now now') (tuples : List (List Tuple)) (same : tuples ≡ restored first' (length table.records) now')
    (values : List Datum) (legal : Legal (setting_of table base) past) (sound : IsSound (setting_of table base) values) where
  abbrev finals : List Datum
  finals = final_values values (committed_too past beside.more)

  same_setting : restored_setting first' (setting_of table base) now' ≡ setting_of table tuples
  same_setting =
      ap (λ n. setting_of table (restored first' n now')) (length-map table.records (λ (row : Row). row.config))
      ∙ ap (setting_of table) (sym same)

  tuples_sound : IsSound (setting_of table tuples) finals
  tuples_sound =
      subst (λ s. IsSound s finals) same_setting
      (folded_sound first epoch (setting_of table base) before now past legal beside first' now' folded values sound)

  pub folded_carry : CarryFinal table values (committed_too past beside.more) tuples
  folded_carry = record {
    sound = tuples_sound;
    greatest = λ rec there.
        last_value (setting_of table tuples) finals [] rec tt tuples_sound
        (let many = length-map table.records (λ (row : Row). row.config) in omega (arith, many, there))
        ∙ ap (λ (ts : List Tuple). Some (greatest_among ts).value) (append-nil (column tuples rec));
  }

-- WHERE NOTHING WAS LOGGED

module _ (table : Table) where
  abbrev first : List (List Tuple)
  first = base_of table

  abbrev row : List Tuple
  row = map first_tuple table.records

  -- where nothing was logged, the start is restored
  pub nothing_restored : restored first (length (setting_of table first).firsts) (record { tops = []; granted = [] }) ≡ first
  nothing_restored = sym (
      grid_is (length first) (length (setting_of table first).firsts) (start_tuple first) first refl
      (λ copy there.
      ap length (get_or-replicate table.copies copy row [] (subst (λ n. copy < n) (length-replicate table.copies row) there))
      ∙ length-map table.records first_tuple
      ∙ sym (length-map table.records (λ (r : Row). r.config)))
      (λ copy rec here there. refl))

  -- disks of which nothing was logged stand beside the empty history
  abbrev pub fresh_beside : StandBeside first 1 (setting_of table first) (record { tops = []; granted = [] }) (record { tops = []; granted = [] }) []
  fresh_beside = record {
    starts = sym nothing_restored;
    old_tops = All-nil _;
    old_grants = λ copy there. All-nil _;
    of_epoch = λ number began. absurd (true≢false (sym began));
    more = [];
    next = tt;
    tops = refl;
    untold = λ copy. [];
    are_untold = λ copy there. All-nil _;
    granted = λ copy there. refl;
  }

  pub fresh_many : length first ≡ table.copies
  fresh_many = length-replicate table.copies row

  -- each copy begins with the table's first tuples
  pub fresh_begins : (copy : ℕ) → copy < table.copies → row ≡ begins first copy
  fresh_begins copy there = sym (get_or-replicate table.copies copy row [] there)
