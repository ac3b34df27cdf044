-- Where no disk of a run failed since it was given, and each base has room, nothing bars the pairs from being folded.
use Rattle.std.proofs.Common.{◌≡◌, ℕ, ◌+◌, ◌<◌, ◌≤◌, true, List, length, sym, subst, arith}
use Rattle.std.proofs.lemmas.Option.{slice_get_within}
use Rattle.std.specs.Prelude.{Some, slice_get}
use Rattle.qc_disk.specs.Disk.{DiskView, Rose}
use Rattle.qc_event.specs.Base.{Setting}
use Rattle.qc_event.specs.History.{Past, limit}
use Rattle.qc_event.specs.Standing.{HasEnded}
use Rattle.qc_event.specs.declared.table.Table.{Table}
use Rattle.qc_opening.specs.Pairs.{of_active, of_other}
use Rattle.qc_opening.specs.Stored.{active_place, other_place}
use Rattle.qc_opening.proofs.KeptDisks.KeptPairs.ImagesKept.{one_at}
use Rattle.qc_opening.proofs.KeptPlaces.{active_by, other_by}
use Rattle.qc_pair.specs.Folding.{HasNoRoom, next_base}
use Rattle.qc_system.specs.Closing.{AllKeep, AreFree}
use Rattle.qc_system.specs.Folds.{held_at}
use Rattle.qc_system.specs.Parts.{Findings}

-- a count that rose since a later one rose since an earlier one
rose_too : (fewer first count now : ℕ) → fewer ≤ first → fewer ≡ count → Rose first now → Rose count now
rose_too fewer first count now few is rose = omega (arith, few, is, rose)

module _ {D : Type 0} (view : D → DiskView) (setting : Setting) (found : Findings) (table : Table) (Done : Type 0) (disks : List D) (past : Past) (all : AllKeep setting found view Done disks past) (many : length setting.base ≡ table.copies) (counts : ℕ → ℕ)
    (told : (pair : ℕ) → pair ≤ table.copies → (found.active pair).told ≡ true)
    (later : (pair : ℕ) → pair ≤ table.copies → of_active table found.swapped counts pair ≤ (found.active pair).first.faults) (other_later : (pair : ℕ) → pair ≤ table.copies → of_other table found.swapped counts pair ≤ (found.other pair).first.faults)
    (sound : (place : ℕ) (disk : D) → slice_get disks place ≡ Some disk → Rose (counts place) (view disk).faults → ⊥)
    (room : (pair : ℕ) → pair ≤ table.copies → (at : ℕ) → HasNoRoom (found.number pair) found.limit (found.made pair) (next_base table.copies (found.number pair) found.epoch (held_at setting pair past)) at → ⊥) where
  pub are_free : HasEnded past → length past < limit → AreFree setting found view all.pairs past
  are_free ended short = record {
    ended = ended;
    room = short;
    each = λ pair own spare there.
        let within : pair < length all.pairs = slice_get_within all.pairs pair (own, spare) there in
        let low : pair ≤ table.copies = omega (arith, within, all.many, many) in
        record {
          told = told pair low;
          sound = active_by view setting found table Done disks past all many pair own spare there (λ disk. Rose (found.active pair).first.faults disk.faults → ⊥)
              (λ disk is rose. sound (active_place table found.swapped pair) disk is
              (rose_too (of_active table found.swapped counts pair) (found.active pair).first.faults (counts (active_place table found.swapped pair)) (view disk).faults (later pair low)
              (sym (one_at counts (found.swapped pair) pair (table.copies + 1 + pair))) rose));
          sound_other = other_by view setting found table Done disks past all many pair own spare there (λ disk. Rose (found.other pair).first.faults disk.faults → ⊥)
              (λ disk is rose. sound (other_place table found.swapped pair) disk is
              (rose_too (of_other table found.swapped counts pair) (found.other pair).first.faults (counts (other_place table found.swapped pair)) (view disk).faults (other_later pair low)
              (sym (one_at counts (found.swapped pair) (table.copies + 1 + pair) pair)) rose));
          room = λ at none. room pair low at
              (subst (λ n. HasNoRoom (found.number pair) found.limit (found.made pair) (next_base n (found.number pair) found.epoch (held_at setting pair past)) at) many none);
        };
  }
