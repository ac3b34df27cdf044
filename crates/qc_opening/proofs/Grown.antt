-- What is kept of each disk since its mounting is growth of the disk as it was then.
use Rattle.std.proofs.Common.{◌≡◌, ◌⊎◌, ℕ, zero, suc, ◌+◌, ◌<◌, ◌≤◌, ◌^◌, ⊎_elim, inl, inr, true, List, [], length, subst, arith}
use Rattle.std.specs.Prelude.{IsOk, Option, Some, is_some, slice_get}
use Rattle.std.proofs.Math.Logic.{∥∥₁_map}
use Rattle.qc_disk.specs.Disk.{DiskView}
use Rattle.qc_event.specs.Base.{Setting}
use Rattle.qc_event.specs.Standing.{HasEnded}
use Rattle.qc_event.specs.Tables.{setting_of}
use Rattle.qc_event.specs.declared.table.Table.{Table}
use Rattle.qc_opening.specs.Pairs.{made_other, of_active, of_other}
use Rattle.qc_opening.specs.Stored.{active_place, base_of_fold, disks_of, other_place, past_of, AreOfRun, HasGrown, HasKept, HaveGrown, UnablesHadCause, WasFoldedInto, WasMounted}
use Rattle.qc_opening.specs.declared.stored.Stored.{Stored}
use Rattle.qc_opening.proofs.KeptOtherwise.{findings}
use Rattle.qc_opening.proofs.KeptPlaces.{active_keeps, other_keeps, OtherIsLeft}
use Rattle.qc_pair.specs.Folding.{next_base}
use Rattle.qc_system.specs.Closing.{CopyKeeps, LedgerKeeps}
use Rattle.qc_system.specs.Folds.{held_at}
use Rattle.qc_system.specs.Grown.{FoldedFrom, GrownFrom}
use Rattle.qc_system.specs.Parts.{Findings}

module _ {D : Type 0} (view : D → DiskView) where
  -- one disk
  grown_so : (first disk : D) (before : List (List ℕ)) (May : List (List ℕ) → Type 0) (told : Option (List ℕ)) → WasMounted view first before told → is_some told ≡ true → ∥ (is_some told ≡ true → GrownFrom (view first) before May (view disk)) ∥₁ → ∥ HasGrown view before May disk ∥₁
  grown_so first disk before May told was tells grown = ∥∥₁_map grown (λ g. record { first = first; tells = was.tells tells; had = was.had tells; grown = g tells })

  folded_so : (first disk : D) (before : List (List ℕ)) (made base : List ℕ) (told : Option (List ℕ)) → WasMounted view first before told → is_some told ≡ true → ∥ (is_some told ≡ true → FoldedFrom (view first) before made base (view disk)) ∥₁ → ∥ WasFoldedInto view before made base disk ∥₁
  folded_so first disk before made base told was tells folds = ∥∥₁_map folds (λ f. record { first = first; tells = was.tells tells; had = was.had tells; folds = f tells })

  module _ (table : Table) (most : ℕ) (told : ℕ → Option (List ℕ)) (stored : Stored D) (kept : HasKept view table most told stored) where
    abbrev setting : Setting
    setting = setting_of table stored.ended.start

    abbrev found : Findings
    found = findings kept.mounted.swapped most stored.epoch kept.records (λ pair. view (kept.firsts pair)) (λ pair. view (kept.other_firsts pair)) (λ pair. is_some (of_active table kept.mounted.swapped told pair)) (λ pair. is_some (of_other table kept.mounted.swapped told pair)) kept.others kept.numbers (λ pair. made_other table kept.mounted.swapped pair)

    many : length setting.base ≡ table.copies
    many = kept.mounted.mounted.as_many

    -- a pair's active disk
    active_grown : (pair : ℕ) (disk : D) → pair ≤ table.copies → slice_get (disks_of stored) (active_place table kept.mounted.swapped pair) ≡ Some disk → is_some (of_active table kept.mounted.swapped told pair) ≡ true
        → ∥ HasGrown view (kept.records pair) (AreOfRun setting pair (past_of stored)) disk ∥₁
    active_grown zero disk low is tells =
        grown_so (kept.firsts 0) disk (kept.records 0) (AreOfRun setting 0 (past_of stored)) (of_active table kept.mounted.swapped told 0) (kept.was 0 low) tells
        (active_keeps view setting found table (IsOk stored.ended.ran) (disks_of stored) (past_of stored) kept.kept many 0 (LedgerKeeps setting found) kept.kept.ledger disk is).grown
    active_grown (suc copy) disk low is tells =
        let next : copy + 1 ≡ suc copy = omega arith in
        subst (λ n. slice_get (disks_of stored) (active_place table kept.mounted.swapped n) ≡ Some disk → is_some (of_active table kept.mounted.swapped told n) ≡ true → ∥ HasGrown view (kept.records n) (AreOfRun setting (suc copy) (past_of stored)) disk ∥₁) next
        (λ there some. grown_so (kept.firsts (copy + 1)) disk (kept.records (copy + 1)) (AreOfRun setting (suc copy) (past_of stored)) (of_active table kept.mounted.swapped told (copy + 1)) (kept.was (copy + 1) (omega (arith, low))) some
        (active_keeps view setting found table (IsOk stored.ended.ran) (disks_of stored) (past_of stored) kept.kept many (copy + 1) (CopyKeeps setting found copy) (kept.kept.copies copy (omega (arith, low, many))) disk there).grown) is tells

    -- and the other one
    other_at : (pair : ℕ) (disk : D) → pair ≤ table.copies → slice_get (disks_of stored) (other_place table kept.mounted.swapped pair) ≡ Some disk → OtherIsLeft setting found pair (past_of stored) (view disk)
    other_at zero disk low is = other_keeps view setting found table (IsOk stored.ended.ran) (disks_of stored) (past_of stored) kept.kept many 0 (LedgerKeeps setting found) kept.kept.ledger disk is
    other_at (suc copy) disk low is =
        let next : copy + 1 ≡ suc copy = omega arith in
        subst (λ n. slice_get (disks_of stored) (other_place table kept.mounted.swapped n) ≡ Some disk → OtherIsLeft setting found n (past_of stored) (view disk)) next
        (other_keeps view setting found table (IsOk stored.ended.ran) (disks_of stored) (past_of stored) kept.kept many (copy + 1) (CopyKeeps setting found copy) (kept.kept.copies copy (omega (arith, low, many))) disk) is

    abbrev base : ℕ → List ℕ
    base pair = base_of_fold table kept.numbers stored.epoch stored.ended.start pair (past_of stored)

    other_grown : (pair : ℕ) (disk : D) → pair ≤ table.copies → slice_get (disks_of stored) (other_place table kept.mounted.swapped pair) ≡ Some disk → is_some (of_other table kept.mounted.swapped told pair) ≡ true
        → ∥ HasGrown view (kept.others pair) (λ (more : List (List ℕ)). more ≡ []) disk ∥₁
        ⊎ (HasEnded (past_of stored) × (kept.numbers pair < 2 ^ 63) × ∥ WasFoldedInto view (kept.others pair) (made_other table kept.mounted.swapped pair) (base pair) disk ∥₁)
    other_grown pair disk low is tells =
        let told_other = of_other table kept.mounted.swapped told pair in
        let was = kept.other_was pair low in
        ⊎_elim (λ keeps. inl (grown_so (kept.other_firsts pair) disk (kept.others pair) (λ (more : List (List ℕ)). more ≡ []) told_other was tells keeps.grown))
        (λ folds. inr (
          folds.0,
          folds.1.next,
          subst (λ n. ∥ WasFoldedInto view (kept.others pair) (made_other table kept.mounted.swapped pair) (next_base n (kept.numbers pair) stored.epoch (held_at setting pair (past_of stored))) disk ∥₁) many
              (folded_so (kept.other_firsts pair) disk (kept.others pair) (made_other table kept.mounted.swapped pair) (next_base (length setting.base) (kept.numbers pair) stored.epoch (held_at setting pair (past_of stored))) told_other was tells folds.1.folds),
        ))
        (other_at pair disk low is)

    pub have_grown : HaveGrown view table told stored.epoch stored.ended.start (disks_of stored) (past_of stored)
    have_grown = record {
      records = kept.records;
      others = kept.others;
      numbers = kept.numbers;
      mounted = kept.mounted;
      others_are = kept.others_are;
      numbers_are = kept.numbers_are;
      grown = active_grown;
      kept = other_grown;
    }

    -- why the ledger and the copies were unable
    pub had_cause : UnablesHadCause table most told stored.epoch stored.ended.start (past_of stored)
    had_cause = record {
      records = kept.records;
      mounted = kept.mounted;
      tops = λ tells. kept.kept.ledger.kept.active.full tells;
      full = λ copy there tells. ∥∥₁_map (kept.kept.copies copy there).kept.active.full (λ full. full tells);
      plain = λ copy there tells. (kept.kept.copies copy there).kept.active.plain tells;
    }
