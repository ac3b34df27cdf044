-- The disks that a system hands back, at their places: of each pair the active one and the other one.
use Rattle.std.proofs.Common.{◌≡◌, ◌⊎◌, ℕ, ◌+◌, ◌≤◌, Bool, true, false, List, length, sym, ap, ◌∙◌, subst, arith}
use Rattle.std.specs.Prelude.{cond, if◌then◌else◌, Some, slice_get}
use Rattle.qc_disk.specs.Disk.{DiskView as Disk}
use Rattle.qc_event.specs.declared.table.Table.{Table}
use Rattle.qc_event.specs.Base.{Setting}
use Rattle.qc_event.specs.History.{Past}
use Rattle.qc_event.specs.Standing.{HasEnded}
use Rattle.qc_interp.proofs.Listing.Places.{some_same}
use Rattle.qc_opening.specs.Stored.{active_place, other_place}
use Rattle.qc_opening.proofs.Mountings.Row.{row_length}
use Rattle.qc_opening.proofs.PairPlaces.{own_at, spare_at}
use Rattle.qc_opening.proofs.Places.{at_place}
use Rattle.qc_system.specs.Closing.{AllKeep, DisksKeep, Keeping, active_of, other_of}
use Rattle.qc_system.specs.Folds.{held_in, OtherFolds, OtherKeeps}
use Rattle.qc_system.specs.Parts.{Findings}

-- what became of the other disk of a pair: it has what was found there, or was folded
abbrev pub OtherIsLeft : Setting → Findings → ℕ → Past → Disk → Type 0
OtherIsLeft setting found pair past disk = OtherKeeps setting found pair disk ⊎ (HasEnded past × OtherFolds setting found pair (held_in setting found pair past) disk)

module _ {D : Type 0} (view : D → Disk) (setting : Setting) (found : Findings) (table : Table) (Done : Type 0) (disks : List D) (past : Past) (all : AllKeep setting found view Done disks past) (many : length setting.base ≡ table.copies) where
  -- all are there
  pub disks_many : length disks ≡ table.copies + 1 + (table.copies + 1)
  disks_many = omega (arith, ap length all.disks_are, row_length all.pairs, all.many, many)

  -- there is a pair of each number
  pub pair_there : (pair : ℕ) → pair ≤ table.copies → (both : D × D) × (slice_get all.pairs pair ≡ Some both)
  pair_there pair low = at_place all.pairs pair (omega (arith, all.many, many, low))

  module _ (pair : ℕ) (own spare : D) (there : slice_get all.pairs pair ≡ Some (own, spare)) where
    own_there : slice_get disks pair ≡ Some own
    own_there = ap (λ (l : List D). slice_get l pair) all.disks_are ∙ own_at all.pairs pair (own, spare) there

    spare_there : slice_get disks (table.copies + 1 + pair) ≡ Some spare
    spare_there = ap (λ (l : List D). slice_get l (table.copies + 1 + pair)) all.disks_are ∙ spare_at all.pairs (table.copies + 1) pair (own, spare) (omega (arith, all.many, many)) there

    -- the active one, and the other one
    pub active_there : (disk : D) × (slice_get disks (active_place table found.swapped pair) ≡ Some disk)
    active_there = by (found.swapped pair)
      where
        by : (b : Bool) → (disk : D) × (slice_get disks (if b then table.copies + 1 + pair else pair) ≡ Some disk)
        by true = (spare, spare_there)
        by false = (own, own_there)

    pub other_there : (disk : D) × (slice_get disks (other_place table found.swapped pair) ≡ Some disk)
    other_there = by (found.swapped pair)
      where
        by : (b : Bool) → (disk : D) × (slice_get disks (if b then pair else table.copies + 1 + pair) ≡ Some disk)
        by true = (own, own_there)
        by false = (spare, spare_there)

    -- what they have
    pub active_has : (P : Disk → Type 0) (disk : D) → slice_get disks (active_place table found.swapped pair) ≡ Some disk → P (active_of setting found pair (view own) (view spare)) → P (view disk)
    active_has P disk = by (found.swapped pair)
      where
        by : (b : Bool) → slice_get disks (if b then table.copies + 1 + pair else pair) ≡ Some disk → P (cond b (view spare) (view own)) → P (view disk)
        by true is has = subst (λ x. P (view x)) (some_same spare disk (sym spare_there ∙ is)) has
        by false is has = subst (λ x. P (view x)) (some_same own disk (sym own_there ∙ is)) has

    pub other_has : (P : Disk → Type 0) (disk : D) → slice_get disks (other_place table found.swapped pair) ≡ Some disk → P (other_of setting found pair (view own) (view spare)) → P (view disk)
    other_has P disk = by (found.swapped pair)
      where
        by : (b : Bool) → slice_get disks (if b then pair else table.copies + 1 + pair) ≡ Some disk → P (cond b (view own) (view spare)) → P (view disk)
        by true is has = subst (λ x. P (view x)) (some_same own disk (sym own_there ∙ is)) has
        by false is has = subst (λ x. P (view x)) (some_same spare disk (sym spare_there ∙ is)) has

    -- what each at its place has they have
    pub active_by : (P : Disk → Type 0) → ((disk : D) → slice_get disks (active_place table found.swapped pair) ≡ Some disk → P (view disk)) → P (active_of setting found pair (view own) (view spare))
    active_by P = by (found.swapped pair)
      where
        by : (b : Bool) → ((disk : D) → slice_get disks (if b then table.copies + 1 + pair else pair) ≡ Some disk → P (view disk)) → P (cond b (view spare) (view own))
        by true each = each spare spare_there
        by false each = each own own_there

    pub other_by : (P : Disk → Type 0) → ((disk : D) → slice_get disks (other_place table found.swapped pair) ≡ Some disk → P (view disk)) → P (other_of setting found pair (view own) (view spare))
    other_by P = by (found.swapped pair)
      where
        by : (b : Bool) → ((disk : D) → slice_get disks (if b then pair else table.copies + 1 + pair) ≡ Some disk → P (view disk)) → P (cond b (view own) (view spare))
        by true each = each own own_there
        by false each = each spare spare_there

  module _ (pair : ℕ) (keeps : Keeping) (d : DisksKeep setting found view all.pairs pair keeps past) where
    -- what they keep
    pub active_keeps : (disk : D) → slice_get disks (active_place table found.swapped pair) ≡ Some disk → keeps (view disk) past
    active_keeps disk is = active_has pair d.own d.spare d.there (λ x. keeps x past) disk is d.kept.active

    pub other_keeps : (disk : D) → slice_get disks (other_place table found.swapped pair) ≡ Some disk → OtherIsLeft setting found pair past (view disk)
    other_keeps disk is = other_has pair d.own d.spare d.there (OtherIsLeft setting found pair past) disk is d.kept.other
