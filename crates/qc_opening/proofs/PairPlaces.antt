-- Where a disk and its spare stand in one row.
use Rattle.std.proofs.Common.{◌≡◌, ℕ, zero, suc, ◌+◌, List, [], ◌∷◌, length, map, get_or, refl, sym}
use Rattle.std.specs.Prelude.{None, Some, slice_get}
use Rattle.qc_opening.proofs.Mountings.Row as row
use Rattle.qc_system.specs.Pairs.{own_then_spares}

-- what is told at a place stands there
there : {A : Type 0} (xs : List A) (i : ℕ) (x : A) → get_or (map Some xs) i None ≡ Some x → slice_get xs i ≡ Some x
there [] i x is = absurd cc
there (y ∷ xs) zero x is = is
there (y ∷ xs) (suc i) x is = there xs i x is

module _ {A : Type 0} (pairs : List (A × A)) where
  -- the disk of a pair stands at the pair's place
  pub own_at : (i : ℕ) (p : A × A) → slice_get pairs i ≡ Some p → slice_get (own_then_spares pairs) i ≡ Some p.0
  own_at i p is = there (own_then_spares pairs) i p.0 (row.own_at Some None pairs i p is)

  -- and its spare behind all disks
  pub spare_at : (many i : ℕ) (p : A × A) → many ≡ length pairs → slice_get pairs i ≡ Some p → slice_get (own_then_spares pairs) (many + i) ≡ Some p.1
  spare_at many i p size is = there (own_then_spares pairs) (many + i) p.1 (row.spare_at Some None pairs i many (many + i) p is (sym size) refl)
