-- One run of calls after another leaves what a fold may, and when there is room for it.
use Rattle.std.proofs.Common.{◌≡◌, ◌<◌, ◌^◌, inl, inr, ⊎_elim, ◌⊎◌, ℕ, List, [], ◌∷◌, arith, subst}
use Rattle.std.specs.Prelude.{Result, Ok, Err, OnOk}
use Rattle.qc_disk.specs.Disk.{DiskView, LeavesOnly}
use Rattle.qc_disk.specs.declared.disk.Disk.{Ghosts}
use Rattle.qc_journal.specs.Image.{HasRecords}
use Rattle.qc_journal.specs.Journal.{limit_of}
use Rattle.qc_journal.proofs.Moments.{continues, weakened}
use Rattle.qc_pair.specs.Fold.{active_number, made_in, other_in}
use Rattle.qc_pair.specs.Folding.{HasNoRoom, IsFolding, IsFullFold}
use Rattle.qc_pair.specs.declared.fold.Fold.{Fold}

module _ {D : Type 0} (view : D → DiskView) (bodies : List (List ℕ)) (made base : List ℕ) where
  abbrev pub IsLeft : List ℕ → Type 0
  IsLeft = IsFolding bodies made base

  -- what was there, or nothing
  pub dropped : (old new : D) → LeavesOnly view old new (λ image. HasRecords bodies image ⊎ HasRecords [] image) → LeavesOnly view old new IsLeft
  dropped old new run = weakened view old new _ IsLeft run (λ image. ⊎_elim inl (λ none. inr (inl none)))

  -- nothing, or the first
  pub made_too : (old mid new : D) → LeavesOnly view old mid IsLeft → LeavesOnly view mid new (λ image. HasRecords [] image ⊎ HasRecords (made ∷ []) image) → LeavesOnly view old new IsLeft
  made_too old mid new so_far run = continues view old mid new IsLeft _ IsLeft so_far run (λ image has. has) (λ image. ⊎_elim (λ none. inr (inl none)) (λ one. inr (inr (inl one))))

  -- the first, or both
  pub base_too : (old mid new : D) → LeavesOnly view old mid IsLeft → LeavesOnly view mid new (λ image. HasRecords (made ∷ []) image ⊎ HasRecords (made ∷ base ∷ []) image) → LeavesOnly view old new IsLeft
  base_too old mid new so_far run = continues view old mid new IsLeft _ IsLeft so_far run (λ image has. has) (λ image. ⊎_elim (λ one. inr (inr (inl one))) (λ both. inr (inr (inr both))))

-- the same of bodies that are the same
pub same_run : {D : Type 0} (view : D → DiskView) (old new : D) (bodies : List (List ℕ)) (m b made base : List ℕ) → m ≡ made → b ≡ base
    → LeavesOnly view old new (IsFolding bodies m b) → LeavesOnly view old new (IsFolding bodies made base)
same_run view old new bodies m b made base made_is base_is run =
    subst (λ (x : List ℕ). LeavesOnly view old new (IsFolding bodies made x)) base_is
    (subst (λ (x : List ℕ). LeavesOnly view old new (IsFolding bodies x b)) made_is run)

-- there is room for a fold where there is a next number and room for both bodies
pub room_for : {D : Type 0} {g : Ghosts D} {T E : Type 0} (fold : Fold D g) (base m b : List ℕ) (result : Result T E)
    → m ≡ made_in fold → b ≡ base → active_number fold < 2 ^ 63
    → OnOk result ((place : ℕ) → IsFullFold (limit_of (other_in fold)) m b place → ⊥)
    → OnOk result ((place : ℕ) → HasNoRoom (active_number fold) (limit_of (other_in fold)) (made_in fold) base place → ⊥)
room_for fold base m b (Ok x) made_is base_is below room = λ place. ⊎_elim (λ last. absurd (omega (arith, below, last.1)))
    (λ full. subst (λ (y : List ℕ). (place : ℕ) → IsFullFold (limit_of (other_in fold)) (made_in fold) y place → ⊥) base_is
    (subst (λ (y : List ℕ). (place : ℕ) → IsFullFold (limit_of (other_in fold)) y b place → ⊥) made_is room) place full.1)
room_for fold base m b (Err e) made_is base_is below room = tt
