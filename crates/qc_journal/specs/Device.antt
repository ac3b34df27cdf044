-- What a run of calls may leave.
use Rattle.std.specs.Prelude.{◌≡◌, ◌≤◌, ◌⊎◌, ℕ, List, [], ◌∷◌, Option, length, IfSome}
use Rattle.qc_disk.specs.Disk.{DiskView, Grows}
use Rattle.qc_journal.specs.Image.{HasAt}

-- one of these images after a step
abbrev pub Touched : (List ℕ → List ℕ → Type 0) → (List ℕ → Type 0) → List ℕ → Type 0
Touched step images c = (d : List ℕ) × images d × step d c

-- the same bytes, or at most one byte of each, which has no records
abbrev pub IsAlike : List ℕ → List ℕ → Type 0
IsAlike old new = (new ≡ old) ⊎ ((length old ≤ 1) × (length new ≤ 1))

-- a closed gate where there was at most one byte
abbrev pub made_ready : List ℕ → List ℕ
made_ready [] = 0 ∷ []
made_ready (byte ∷ []) = 0 ∷ []
made_ready (first ∷ second ∷ rest) = first ∷ second ∷ rest

-- what was left before, or what is like a content that is told
abbrev pub LeftOrAlike : (List ℕ → Type 0) → Option (List ℕ) → List ℕ → Type 0
LeftOrAlike left told c = left c ⊎ IfSome told (λ bytes. IsAlike bytes c)

module _ {D : Type 0} (view : D → DiskView) (old new : D) where
  -- of two moments of the run, each image of the later has every record that all images of the earlier have
  abbrev pub LosesNoRecord : Type 0
  LosesNoRecord = (index : ℕ) (body : List ℕ) → Grows view old new (HasAt index body)
