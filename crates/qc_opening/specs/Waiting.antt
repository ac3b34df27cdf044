-- The parts of rows of disks that wait.
use Rattle.std.specs.Prelude.{ℕ, List, ◌∷◌, ◌≡◌, ◌≤◌, ◌+◌, reverse}
use Rattle.std.specs.Vec.{vec_capacity}
use Rattle.qc_opening.specs.declared.waiting.Waiting.{Waiting}
use Rattle.qc_system.specs.Pairs.{in_pairs}

-- the pairs of disks, the next one first
abbrev pub waiting_in : {D : Type 0} → Waiting D → List (D × D)
waiting_in waiting = in_pairs (reverse waiting.disks.items) (reverse waiting.spares.items)

-- there is room for so many pairs, and for both disks of each in one row
abbrev pub HasRoom : {D : Type 0} → ℕ → Waiting D → Type 0
HasRoom pairs waiting = (pairs ≤ vec_capacity waiting.spares) × (pairs + pairs ≤ vec_capacity waiting.disks)

-- The first of these has become another, and the others are the same.
pub record GoesBack {A : Type 0} (Became : A → A → Type 0) (old new : List A) : Type 0 where
  pub before : A
  pub after : A
  pub rest : List A
  pub old_is : old ≡ before ∷ rest
  pub new_is : new ≡ after ∷ rest
  pub became : Became before after

-- The first of these was taken, and has this.
pub record IsTaken {A : Type 0} (P : A → Type 0) (old new : List A) : Type 0 where
  pub first : A
  pub old_is : old ≡ first ∷ new
  pub has : P first
