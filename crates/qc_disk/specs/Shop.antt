-- What a shop that gives disks says of the disk that it gives.
use Rattle.std.specs.Prelude.{◌≡◌, ℕ, List, [], ◌∷◌, Option, Some, None, Result, Ok, Err, map}

-- A shop at a moment.
pub record ShopView : Type 0 where
  -- the bytes of the disk that it would give, by its place and number, where it tells
  pub offers : List ℕ → ℕ → Option (List ℕ)
  -- how often that disk has failed, up to `2^64 - 1`
  pub counts : List ℕ → ℕ → ℕ
  -- how often the shop has failed, up to `2^64 - 1`
  pub faults : ℕ
  -- the disks that it gave, by their place and number, the first one first
  pub gave : List (List ℕ × ℕ)

-- It tells the same of the disk that it would give for a place and a number.
pub record TellsAlike (before now : ShopView) (place : List ℕ) (which : ℕ) : Type 0 where
  pub offers : now.offers place which ≡ before.offers place which
  pub counts : now.counts place which ≡ before.counts place which

-- where a content is told, this tells the same
abbrev pub Tells : Option (List ℕ) → Option (List ℕ) → Type 0
Tells None told = Unit {0}
Tells (Some bytes) told = told ≡ Some bytes

-- the disk that was given for a place and a number, where one was
abbrev pub if_given : {D E : Type 0} → Result D E → List ℕ → ℕ → List (List ℕ × ℕ)
if_given (Ok disk) place which = (place, which) ∷ []
if_given (Err e) place which = []

-- the disks of a place that have these numbers
abbrev pub disks_of_place : List ℕ → List ℕ → List (List ℕ × ℕ)
disks_of_place place numbers = map (λ which. (place, which)) numbers
