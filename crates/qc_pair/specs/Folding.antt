-- What a fold leaves, and why it is refused.
use Rattle.std.specs.Prelude.{ℕ, ◌≡◌, ◌<◌, ◌≤◌, ◌+◌, ◌^◌, ◌⊎◌, List, [], ◌∷◌, length}
use Rattle.qc_codec.specs.Bodies as body
use Rattle.qc_codec.specs.Fields.{current}
use Rattle.qc_config.specs.declared.tuple.Tuple.{Tuple}
use Rattle.qc_journal.specs.Image.{HasRecords}
use Rattle.qc_journal.specs.Journal.{IsTooLong}
use Rattle.qc_journal.specs.declared.fault.Fault.{Fault}
use Rattle.qc_journal.specs.declared.fault.Fault.TheVariants.{Broken}

-- an image has these records, or none, or the first of two others, or both
abbrev pub IsFolding : List (List ℕ) → List ℕ → List ℕ → List ℕ → Type 0
IsFolding bodies made base image = HasRecords bodies image ⊎ (HasRecords [] image ⊎ (HasRecords (made ∷ []) image ⊎ HasRecords (made ∷ base ∷ []) image))

-- where the second of two bodies goes, and what comes behind both
abbrev pub behind_made : List ℕ → ℕ
behind_made made = 5 + length made

abbrev pub behind_both : List ℕ → List ℕ → ℕ
behind_both made base = behind_made made + 5 + length base

-- the first of two bodies that would pass the limit goes to this place
abbrev pub IsFullFold : ℕ → List ℕ → List ℕ → ℕ → Type 0
IsFullFold limit made base place = ((place ≡ 0) × IsTooLong 0 limit made)
    ⊎ ((IsTooLong 0 limit made → ⊥) × ((place ≡ behind_made made) × IsTooLong (behind_made made) limit base))

-- the body of the base behind one of this number, of a store of so many copies
abbrev pub next_base : ℕ → ℕ → ℕ → List Tuple → List ℕ
next_base copies number epoch tuples = (body.base (current copies) (length tuples)).spell (record { number = number + 1; epoch = epoch; tuples = tuples })

-- A fold behind a base of this number has no room at a place: there is no next number, or a body would pass the limit.
abbrev pub HasNoRoom : ℕ → ℕ → List ℕ → List ℕ → ℕ → Type 0
HasNoRoom number limit made base place = ((place ≡ 0) × (2 ^ 63 ≤ number)) ⊎ ((number < 2 ^ 63) × IsFullFold limit made base place)

-- a fold may be refused for this
abbrev pub IsFoldNo : Fault → Type 0
IsFoldNo (Broken place) = ⊥
IsFoldNo _ = Unit {0}
