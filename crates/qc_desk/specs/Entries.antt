-- Histories of entries, the latest first: which are legal, what stands under a number, what was before.
use Rattle.std.specs.Prelude.{◌≡◌, ◌≤◌, ◌%◌, ◌^◌, ℕ, true, [], ◌∷◌, ◌++◌, length, ◌==◌, filter, is_some}
use Rattle.std.specs.List.{AllByRecursion}
use Rattle.qc_event.specs.Base.{Setting}
use Rattle.qc_event.specs.declared.event.Entry.{Entry}
use Rattle.qc_event.specs.declared.event.Event.{Event}
use Rattle.qc_event.specs.History.{Past, start, children}
use Rattle.qc_event.specs.Legal.{Legal}

-- an entry under a number
abbrev pub entry : ℕ → Event → Entry
entry seat event = record { seat = seat; event = event }

-- the entries under a number
abbrev pub entries_of : ℕ → Past → Past
entries_of n past = filter (λ (e : Entry). e.seat == n) past

-- the history is legal over the setting
abbrev pub IsLegal : Setting → Past → Type 0
IsLegal setting past = ∥ Legal setting past ∥₁

-- the first is what the second was before
abbrev pub IsOlder : Past → Past → Type 0
IsOlder before now = (newer : Past) × (now ≡ newer ++ before)

-- each entry stands under another number
abbrev pub AreOthers : ℕ → Past → Type 0
AreOthers seat newer = AllByRecursion (λ (e : Entry). e.seat ≡ seat → ⊥) newer

-- the second is the first and what others entered since
abbrev pub IsSince : ℕ → Past → Past → Type 0
IsSince seat before now = (newer : Past) × (now ≡ newer ++ before) × AreOthers seat newer

-- the place of each started top is at most the number of started tops
abbrev pub AreCounted : Past → Type 0
AreCounted past = (number : ℕ) → is_some (start past (number ∷ [])) ≡ true → number % 2 ^ 32 ≤ length (children past [])
