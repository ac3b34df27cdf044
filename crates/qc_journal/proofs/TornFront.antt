-- A closed gate at the front that is written again, torn, may be left open, and what stood behind it is then a record.
use Rattle.std.proofs.Common.{◌≡◌, ◌≤◌, ℕ, zero, suc, List, [], ◌∷◌, get_or, inr, refl, arith}
use Rattle.std.proofs.lemmas.List.Elements.{All-nil, All-cons}
use Rattle.qc_disk.specs.Disk.{Torn}
use Rattle.qc_journal.specs.Image.{EndsAt, HasRecords, IsShort, length_bytes}

abbrev old : List ℕ
old = 0 ∷ 0 ∷ 0 ∷ 0 ∷ 0 ∷ 0 ∷ []

abbrev new : List ℕ
new = 1 ∷ 0 ∷ 0 ∷ 0 ∷ 0 ∷ 0 ∷ []

had_none : EndsAt 0 [] old
had_none = record { gate = 0; rest = 0 ∷ 0 ∷ 0 ∷ 0 ∷ 0 ∷ []; split = refl; closed = omega arith; size = refl; short = All-nil IsShort }

same_behind : (i : ℕ) → 1 ≤ i → get_or new i 0 ≡ get_or old i 0
same_behind zero above = absurd (omega (arith, above))
same_behind (suc i) above = refl

torn : Torn 0 1 old new
torn = record { before = λ i below within. absurd (omega (arith, below)); after = λ i above within. same_behind i above; no_shorter = omega arith; no_longer = omega arith }

has_one : HasRecords ([] ∷ []) new
unfolding length_bytes
has_one = inr (5, record { gate = 0; rest = []; split = refl; closed = omega arith; size = refl; short = All-cons IsShort [] [] (omega arith) (All-nil IsShort) })
