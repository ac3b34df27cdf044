-- Marks of sessions, and what the words of a board have to do with them.
use Rattle.std.specs.Prelude.{◌≡◌, ℕ, ◌<◌, ◌≤◌, ◌⊎◌, List, [], ◌∷◌, ◌++◌, length, slice_index, IsBitSet, true, false}
use mathlib.Core.Option.{some}
use lib.ListN.{get_elem?}
use Rattle.atomic_table.specs.Table.{State, Step, Me}
use Rattle.qc_board.specs.Boards.{Mark, Seated}
use Rattle.qc_board.specs.declared.view.Known.{Known}

-- the mark is one of these
abbrev pub Has : List Mark → Mark → Type 0
Has marks mark = (k : ℕ) × (get_elem? marks k ≡ some mark)

-- each mark is of a session that may be marked, and at most that session's word
abbrev pub AllReach : ℕ → List ℕ → List Mark → Type 0
AllReach may words marks = (mark : Mark) → Has marks mark → IsBitSet may mark.0 × (mark.1 ≤ slice_index words mark.0)

-- the word is 0 or a mark of some view
abbrev pub IsMark : List Known → ℕ → ℕ → Type 0
IsMark views session word = (word ≡ 0) ⊎ ((by : ℕ) × (v : Known) × (get_elem? views by ≡ some v) × Has v.marks (session, word))

-- The rule: each mark that a view knows is at most its session's word, and each word is 0 or a mark of some view.
abbrev pub IsBoard : ℕ → State ℕ Known → Type 0
IsBoard may s =
    (length s.words ≡ 16)
    × ((by : ℕ) (v : Known) → get_elem? s.views by ≡ some v → (v.live ≡ true → v.may ≡ may) × AllReach may s.words v.marks)
    × ((session : ℕ) → session < 16 → IsMark s.views session (slice_index s.words session))

abbrev pub known : ℕ → List Mark → Known
known may marks = record { live = true; may = may; marks = marks }

-- a seat that was joined into another
abbrev pub nobody : Known
nobody = record { live = false; may = 0; marks = [] }

-- two seats are joined
abbrev pub both_marks : Known → Known → Known
both_marks v w = known v.may (v.marks ++ w.marks)

-- the caller's view has one mark more
abbrev pub Dooms : Step ℕ → Me ℕ Known → ℕ → Me ℕ Known → Type 0
Dooms s v found w = w ≡ (known v.0.may ((s.word, s.first) ∷ v.0.marks), v.1)

-- the word is at least every mark of its session among these, and 0 where the session may not be marked
abbrev pub IsBound : ℕ → List Mark → ℕ → ℕ → Type 0
IsBound may marks session word = ((upto : ℕ) → Has marks (session, upto) → upto ≤ word) × ((IsBitSet may session → ⊥) → word ≡ 0)

-- the same of the marks that a seat knows
abbrev pub IsAbove : Seated → ℕ → ℕ → Type 0
IsAbove seat session word = IsBound seat.may seat.marks session word

-- the caller finds such a word
abbrev pub Looks : Step ℕ → Me ℕ Known → ℕ → Me ℕ Known → Type 0
Looks s v found w = (w ≡ v) × IsBound v.0.may v.0.marks s.word found
