-- The way from a name's node to its child's.
use Rattle.std.proofs.Common.{◌≡◌, ℕ, zero, suc, ◌+◌, ◌<◌, ◌≤◌, ◌⊎◌, inl, inr, false, true, List, [], ◌∷◌, ◌++◌, length, take, drop, refl, sym, ap, ◌∙◌, arith, take-append-drop, take-take}
use Rattle.std.proofs.lemmas.List.{length-take-le}
use Rattle.qc_event.specs.declared.event.Outcome.TheVariants.{Live}
use Rattle.qc_event.specs.Dead.{outcome, outcome_of, is_aborted, dead}
use Rattle.qc_event.proofs.Ancestors.{find_ancestor, find_no_ancestor}
use Rattle.std.specs.Prelude.{None, Some, slice_get}
use Rattle.qc_event.specs.Base.{Setting}
use Rattle.qc_event.specs.History.{Past, Name, start, end}
use Rattle.qc_event.specs.Legal.{Legal}
use Rattle.qc_event.proofs.LegalOrderly.{legal_orderly}
use Rattle.std.proofs.lemmas.Option.{same_Some}
use Rattle.qc_history.specs.Spots.{Spot, child_at, AreWithin}
use Rattle.qc_history.specs.Places.{place, spot_of}
use Rattle.qc_history.specs.Index.{Shape, IsIndexOf}
use Rattle.qc_event.proofs.Lawful.{lawful}
use Rattle.qc_event.proofs.Lineage.{fresh_below}
use Rattle.qc_event.proofs.OneEntry.{not_some, some_or_none}
use Rattle.qc_history.proofs.Placing.{child_place, placed, no_place}

-- the spot at a name's place is the name's
pub spot_is : (past : Past) (index : Shape) (n : Name) (i : ℕ) (s : Spot) → IsIndexOf past index → place past n ≡ Some i → slice_get index.spots i ≡ Some s → s ≡ spot_of past n
spot_is past index n i s is here found = same_Some s (spot_of past n) (sym found ∙ is.at_place n i here)

pub next_place : (setting : Setting) (past : Past) (index : Shape) (p : Name) (j i : ℕ) (s : Spot) → IsIndexOf past index → Legal setting past → 0 < length p → place past p ≡ Some i → slice_get index.spots i ≡ Some s → child_at s.children j ≡ place past (p ++ j ∷ [])
next_place setting past index p j i s is legal pos here found =
    ap (λ (x : Spot). child_at x.children j) (spot_is past index p i s is here found)
    ∙ sym (child_place past p j (legal_orderly setting past legal) pos)

-- a root has no place
pub no_root : (setting : Setting) (past : Past) → Legal setting past → place past [] ≡ None
no_root setting past legal = no_place past [] (lawful past (legal_orderly setting past legal)).no_root_start

pub only_root : (n : Name) → slice_get n 0 ≡ None → n ≡ []
only_root [] h = refl
only_root (x ∷ n) h = absurd cc

pub first_and_rest : (n : Name) (t : ℕ) → slice_get n 0 ≡ Some t → n ≡ (t ∷ []) ++ drop 1 n
first_and_rest [] t h = absurd cc
first_and_rest (x ∷ n) t h = ap (λ y. y ∷ n) (same_Some x t h)

-- below what has no place nothing has one
pub no_place_below : (setting : Setting) (past : Past) (n r : Name) → Legal setting past → 0 < length n → place past n ≡ None → place past (n ++ r) ≡ None
no_place_below setting past n r legal pos none =
    no_place past (n ++ r) (fresh_below past n r (lawful past (legal_orderly setting past legal)) pos
    (not_some (start past n) (λ h. some_or_none (place past n) (placed past n ∙ h) none))).no_start

-- a child's node is a node
pub child_within : (all : List Spot) (i j c : ℕ) (s : Spot) → AreWithin all → slice_get all i ≡ Some s → child_at s.children j ≡ Some c → c < length all
child_within all i zero c s within here h = absurd cc
child_within all i (suc j) c s within here h = within i s j c here h

-- HOW NAMES STAND

lt_or_le : (j k : ℕ) → (j < k) ⊎ (k ≤ j)
lt_or_le j zero = inr (omega arith)
lt_or_le zero (suc k) = inl (omega arith)
lt_or_le (suc j) (suc k) = elim (lt_or_le j k) [ inl less ↦ inl (omega (arith, less)) | inr more ↦ inr (omega (arith, more)) ]

pub unplaced_live : (setting : Setting) (past : Past) (n : Name) → Legal setting past → place past n ≡ None → outcome past n ≡ Live
unplaced_live setting past n legal none =
    ap outcome_of (not_some (end past n) (λ h. some_or_none (place past n) (placed past n ∙ (lawful past (legal_orderly setting past legal)).end_has_start n h) none))

pub root_not_aborted : (setting : Setting) (past : Past) → Legal setting past → is_aborted (outcome past []) ≡ false
root_not_aborted setting past legal = ap is_aborted (unplaced_live setting past [] legal (no_root setting past legal))

pub stands_so : (past : Past) (index : Shape) (n : Name) (i : ℕ) (s : Spot) → IsIndexOf past index → place past n ≡ Some i → slice_get index.spots i ≡ Some s → s.outcome ≡ outcome past n
stands_so past index n i s is here found = ap (λ (x : Spot). x.outcome) (spot_is past index n i s is here found)

-- the ancestors before and after a place
ancestors_after : (setting : Setting) (past : Past) (n : Name) (k j : ℕ) → Legal setting past → 0 < k → k ≤ j → j ≤ length n → place past (take k n) ≡ None → is_aborted (outcome past (take j n)) ≡ false
ancestors_after setting past n k j legal pos more fits none =
    ap is_aborted (unplaced_live setting past (take j n) legal
    (ap (place past) (sym (take-append-drop k (take j n)) ∙ ap (λ m. m ++ drop k (take j n)) (take-take k j n more))
    ∙ no_place_below setting past (take k n) (drop k (take j n)) legal (omega (arith, length-take-le k n (omega arith))) none))

-- none is dead whose ancestors up to a place live, and after it have no place
pub no_dead : (setting : Setting) (past : Past) (n : Name) (k : ℕ) → Legal setting past → 0 < k → k ≤ length n → ((j : ℕ) → j < k → is_aborted (outcome past (take j n)) ≡ false) → place past (take k n) ≡ None → dead past n ≡ None
no_dead setting past n k legal pos fits alive none =
    find_no_ancestor (λ a. is_aborted (outcome past a)) n (λ j h. elim (before_or_not j) [
      | inl less ↦ alive j less
      | inr more ↦ ancestors_after setting past n k j legal pos more (omega arith) none
    ])
  where
    before_or_not : (j : ℕ) → (j < k) ⊎ (k ≤ j)
    before_or_not j = lt_or_le j k

pub dead_here : (past : Past) (n : Name) (k : ℕ) → k ≤ length n → ((j : ℕ) → j < k → is_aborted (outcome past (take j n)) ≡ false) → is_aborted (outcome past (take k n)) ≡ true → dead past n ≡ Some (take k n)
dead_here past n k fits alive here = find_ancestor (λ a. is_aborted (outcome past a)) n k fits alive here

-- one ancestor more lives
pub alive_more : (past : Past) (n : Name) (k : ℕ) → ((j : ℕ) → j < k → is_aborted (outcome past (take j n)) ≡ false) → is_aborted (outcome past (take k n)) ≡ false → (j : ℕ) → j < k + 1 → is_aborted (outcome past (take j n)) ≡ false
alive_more past n k alive here = λ j h. elim (lt_or_le j k) [
  | inl less ↦ alive j less
  | inr more ↦ let same : j ≡ k = omega arith in ap (λ i. is_aborted (outcome past (take i n))) same ∙ here
]

pub one_root : (setting : Setting) (past : Past) (n : Name) → Legal setting past → (j : ℕ) → j < 1 → is_aborted (outcome past (take j n)) ≡ false
one_root setting past n legal zero h = root_not_aborted setting past legal
one_root setting past n legal (suc j) h = absurd (omega arith)

pub take_first : (n : Name) (t : ℕ) → slice_get n 0 ≡ Some t → take 1 n ≡ t ∷ []
take_first [] t h = absurd cc
take_first (x ∷ n) t h = ap (λ y. y ∷ []) (same_Some x t h)

pub has_number : (n : Name) (t : ℕ) → slice_get n 0 ≡ Some t → 0 < length n
has_number [] t h = absurd cc
has_number (x ∷ n) t h = omega arith
