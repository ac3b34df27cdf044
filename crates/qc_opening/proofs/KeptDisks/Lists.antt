-- Numbers in a row, and lists one behind another.
use Rattle.std.proofs.Common.{◌≡◌, ℕ, zero, suc, ◌+◌, ◌≤◌, List, [], ◌∷◌, ◌++◌, sym, ap, ◌∙◌, append_assoc, arith}
use Rattle.std.specs.Prelude.{◌-◌, map, Option, None, unwrap_or}
use Rattle.std.specs.List.{last_or, range_with_len}
use Rattle.std.proofs.lemmas.List.{map-append}
use Rattle.qc_event.proofs.Lists.{last_push}

pub range_suc : (a n : ℕ) → range_with_len a (suc n) ≡ range_with_len a n ++ (a + n) ∷ []
range_suc a zero = ap (λ (k : ℕ). k ∷ []) (omega arith)
range_suc a (suc n) = ap (λ (l : List ℕ). a ∷ l) (range_suc (a + 1) n ∙ ap (λ (k : ℕ). range_with_len (a + 1) n ++ k ∷ []) (omega arith))

pub range_more : (a n : ℕ) → range_with_len a (n + 1) ≡ range_with_len a n ++ (a + n) ∷ []
range_more a n = let one : n + 1 ≡ suc n = omega arith in ap (range_with_len a) one ∙ range_suc a n

-- the last of the numbers behind one, and this where there are none
pub last_number : (a n : ℕ) → unwrap_or (last_or None (range_with_len (a + 1) n)) a ≡ a + n
last_number a zero = omega arith
last_number a (suc n) =
    ap (λ (l : List ℕ). unwrap_or (last_or None l) a) (range_suc (a + 1) n)
    ∙ ap (λ (o : Option ℕ). unwrap_or o a) (last_push None (range_with_len (a + 1) n) (a + 1 + n))
    ∙ omega arith

-- one more number, counted from behind one
pub next_counted : (from last next : ℕ) → from ≤ last → next ≡ last + 1 → (next ≡ from + 1 + (last - from)) × ((last - from) + 1 ≡ next - from)
next_counted from last next low is = (omega (arith, low, is), omega (arith, low, is))

-- LISTS OF BODIES

-- more behind a first item, others, and those that a function gives
pub append_mapped : {A B : Type 0} (f : A → B) (x : B) (front : List B) (xs ys : List A) → (x ∷ (front ++ map f xs)) ++ map f ys ≡ x ∷ (front ++ map f (xs ++ ys))
append_mapped {A} {B} f x front xs ys = ap (λ (l : List B). x ∷ l) (append_assoc front (map f xs) (map f ys) ∙ ap (λ (l : List B). front ++ l) (sym (map-append f xs ys)))
