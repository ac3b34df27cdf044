-- The numbers of a pass and of its kin, of which no two are the same.
use Rattle.std.proofs.Common.{◌≡◌, ℕ, zero, suc, ◌==◌, true, false, List, [], ◌∷◌, ◌++◌, map, refl, sym, ap, ◌∙◌, subst, ne_eqb, eq-eqb}
use mathlib.Core.Bool.{true≢false}
use mathlib.Core.Option.{some, some-ne-none, some-injective}
use lib.ListN.{get_elem?}
use Rattle.std.specs.Prelude.{◌||◌}
use Rattle.std.specs.List.{AllByRecursion, IsDistinct, list_any}
use Rattle.std.proofs.lemmas.Map.Keys.{IsDistinct-cons, IsDistinct-head, IsDistinct-tail}
use Rattle.qc_event.specs.declared.event.Entry.{Entry}
use Rattle.qc_desk.specs.declared.view.View.{View}
use Rattle.qc_desk.specs.Rules.{AreApart, AreKin, Has}
use Rattle.qc_desk.proofs.Lists.{entries_else}

-- no two of these numbers are the same
abbrev pub Apart : List ℕ → Type 0
Apart xs = IsDistinct (λ a b. a == b) xs

has_more : {A : Type 0} (y x : A) (xs : List A) → Has xs x → Has (y ∷ xs) x
has_more y x xs h = (suc h.0, h.1)

-- none of these is the number
pub none_is : (n : ℕ) (xs : List ℕ) → ((k : ℕ) → Has xs k → k ≡ n → ⊥) → list_any (λ k. k == n) xs ≡ false
none_is n [] other = refl
none_is n (x ∷ xs) other = ap (λ b. b || list_any (λ k. k == n) xs) (ne_eqb x n (other x (0, refl))) ∙ none_is n xs (λ k h. other k (has_more x k xs h))

each_other : (n : ℕ) (xs : List ℕ) → ((k : ℕ) → Has xs k → k ≡ n → ⊥) → AllByRecursion (λ k. (n == k) ≡ false) xs
each_other n [] other = tt
each_other n (x ∷ xs) other = (ne_eqb n x (λ same. other x (0, refl) (sym same)), each_other n xs (λ k h. other k (has_more x k xs h)))

other_at : (n : ℕ) (xs : List ℕ) → AllByRecursion (λ k. (n == k) ≡ false) xs → (k i : ℕ) → get_elem? xs i ≡ some k → n ≡ k → ⊥
other_at n [] all k i at same = some-ne-none k (sym at)
other_at n (x ∷ xs) all k zero at same = true≢false (sym (eq-eqb n x (same ∙ sym (some-injective x k at))) ∙ all.0)
other_at n (x ∷ xs) all k (suc i) at same = other_at n xs all.1 k i at same

-- two lists of which no number is in both
pub both_apart : (xs ys : List ℕ) → Apart xs → Apart ys → ((a : ℕ) → Has xs a → Has ys a → ⊥) → Apart (xs ++ ys)
both_apart [] ys first second other = second
both_apart (x ∷ xs) ys first second other =
    IsDistinct-cons (λ a b. a == b) x (xs ++ ys)
    (all_both xs ys (IsDistinct-head (λ a b. a == b) x xs first) (each_other x ys (λ k h same. other x (0, refl) (subst (Has ys) same h))))
    (both_apart xs ys (IsDistinct-tail (λ a b. a == b) x xs first) second (λ a h. other a (has_more x a xs h)))
  where
    all_both : (xs ys : List ℕ) → AllByRecursion (λ k. (x == k) ≡ false) xs → AllByRecursion (λ k. (x == k) ≡ false) ys → AllByRecursion (λ k. (x == k) ≡ false) (xs ++ ys)
    all_both [] ys a b = b
    all_both (z ∷ xs) ys a b = (a.0, all_both xs ys a.1 b)

-- one number is apart
pub one_apart : (n : ℕ) → Apart (n ∷ [])
unfolding IsDistinct
one_apart n = (tt, tt)

-- a kin's number is among the numbers
pub number_of_kin : (kin : List (ℕ × List Entry)) (k i : ℕ) (m : List Entry) → get_elem? kin i ≡ some (k, m) → Has (map (λ (p : ℕ × List Entry). p.0) kin) k
number_of_kin [] k i m at = absurd (some-ne-none (k, m) (sym at))
number_of_kin (p ∷ kin) k zero m at = (0, ap (λ (q : ℕ × List Entry). some q.0) (some-injective p (k, m) at))
number_of_kin (p ∷ kin) k (suc i) m at = has_more p.0 k (map (λ (q : ℕ × List Entry). q.0) kin) (number_of_kin kin k i m at)

-- and each of them but the own is a kin's
pub kin_of_number : (kin : List (ℕ × List Entry)) (k i : ℕ) → get_elem? (map (λ (p : ℕ × List Entry). p.0) kin) i ≡ some k → (m : List Entry) × Has kin (k, m)
kin_of_number [] k i at = absurd (some-ne-none k (sym at))
kin_of_number (p ∷ kin) k zero at = (p.1, (0, ap (λ (n : ℕ). some (n, p.1)) (some-injective p.0 k at)))
kin_of_number (p ∷ kin) k (suc i) at = let h = kin_of_number kin k i at in (h.0, has_more p (k, h.0) kin h.1)

-- no kin has the pass's own number
pub not_own : (v : View) (k : ℕ) (m : List Entry) → v.live ≡ true → AreApart v → Has v.kin (k, m) → v.number ≡ k → ⊥
not_own v k m live apart h =
    let at = number_of_kin v.kin k h.0 m h.1 in
    other_at v.number (map (λ (p : ℕ × List Entry). p.0) v.kin) (IsDistinct-head (λ a b. a == b) v.number (map (λ (p : ℕ × List Entry). p.0) v.kin) (apart live)) k at.0 at.1

-- the kin have the same entries where the pass has one more
pub kin_else : (e : Entry) (v : View) (log : List Entry) → e.seat ≡ v.number → v.live ≡ true → AreApart v → AreKin v.kin log → AreKin v.kin (e ∷ log)
kin_else e v log own live apart kin k m h = entries_else k e log (λ same. not_own v k m live apart h (sym own ∙ same)) ∙ kin k m h
