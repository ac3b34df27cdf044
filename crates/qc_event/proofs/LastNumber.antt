-- What a name is by its parent and its last number.
use Rattle.std.proofs.Common.{◌≡◌, ℕ, ◌+◌, ◌-◌, ◌⊎◌, inl, inr, true, false, [], ◌∷◌, ◌++◌, length, take, refl, sym, ap, ◌∙◌, arith, append_assoc, append-nil, subst}
use Rattle.std.specs.Prelude.{◌==◌, map}
use Rattle.std.proofs.lemmas.Bool.{eqb-true, eq-eqb, and_parts, and_from, false_from_ne_true}
use Rattle.std.proofs.lemmas.List.{length-append, map-append}
use Rattle.std.proofs.Math.Seq.{take-append_seam}
use Rattle.qc_names.specs.Name as name
use Rattle.qc_event.specs.History.{Name, is_child}
use Rattle.qc_event.specs.Dead.{ancestors}

-- a parent and a last number
abbrev pub EndsIn : Name → Type 0
EndsIn n = (p : Name) × (j : ℕ) × (n ≡ p ++ j ∷ [])

-- a name is the root, or has a parent
pub ends_in : (n : Name) → (n ≡ []) ⊎ EndsIn n
ends_in [] = inl refl
ends_in (x ∷ xs) = inr (below x xs (ends_in xs))
  where
    below : (x : ℕ) (xs : Name) → (xs ≡ []) ⊎ EndsIn xs → EndsIn (x ∷ xs)
    below x xs (inl none) = ([], x, ap (λ ys. x ∷ ys) none)
    below x xs (inr (p, j, is)) = (x ∷ p, j, ap (λ ys. x ∷ ys) is)

pub length_last : (p : Name) (j : ℕ) → length (p ++ j ∷ []) ≡ length p + 1
length_last p j = length-append p (j ∷ [])

pub front_last : (p : Name) (j : ℕ) → name.front (p ++ j ∷ []) ≡ p
front_last p j =
    let l : length (p ++ j ∷ []) - 1 ≡ length p = omega (arith, length_last p j) in
    ap (λ k. take k (p ++ j ∷ [])) l ∙ take-append_seam p (j ∷ [])

pub last_longer : (p : Name) (j : ℕ) → p ++ j ∷ [] ≡ p → ⊥
last_longer p j is = omega (arith, length_last p j, ap length is)

-- the parent and the last number of a name are its own
pub same_last : (p q : Name) (j k : ℕ) → p ++ j ∷ [] ≡ q ++ k ∷ [] → (p ≡ q) × (j ≡ k)
same_last [] [] j k is = (refl, cc)
same_last [] (y ∷ q) j k is = absurd (omega (arith, length_last q k, ap length is))
same_last (x ∷ p) [] j k is = absurd (omega (arith, length_last p j, ap length is))
same_last (x ∷ p) (y ∷ q) j k is =
    let tails : p ++ j ∷ [] ≡ q ++ k ∷ [] = cc in
    let heads : x ≡ y = cc in
    let parts = same_last p q j k tails in
    (ap (λ z. z ∷ p) heads ∙ ap (λ ys. y ∷ ys) parts.0, parts.1)

pub is_ancestor-append : (p r : Name) → name.is_ancestor p (p ++ r) ≡ true
is_ancestor-append [] r = refl
is_ancestor-append (x ∷ p) r = and_from (x == x) (name.is_ancestor p (p ++ r)) (eq-eqb x x refl) (is_ancestor-append p r)

-- what follows an ancestor in a name
pub rest_of : (a n : Name) → name.is_ancestor a n ≡ true → (r : Name) × (n ≡ a ++ r)
rest_of [] n h = (n, refl)
rest_of (x ∷ a) [] h = absurd cc
rest_of (x ∷ a) (y ∷ n) h =
    let parts = and_parts (x == y) (name.is_ancestor a n) h in
    let below = rest_of a n parts.1 in
    (below.0, ap (λ z. z ∷ n) (sym (eqb-true x y parts.0)) ∙ ap (λ ys. x ∷ ys) below.1)

pub is_child-last : (p : Name) (j : ℕ) → is_child p (p ++ j ∷ []) ≡ true
is_child-last p j = and_from _ (name.is_ancestor p (p ++ j ∷ [])) (eq-eqb (length (p ++ j ∷ [])) (length p + 1) (length_last p j)) (is_ancestor-append p (j ∷ []))

-- a name of length one is its number
pub single_number : (r : Name) → length r ≡ 1 → (j : ℕ) × (r ≡ j ∷ [])
single_number [] l = absurd (omega arith)
single_number (j ∷ []) l = (j, refl)
single_number (j ∷ k ∷ r) l = absurd (omega arith)

-- a child is its parent and one number more
pub child_last : (p c : Name) → is_child p c ≡ true → (j : ℕ) × (c ≡ p ++ j ∷ [])
child_last p c h =
    let parts = and_parts (length c == length p + 1) (name.is_ancestor p c) h in
    let below = rest_of p c parts.1 in
    let l : length c ≡ length p + 1 = eqb-true (length c) (length p + 1) parts.0 in
    let one : length below.0 ≡ 1 = omega (arith, ap length below.1, length-append p below.0) in
    one_more below.0 below.1 (single_number below.0 one)
  where
    one_more : (r : Name) → c ≡ p ++ r → (j : ℕ) × (r ≡ j ∷ []) → (j : ℕ) × (c ≡ p ++ j ∷ [])
    one_more r is (j, only_one) = (j, is ∙ ap (λ s. p ++ s) only_one)

pub ancestors-last : (p : Name) (j : ℕ) → ancestors (p ++ j ∷ []) ≡ ancestors p ++ (p ++ j ∷ []) ∷ []
ancestors-last [] j = refl
ancestors-last (x ∷ p) j = ap (λ ns. [] ∷ map (λ a. x ∷ a) ns) (ancestors-last p j) ∙ ap (λ ns. [] ∷ ns) (map-append (λ a. x ∷ a) (ancestors p) ((p ++ j ∷ []) ∷ []))

-- the rest of a name below its ancestor, one number at a time
pub append_next : (p : Name) (j : ℕ) (r : Name) → p ++ j ∷ r ≡ (p ++ j ∷ []) ++ r
append_next p j r = sym (append_assoc p (j ∷ []) r)

-- what holds of the root and of each child of a name of which it holds, holds of every name
pub by_last : (P : Name → Type 0) → P [] → ((p : Name) (j : ℕ) → P p → P (p ++ j ∷ [])) → (n : Name) → P n
by_last P root next n = onward [] n root
  where
    onward : (p r : Name) → P p → P (p ++ r)
    onward p [] h = subst P (sym (append-nil p)) h
    onward p (j ∷ r) h = subst P (sym (append_next p j r)) (onward (p ++ j ∷ []) r (next p j h))

-- two rests of one name are the same
pub same_rest : (a r s : Name) → a ++ r ≡ a ++ s → r ≡ s
same_rest [] r s is = is
same_rest (x ∷ a) r s is = let tails : a ++ r ≡ a ++ s = cc in same_rest a r s tails

-- BELOW A NAME

pub child_longer : (p c : Name) → is_child p c ≡ true → length c ≡ length p + 1
child_longer p c h = let is = child_last p c h in ap length is.1 ∙ length_last p is.0

pub no_child_length : (p c : Name) → (length c ≡ length p + 1 → ⊥) → is_child p c ≡ false
no_child_length p c differ = false_from_ne_true (is_child p c) (λ h. differ (child_longer p c h))

-- the front of a child is its parent
pub child_front : (p c : Name) → is_child p c ≡ true → name.front c ≡ p
child_front p c h = let is = child_last p c h in ap name.front is.1 ∙ front_last p is.0

-- an ancestor of a name is one of all below the name
pub below_more : (a n r : Name) → name.is_ancestor a n ≡ true → name.is_ancestor a (n ++ r) ≡ true
below_more a n r h =
    let rest = rest_of a n h in
    ap (λ m. name.is_ancestor a (m ++ r)) rest.1 ∙ ap (name.is_ancestor a) (append_assoc a rest.0 r) ∙ is_ancestor-append a (rest.0 ++ r)

pub ancestor_further : (a b n : Name) → name.is_ancestor a b ≡ true → name.is_ancestor b n ≡ true → name.is_ancestor a n ≡ true
ancestor_further a b n low also = let r = rest_of b n also in ap (name.is_ancestor a) r.1 ∙ below_more a b r.0 low
