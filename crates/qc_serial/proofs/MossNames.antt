-- Names read from the deepest number up, the root being the empty list, and which stands above which.
use Rattle.std.proofs.Common.{ℕ, ◌≡◌, ◌≤◌, ◌||◌, Bool, true, false, List, [], ◌∷◌, length, refl, sym, ap, subst, inl, inr, ◌⊎◌, arith}
use Rattle.std.proofs.lemmas.Bool.{or_cases, or_left, or_right, cases_Bool, false_from_ne_true}
use Rattle.qc_event.specs.History.{same}
use Rattle.qc_event.proofs.Absent.{same_is, same_itself}

-- a name from its deepest number up
abbrev pub Line : Type 0
Line = List ℕ

-- one name is an ancestor of another, which it may be itself
abbrev pub IsAbove : Line → Line → Type 0
IsAbove a [] = a ≡ []
IsAbove a (k ∷ p) = (a ≡ k ∷ p) ⊎ IsAbove a p

-- the same as a test
abbrev pub is_above : Line → Line → Bool
is_above a [] = same a []
is_above a (k ∷ p) = same a (k ∷ p) || is_above a p

-- two tests that pass together are equal
pub two_ways : (x y : Bool) → (x ≡ true → y ≡ true) → (y ≡ true → x ≡ true) → x ≡ y
two_ways true true f g = refl
two_ways true false f g = sym (f refl)
two_ways false true f g = g refl
two_ways false false f g = refl

pub same_from : (a b : Line) → a ≡ b → same a b ≡ true
same_from a b e = subst (λ (x : Line). same a x ≡ true) e (same_itself a)

pub same_not : (a b : Line) → (a ≡ b → ⊥) → same a b ≡ false
same_not a b ne = false_from_ne_true (same a b) (λ e. ne (same_is a b e))

-- two names are one or are not
pub cases_name : (a b : Line) → (a ≡ b) ⊎ (a ≡ b → ⊥)
cases_name a b = elim (cases_Bool (same a b)) [
  | inl e ↦ inl (same_is a b e)
  | inr e ↦ inr (λ q. let t : same a b ≡ true = same_from a b q in cc)
]

pub above-refl : (a : Line) → IsAbove a a
above-refl [] = refl
above-refl (k ∷ p) = inl refl

pub above-parent : (k : ℕ) (p a : Line) → IsAbove (k ∷ p) a → IsAbove p a
above-parent k p [] e = absurd (let q : k ∷ p ≡ [] = e in cc)
above-parent k p (j ∷ a) (inl e) = let q : p ≡ a = cc in inr (subst (λ (x : Line). IsAbove p x) q (above-refl p))
above-parent k p (j ∷ a) (inr h) = inr (above-parent k p a h)

pub above-trans : (a b c : Line) → IsAbove a b → IsAbove b c → IsAbove a c
above-trans a b [] ab bc = subst (λ (x : Line). IsAbove a x) bc ab
above-trans a b (k ∷ p) ab (inl e) = subst (λ (x : Line). IsAbove a x) e ab
above-trans a b (k ∷ p) ab (inr h) = inr (above-trans a b p ab h)

pub above-root : (a : Line) → IsAbove [] a
above-root [] = refl
above-root (k ∷ p) = inr (above-root p)

same_length : (a b : Line) → a ≡ b → length a ≤ length b
same_length a b e = let q = ap (length {A = ℕ}) e in omega (arith, q)

pub above-length : (a b : Line) → IsAbove a b → length a ≤ length b
above-length a [] e = same_length a [] e
above-length a (k ∷ p) (inl e) = same_length a (k ∷ p) e
above-length a (k ∷ p) (inr h) = let q = above-length a p h in omega (arith, q)

-- two ancestors of one name: the shorter is an ancestor of the longer
pub above-both : (a b c : Line) → IsAbove a c → IsAbove b c → length a ≤ length b → IsAbove a b
above-both a b [] ac bc le = subst (λ (x : Line). IsAbove a x) (sym bc) ac
above-both a b (k ∷ p) ac (inl e) le = subst (λ (x : Line). IsAbove a x) (sym e) ac
above-both a b (k ∷ p) (inl e) (inr h) le =
    let q : length a ≡ length (k ∷ p) = ap length e in
    let r = above-length b p h in
    absurd (omega (arith, q, r, le))
above-both a b (k ∷ p) (inr g) (inr h) le = above-both a b p g h le

-- a name is no ancestor of its parent, nor of an ancestor of it
pub above-not-up : (k : ℕ) (p : Line) → IsAbove (k ∷ p) p → ⊥
above-not-up k p h = let q = above-length (k ∷ p) p h in omega (arith, q)

-- two children of one name that have a common descendant are one
pub above-one-child : (j k : ℕ) (p c : Line) → IsAbove (j ∷ p) c → IsAbove (k ∷ p) c → j ≡ k
above-one-child j k p c a b =
    let h = above-both (j ∷ p) (k ∷ p) c a b (omega arith) in
    elim h as (λ _. j ≡ k) [ inl e ↦ cc | inr u ↦ absurd (above-not-up j p u) ]

-- a descendant is the name, or at or below one of its children
pub record Below (p t : Line) : Type 0 where
  pub child : ℕ
  pub under : IsAbove (child ∷ p) t

pub above-split : (p t : Line) → IsAbove p t → (t ≡ p) ⊎ Below p t
above-split p [] e = inl (sym e)
above-split p (k ∷ q) (inl e) = inl (sym e)
above-split p (k ∷ q) (inr h) = elim (above-split p q h) [
  | inl e ↦ inr (record { child = k; under = inl (ap (λ (x : Line). k ∷ x) (sym e)) })
  | inr b ↦ inr (record { child = b.child; under = inr b.under })
]

pub is_above-true : (a b : Line) → is_above a b ≡ true → IsAbove a b
is_above-true a [] e = same_is a [] e
is_above-true a (k ∷ p) e = elim (or_cases (same a (k ∷ p)) (is_above a p) e) [
  | inl s ↦ inl (same_is a (k ∷ p) s)
  | inr u ↦ inr (is_above-true a p u)
]

pub is_above-from : (a b : Line) → IsAbove a b → is_above a b ≡ true
is_above-from a [] e = same_from a [] e
is_above-from a (k ∷ p) (inl e) = or_left (same a (k ∷ p)) (is_above a p) (same_from a (k ∷ p) e)
is_above-from a (k ∷ p) (inr h) = or_right (same a (k ∷ p)) (is_above a p) (is_above-from a p h)

pub cases_above : (a b : Line) → IsAbove a b ⊎ (IsAbove a b → ⊥)
cases_above a b = elim (cases_Bool (is_above a b)) [
  | inl e ↦ inl (is_above-true a b e)
  | inr e ↦ inr (λ h. let t : is_above a b ≡ true = is_above-from a b h in cc)
]
