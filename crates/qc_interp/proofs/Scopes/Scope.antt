-- What lies in the scope of a name, and what leads up from it.
use Rattle.std.proofs.Common.{◌≡◌, ◌⊎◌, inl, inr, ℕ, zero, suc, ◌<◌, ◌+◌, true, false, [], ◌∷◌, ◌++◌, length, take, drop, refl, sym, ap, ◌∙◌, subst, append-nil, append_assoc, arith, add-one}
use mathlib.Core.Bool.{true≢false}
use Rattle.std.specs.Prelude.{not, ◌==◌, ◌&&◌, ◌||◌}
use Rattle.std.proofs.Math.Bool.{and-false}
use Rattle.std.proofs.lemmas.Bool.{and_parts, and_from, or_left, or_right, eqb-true, eq-eqb, false_from_ne_true}
use Rattle.std.proofs.lemmas.List.{take-append-drop}
use Rattle.qc_event.specs.declared.event.Cause.{Cause}
use Rattle.qc_event.specs.declared.event.Event.TheVariants as event
use Rattle.qc_event.specs.declared.event.How.{How}
use Rattle.qc_event.specs.declared.event.How.TheVariants.{Commit, Abort}
use Rattle.qc_event.specs.declared.event.Answer.{Answer}
use Rattle.qc_event.specs.History.{Name, is_child}
use Rattle.qc_event.proofs.LastNumber.{child_last, is_ancestor-append}
use Rattle.qc_names.specs.Name as name
use Rattle.qc_script.specs.Client.{Client, scope, is_upward, is_commit, concerns}
use Rattle.qc_interp.specs.Running.{IsBelow}

-- THE SCOPE OF A NAME

module _ (c : Client) where
  pub below_scope : (of r : Name) → name.is_ancestor (scope c of) (of ++ r) ≡ true
  below_scope of r =
      let k = length c.root + 1 in
      ap (λ x. name.is_ancestor (take k of) (x ++ r)) (sym (take-append-drop k of))
      ∙ ap (name.is_ancestor (take k of)) (append_assoc (take k of) (drop k of) r)
      ∙ is_ancestor-append (take k of) (drop k of ++ r)

  pub at_scope : (of : Name) → name.is_ancestor (scope c of) of ≡ true
  at_scope of = ap (name.is_ancestor (scope c of)) (sym (append-nil of)) ∙ below_scope of []

  pub child_scope : (of n : Name) → is_child of n ≡ true → name.is_ancestor (scope c of) n ≡ true
  child_scope of n child = let l = child_last of n child in ap (name.is_ancestor (scope c of)) l.1 ∙ below_scope of (l.0 ∷ [])

  -- one whose parent is below the root is in its parent's scope
  pub same_scope : (of n : Name) → IsBelow c.root of → is_child of n ≡ true → scope c n ≡ scope c of
  same_scope of n below child = let l = child_last of n child in ap (scope c) l.1 ∙ long (length c.root + 1) of (l.0 ∷ []) (omega (arith, below.0))
    where
      long : (k : ℕ) (p r : Name) → k < length p + 1 → take k (p ++ r) ≡ take k p
      long zero p r h = refl
      long (suc k) [] r h = let z : ⊥ = omega (arith, h) in absurd z
      long (suc k) (x ∷ p) r h = ap (λ l. x ∷ l) (long k p r (omega (arith, h)))

  -- a top is its scope
  pub whole_scope : (t : Name) → length t ≡ 1 → scope c t ≡ t
  whole_scope [] is = let z : ⊥ = omega (arith, is) in absurd z
  whole_scope (x ∷ []) is = ap (λ k. take k (x ∷ [])) (add-one (length c.root)) ∙ ap (λ l. x ∷ l) (none (length c.root))
    where
      none : (k : ℕ) → take {A = ℕ} k [] ≡ []
      none zero = refl
      none (suc k) = refl
  whole_scope (x ∷ y ∷ t) is = let z : ⊥ = omega (arith, is) in absurd z

  -- no root lies in a scope
  pub scope_some : (of : Name) → 0 < length of → name.is_ancestor (scope c of) [] ≡ true → ⊥
  scope_some [] far h = let z : ⊥ = omega (arith, far) in absurd z
  scope_some (x ∷ of) far h = true≢false (sym (ap (λ k. name.is_ancestor (take k (x ∷ of)) []) (sym (add-one (length c.root))) ∙ h))

-- of two names at or above a third, one is at or above the other
prefixes : (k : ℕ) (p r : Name) → (name.is_ancestor (take k (p ++ r)) p ≡ true) ⊎ (name.is_ancestor p (take k (p ++ r)) ≡ true)
prefixes zero p r = inl refl
prefixes (suc k) [] r = inr refl
prefixes (suc k) (x ∷ p) r = elim (prefixes k p r) [
  | inl h ↦ inl (and_from (x == x) (name.is_ancestor (take k (p ++ r)) p) (eq-eqb x x refl) h)
  | inr h ↦ inr (and_from (x == x) (name.is_ancestor p (take k (p ++ r))) (eq-eqb x x refl) h)
]

-- whoever is at or above a name lies in its scope, or leads up from it
pub in_or_upward : (c : Client) (of p r : Name) → of ≡ p ++ r → 0 < length p → (name.is_ancestor (scope c of) p ≡ true) ⊎ (is_upward (scope c of) p ≡ true)
in_or_upward c of [] r is far = let z : ⊥ = omega (arith, far) in absurd z
in_or_upward c of (x ∷ p) r is far =
    subst (λ n. (name.is_ancestor (scope c n) (x ∷ p) ≡ true) ⊎ (is_upward (scope c n) (x ∷ p) ≡ true)) (sym is) (prefixes (length c.root + 1) (x ∷ p) r)

-- none but the top itself leads up from a top
pub upward_top : (number : ℕ) (n : Name) → is_upward (number ∷ []) n ≡ true → name.is_ancestor (number ∷ []) n ≡ true
upward_top number [] h = absurd (true≢false (sym h))
upward_top number (x ∷ []) h = and_from (number == x) true (eq-eqb number x (sym (eqb-true x number (and_parts (x == number) true h).0))) refl
upward_top number (x ∷ y ∷ n) h = absurd (true≢false (sym (and_parts (x == number) false h).1))

-- WHAT CONCERNS A SCOPE

pub not_one : (n : Name) → 1 < length n → (length n == 1) ≡ false
not_one n long = false_from_ne_true (length n == 1) (λ h. let is = eqb-true (length n) 1 h in omega (arith, is, long))

module _ (top n : Name) where
  pub concerns_end : (how : How) → name.is_ancestor top n ≡ true → ((length n == 1) && is_commit how) ≡ false → concerns top (event.End n how) ≡ true
  concerns_end how low other = and_from (name.is_ancestor top n || (is_upward top n && is_commit how)) _ (or_left _ _ low) (ap not other)

  pub concerns_abort : (x : Cause) → name.is_ancestor top n ≡ true → concerns top (event.End n (Abort x)) ≡ true
  concerns_abort x low = concerns_end (Abort x) low (and-false (length n == 1))

  pub concerns_commit : (given : Answer) → (name.is_ancestor top n ≡ true) ⊎ (is_upward top n ≡ true) → 1 < length n → concerns top (event.End n (Commit given)) ≡ true
  concerns_commit given (inl low) long = concerns_end (Commit given) low (ap (λ b. b && true) (not_one n long))
  concerns_commit given (inr up) long =
      and_from (name.is_ancestor top n || (is_upward top n && true)) _ (or_right _ _ (and_from (is_upward top n) true up refl)) (ap (λ b. not (b && true)) (not_one n long))

  pub concerns_ready : (name.is_ancestor top n ≡ true) ⊎ (is_upward top n ≡ true) → concerns top (event.Ready n) ≡ true
  concerns_ready (inl low) = or_left _ _ low
  concerns_ready (inr up) = or_right _ _ up
