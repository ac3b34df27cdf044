-- What is in a list made of others.
use Rattle.std.proofs.Common.{◌≡◌, ◌⊎◌, ℕ, zero, suc, List, [], ◌∷◌, ◌++◌, sym, inl, inr, ⊎_elim}
use mathlib.Core.Option.{some, some-ne-none, some-injective}
use lib.ListN.{get_elem?}
use Rattle.atomic_table.proofs.Lists.{at_longer}
use Rattle.qc_desk.specs.Rules.{Has}

pub has_none : {A : Type 0} (x : A) → Has [] x → ⊥
has_none x h = some-ne-none x (sym h.1)

pub has_left : {A : Type 0} (xs ys : List A) (x : A) → Has xs x → Has (xs ++ ys) x
has_left xs ys x h = (h.0, at_longer xs ys h.0 x h.1)

pub has_right : {A : Type 0} (xs ys : List A) (x : A) → Has ys x → Has (xs ++ ys) x
has_right [] ys x h = h
has_right (y ∷ xs) ys x h = let r = has_right xs ys x h in (suc r.0, r.1)

pub has_both : {A : Type 0} (xs ys : List A) (x : A) (k : ℕ) → get_elem? (xs ++ ys) k ≡ some x → Has xs x ⊎ Has ys x
has_both [] ys x k e = inr (k, e)
has_both (y ∷ xs) ys x zero e = inl (0, e)
has_both (y ∷ xs) ys x (suc k) e = ⊎_elim (λ t. inl (suc t.0, t.1)) (λ t. inr t) (has_both xs ys x k e)

pub has_cons : {A : Type 0} (y x : A) (xs : List A) (k : ℕ) → get_elem? (y ∷ xs) k ≡ some x → (y ≡ x) ⊎ Has xs x
has_cons y x xs zero e = inl (some-injective y x e)
has_cons y x xs (suc k) e = inr (k, e)
