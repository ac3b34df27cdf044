-- A name from the top down, and the same name turned over: the tests on them agree.
use mathlib.Core.List.{reverse-cons}
use Rattle.std.proofs.Common.{ℕ, ◌≡◌, true, [], ◌∷◌, ◌++◌, reverse, sym, ap, ◌∙◌, subst, inl, inr}
use Rattle.std.proofs.lemmas.List.{reverse-append, reverse-reverse}
use Rattle.qc_names.specs.Name.{is_ancestor}
use Rattle.qc_event.specs.History.{Name, same, is_child}
use Rattle.qc_event.proofs.Absent.{same_is, same_itself}
use Rattle.qc_event.proofs.LastNumber.{same_last, is_ancestor-append, rest_of, is_child-last, child_last}
use Rattle.qc_serial.proofs.MossNames.{Line, two_ways, IsAbove, is_above, above-refl, is_above-true, is_above-from}

pub turn_last : (k : ℕ) (p : Line) → reverse (k ∷ p) ≡ reverse p ++ k ∷ []
turn_last k p = reverse-cons k p

-- what is turned over twice is as before
pub turn_back : (n : Name) (d : Line) → reverse n ≡ d → n ≡ reverse d
turn_back n d is = sym (reverse-reverse n) ∙ ap reverse is

pub turn_over : (n : Name) (d : Line) → n ≡ reverse d → reverse n ≡ d
turn_over n d is = ap reverse is ∙ reverse-reverse d

pub same_turned : (n : Name) (d : Line) → same n (reverse d) ≡ same (reverse n) d
same_turned n d = two_ways _ _
    (λ h. subst (λ x. same x d ≡ true) (sym (turn_over n d (same_is n (reverse d) h))) (same_itself d))
    (λ h. subst (λ x. same n x ≡ true) (turn_back n d (same_is (reverse n) d h)) (same_itself n))

-- the child of a name is one number deeper
pub child_turned : (k : ℕ) (p d : Line) → is_child (reverse d) (reverse (k ∷ p)) ≡ same p d
child_turned k p d = two_ways _ _ parent child
  where
    parent : is_child (reverse d) (reverse (k ∷ p)) ≡ true → same p d ≡ true
    parent h =
        let (j, is) = child_last (reverse d) (reverse (k ∷ p)) h in
        let e : reverse p ≡ reverse d = (same_last (reverse p) (reverse d) k j (sym (turn_last k p) ∙ is)).0 in
        let q : p ≡ d = turn_back p (reverse d) e ∙ reverse-reverse d in
        subst (λ x. same p x ≡ true) q (same_itself p)

    child : same p d ≡ true → is_child (reverse d) (reverse (k ∷ p)) ≡ true
    child h =
        ap (λ x. is_child (reverse x) (reverse (k ∷ p))) (sym (same_is p d h))
        ∙ ap (is_child (reverse p)) (turn_last k p)
        ∙ is_child-last (reverse p) k

-- ABOVE

above-append : (r m : Line) → IsAbove m (r ++ m)
above-append [] m = above-refl m
above-append (k ∷ r) m = inr (above-append r m)

above_rest : (m a : Line) → IsAbove m a → (r : Line) × (a ≡ r ++ m)
above_rest m [] is = ([], sym is)
above_rest m (k ∷ p) (inl is) = ([], sym is)
above_rest m (k ∷ p) (inr h) = let rest = above_rest m p h in (k ∷ rest.0, ap (λ x. k ∷ x) rest.1)

pub above_ancestor : (m a : Line) → IsAbove m a → is_ancestor (reverse m) (reverse a) ≡ true
above_ancestor m a h =
    let rest = above_rest m a h in
    ap (is_ancestor (reverse m)) (ap reverse rest.1 ∙ reverse-append rest.0 m) ∙ is_ancestor-append (reverse m) (reverse rest.0)

pub ancestor_above : (m a : Name) → is_ancestor m a ≡ true → IsAbove (reverse m) (reverse a)
ancestor_above m a h =
    let rest = rest_of m a h in
    subst (IsAbove (reverse m)) (sym (ap reverse rest.1 ∙ reverse-append m rest.0)) (above-append (reverse rest.0) (reverse m))

pub above_turned : (m a : Line) → is_ancestor (reverse m) (reverse a) ≡ is_above m a
above_turned m a = two_ways _ _
    (λ h. is_above-from m a (subst (λ x. IsAbove x a) (reverse-reverse m) (subst (IsAbove (reverse (reverse m))) (reverse-reverse a) (ancestor_above (reverse m) (reverse a) h))))
    (λ h. above_ancestor m a (is_above-true m a h))
