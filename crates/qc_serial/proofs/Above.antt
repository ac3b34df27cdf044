-- The ancestors above a name, and of which of them a child is neither the name nor a child.
use Rattle.std.proofs.Common.{◌≡◌, ℕ, ◌<◌, ◌≤◌, true, List, [], ◌∷◌, ◌++◌, length, refl, sym, ap, ◌∙◌, arith, append_assoc}
use Rattle.std.specs.Prelude.{◌==◌, map}
use Rattle.std.proofs.lemmas.Bool.{eq-eqb, and_from}
use Rattle.std.proofs.lemmas.List.{length-append, map-append}
use Rattle.qc_names.specs.Name.{is_ancestor}
use Rattle.qc_event.specs.History.{Name, is_child}
use Rattle.qc_event.specs.Dead.{ancestors}
use Rattle.qc_event.proofs.LastNumber.{same_last, is_ancestor-append, rest_of, child_last}

-- the ancestors of a name other than itself, the shortest first
abbrev pub above : Name → List Name
above [] = []
above (x ∷ xs) = [] ∷ map (λ a. x ∷ a) (above xs)

-- a name is the last of its ancestors
pub ancestors_are : (p : Name) → ancestors p ≡ above p ++ p ∷ []
ancestors_are [] = refl
ancestors_are (x ∷ xs) = ap (λ ns. [] ∷ ns) (ap (map (λ a. x ∷ a)) (ancestors_are xs) ∙ map-append (λ a. x ∷ a) (above xs) (xs ∷ []))

abbrev pub Each : (Name → Type 0) → List Name → Type 0
Each P [] = Unit {0}
Each P (n ∷ ns) = P n × Each P ns

each_map : (P : Name → Type 0) (f : Name → Name) (ns : List Name) → Each (λ n. P (f n)) ns → Each P (map f ns)
each_map P f [] h = tt
each_map P f (n ∷ ns) h = (h.0, each_map P f ns h.1)

further : (x : ℕ) (b xs : Name) → is_ancestor b xs ≡ true → is_ancestor (x ∷ b) (x ∷ xs) ≡ true
further x b xs h = and_from (x == x) (is_ancestor b xs) (eq-eqb x x refl) h

-- what holds of whoever is an ancestor holds of each of the ancestors
pub each_ancestor : (P : Name → Type 0) (a : Name) → ((b : Name) → is_ancestor b a ≡ true → P b) → Each P (ancestors a)
each_ancestor P [] h = (h [] refl, tt)
each_ancestor P (x ∷ xs) h =
    (h [] refl, each_map P (λ b. x ∷ b) (ancestors xs) (each_ancestor (λ b. P (x ∷ b)) xs (λ b i. h (x ∷ b) (further x b xs i))))

pub each_above : (P : Name → Type 0) (a : Name) → ((b : Name) → length b < length a → P b) → Each P (above a)
each_above P [] h = tt
each_above P (x ∷ xs) h =
    (h [] (omega arith), each_map P (λ b. x ∷ b) (above xs) (each_above (λ b. P (x ∷ b)) xs (λ b lt. h (x ∷ b) (omega arith))))

-- a front of an ancestor is an ancestor
pub front_ancestor : (p q a : Name) → is_ancestor (p ++ q) a ≡ true → is_ancestor p a ≡ true
front_ancestor p q a h =
    let rest = rest_of (p ++ q) a h in
    ap (is_ancestor p) (rest.1 ∙ append_assoc p q rest.0) ∙ is_ancestor-append p (q ++ rest.0)

pub ancestor_short : (b p : Name) → is_ancestor b p ≡ true → length b ≤ length p
ancestor_short b p h =
    let rest = rest_of b p h in
    omega (arith, ap length rest.1, length-append b rest.0)

-- a name has one parent
pub parent_is : (b p : Name) (j : ℕ) → is_child b (p ++ j ∷ []) ≡ true → b ≡ p
parent_is b p j h =
    let child = child_last b (p ++ j ∷ []) h in
    sym (same_last p b j child.0 child.1).0
