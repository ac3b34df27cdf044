-- Names that stand right below a name, deeper, or outside.
use Rattle.std.proofs.Common.{◌≡◌, ℕ, true, false, [], ◌∷◌, ◌++◌, sym, ap, ◌∙◌, append_assoc}
use mathlib.Core.Bool.{true≢false}
use Rattle.std.specs.Prelude.{Some}
use Rattle.std.proofs.lemmas.Bool.{false_from_ne_true}
use Rattle.std.proofs.lemmas.List.{append_cancel_left}
use Rattle.qc_names.specs.Name as name
use Rattle.qc_event.specs.History.{Name, same, is_child}
use Rattle.qc_event.proofs.Absent.{same_is, same_itself}
use Rattle.qc_event.proofs.LastNumber.{front_last, is_child-last, child_last}

-- the second name does not stand below the first; a name is not below itself
abbrev pub Outside : Name → Name → Type 0
Outside n x = (j : ℕ) (rest : Name) → x ≡ n ++ j ∷ rest → ⊥

-- what follows a child's name begins with the child's number
from_child : (n : Name) (j : ℕ) (xs ys : Name) → n ++ xs ≡ (n ++ j ∷ []) ++ ys → xs ≡ j ∷ ys
from_child n j xs ys is = append_cancel_left n xs (j ∷ ys) (is ∙ append_assoc n (j ∷ []) ys)

pub sibling_outside : (n : Name) (j k : ℕ) → Outside (n ++ j ∷ []) (n ++ k ∷ [])
sibling_outside n j k i rest is = let e = from_child n j (k ∷ []) (i ∷ rest) is in cc

pub deeper_outside : (n : Name) (j k i : ℕ) (rest : Name) → (j ≡ k → ⊥) → Outside (n ++ j ∷ []) (n ++ k ∷ i ∷ rest)
deeper_outside n j k i rest differ h others is = let e = from_child n j (k ∷ i ∷ rest) (h ∷ others) is in differ cc

pub outside_child : (n : Name) (j : ℕ) (x : Name) → Outside n x → Outside (n ++ j ∷ []) x
outside_child n j x out i rest is = out j (i ∷ rest) (is ∙ append_assoc n (j ∷ []) (i ∷ rest))

pub outside_itself : (n : Name) → Outside n n
outside_itself [] j rest is = cc
outside_itself (x ∷ n) j rest is = outside_itself n j rest (let e : n ≡ n ++ j ∷ rest = cc in e)

pub outside_not_child : (n : Name) (j : ℕ) (x : Name) → Outside n x → same (n ++ j ∷ []) x ≡ false
outside_not_child n j x out = false_from_ne_true _ (λ h. out j [] (sym (same_is (n ++ j ∷ []) x h)))

pub deeper_not_child : (n : Name) (j k i : ℕ) (rest : Name) → same (n ++ j ∷ []) (n ++ k ∷ i ∷ rest) ≡ false
deeper_not_child n j k i rest = false_from_ne_true _ (λ h. let e = append_cancel_left n (j ∷ []) (k ∷ i ∷ rest) (same_is (n ++ j ∷ []) (n ++ k ∷ i ∷ rest) h) in cc)

pub other_child : (n : Name) (j k : ℕ) → same (n ++ j ∷ []) (n ++ k ∷ []) ≡ false → j ≡ k → ⊥
other_child n j k other is = true≢false (sym (same_itself (n ++ j ∷ [])) ∙ ap (λ i. same (n ++ j ∷ []) (n ++ i ∷ [])) is ∙ other)

-- what is no child of a name is none of its children
pub no_child : (n c : Name) (k : ℕ) → is_child n c ≡ false → same c (n ++ k ∷ []) ≡ false
no_child n c k not = false_from_ne_true _ (λ h. true≢false (sym (is_child-last n k) ∙ ap (is_child n) (sym (same_is c (n ++ k ∷ []) h)) ∙ not))

pub parent_last : (n : Name) (j : ℕ) → name.parent (n ++ j ∷ []) ≡ Some n
parent_last [] j = ap Some (front_last [] j)
parent_last (x ∷ n) j = ap Some (front_last (x ∷ n) j)

pub parent_of : (n c : Name) → is_child n c ≡ true → name.parent c ≡ Some n
parent_of n c is = let (j, e) = child_last n c is in ap name.parent e ∙ parent_last n j
