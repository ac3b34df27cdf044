-- What writers say where they succeed.
use Rattle.std.proofs.Common.{◌≡◌, ℕ, List, [], ◌∷◌, ◌++◌, sym, ap, ◌∙◌, append_assoc}
use Rattle.std.specs.Prelude.{Result, Ok, Err, OnOk}
use Rattle.std.specs.declared.alloc.AllocError.{AllocError}

pub on_ok : {P Q : Type 0} (result : Result (Unit {0}) AllocError) → (P → Q) → OnOk result P → OnOk result Q
on_ok (Ok x) more so = more so
on_ok (Err e) more so = tt

pub if_ok : {P : Type 0} (result : Result (Unit {0}) AllocError) → P → OnOk result P
if_ok (Ok x) p = p
if_ok (Err e) p = tt

-- a tag, and what stands behind it
pub behind_tag : (old middle out : List ℕ) (tag : ℕ) (rest whole : List ℕ) → middle ≡ old ++ tag ∷ [] → whole ≡ tag ∷ rest → out ≡ middle ++ rest → out ≡ old ++ whole
behind_tag old middle out tag rest whole first same last =
    last ∙ ap (λ xs. xs ++ rest) first ∙ append_assoc old (tag ∷ []) rest ∙ ap (λ xs. old ++ xs) (sym same)

-- three parts one behind another, of which the last has a second spelling
pub three : (old one two out a b c d : List ℕ) → one ≡ old ++ a → two ≡ one ++ b → c ≡ d → out ≡ two ++ c → out ≡ old ++ (a ++ (b ++ d))
three old one two out a b c d first second same third =
    third ∙ ap (λ xs. xs ++ c) (second ∙ ap (λ xs. xs ++ b) first) ∙ ap (λ xs. ((old ++ a) ++ b) ++ xs) same
    ∙ append_assoc (old ++ a) b d ∙ append_assoc old a (b ++ d)
