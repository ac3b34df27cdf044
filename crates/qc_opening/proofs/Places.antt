-- Lists and their places.
use Rattle.std.proofs.Common.{◌≡◌, ℕ, zero, suc, ◌+◌, ◌<◌, List, [], ◌∷◌, ◌++◌, length, map, get_or, refl, sym, ap, ◌∙◌, subst, arith, add-one}
use Rattle.std.specs.Prelude.{All, Some, slice_get, reverse}
use Rattle.std.proofs.lemmas.List.{append_assoc, map-append, reverse-append, reverse-reverse}
use Rattle.std.proofs.lemmas.Option.{get_or_from_slice_get, slice_get_within}

-- turned round, the last item comes first
last_first : {A B : Type 0} (f : A → B) (all rest : List A) (last : A) → all ≡ rest ++ last ∷ [] → reverse (map f all) ≡ f last ∷ reverse (map f rest)
last_first f all rest last is = ap (λ l. reverse (map f l)) is ∙ (ap reverse (map-append f rest (last ∷ [])) ∙ reverse-append (map f rest) (f last ∷ []))

-- it goes from the end of a list behind others, which leaves the whole as it was
pub last_over : {A B C : Type 0} (f : A → B) (g : B → C) (there now whole : List C) (all rest : List A) (last : A) (it : B) → all ≡ rest ++ last ∷ [] → it ≡ f last → now ≡ there ++ g it ∷ [] → there ++ map g (reverse (map f all)) ≡ whole
    → now ++ map g (reverse (map f rest)) ≡ whole
last_over f g there now whole all rest last it is of now_is was =
    ap (λ l. l ++ map g (reverse (map f rest))) (now_is ∙ ap (λ b. there ++ g b ∷ []) of)
    ∙ (append_assoc there (g (f last) ∷ []) (map g (reverse (map f rest))) ∙ (ap (λ l. there ++ map g l) (sym (last_first f all rest last is)) ∙ was))

pub map_reverse : {A B : Type 0} (f : A → B) (xs : List A) → map f (reverse xs) ≡ reverse (map f xs)
map_reverse f [] = refl
map_reverse f (x ∷ xs) =
    ap (map f) (reverse-append (x ∷ []) xs)
    ∙ (map-append f (reverse xs) (x ∷ []) ∙ (ap (λ l. l ++ f x ∷ []) (map_reverse f xs) ∙ sym (reverse-append (f x ∷ []) (map f xs))))

-- turned round twice, they stand in their order
pub turned_back : {A B : Type 0} (f : A → B) (xs turned : List A) → turned ≡ reverse xs → reverse (map f turned) ≡ map f xs
turned_back f xs turned is = ap (λ l. reverse (map f l)) is ∙ (ap reverse (map_reverse f xs) ∙ reverse-reverse (map f xs))

-- the item behind the first
pub get_next : {A : Type 0} (x : A) (xs : List A) (i : ℕ) (d : A) → get_or (x ∷ xs) (i + 1) d ≡ get_or xs i d
get_next x xs i d = ap (λ n. get_or (x ∷ xs) n d) (add-one i)

-- what stands at a place
pub at_place : {A : Type 0} (xs : List A) (i : ℕ) → i < length xs → (x : A) × (slice_get xs i ≡ Some x)
at_place [] i there = absurd (omega (arith, there))
at_place (x ∷ xs) zero there = (x, refl)
at_place (x ∷ xs) (suc i) there = at_place xs i (omega (arith, there))

pub mapped_at : {A B : Type 0} (f : A → B) (xs : List A) (i : ℕ) (x : A) (d : B) → slice_get xs i ≡ Some x → get_or (map f xs) i d ≡ f x
mapped_at f [] i x d is = absurd cc
mapped_at f (y ∷ xs) zero x d is = let same : y ≡ x = cc in ap f same
mapped_at f (y ∷ xs) (suc i) x d is = mapped_at f xs i x d is

-- what holds of each holds of the one at a place
pub all_at : {A : Type 0} (P : A → Type 0) (xs : List A) (i : ℕ) (x : A) → All P xs → slice_get xs i ≡ Some x → P x
all_at P xs i x all is = subst P (get_or_from_slice_get xs i x x is) (all i x (slice_get_within xs i x is))
