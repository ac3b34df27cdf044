-- What is told of the items of a list, where one of them has another in its place.
use Rattle.std.proofs.Common.{◌≡◌, ◌≢◌, ℕ, zero, suc, List, [], ◌∷◌, map, get_or, set, refl, ap, ◌∙◌}
use Rattle.std.proofs.lemmas.List.{map-set, get_or-set_other}

pub told_elsewhere : {D A : Type 0} (told : D → A) (none : A) (items later : List D) (which n : ℕ) (item : D) → later ≡ set items which item → n ≢ which → get_or (map told later) n none ≡ get_or (map told items) n none
told_elsewhere {D} {A} told none items later which n item is other =
    ap (λ (l : List D). get_or (map told l) n none) is
    ∙ ap (λ (l : List A). get_or l n none) (map-set told items which item)
    ∙ get_or-set_other (map told items) which n (told item) none other

pub told_set : {D A : Type 0} (told : D → A) (items later : List D) (which : ℕ) (item : D) → later ≡ set items which item → map told later ≡ set (map told items) which (told item)
told_set {D} {A} told items later which item is = ap (map told) is ∙ map-set told items which item

told_at : {D A : Type 0} (told : D → A) (items : List D) (which : ℕ) (item : D) → told (get_or items which item) ≡ get_or (map told items) which (told item)
told_at told [] which item = refl
told_at told (first ∷ items) zero item = refl
told_at told (first ∷ items) (suc which) item = told_at told items which item

pub told_of : {D A : Type 0} (told : D → A) (items : List D) (which : ℕ) (item given : D) (none : A) → given ≡ get_or items which item → told item ≡ none → told given ≡ get_or (map told items) which none
told_of told items which item given none is of_item = ap told is ∙ told_at told items which item ∙ ap (λ n. get_or (map told items) which n) of_item
