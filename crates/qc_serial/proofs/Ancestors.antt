-- The ancestors of a name, one after another.
use Rattle.std.proofs.Common.{◌≡◌, ℕ, zero, suc, ◌+◌, ◌<◌, ◌≤◌, List, [], ◌∷◌, ◌++◌, length, take, refl, sym, ap, ◌∙◌, arith}
use Rattle.std.specs.Prelude.{map, filter}
use Rattle.std.specs.List.{flat_map}
use Rattle.std.proofs.lemmas.List.{map-append}
use Rattle.std.proofs.lemmas.List.Elements.{filter-append}
use Rattle.std.proofs.lemmas.Grind.{flat_map-append}
use Rattle.qc_event.specs.History.{Past, Name}
use Rattle.qc_event.specs.Dead.{ancestors}
use Rattle.qc_serial.specs.declared.event.SerialEvent.{SerialEvent}
use Rattle.qc_serial.specs.Walk.{visits, walk, entering, is_open_or_root}

take_map : {X Y : Type 0} (f : X → Y) (n : ℕ) (xs : List X) → take n (map f xs) ≡ map f (take n xs)
take_map f zero xs = refl
take_map f (suc n) [] = refl
take_map f (suc n) (x ∷ xs) = ap (λ ys. f x ∷ ys) (take_map f n xs)

-- the next ancestor is the front of the next length
pub next_ancestor : (n : Name) (k : ℕ) → k ≤ length n → take (suc k) (ancestors n) ≡ take k (ancestors n) ++ take k n ∷ []
next_ancestor [] zero fits = refl
next_ancestor [] (suc k) fits = absurd (omega arith)
next_ancestor (x ∷ xs) zero fits = refl
next_ancestor (x ∷ xs) (suc k) fits =
    ap (λ ns. [] ∷ ns) (take_map (λ a. x ∷ a) (suc k) (ancestors xs) ∙ ap (map (λ a. x ∷ a)) (next_ancestor xs k (omega arith))
    ∙ map-append (λ a. x ∷ a) (take k (ancestors xs)) (take k xs ∷ []) ∙ ap (λ ns. ns ++ (x ∷ take k xs) ∷ []) (sym (take_map (λ a. x ∷ a) k (ancestors xs))))

pub all_ancestors : (n : Name) → take (suc (length n)) (ancestors n) ≡ ancestors n
all_ancestors [] = refl
all_ancestors (x ∷ xs) = ap (λ ns. [] ∷ ns) (take_map (λ a. x ∷ a) (suc (length xs)) (ancestors xs) ∙ ap (map (λ a. x ∷ a)) (all_ancestors xs))

-- one more name that is visited
pub visits_more : (past : Past) (ns : List Name) (n : Name) → visits past (ns ++ n ∷ []) ≡ visits past ns ++ visits past (n ∷ [])
visits_more past ns n =
    ap (flat_map (λ a. entering a ++ walk past a)) (filter-append (is_open_or_root past) ns (n ∷ []))
    ∙ flat_map-append (λ a. entering a ++ walk past a) (filter (is_open_or_root past) ns) (filter (is_open_or_root past) (n ∷ []))

pub visits_next : (past : Past) (t : Name) (k : ℕ) (old new : List SerialEvent) (a : Name) → k < length t + 1 → a ≡ take k t → old ≡ visits past (take k (ancestors t)) → new ≡ old ++ visits past (a ∷ []) → new ≡ visits past (take (k + 1) (ancestors t))
visits_next past t k old new a lt here before is =
    let one : take (k + 1) (ancestors t) ≡ take k (ancestors t) ++ take k t ∷ [] = ap (λ j. take j (ancestors t)) (let e : k + 1 ≡ suc k = omega arith in e) ∙ next_ancestor t k (omega arith) in
    is ∙ ap (λ es. es ++ visits past (a ∷ [])) before ∙ ap (λ b. visits past (take k (ancestors t)) ++ visits past (b ∷ [])) here
    ∙ sym (ap (visits past) one ∙ visits_more past (take k (ancestors t)) (take k t))

pub visits_all : (past : Past) (t : Name) (k : ℕ) (out : List SerialEvent) → k ≡ length t + 1 → out ≡ visits past (take k (ancestors t)) → out ≡ visits past (ancestors t)
visits_all past t k out is before = before ∙ ap (visits past) (ap (λ j. take j (ancestors t)) (let e : k ≡ suc (length t) = omega arith in e) ∙ all_ancestors t)
