-- What a note of the last request tells.
use Rattle.std.proofs.Common.{◌≡◌, ◌+◌, ◌==◌, List, [], ◌∷◌, ◌++◌, length, refl, ap, ◌∙◌, arith, length-append}
use Rattle.std.proofs.lemmas.List.Elements.{filter-append}
use Rattle.qc_lane.specs.declared.lane.Lane.{Lane}
use Rattle.qc_lane.specs.declared.lane.Request.{Request}
use Rattle.qc_lane.specs.Ends.{IsLast}
use Rattle.qc_lane.specs.Lanes.{of, last_from, noted}
use Rattle.qc_lane.proofs.Moves.{kept}

last_is : (before : List Request) (r : Request) → last_from (before ++ r ∷ []) ≡ r.from
last_is [] r = refl
last_is (x ∷ []) r = refl
last_is (x ∷ y ∷ ys) r = last_is (y ∷ ys) r

one_further : (before : List Request) (r : Request) → length (of r.from (before ++ r ∷ [])) ≡ length (of r.from before) + 1
one_further before r =
    let split : of r.from (before ++ r ∷ []) ≡ of r.from before ++ r ∷ [] = filter-append (λ (q : Request). q.from == r.from) before (r ∷ []) ∙ ap (λ (l : List Request). of r.from before ++ l) (kept r []) in
    omega (arith, ap length split, length-append (of r.from before) (r ∷ []))

pub noted_tells : (v : Lane) (r : Request) → IsLast v.got r → ((noted v).from ≡ r.from) × ((noted v).known ≡ r.number + 1)
noted_tells v r is =
    let from : last_from v.got ≡ r.from = ap last_from is.last ∙ last_is is.before r in
    let there : length (of (last_from v.got) v.got) ≡ length (of r.from (is.before ++ r ∷ [])) = ap (λ s. length (of s v.got)) from ∙ ap (λ (l : List Request). length (of r.from l)) is.last in
    (from, omega (arith, there, one_further is.before r, is.number))
