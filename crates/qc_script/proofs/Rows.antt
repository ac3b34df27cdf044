-- Bodies in a row are a plan of nothing but children, and as many.
use Rattle.std.proofs.Common.{◌≡◌, ℕ, ◌+◌, ◌<◌, suc, List, [], ◌∷◌, length, refl, ap, arith}
use Rattle.qc_script.specs.Plan.{Plan, Numbered, row_of, IsRow, row_length}

pub is_row : (bodies : List Numbered) → IsRow (row_of bodies)
is_row [] = tt
is_row (b ∷ bodies) = is_row bodies

pub row_length-row_of : (bodies : List Numbered) → row_length (row_of bodies) ≡ length bodies
row_length-row_of [] = refl
row_length-row_of (b ∷ bodies) = let h = row_length-row_of bodies in omega arith
