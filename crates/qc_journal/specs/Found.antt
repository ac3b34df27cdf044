-- What is found on a disk.
use Rattle.std.specs.Prelude.{◌≡◌, ◌<◌, ◌≤◌, ℕ, List, [], Option, IfSome}
use Rattle.qc_journal.specs.Image.{EndsAt, bodies_of}
use Rattle.qc_journal.specs.declared.image.Found.{Found}

-- the bodies that were found
abbrev pub found_bodies : Found → List (List ℕ)
found_bodies found = bodies_of found.bodies.items

-- On a disk of a size, which may tell its bytes, this is what there is.
pub record Finds (told : Option (List ℕ)) (size : ℕ) (found : Found) : Type 0 where
  pub size_is : found.size ≡ size
  pub at_start : size ≤ 1 → found.place ≡ 0
  pub none : size ≤ 1 → found_bodies found ≡ []
  pub records : 1 < size → IfSome told (EndsAt found.place (found_bodies found))
  pub within : 1 < size → found.place < size
