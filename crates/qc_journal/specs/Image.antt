-- What an image says: the records that it has, or where it is broken.
use Rattle.std.specs.Prelude.{◌≡◌, ◌≢◌, ◌<◌, ◌≤◌, ◌⊎◌, ℕ, ◌+◌, ◌^◌, List, [], ◌∷◌, ◌++◌, length, take, get_or, All, map, Vec}
use Rattle.std.specs.Int.{w32, to_be_bytes, from_be_bytes}
use Rattle.std.specs.declared.alloc.Global.{Global}

-- the length of a body, in four bytes
unfoldable pub length_bytes : List ℕ → List ℕ
length_bytes body = to_be_bytes w32 (length body)

-- the records of these bodies, each with its gate open
abbrev pub row : List (List ℕ) → List ℕ
row [] = []
row (body ∷ bodies) = 1 ∷ (length_bytes body ++ body ++ row bodies)

-- a length that four bytes can say
abbrev pub IsShort : List ℕ → Type 0
IsShort body = length body < 2 ^ 32

-- An image is the records of these bodies, a closed gate at this place, and anything behind it.
pub record EndsAt (place : ℕ) (bodies : List (List ℕ)) (image : List ℕ) : Type 0 where
  pub gate : ℕ
  pub rest : List ℕ
  pub split : image ≡ row bodies ++ gate ∷ rest
  pub closed : gate ≢ 1
  pub size : place ≡ length (row bodies)
  pub short : All IsShort bodies

-- an image has the records of these bodies, and no others
abbrev pub HasRecords : List (List ℕ) → List ℕ → Type 0
HasRecords bodies image = ((bodies ≡ []) × (length image ≤ 1)) ⊎ ((place : ℕ) × EndsAt place bodies image)

-- an image has this record at this index
abbrev pub HasAt : ℕ → List ℕ → List ℕ → Type 0
HasAt index body image = (bodies : List (List ℕ)) × HasRecords bodies image × (index < length bodies) × (get_or bodies index [] ≡ body)

-- what stands behind an open gate is too short for a record and the next gate
abbrev pub IsCutOff : List ℕ → Type 0
IsCutOff rest = (length rest < 5) ⊎ (length rest < 5 + from_be_bytes w32 (take 4 rest))

-- Behind some records the gate at this place is open, and what stands behind it is cut off.
pub record IsBroken (place : ℕ) (image : List ℕ) : Type 0 where
  pub bodies : List (List ℕ)
  pub rest : List ℕ
  pub split : image ≡ row bodies ++ 1 ∷ rest
  pub size : place ≡ length (row bodies)
  pub short : All IsShort bodies
  pub longer : 1 < length image
  pub cut_off : IsCutOff rest

-- what is written behind a gate: the length, the body, and the next gate, closed
abbrev pub behind_gate : List ℕ → List ℕ
behind_gate body = length_bytes body ++ body ++ 0 ∷ []

-- bodies without where they lie in memory
abbrev pub bodies_of : List (Vec ℕ Global) → List (List ℕ)
bodies_of bodies = map (λ body. body.items) bodies
