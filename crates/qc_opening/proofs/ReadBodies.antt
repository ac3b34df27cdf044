-- The bodies that an image has, read from its bytes.
use Rattle.std.proofs.Common.{◌≡◌, ◌≢◌, ℕ, zero, suc, ◌<◌, ◌≤◌, true, List, [], ◌∷◌, ◌++◌, length, take, drop, inl, inr, refl, sym, ap, ap₂, ◌∙◌, arith, append_assoc, length-append}
use Rattle.std.specs.Prelude.{◌==◌, All, Bool, false, if◌then◌else◌, Option, None, Some, IfSome, is_some}
use Rattle.std.specs.Int.{w32, from_be_bytes}
use mathlib.Core.Bool.{true≢false}
use Rattle.std.proofs.lemmas.Bool.{eqb-true}
use Rattle.std.proofs.lemmas.List.{drop_at, take_at}
use Rattle.std.proofs.lemmas.List.Elements.{All-head, All-tail}
use Rattle.std.proofs.lemmas.Nat.{from_be_bytes-to_be_bytes_4}
use Rattle.qc_journal.specs.Image.{length_bytes, row, HasRecords, IsShort}
use Rattle.qc_journal.proofs.Images.{length-length_bytes, length_bytes-is}

-- how long the first body behind an open gate is, that body, and what stands behind it
abbrev size_of : List ℕ → ℕ
size_of rest = from_be_bytes w32 (take 4 rest)

abbrev first_body : List ℕ → List ℕ
first_body rest = take (size_of rest) (drop 4 rest)

abbrev behind_first : List ℕ → List ℕ
behind_first rest = drop (size_of rest) (drop 4 rest)

-- the bodies of so many records at most
abbrev pub bodies_in : ℕ → List ℕ → List (List ℕ)
bodies_in zero image = []
bodies_in (suc most) [] = []
bodies_in (suc most) (gate ∷ []) = []
bodies_in (suc most) (gate ∷ byte ∷ rest) = if gate == 1 then first_body (byte ∷ rest) ∷ bodies_in most (behind_first (byte ∷ rest)) else []

-- of what was told, if it was
abbrev pub bodies_told : Option (List ℕ) → List (List ℕ)
bodies_told None = []
bodies_told (Some bytes) = bodies_in (length bytes) bytes

module _ (body more : List ℕ) (short : IsShort body) where
  size_is : size_of (length_bytes body ++ (body ++ more)) ≡ length body
  size_is =
      ap (from_be_bytes w32) (take_at (length_bytes body) (body ++ more) 4 (length-length_bytes body) ∙ length_bytes-is body)
      ∙ from_be_bytes-to_be_bytes_4 (length body) short

  back_is : drop 4 (length_bytes body ++ (body ++ more)) ≡ body ++ more
  back_is = drop_at (length_bytes body) (body ++ more) 4 (length-length_bytes body)

  first_is : first_body (length_bytes body ++ (body ++ more)) ≡ body
  first_is = ap₂ (λ (n : ℕ) (l : List ℕ). take n l) size_is back_is ∙ take_at body more (length body) refl

  behind_is : behind_first (length_bytes body ++ (body ++ more)) ≡ more
  behind_is = ap₂ (λ (n : ℕ) (l : List ℕ). drop n l) size_is back_is ∙ drop_at body more (length body) refl

-- behind an open gate stands one body more
one_more : (most : ℕ) (rest : List ℕ) → 0 < length rest → bodies_in (suc most) (1 ∷ rest) ≡ first_body rest ∷ bodies_in most (behind_first rest)
one_more most [] some = absurd (omega (arith, some))
one_more most (byte ∷ rest) some = refl

-- behind a closed one none
none_more : (most gate : ℕ) (rest : List ℕ) → gate ≢ 1 → bodies_in most (gate ∷ rest) ≡ []
none_more zero gate rest shut = refl
none_more (suc most) gate [] shut = refl
none_more (suc most) gate (byte ∷ rest) shut = by (gate == 1) (λ is. shut (eqb-true gate 1 is))
  where
    by : (b : Bool) → (b ≡ true → ⊥) → (if b then first_body (byte ∷ rest) ∷ bodies_in most (behind_first (byte ∷ rest)) else []) ≡ []
    by true never = absurd (never refl)
    by false never = refl

-- a row of records is read whole
row_read : (most : ℕ) (bodies : List (List ℕ)) (gate : ℕ) (rest : List ℕ) → All IsShort bodies → gate ≢ 1 → length bodies ≤ most → bodies_in most (row bodies ++ gate ∷ rest) ≡ bodies
row_read most [] gate rest short shut few = none_more most gate rest shut
row_read zero (body ∷ bodies) gate rest short shut few = absurd (omega (arith, few))
row_read (suc most) (body ∷ bodies) gate rest short shut few =
    let more = row bodies ++ gate ∷ rest in
    let here = All-head IsShort body bodies short in
    let split : row (body ∷ bodies) ++ gate ∷ rest ≡ 1 ∷ (length_bytes body ++ (body ++ more)) =
    ap (λ (l : List ℕ). 1 ∷ l) (append_assoc (length_bytes body ++ body) (row bodies) (gate ∷ rest) ∙ append_assoc (length_bytes body) body more) in
    ap (bodies_in (suc most)) split
    ∙ (one_more most (length_bytes body ++ (body ++ more)) (omega (arith, length-append (length_bytes body) (body ++ more), length-length_bytes body))
    ∙ ap₂ (λ (b : List ℕ) (l : List (List ℕ)). b ∷ l) (first_is body more here)
    (ap (bodies_in most) (behind_is body more here) ∙ row_read most bodies gate rest (All-tail IsShort body bodies short) shut (omega (arith, few))))

-- a record takes a byte
row_long : (bodies : List (List ℕ)) → length bodies ≤ length (row bodies)
row_long [] = omega arith
row_long (body ∷ bodies) = omega (arith, row_long bodies, length-append (length_bytes body ++ body) (row bodies))

-- the bodies that an image has are those that are read
image_read : (bodies : List (List ℕ)) (image : List ℕ) → HasRecords bodies image → bodies_in (length image) image ≡ bodies
image_read bodies [] (inl none) = sym none.0
image_read bodies (byte ∷ []) (inl none) = sym none.0
image_read bodies (byte ∷ next ∷ rest) (inl none) = absurd (omega (arith, none.1))
image_read bodies image (inr (place, ends)) =
    ap (bodies_in (length image)) ends.split
    ∙ row_read (length image) bodies ends.gate ends.rest ends.short ends.closed (omega (arith, row_long bodies, ap length ends.split, length-append (row bodies) (ends.gate ∷ ends.rest)))

pub told_read : (told : Option (List ℕ)) (bodies : List (List ℕ)) → IfSome told (HasRecords bodies) → is_some told ≡ true → bodies_told told ≡ bodies
told_read None bodies has tells = absurd (true≢false (sym tells))
told_read (Some bytes) bodies has tells = image_read bodies bytes has
