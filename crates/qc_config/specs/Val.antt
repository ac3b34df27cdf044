-- What a record's value is: a number, or a text, which is a list of bytes.
use Rattle.std.specs.Prelude.{ℕ, ◌≤◌, ◌<◌, ◌^◌, ◌==◌, nat_le, Bool, false, if◌then◌else◌, List, length, Option, None, Some}
use Rattle.std.specs.List.{All}
use Rattle.std.specs.Cmp.Lexicographic.{pointwise}

pub data Datum : Type 0 where
  Number : ℕ → Datum
  Text : List ℕ → Datum

-- the most bytes that a text has
abbrev pub longest : ℕ
longest = 1024

-- the text of some bytes; none where it would be too long
abbrev pub text_of : List ℕ → Option Datum
text_of bytes = if nat_le (length bytes) longest then Some (Text bytes) else None

-- the number; none of a text
abbrev pub number_of : Datum → Option ℕ
number_of (Number n) = Some n
number_of (Text bytes) = None

-- the bytes of a text; none of a number
abbrev pub bytes_of : Datum → Option (List ℕ)
bytes_of (Number n) = None
bytes_of (Text bytes) = Some bytes

-- the value is one that can be: a number of eight bytes, or a list of bytes that is not too long
abbrev pub IsPossible : Datum → Type 0
IsPossible (Number n) = n < 2 ^ 64
IsPossible (Text bytes) = (length bytes ≤ longest) × All (λ b. b < 256) bytes

-- whether both are the same number or the same text
abbrev pub same : Datum → Datum → Bool
same (Number m) (Number n) = m == n
same (Text a) (Text b) = pointwise ◌==◌ a b
same _ _ = false
