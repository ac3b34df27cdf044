-- Fields of bodies: numbers, names, configurations and tuples.
use Rattle.std.specs.Prelude.{ℕ, ◌-◌, ◌^◌, ◌/◌, ◌%◌, ◌<◌, ◌==◌, ◌&&◌, Bool, true, false, nat_le, nat_lt, is_none, List, [], ◌∷◌, length}
use Rattle.std.specs.Int.{w16, w32, w64}
use Rattle.std.specs.List.{All}
use Rattle.qc_names.specs.Name.{longest}
use Rattle.qc_config.specs.Config.{Voting, fault}
use Rattle.qc_config.specs.Val as val
use Rattle.qc_config.specs.Val.{Datum, Number, Text, number_of, bytes_of}
use Rattle.qc_config.specs.declared.tuple.Tuple.{Tuple}
use Rattle.qc_event.specs.History.{Name}
use Rattle.qc_codec.specs.Form.{Form, Any, byte, number, run, pair, as_another, only, marked, times, text, variant, under, nothing, choose}

-- For how many copies configurations are, and the format, 1 or 2.
pub record Layout : Type 0 where
  pub copies : ℕ
  pub format : ℕ

-- for so many copies in a format
abbrev pub layout : ℕ → ℕ → Layout
layout copies format = record { copies = copies; format = format }

-- the format in which journals and trails are written
abbrev pub current_format : ℕ
current_format = 2

-- for so many copies in the current format
abbrev pub current : ℕ → Layout
current copies = layout copies current_format

unfoldable pub half : Form ℕ
half = number w16 (2 ^ 16)

unfoldable pub word : Form ℕ
word = number w32 (2 ^ 32)

unfoldable pub long : Form ℕ
long = number w64 (2 ^ 64)

-- NAMES

-- both halves of a top's number are at least 1
abbrev pub is_top : ℕ → Bool
is_top number = nat_lt 0 (number / 2 ^ 32) && nat_lt 0 (number % 2 ^ 32)

abbrev pub is_some_number : ℕ → Bool
is_some_number n = nat_lt 0 n

-- the number of a top
abbrev pub top_number : Form ℕ
top_number = only is_top long

-- a number that is not 0
abbrev pub some_number : Form ℕ
some_number = only is_some_number word

abbrev pub name_of : ℕ × (ℕ × List ℕ) → Name
name_of p = p.1.0 ∷ p.1.1

-- the length, the top's number and the rest of a name
abbrev pub parts_of_name : Name → ℕ × (ℕ × List ℕ)
parts_of_name [] = (0, (0, []))
parts_of_name (top ∷ rest) = (length (top ∷ rest), (top, rest))

abbrev pub is_length : ℕ → ℕ → Bool
is_length least n = nat_lt 0 n && (nat_le least n && nat_le n longest)

-- a name of at least so many numbers: how many there are, and the numbers
unfoldable pub name : ℕ → Form Name
name least = as_another name_of parts_of_name Any
    (pair (only (is_length least) byte) (λ n. pair top_number (λ top. times (n - 1) some_number)))

-- numbers as started transactions have: both halves of the top's are at least 1, and so is each behind it
abbrev pub IsNumbered : Name → Type 0
IsNumbered [] = ⊥
IsNumbered (top ∷ rest) = (0 < top / 2 ^ 32) × (0 < top % 2 ^ 32) × All (λ n. 0 < n) rest

-- VALUES, CONFIGURATIONS AND TUPLES

-- a value that is a number, in eight bytes
unfoldable pub number_datum : Form Datum
number_datum = variant Number number_of long

-- no more bytes than a text has
abbrev pub is_short : ℕ → Bool
is_short count = nat_le count val.longest

-- a value that is a text, behind its length in two bytes
unfoldable pub text_datum : Form Datum
text_datum = variant Text bytes_of (text (only is_short half))

-- the byte that tells what a value is
abbrev pub datum_tag : Datum → ℕ
datum_tag (Number n) = 0
datum_tag (Text bytes) = 1

-- a value, by whether the format is the first: it is a number there, and behind it a byte tells what it is
abbrev pub datum_by : Bool → Form Datum
datum_by true = number_datum
datum_by false = choose datum_tag (under 0 number_datum (under 1 text_datum nothing))

-- a value of a format
unfoldable pub datum : ℕ → Form Datum
datum format = datum_by (format == 1)

abbrev pub has_no_fault : Voting → Bool
has_no_fault c = is_none (fault c.votes c.read c.write)

-- a legal configuration for so many copies
unfoldable pub config : Layout → Form Voting
config layout = only has_no_fault
    (as_another (λ p. record { votes = p.0; read = p.1.0; write = p.1.1 }) (λ (c : Voting). (c.votes, (c.read, c.write))) Any
    (marked layout.copies (pair (run layout.copies) (λ votes. pair half (λ read. half)))))

unfoldable pub tuple : Layout → Form Tuple
tuple layout = as_another (λ p. record { version = p.0; value = p.1.0; generation = p.1.1.0; config = p.1.1.1 })
    (λ (t : Tuple). (t.version, (t.value, (t.generation, t.config)))) Any
    (pair long (λ version. pair (datum layout.format) (λ value. pair long (λ generation. config layout))))
