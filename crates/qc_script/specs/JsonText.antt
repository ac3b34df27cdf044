-- How the parts of a JSON value are read, one after another up to the first refusal.
use Rattle.std.specs.Prelude.{ℕ, ◌&&◌, ◌||◌, nat_le, Bool, true, false, List, [], ◌∷◌, Option, None, Some, is_some, ok_or, option_map, option_and_then, Result, Ok, Err}
use Rattle.std.specs.List.{list_all, list_any}
use Rattle.std.specs.Str.{bytes_eq}
use Rattle.serde_json.specs.Data.{Data, Items, no_items, item, Members, no_members, member}
use Rattle.serde_json.specs.Find.{get, as_number, as_str, as_array, as_object, as_u64}
use Rattle.qc_script.specs.declared.bad_script.BadScript.{BadScript}
use Rattle.qc_script.specs.declared.bad_script.BadScript.TheVariants.{Shape, Limit}
use Rattle.qc_script.specs.declared.bad_script.Member.{Member}

-- a text, as its bytes
abbrev pub Text : Type 0
Text = List ℕ

-- what is read, or the first refusal
abbrev pub Read : Type 0 → Type 0
Read A = Result A BadScript

-- One thing is read after another. A refusal is the answer.
unfoldable pub followed : {A B : Type 0} → Read A → (A → Read B) → Read B
followed (Ok x) f = f x
followed (Err e) f = Err e

infixl 10 ◌>>=◌
abbrev pub ◌>>=◌ : {A B : Type 0} → Read A → (A → Read B) → Read B
r >>= f = followed r f

-- a check that passes, or its refusal
abbrev pub must : Bool → BadScript → Read (Unit {0})
must true e = Ok tt
must false e = Err e

-- each element of a list, in order
abbrev pub each : {A B : Type 0} → (A → Read B) → List A → Read (List B)
each f [] = Ok []
each f (x ∷ xs) = f x >>= λ y. each f xs >>= λ ys. Ok (y ∷ ys)

-- OBJECTS AND THEIR MEMBERS

abbrev pub among : List Text → Text → Bool
among names name = list_any (λ n. bytes_eq n name) names

-- each member's name is one of the needed or of the others
abbrev pub has_only : List Text → List Text → Members → Bool
has_only needed others no_members = true
has_only needed others (member name d rest) = (among needed name || among others name) && has_only needed others rest

-- a member of each name is there
abbrev pub has_all : List Text → Data → Bool
has_all names d = list_all (λ name. is_some (get name d)) names

-- an object with all the needed members, and no members but those and the others
abbrev pub is_object : List Text → List Text → Data → Bool
is_object needed others d = elim (as_object d) [ None ↦ false | Some members ↦ has_only needed others members && has_all needed d ]

abbrev pub object_of : Member → List Text → List Text → Data → Read (Unit {0})
object_of word needed others d = must (is_object needed others d) (Shape word)

-- the elements of an array
abbrev pub elements : Items → List Data
elements no_items = []
elements (item d ds) = d ∷ elements ds

abbrev pub list_of : Data → Option (List Data)
list_of d = option_map elements (as_array d)

-- a number written in digits alone, of at most 2 ^ 64 - 1
abbrev pub digits_of : Data → Option ℕ
digits_of d = option_and_then as_u64 (as_number d)

-- a member of an object, of a type
abbrev pub member_at : Text → Member → Data → Read Data
member_at name word d = ok_or (get name d) (Shape word)

abbrev pub number_at : Text → Member → Data → Read ℕ
number_at name word d = ok_or (option_and_then digits_of (get name d)) (Shape word)

abbrev pub text_at : Text → Member → Data → Read Text
text_at name word d = ok_or (option_and_then as_str (get name d)) (Shape word)

abbrev pub list_at : Text → Member → Data → Read (List Data)
list_at name word d = ok_or (option_and_then list_of (get name d)) (Shape word)

-- a number, or the length of a list or a text, within its limits
abbrev pub within : Member → ℕ → ℕ → ℕ → Read (Unit {0})
within word low high n = must (nat_le low n && nat_le n high) (Limit word n)

-- a number within limits
abbrev pub limited : Member → ℕ → ℕ → Data → Read ℕ
limited word low high d = do
  n ← ok_or (digits_of d) (Shape word)
  _ ← within word low high n
  Ok n

-- a member that may be absent, and then is this
abbrev pub member_or : {A : Type 0} → Text → A → (Data → Read A) → Data → Read A
member_or name default read d = elim (get name d) [ None ↦ Ok default | Some value ↦ read value ]
