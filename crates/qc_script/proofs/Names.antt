-- The names of records, looked up in a set of them.
use Rattle.std.proofs.Common.{◌≡◌, ℕ, Bool, true, false, List, [], ◌∷◌, Option, Ok, Err, refl, sym, ap, ◌∙◌}
use Rattle.std.specs.Prelude.{◌+◌, not, if◌then◌else◌, map, codes}
use Rattle.std.specs.Borrow.{Bor}
use Rattle.std.specs.List.{list_any, prefix_len, position}
use Rattle.std.specs.Str.{bytes_eq}
use Rattle.std.proofs.lemmas.List.{length-map}
use Rattle.serde_json.specs.Data.{Data}
use Rattle.qc_script.specs.declared.bad_script.BadScript.TheVariants.{Twice}
use Rattle.qc_script.specs.declared.bad_script.Member.TheVariants as part
use Rattle.qc_script.specs.Reading.{texts_of}
use Rattle.qc_script.specs.JsonText.{Text, followed, ◌>>=◌, must, text_at}
use Rattle.qc_script.specs.ScriptText.{form_of_name, name_of}
use Rattle.qc_script.proofs.Objects.{list_any-map}
use Rattle.qc_script.proofs.Refusals.{is_then}

prefix_len-map : {X Y : Type 0} (p : Y → Bool) (f : X → Y) (xs : List X) → prefix_len p (map f xs) ≡ prefix_len (λ x. p (f x)) xs
prefix_len-map p f [] = refl
prefix_len-map p f (x ∷ xs) = ap (λ n. if p (f x) then 1 + n else 0) (prefix_len-map p f xs)

position-map : {X Y : Type 0} (p : Y → Bool) (f : X → Y) (xs : List X) → position p (map f xs) ≡ position (λ x. p (f x)) xs
position-map p f xs = simp (prefix_len-map, length-map)

-- where a name stands in the set, and among the names of the records
pub place_is : (names : List Text) (keys : List (Bor Text)) (name : Text) (o : Option ℕ) → texts_of keys ≡ names → o ≡ position (λ k. bytes_eq name k.now) keys → position (bytes_eq name) names ≡ o
place_is names keys name o named is = ap (position (bytes_eq name)) (sym named) ∙ position-map (bytes_eq name) (λ k. k.now) keys ∙ sym is

-- whether a name is among those of the set
among_is : (keys : List (Bor Text)) (name : Text) → list_any (bytes_eq name) (texts_of keys) ≡ list_any (λ k. bytes_eq name k.now) keys
among_is keys name = list_any-map (bytes_eq name) (λ k. k.now) keys

-- what the set says of a name that it is given
said_old : (b : Bool) → false ≡ not b → b ≡ true
said_old true h = refl
said_old false h = absurd cc

said_new : (b : Bool) → true ≡ not b → b ≡ false
said_new true h = absurd cc
said_new false h = refl

-- a name that the set has
pub name_twice : (keys : List (Bor Text)) (d : Data) (name : Text) (added : Bool) → text_at (codes "name") part.Name d ≡ Ok name → form_of_name name ≡ Ok tt → added ≡ not (list_any (λ k. bytes_eq name k.now) keys) → added ≡ false → name_of (texts_of keys) d ≡ Err (Twice name)
unfolding followed
name_twice keys d name added text form says old =
    let there = said_old _ (sym old ∙ says) in
    is_then _ _ name text ∙ is_then _ _ tt form ∙ ap (λ b. must (not b) (Twice name) >>= λ _. Ok name) (among_is keys name ∙ there)

-- a name that is new to the set
pub name_fresh : (keys : List (Bor Text)) (d : Data) (name : Text) (added : Bool) → text_at (codes "name") part.Name d ≡ Ok name → form_of_name name ≡ Ok tt → added ≡ not (list_any (λ k. bytes_eq name k.now) keys) → added ≡ true → name_of (texts_of keys) d ≡ Ok name
unfolding followed
name_fresh keys d name added text form says new =
    let absent = said_new _ (sym new ∙ says) in
    is_then _ _ name text ∙ is_then _ _ tt form ∙ ap (λ b. must (not b) (Twice name) >>= λ _. Ok name) (among_is keys name ∙ absent)
