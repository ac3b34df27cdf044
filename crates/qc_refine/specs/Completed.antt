-- What a complete manager was given by the copies of one record, in order.
use Rattle.std.specs.Prelude.{ℕ, ◌≡◌, ◌+◌, ◌<◌, ◌==◌, Bool, IsTrue, List, [], ◌∷◌, ◌++◌, All, fold, map, slice_index_or, slice_set}
use Rattle.std.specs.List.{list_any}
use Rattle.qc_config.specs.Config.{Voting, IsLegal, holds_read, holds_write}
use Rattle.qc_config.specs.Tuple.{after}
use Rattle.qc_config.specs.Val.{Datum}
use Rattle.qc_config.specs.declared.tuple.Op.{Op}
use Rattle.qc_config.specs.declared.tuple.Op.TheVariants.{Get, PutData, PutConfig}
use Rattle.qc_config.specs.declared.tuple.Tuple.{Tuple}
use Rattle.qc_event.specs.Base.{no_tuple}
use Rattle.qc_event.specs.History.{Given}
use Rattle.qc_event.specs.Manager.{Newest, Greatest, newer, greatest_among, all_copies}
use Rattle.qc_event.specs.Sound.{Carries}

-- THE COPIES OF A RECORD

-- the tuple of a copy
abbrev pub tuple_at : List Tuple → ℕ → Tuple
tuple_at tuples copy = slice_index_or tuples copy no_tuple

-- the tuples after a grant at its copy
abbrev pub after_one : List Tuple → Given → List Tuple
after_one tuples g = slice_set tuples g.copy (after (tuple_at tuples g.copy) g.grant.op)

-- the tuples after grants, in order
abbrev pub after_all : List Tuple → List Given → List Tuple
after_all tuples gs = fold after_one tuples gs

-- Each grant finds what is there: its tuple is that of its copy before it, after its operation.
abbrev pub FindsThere : List Tuple → List Given → Type 0
FindsThere tuples [] = Unit {0}
FindsThere tuples (g ∷ gs) = (g.grant.tuple ≡ after (tuple_at tuples g.copy) g.grant.op) × FindsThere (after_one tuples g) gs

-- each grant is of a copy below a number
abbrev pub Within : ℕ → List Given → Type 0
Within copies gs = All (λ (g : Given). g.copy < copies) gs

-- WHAT A MANAGER WAS GIVEN

-- the tuples that grants gave, in order
abbrev pub replies : List Given → List Tuple
replies gs = map (λ (g : Given). g.grant.tuple) gs

-- whether a copy gave one of the grants
abbrev pub has_given : List Given → ℕ → Bool
has_given gs copy = list_any (λ (g : Given). g.copy == copy) gs

-- the copies that gave grants
abbrev pub marks_of : List Given → List Bool
marks_of gs = map (has_given gs) all_copies

-- each grant is of one operation
abbrev pub Each : Op → List Given → Type 0
Each op gs = All (λ (g : Given). g.grant.op ≡ op) gs

-- the newest configuration of what was collected, and of the record's first one
abbrev pub newest_of : Voting → List Given → Newest
newest_of first gets = fold newer (record { generation = 0; config = first }) (replies gets)

-- the value of the greatest version of what was collected
abbrev pub greatest_of : List Given → Greatest
greatest_of gets = greatest_among (replies gets)

-- A collection that is enough: reads alone, at a read quorum of the newest configuration.
pub record Collected (first : Voting) (gets : List Given) : Type 0 where
  pub reads : Each Get gets
  pub enough : IsTrue (holds_read (newest_of first gets).config (marks_of gets))

-- puts of one operation, at a write quorum of a configuration
pub record Stored (config : Voting) (op : Op) (puts : List Given) : Type 0 where
  pub stores : Each op puts
  pub enough : IsTrue (holds_write config (marks_of puts))

-- A complete read answers the value of the greatest version.
pub record ReadDone (first : Voting) (answer : Datum) (gs : List Given) : Type 0 where
  pub collected : Collected first gs
  pub answered : answer ≡ (greatest_of gs).value

-- A complete write has put its value with the next version at a write quorum of the newest configuration.
pub record WriteDone (first : Voting) (value : Datum) (gs : List Given) : Type 0 where
  pub gets : List Given
  pub puts : List Given
  pub parts : gs ≡ gets ++ puts
  pub collected : Collected first gets
  pub stored : Stored (newest_of first gets).config (PutData ((greatest_of gets).version + 1) value) puts

-- A complete reconfiguration has put the value with its version at a write quorum of its configuration, and
-- this with the next generation at a write quorum of the newest one.
pub record MoveDone (first config : Voting) (answer : ℕ) (gs : List Given) : Type 0 where
  pub gets : List Given
  pub puts : List Given
  pub moves : List Given
  pub parts : gs ≡ gets ++ (puts ++ moves)
  pub legal : IsLegal config
  pub collected : Collected first gets
  pub stored : Stored config (PutData (greatest_of gets).version (greatest_of gets).value) puts
  pub moved : Stored (newest_of first gets).config (PutConfig ((newest_of first gets).generation + 1) config) moves
  pub answered : answer ≡ (newest_of first gets).generation + 1

-- the copies carry a value, with one configuration more than before
abbrev pub CarriesMore : {first : Voting} {tuples : List Tuple} {value : Datum} → Voting → List Tuple → Carries first tuples value → Type 0
CarriesMore {first} {tuples} {value} config later was = (is : Carries first later value) × (is.configs ≡ was.configs ++ config ∷ [])
