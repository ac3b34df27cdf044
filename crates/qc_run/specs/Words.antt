-- Which words of the command line are a command, and what they ask for.
use Rattle.std.specs.Prelude.{ℕ, ◌≡◌, ◌==◌, ◌<◌, ◌^◌, ◌⊎◌, Bool, true, false, not, IsTrue, is_none, List, [], ◌∷◌, ◌++◌, codes, if◌then◌else◌, Option, None, Some}
use Rattle.std.specs.Fmt.{decimal}
use Rattle.std.specs.Option.{option_map_or}
use Rattle.qc_interp.specs.declared.mode.Mode.{Mode}
use Rattle.qc_interp.specs.declared.mode.Mode.TheVariants.{Serial, Threads}
use Rattle.qc_run.specs.declared.finishing.Form.{Form}
use Rattle.qc_run.specs.declared.finishing.Form.TheVariants.{Report, Trail}

-- a text, as its bytes
abbrev pub Text : Type 0
Text = List ℕ

-- it is one of these
abbrev pub IsOneOf : {A : Type 0} → List A → A → Type 0
IsOneOf [] x = ⊥
IsOneOf (y ∷ ys) x = (x ≡ y) ⊎ IsOneOf ys x

-- OPTIONS

-- What an option behind `run` chooses: that sessions run in order, that the trail is saved in place of a report, or the
-- place of the disks.
pub data Choice : Type 0 where
  in_order : Choice
  saved : Choice
  at : Text → Choice

-- whether a text names a place: it is not empty, and does not begin with `-`, which is 45
abbrev pub is_place : Text → Bool
is_place [] = false
is_place (first ∷ rest) = not (first == 45)

-- the words that make a choice, each way in which it is spelled
abbrev pub spellings : Choice → List (List Text)
spellings Choice.in_order = (codes "--serial" ∷ []) ∷ []
spellings Choice.saved = (codes "--trail" ∷ []) ∷ []
spellings (Choice.at place) = if is_place place then (codes "--dir" ∷ place ∷ []) ∷ ((codes "--dir=" ++ place) ∷ []) ∷ [] else []

-- What was chosen.
pub record Chosen : Type 0 where
  pub serial : Bool
  pub trail : Bool
  pub place : Option Text

abbrev pub nothing_chosen : Chosen
nothing_chosen = record { serial = false; trail = false; place = None }

-- whether a choice of its kind was not made yet
abbrev pub is_first : Chosen → Choice → Bool
is_first chosen Choice.in_order = not chosen.serial
is_first chosen Choice.saved = not chosen.trail
is_first chosen (Choice.at place) = is_none chosen.place

-- what was chosen, and this too
abbrev pub and_this : Chosen → Choice → Chosen
and_this chosen Choice.in_order = record chosen { serial = true }
and_this chosen Choice.saved = record chosen { trail = true }
and_this chosen (Choice.at place) = record chosen { place = Some place }

-- Words make choices one after another, in any order and each kind at most once: what was chosen before, and all is then.
abbrev pub Choose : Chosen → List Choice → List Text → Chosen → Type 0
Choose before [] words all = (words ≡ []) × (all ≡ before)
Choose before (choice ∷ choices) words all =
    IsTrue (is_first before choice) × ((these : List Text) × (others : List Text) × IsOneOf (spellings choice) these × (words ≡ these ++ others) × Choose (and_this before choice) choices others all)

-- These words read a script and run it as was chosen behind `run`.
abbrev pub IsRunAs : List Text → Chosen → Type 0
IsRunAs words chosen = (options : List Text) × (words ≡ codes "run" ∷ options) × ((choices : List Choice) × Choose nothing_chosen choices options chosen)

-- the place, which is empty where none is named
abbrev pub place_in : Chosen → Text
place_in chosen = option_map_or (λ place. place) chosen.place []

abbrev pub mode_by : Bool → Mode
mode_by true = Serial
mode_by false = Threads

-- the saved trail is written, or a report
abbrev pub form_by : Bool → Form
form_by true = Trail
form_by false = Report

-- COMMANDS

-- These words have a script made of a number of 64 bits. It is spelled without a sign, and with no zero before it.
abbrev pub IsGenOf : List Text → ℕ → Type 0
IsGenOf words n = (n < 2 ^ 64) × (words ≡ codes "gen" ∷ decimal n ∷ [])

-- these words have a saved trail audited
abbrev pub IsAudit : List Text → Type 0
IsAudit words = words ≡ codes "audit" ∷ []

-- What words ask for: a script that is read, run at a place in this mode, of which this is written; one that is made of a
-- number; or an audit of a saved trail.
pub data Asked : Type 0 where
  read_at : Text → Mode → Form → Asked
  made_of : ℕ → Asked
  audit : Asked

-- what is asked for where this was chosen
abbrev pub asked_as : Chosen → Asked
asked_as chosen = Asked.read_at (place_in chosen) (mode_by chosen.serial) (form_by chosen.trail)

-- These words are a command, and it asks for this.
abbrev pub IsCommand : List Text → Asked → Type 0
IsCommand words (Asked.read_at place mode form) = (chosen : Chosen) × IsRunAs words chosen × (Asked.read_at place mode form ≡ asked_as chosen)
IsCommand words (Asked.made_of n) = IsGenOf words n
IsCommand words Asked.audit = IsAudit words

-- these words are no command
abbrev pub IsNoCommand : List Text → Type 0
IsNoCommand words = (asked : Asked) → IsCommand words asked → ⊥

-- these words read a script
abbrev pub IsReading : List Text → Type 0
IsReading words = (chosen : Chosen) × IsRunAs words chosen

-- these words have one made
abbrev pub IsMaking : List Text → Type 0
IsMaking words = (n : ℕ) × IsGenOf words n

-- the place of what is asked for, which is empty for a script that is made; an audit has no disks
abbrev pub place_of : Asked → Text
place_of (Asked.read_at place mode form) = place
place_of (Asked.made_of n) = []
place_of Asked.audit = []

-- what is so of what words ask for
abbrev pub AsAsked : List Text → (Asked → Type 0) → Type 0
AsAsked words IsSo = (asked : Asked) → IsCommand words asked → IsSo asked

-- what is so of the place at which words are a command
abbrev pub AtPlace : List Text → (Text → Type 0) → Type 0
AtPlace words IsSo = AsAsked words (λ asked. IsSo (place_of asked))
