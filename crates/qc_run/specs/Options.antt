-- How the options behind `run` are read, one word after another, and the number behind `gen`.
use Rattle.std.specs.Prelude.{◌==◌, Bool, true, false, List, [], ◌∷◌, codes, if◌then◌else◌, Option, None, Some, option_and_then, option_map}
use Rattle.std.specs.Str.{bytes_eq}
use Rattle.qc_run.specs.Words.{Text, Choice, Chosen, nothing_chosen, is_first, and_this}

abbrev pub is_serial : Text → Bool
is_serial word = bytes_eq word (codes "--serial")

abbrev pub is_trail : Text → Bool
is_trail word = bytes_eq word (codes "--trail")

abbrev pub is_dir : Text → Bool
is_dir word = bytes_eq word (codes "--dir")

-- the place that a word names
abbrev pub named : Text → Option Text
named [] = None
named (first ∷ rest) = if first == 45 then None else Some (first ∷ rest)

-- what stands behind a front
abbrev pub behind : Text → Text → Option Text
behind [] word = Some word
behind (b ∷ front) [] = None
behind (b ∷ front) (c ∷ word) = if b == c then behind front word else None

-- the place that one word alone names
abbrev pub joined : Text → Option Text
joined word = option_and_then named (behind (codes "--dir=") word)

-- the choice that one word makes alone
abbrev pub choice_in : Text → Option Choice
choice_in word =
    if is_serial word then Some Choice.in_order
    else if is_trail word then Some Choice.saved
    else option_map (λ place. Choice.at place) (joined word)

-- a choice is made, where there is one and none of its kind was
abbrev pub with_choice : Chosen → Option Choice → Option Chosen
with_choice chosen None = None
with_choice chosen (Some choice) = if is_first chosen choice then Some (and_this chosen choice) else None

-- what words choose beside what was chosen, and whether the word before them was `--dir`
abbrev pub chosen_by : Bool → Option Chosen → List Text → Option Chosen
chosen_by after_dir None words = None
chosen_by true (Some chosen) [] = None
chosen_by false (Some chosen) [] = Some chosen
chosen_by true (Some chosen) (word ∷ words) = chosen_by false (with_choice chosen (option_map (λ place. Choice.at place) (named word))) words
chosen_by false (Some chosen) (word ∷ words) =
    if is_dir word then chosen_by true (Some chosen) words
    else chosen_by false (with_choice chosen (choice_in word)) words

-- what is chosen behind `run`
abbrev pub run_choices : List Text → Option Chosen
run_choices [] = None
run_choices (word ∷ options) = if bytes_eq word (codes "run") then chosen_by false (Some nothing_chosen) options else None

-- the word behind `gen`, where it is the only one
abbrev pub behind_gen : List Text → Option Text
behind_gen (word ∷ number ∷ []) = if bytes_eq word (codes "gen") then Some number else None
behind_gen _ = None

-- whether one word alone is `audit`
abbrev pub is_audit : List Text → Bool
is_audit (word ∷ []) = bytes_eq word (codes "audit")
is_audit _ = false
