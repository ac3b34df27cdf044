-- What options are read to choose is what they choose, and nothing else.
use Rattle.std.proofs.Common.{◌≡◌, ℕ, Bool, true, false, List, [], ◌∷◌, ◌++◌, Option, None, Some, refl, sym, ap, ◌∙◌, subst, inl, inr}
use Rattle.std.specs.Prelude.{◌==◌, ◌↔◌, codes, if◌then◌else◌, is_none, not, option_and_then, option_map}
use Rattle.std.specs.Str.{bytes_eq}
use Rattle.std.proofs.lemmas.Bool.{cond-false, cond-true, eqb-true}
use Rattle.std.proofs.lemmas.Slice.Eq.{bytes_eq-Decides}
use Rattle.qc_run.specs.Options.{named, behind, joined, is_dir, is_serial, is_trail, choice_in, with_choice, chosen_by, run_choices}
use Rattle.qc_run.specs.Words.{Text, Choice, Chosen, Choose, IsOneOf, IsRunAs, and_this, is_first, is_place, nothing_chosen, spellings}

-- a text is what it was held equal to
is : (xs ys : Text) → bytes_eq xs ys ≡ true → xs ≡ ys
is xs ys same = (bytes_eq-Decides xs ys).0 same

-- the two ways to name a place
abbrev ways : Text → List (List Text)
ways place = (codes "--dir" ∷ place ∷ []) ∷ ((codes "--dir=" ++ place) ∷ []) ∷ []

-- WHAT IS CHOSEN IS READ

-- what words are read to choose goes on with the others
abbrev GoesOn : Chosen → Choice → List Text → List Text → Type 0
GoesOn before choice words others = chosen_by false (Some before) words ≡ chosen_by false (Some (and_this before choice)) others

goes_on_at : (before : Chosen) (first : ℕ) (rest : Text) (these words others : List Text) → is_none before.place ≡ true → (first == 45) ≡ false → IsOneOf (ways (first ∷ rest)) these → words ≡ these ++ others → GoesOn before (Choice.at (first ∷ rest)) words others
goes_on_at before first rest these words others new plain spelled w = by_way spelled
  where
    place : Text
    place = first ∷ rest

    made : with_choice before (option_map (λ p. Choice.at p) (named (first ∷ rest))) ≡ Some (and_this before (Choice.at (first ∷ rest)))
    made =
        ap (λ o. with_choice before (option_map (λ p. Choice.at p) o)) (cond-false (first == 45) None (Some (first ∷ rest)) plain)
        ∙ cond-true (is_none before.place) (Some (and_this before (Choice.at (first ∷ rest)))) None new

    by_way : IsOneOf (ways (first ∷ rest)) these → GoesOn before (Choice.at (first ∷ rest)) words others
    by_way (inl e) = subst (λ x. GoesOn before (Choice.at (first ∷ rest)) x others) (sym (w ∙ ap (λ t. t ++ others) e)) (ap (λ o. chosen_by false o others) made)
    by_way (inr (inl e)) = subst (λ x. GoesOn before (Choice.at (first ∷ rest)) x others) (sym (w ∙ ap (λ t. t ++ others) e)) (ap (λ o. chosen_by false o others) made)
    by_way (inr (inr e)) = absurd e

goes_on : (before : Chosen) (choice : Choice) (these words others : List Text) → is_first before choice ≡ true → IsOneOf (spellings choice) these → words ≡ these ++ others → GoesOn before choice words others
goes_on before Choice.in_order these words others new (inl e) w =
    subst (λ x. GoesOn before Choice.in_order x others) (sym (w ∙ ap (λ t. t ++ others) e)) (ap (λ o. chosen_by false o others) (cond-true (not before.serial) (Some (and_this before Choice.in_order)) None new))
goes_on before Choice.in_order these words others new (inr e) w = absurd e
goes_on before Choice.saved these words others new (inl e) w =
    subst (λ x. GoesOn before Choice.saved x others) (sym (w ∙ ap (λ t. t ++ others) e)) (ap (λ o. chosen_by false o others) (cond-true (not before.trail) (Some (and_this before Choice.saved)) None new))
goes_on before Choice.saved these words others new (inr e) w = absurd e
goes_on before (Choice.at []) these words others new spelled w = absurd spelled
goes_on before (Choice.at (first ∷ rest)) these words others new spelled w = by_dash (first == 45) refl spelled
  where
    by_dash : (dash : Bool) → (first == 45) ≡ dash → IsOneOf (if not dash then ways (first ∷ rest) else []) these → GoesOn before (Choice.at (first ∷ rest)) words others
    by_dash true plain spelled = absurd spelled
    by_dash false plain spelled = goes_on_at before first rest these words others new plain spelled w

pub chosen_found : (choices : List Choice) (before : Chosen) (words : List Text) (all : Chosen) → Choose before choices words all → chosen_by false (Some before) words ≡ Some all
chosen_found [] before words all made = subst (λ w. chosen_by false (Some before) w ≡ Some all) (sym made.0) (ap Some (sym made.1))
chosen_found (choice ∷ choices) before words all made =
    let it = made.1 in
    goes_on before choice it.0 words it.1 made.0 it.2 it.3 ∙ chosen_found choices (and_this before choice) it.1 all it.4

-- WHAT IS READ IS CHOSEN

-- a word that names a place is that place
record IsNamed (word place : Text) : Type 0 where
  word_is : word ≡ place
  place_is : is_place place ≡ true

is_named : (word place : Text) → named word ≡ Some place → IsNamed word place
is_named [] place e = absurd cc
is_named (first ∷ rest) place e = by_dash (first == 45) refl e
  where
    by_dash : (dash : Bool) → (first == 45) ≡ dash → (if dash then None else Some (first ∷ rest)) ≡ Some place → IsNamed (first ∷ rest) place
    by_dash true is e = absurd cc
    by_dash false is e =
        let same : first ∷ rest ≡ place = cc in
        record { word_is = same; place_is = subst (λ p. is_place p ≡ true) same (ap not is) }

behind_byte : (b c : ℕ) (front word rest : Text) (same : Bool) → (b == c) ≡ same → (behind front word ≡ Some rest → word ≡ front ++ rest) → (if same then behind front word else None) ≡ Some rest → c ∷ word ≡ b ∷ (front ++ rest)
behind_byte b c front word rest true is more e = let one : b ≡ c = eqb-true b c is in let others : word ≡ front ++ rest = more e in cc
behind_byte b c front word rest false is more e = absurd cc

-- what stands behind a front
pub is_behind : (front word rest : Text) → behind front word ≡ Some rest → word ≡ front ++ rest
is_behind [] word rest e = cc
is_behind (b ∷ front) [] rest e = absurd cc
is_behind (b ∷ front) (c ∷ word) rest e = behind_byte b c front word rest (b == c) refl (is_behind front word rest) e

record IsJoined (word place : Text) : Type 0 where
  word_is : word ≡ codes "--dir=" ++ place
  place_is : is_place place ≡ true

is_joined : (word place : Text) → joined word ≡ Some place → IsJoined word place
is_joined word place e = by_rest (behind (codes "--dir=") word) refl e
  where
    by_rest : (o : Option Text) → behind (codes "--dir=") word ≡ o → option_and_then named o ≡ Some place → IsJoined word place
    by_rest None is e = absurd cc
    by_rest (Some rest) is e =
        let it : IsNamed rest place = is_named rest place e in
        record { word_is = is_behind (codes "--dir=") word rest is ∙ ap (λ r. codes "--dir=" ++ r) it.word_is; place_is = it.place_is }

-- these words choose a place, where they are among the ways to name it
place_spelled : (place : Text) (these : List Text) → is_place place ≡ true → IsOneOf (ways place) these → IsOneOf (spellings (Choice.at place)) these
place_spelled place these is among = subst (λ b. IsOneOf (if b then ways place else []) these) (sym is) among

by_joined : (word : Text) (choice : Choice) (o : Option Text) → joined word ≡ o → option_map (λ place. Choice.at place) o ≡ Some choice → IsOneOf (spellings choice) (word ∷ [])
by_joined word choice None is e = absurd cc
by_joined word choice (Some place) is e =
    let same : Choice.at place ≡ choice = cc in
    let it = is_joined word place is in
    subst (λ c. IsOneOf (spellings c) (word ∷ [])) same (place_spelled place (word ∷ []) it.place_is (inr (inl (ap (λ w. w ∷ []) it.word_is))))

-- a word that makes a choice alone spells it
choice_spelled : (word : Text) (choice : Choice) (serial trail : Bool) → is_serial word ≡ serial → is_trail word ≡ trail
    → (if serial then Some Choice.in_order else if trail then Some Choice.saved else option_map (λ place. Choice.at place) (joined word)) ≡ Some choice → IsOneOf (spellings choice) (word ∷ [])
choice_spelled word choice true trail s t e =
    let same : Choice.in_order ≡ choice = cc in
    subst (λ c. IsOneOf (spellings c) (word ∷ [])) same (inl (ap (λ w. w ∷ []) (is word (codes "--serial") s)))
choice_spelled word choice false true s t e =
    let same : Choice.saved ≡ choice = cc in
    subst (λ c. IsOneOf (spellings c) (word ∷ [])) same (inl (ap (λ w. w ∷ []) (is word (codes "--trail") t)))
choice_spelled word choice false false s t e = by_joined word choice (joined word) refl e

-- with `--dir` before them, where that was read
abbrev put : Bool → List Text → List Text
put true words = codes "--dir" ∷ words
put false words = words

-- words choose all that is chosen, beside what was
abbrev Found : Bool → Chosen → List Text → Chosen → Type 0
Found after_dir before words all = (choices : List Choice) × Choose before choices (put after_dir words) all

-- these words make a choice, and the others all that is chosen beside it
one_more : (before : Chosen) (choice : Choice) (these words : List Text) (all : Chosen) → IsOneOf (spellings choice) these → ((before : Chosen) → chosen_by false (Some before) words ≡ Some all → Found false before words all)
    → chosen_by false (with_choice before (Some choice)) words ≡ Some all → Found false before (these ++ words) all
one_more before choice these words all spelled more e = by_first (is_first before choice) refl e
  where
    by_first : (new : Bool) → is_first before choice ≡ new → chosen_by false (if new then Some (and_this before choice) else None) words ≡ Some all → Found false before (these ++ words) all
    by_first true f e = let found = more (and_this before choice) e in (choice ∷ found.0, (f, (these, words, spelled, refl, found.1)))
    by_first false f e = absurd cc

step : (after_dir : Bool) (before : Chosen) (word : Text) (words : List Text) (all : Chosen) → ((after_dir : Bool) (before : Chosen) → chosen_by after_dir (Some before) words ≡ Some all → Found after_dir before words all)
    → chosen_by after_dir (Some before) (word ∷ words) ≡ Some all → Found after_dir before (word ∷ words) all
step true before word words all more e = by_named (named word) refl e
  where
    by_named : (o : Option Text) → named word ≡ o → chosen_by false (with_choice before (option_map (λ place. Choice.at place) o)) words ≡ Some all → Found true before (word ∷ words) all
    by_named None is e = absurd cc
    by_named (Some place) is e =
        let it = is_named word place is in
        subst (λ w. Found true before (w ∷ words) all) (sym it.word_is)
        (one_more before (Choice.at place) (codes "--dir" ∷ place ∷ []) words all (place_spelled place (codes "--dir" ∷ place ∷ []) it.place_is (inl refl)) (more false) e)
step false before word words all more e = by_dir (is_dir word) refl e
  where
    by_choice : (o : Option Choice) → choice_in word ≡ o → chosen_by false (with_choice before o) words ≡ Some all → Found false before (word ∷ words) all
    by_choice None is e = absurd cc
    by_choice (Some choice) is e = one_more before choice (word ∷ []) words all (choice_spelled word choice (is_serial word) (is_trail word) refl refl is) (more false) e

    by_dir : (dir : Bool) → is_dir word ≡ dir → (if dir then chosen_by true (Some before) words else chosen_by false (with_choice before (choice_in word)) words) ≡ Some all → Found false before (word ∷ words) all
    by_dir true d e = subst (λ w. Found false before (w ∷ words) all) (sym (is word (codes "--dir") d)) (more true before e)
    by_dir false d e = by_choice (choice_in word) refl e

pub chosen_is : (after_dir : Bool) (before : Chosen) (words : List Text) (all : Chosen) → chosen_by after_dir (Some before) words ≡ Some all → Found after_dir before words all
chosen_is true before [] all e = absurd cc
chosen_is false before [] all e = let same : before ≡ all = cc in ([], (refl, sym same))
chosen_is after_dir before (word ∷ words) all e = step after_dir before word words all (λ dir now found. chosen_is dir now words all found) e

-- BEHIND `run`

-- what was chosen is found
pub run_found : (words : List Text) (chosen : Chosen) → IsRunAs words chosen → run_choices words ≡ Some chosen
run_found words chosen run = subst (λ w. run_choices w ≡ Some chosen) (sym run.1) (chosen_found run.2.0 nothing_chosen run.0 chosen run.2.1)

by_word : (word : Text) (options : List Text) (chosen : Chosen) (run : Bool) → bytes_eq word (codes "run") ≡ run → (if run then chosen_by false (Some nothing_chosen) options else None) ≡ Some chosen → IsRunAs (word ∷ options) chosen
by_word word options chosen true r e = (options, ap (λ w. w ∷ options) (is word (codes "run") r), chosen_is false nothing_chosen options chosen e)
by_word word options chosen false r e = absurd cc

-- what is found was chosen
pub run_is : (words : List Text) (chosen : Chosen) → run_choices words ≡ Some chosen → IsRunAs words chosen
run_is [] chosen e = absurd cc
run_is (word ∷ options) chosen e = by_word word options chosen (bytes_eq word (codes "run")) refl e

-- both
pub choices_of_run : (words : List Text) (chosen : Chosen) → (run_choices words ≡ Some chosen) ↔ IsRunAs words chosen
choices_of_run words chosen = (run_is words chosen, run_found words chosen)
