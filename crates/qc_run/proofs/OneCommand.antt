-- Words ask for one thing at most; and what is found among them is what they ask for.
use Rattle.std.proofs.Common.{ℕ, ◌≡◌, ◌<◌, ◌^◌, Bool, true, false, List, [], ◌∷◌, Option, None, Some, refl, sym, ap, ◌∙◌, subst}
use Rattle.std.specs.Prelude.{◌↔◌, codes, if◌then◌else◌}
use Rattle.std.specs.Fmt.{decimal}
use Rattle.std.specs.Str.{bytes_eq}
use Rattle.std.proofs.lemmas.Fmt.{decimal_injective}
use Rattle.std.proofs.lemmas.Slice.Eq.{bytes_eq-Decides}
use Rattle.qc_run.specs.Options.{behind_gen, is_audit, run_choices}
use Rattle.qc_run.specs.Words.{Text, Asked, Chosen, IsAudit, IsRunAs, IsGenOf, IsCommand, asked_as}
use Rattle.qc_run.proofs.Choices.{run_found}

one_word : (o : Option Text) (p q : Text) → o ≡ Some p → o ≡ Some q → p ≡ q
one_word o p q a b = cc

-- words that run a script that is read have `run` in front
none_behind_gen : (words options : List Text) → words ≡ codes "run" ∷ options → behind_gen words ≡ None
none_behind_gen words options is = subst (λ w. behind_gen w ≡ None) (sym is) (by_options options)
  where
    by_options : (options : List Text) → behind_gen (codes "run" ∷ options) ≡ None
    by_options [] = refl
    by_options (one ∷ []) = refl
    by_options (one ∷ two ∷ others) = refl

-- what stands behind `gen`
gen_found : (words : List Text) (n : ℕ) → IsGenOf words n → behind_gen words ≡ Some (decimal n)
gen_found words n is = subst (λ w. behind_gen w ≡ Some (decimal n)) (sym is.1) refl

pub none_made : (words : List Text) (n : ℕ) → behind_gen words ≡ None → IsGenOf words n → ⊥
none_made words n none is = by_answers none (gen_found words n is)
  where
    by_answers : behind_gen words ≡ None → behind_gen words ≡ Some (decimal n) → ⊥
    by_answers a b = cc

-- words that have a script made do not read one
pub not_both : (words : List Text) (chosen : Chosen) (n : ℕ) → IsRunAs words chosen → IsGenOf words n → ⊥
not_both words chosen n run gen = none_made words n (none_behind_gen words run.0 run.1) gen

-- whether the first word is `run`
abbrev begins_run : List Text → Bool
begins_run [] = false
begins_run (word ∷ words) = bytes_eq word (codes "run")

-- words that have a trail audited do not run a script
pub not_run : (words : List Text) (chosen : Chosen) → IsAudit words → IsRunAs words chosen → ⊥
not_run words chosen audit run =
    let first : begins_run words ≡ true = subst (λ w. begins_run w ≡ true) (sym run.1) refl in
    let other : begins_run words ≡ false = subst (λ w. begins_run w ≡ false) (sym audit) refl in
    differ first other
  where
    differ : begins_run words ≡ true → begins_run words ≡ false → ⊥
    differ a b = cc

-- nor have they one made
pub not_made : (words : List Text) (n : ℕ) → IsAudit words → IsGenOf words n → ⊥
not_made words n audit gen = none_made words n (subst (λ w. behind_gen w ≡ None) (sym audit) refl) gen

one_choice : (o : Option Chosen) (a b : Chosen) → o ≡ Some a → o ≡ Some b → a ≡ b
one_choice o a b x y = cc

-- they have one made of one number
pub one_number : (words : List Text) (n m : ℕ) → IsGenOf words n → IsGenOf words m → n ≡ m
one_number words n m is too = decimal_injective n m is.0 too.0 (one_word (behind_gen words) (decimal n) (decimal m) (gen_found words n is) (gen_found words m too))

-- words ask for one thing
pub one_command : (words : List Text) (asked other : Asked) → IsCommand words asked → IsCommand words other → asked ≡ other
one_command words (Asked.read_at place mode form) (Asked.read_at there kept text) is too =
    is.2 ∙ ap asked_as (one_choice (run_choices words) is.0 too.0 (run_found words is.0 is.1) (run_found words too.0 too.1)) ∙ sym too.2
one_command words (Asked.read_at place mode form) (Asked.made_of n) is too = absurd (not_both words is.0 n is.1 too)
one_command words (Asked.read_at place mode form) Asked.audit is too = absurd (not_run words is.0 too is.1)
one_command words (Asked.made_of n) (Asked.read_at place mode form) is too = absurd (not_both words too.0 n too.1 is)
one_command words (Asked.made_of n) (Asked.made_of m) is too = ap Asked.made_of (one_number words n m is too)
one_command words (Asked.made_of n) Asked.audit is too = absurd (not_made words n too is)
one_command words Asked.audit (Asked.read_at place mode form) is too = absurd (not_run words too.0 is too.1)
one_command words Asked.audit (Asked.made_of n) is too = absurd (not_made words n is too)
one_command words Asked.audit Asked.audit is too = refl

-- a word behind `gen` is the only one
by_word : (word number spelled : Text) (gen : Bool) → bytes_eq word (codes "gen") ≡ gen → (if gen then Some number else None) ≡ Some spelled → word ∷ number ∷ [] ≡ codes "gen" ∷ spelled ∷ []
by_word word number spelled true g is = let same : number ≡ spelled = cc in ap (λ w. w ∷ number ∷ []) ((bytes_eq-Decides word (codes "gen")).0 g) ∙ ap (λ n. codes "gen" ∷ n ∷ []) same
by_word word number spelled false g is = absurd cc

pub gen_words : (words : List Text) (spelled : Text) → behind_gen words ≡ Some spelled → words ≡ codes "gen" ∷ spelled ∷ []
gen_words [] spelled is = absurd cc
gen_words (word ∷ []) spelled is = absurd cc
gen_words (word ∷ number ∷ []) spelled is = by_word word number spelled (bytes_eq word (codes "gen")) refl is
gen_words (word ∷ number ∷ more ∷ others) spelled is = absurd cc

-- the number that the word behind `gen` spells is that of which a script is made
pub number_behind : (words : List Text) (spelled : Text) (n : ℕ) → behind_gen words ≡ Some spelled → (n < 2 ^ 64) × (spelled ≡ decimal n) → IsGenOf words n
number_behind words spelled n found is = (is.0, gen_words words spelled found ∙ ap (λ w. codes "gen" ∷ w ∷ []) is.1)

pub number_spelled : (words : List Text) (spelled : Text) (n : ℕ) → behind_gen words ≡ Some spelled → IsGenOf words n → (n < 2 ^ 64) × (spelled ≡ decimal n)
number_spelled words spelled n found is = (is.0, one_word (behind_gen words) spelled (decimal n) found (gen_found words n is))

-- words that have a trail audited are one
pub audit_words : (words : List Text) → is_audit words ≡ true → IsAudit words
audit_words [] is = absurd cc
audit_words (word ∷ []) is = ap (λ w. w ∷ []) ((bytes_eq-Decides word (codes "audit")).0 is)
audit_words (word ∷ more ∷ others) is = absurd cc

pub audit_found : (words : List Text) → is_audit words ≡ false → IsAudit words → ⊥
audit_found words other is = differ other (subst (λ w. is_audit w ≡ true) (sym is) refl)
  where
    differ : is_audit words ≡ false → is_audit words ≡ true → ⊥
    differ a b = cc

-- WHAT IS FOUND

-- what words ask for is all that they ask for
pub found_command : (words : List Text) (found : Asked) → IsCommand words found → (asked : Asked) → (Some found ≡ Some asked) ↔ IsCommand words asked
found_command words found is asked = (to, (λ too. ap Some (one_command words found asked is too)))
  where
    to : Some found ≡ Some asked → IsCommand words asked
    to e = let same : found ≡ asked = cc in subst (IsCommand words) same is

-- where they have no trail audited, no number stands behind `gen` and nothing is chosen behind `run`, they ask for nothing
pub no_command : (words : List Text) → (IsAudit words → ⊥) → ((n : ℕ) → IsGenOf words n → ⊥) → ((chosen : Chosen) → IsRunAs words chosen → ⊥) → (asked : Asked) → (None ≡ Some asked) ↔ IsCommand words asked
no_command words unaudited unmade unread asked = ((λ e. absurd (differ e)), (λ is. absurd (by_asked asked is)))
  where
    differ : None ≡ Some asked → ⊥
    differ e = cc

    by_asked : (a : Asked) → IsCommand words a → ⊥
    by_asked (Asked.read_at place mode form) is = unread is.0 is.1
    by_asked (Asked.made_of n) is = unmade n is
    by_asked Asked.audit is = unaudited is
