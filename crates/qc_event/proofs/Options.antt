-- What is said of options alone: of an answer and one that comes later, and of what holds of an answer.
use Rattle.std.proofs.Common.{◌≡◌, Bool, true, false, refl, sym, ap, subst}
use mathlib.Core.Bool.{true≢false}
use Rattle.std.specs.Prelude.{Option, None, Some, MatchOption, if◌then◌else◌, is_some, is_none}
use Rattle.std.specs.Option.{option_or, option_map}

-- AN ANSWER, AND ONE THAT COMES LATER

-- nothing comes to an answer
pub still : {Y : Type 0} (o : Option Y) → option_or o None ≡ o
still None = refl
still (Some y) = refl

-- where there was no answer the new one counts
pub or_new : {Y : Type 0} (old new : Option Y) → old ≡ None → option_or old new ≡ new
or_new old new none = ap (λ o. option_or o new) none

-- nothing new leaves what there is
pub unless_new : {Y : Type 0} (old new : Option Y) → new ≡ None → option_or old new ≡ old
unless_new None new is = is
unless_new (Some y) new is = refl

pub still_is : {Y : Type 0} (old new : Option Y) (y : Y) → old ≡ Some y → option_or old new ≡ Some y
still_is old new y is = ap (λ o. option_or o new) is

pub still_not_none : {Y : Type 0} (old new : Option Y) → is_none old ≡ false → is_none (option_or old new) ≡ false
still_not_none None new h = absurd (true≢false h)
still_not_none (Some y) new h = refl

pub still_matches : {Y : Type 0} (old new : Option Y) (P : Y → Type 0) → MatchOption old ⊥ P → MatchOption (option_or old new) ⊥ P
still_matches None new P h = absurd h
still_matches (Some y) new P h = h

-- what is told of an answer stays so
pub still_mapped : {X Y : Type 0} (f : X → Y) (old new : Option X) (y : Y) → option_map f old ≡ Some y → option_map f (option_or old new) ≡ Some y
still_mapped f None new y is = absurd cc
still_mapped f (Some x) new y is = is

-- WHAT HOLDS OF AN ANSWER

pub match_some : {X : Type 0} (o : Option X) (P : X → Type 0) (x : X) → o ≡ Some x → P x → MatchOption o ⊥ P
match_some o P x is h = subst (λ y. MatchOption y ⊥ P) (sym is) h

pub match_wider : {X : Type 0} (o : Option X) (P Q : X → Type 0) → ((x : X) → P x → Q x) → MatchOption o ⊥ P → MatchOption o ⊥ Q
match_wider None P Q step h = absurd h
match_wider (Some x) P Q step h = step x h

-- where something holds of an answer, there is one
pub some_match : {X : Type 0} (o : Option X) (P : X → Type 0) → MatchOption o ⊥ P → is_some o ≡ true
some_match None P h = absurd h
some_match (Some x) P h = refl

pub some_there : {X : Type 0} (o : Option X) (P : X → Type 0) → MatchOption o ⊥ P → (x : X) × (o ≡ Some x) × P x
some_there None P h = absurd h
some_there (Some x) P h = (x, refl, h)

pub none_either : {X : Type 0} (b : Bool) → ◌≡◌ {A = Option X} (if b then None else None) None
none_either true = refl
none_either false = refl
