-- Tries of a body in a row, by two ways of ending that try the same again.
use Rattle.std.proofs.Common.{◌≡◌, inl, inr, ℕ, zero, suc, Bool, true, false, List, [], ◌∷◌, subst}
use Rattle.std.specs.Prelude.{Option, None, Some, MatchBool}
use Rattle.std.specs.List.{AllByRecursion}
use Rattle.qc_event.specs.declared.event.How.{How}
use Rattle.qc_interp.specs.Tries.{Tries, TriesDo, is_tried_again}

-- what is tried again alike by two ways of ending
abbrev pub AreAlike : {A : Type 0} → (A → Option How) → (A → Option How) → A → Type 0
AreAlike first second t = is_tried_again (first t) ≡ is_tried_again (second t)

-- what holds of the thing, if there is one
abbrev pub IfAny : {A : Type 0} → (A → Type 0) → Option A → Type 0
IfAny Good None = Unit {0}
IfAny Good (Some t) = Good t

pub tries_alike : {A : Type 0} (first second : A → Option How) (IsTry IsTryToo : A → Type 0) (Stopped StoppedToo : Type 0) (Rest RestToo : Option A → List A → Type 0) (Good : A → Type 0)
    → ((x : A) → Good x → AreAlike first second x) → (Stopped → StoppedToo) → ((x : A) → Good x → IsTry x → IsTryToo x) → ((last : Option A) (cs : List A) → IfAny Good last → AllByRecursion Good cs → Rest last cs → RestToo last cs)
    → (last : Option A) (left : ℕ) (cs : List A) → IfAny Good last → AllByRecursion Good cs → Tries first IsTry Stopped Rest last left cs → Tries second IsTryToo StoppedToo RestToo last left cs
tries_alike first second IsTry IsTryToo Stopped StoppedToo Rest RestToo Good alike stop try rest last zero cs was good h = rest last cs was good h
tries_alike first second IsTry IsTryToo Stopped StoppedToo Rest RestToo Good alike stop try rest last (suc left) [] was good h = stop h
tries_alike first second IsTry IsTryToo Stopped StoppedToo Rest RestToo Good alike stop try rest last (suc left) (x ∷ cs) was good h = (
  try x good.0 h.0,
  subst (λ b. MatchBool b (Tries second IsTryToo StoppedToo RestToo (Some x) left cs) (RestToo (Some x) cs)) (alike x good.0)
      (by_test (is_tried_again (first x)) h.1 (tries_alike first second IsTry IsTryToo Stopped StoppedToo Rest RestToo Good alike stop try rest (Some x) left cs good.0 good.1)),
)
  where
    by_test : (b : Bool) → MatchBool b (Tries first IsTry Stopped Rest (Some x) left cs) (Rest (Some x) cs) → (Tries first IsTry Stopped Rest (Some x) left cs → Tries second IsTryToo StoppedToo RestToo (Some x) left cs)
        → MatchBool b (Tries second IsTryToo StoppedToo RestToo (Some x) left cs) (RestToo (Some x) cs)
    by_test true h more = more h
    by_test false h more = rest (Some x) cs good.0 good.1 h

pub tries_do_alike : {A : Type 0} (first second : A → Option How) (Does DoesToo : A → Type 0) (Rest RestToo : Option A → List A → Type 0) (Good : A → Type 0)
    → ((x : A) → Good x → AreAlike first second x) → ((x : A) → Good x → Does x → DoesToo x) → ((last : Option A) (cs : List A) → IfAny Good last → AllByRecursion Good cs → Rest last cs → RestToo last cs)
    → (last : Option A) (left : ℕ) (cs : List A) → IfAny Good last → AllByRecursion Good cs → TriesDo first Does Rest last left cs → TriesDo second DoesToo RestToo last left cs
tries_do_alike first second Does DoesToo Rest RestToo Good alike try rest last zero cs was good h = rest last cs was good h
tries_do_alike first second Does DoesToo Rest RestToo Good alike try rest last (suc left) [] was good h = absurd h
tries_do_alike first second Does DoesToo Rest RestToo Good alike try rest last (suc left) (x ∷ cs) was good (inl h) = inl (try x good.0 h)
tries_do_alike first second Does DoesToo Rest RestToo Good alike try rest last (suc left) (x ∷ cs) was good (inr h) =
    inr (subst (λ b. MatchBool b (TriesDo second DoesToo RestToo (Some x) left cs) (RestToo (Some x) cs)) (alike x good.0)
    (by_test (is_tried_again (first x)) h (tries_do_alike first second Does DoesToo Rest RestToo Good alike try rest (Some x) left cs good.0 good.1)))
  where
    by_test : (b : Bool) → MatchBool b (TriesDo first Does Rest (Some x) left cs) (Rest (Some x) cs) → (TriesDo first Does Rest (Some x) left cs → TriesDo second DoesToo RestToo (Some x) left cs) → MatchBool b (TriesDo second DoesToo RestToo (Some x) left cs) (RestToo (Some x) cs)
    by_test true h more = more h
    by_test false h more = rest (Some x) cs good.0 good.1 h

-- where none stands, it stopped, or there were none to stand
pub no_tries : {A : Type 0} (ended : A → Option How) (IsTry : A → Type 0) (Stopped : Type 0) (Rest : Option A → List A → Type 0) (last : Option A) → Stopped → Rest last [] → (left : ℕ) → Tries ended IsTry Stopped Rest last left []
no_tries ended IsTry Stopped Rest last stopped rest zero = rest
no_tries ended IsTry Stopped Rest last stopped rest (suc left) = stopped
