-- A list of requests with their results says the same as the list of what was told of them.
use Rattle.std.proofs.Common.{◌≡◌, ℕ, Bool, true, false, List, [], ◌∷◌, refl, sym, ap, ◌∙◌}
use Rattle.std.specs.Prelude.{◌==◌, ◌&&◌, ◌||◌, is_some, find, filter_map, IsSome, Option, None, Some, if◌then◌else◌}
use Rattle.std.specs.List.{list_any, cons_option, AllByRecursion}
use Rattle.std.specs.Option.{option_and_then, option_map}
use Rattle.std.proofs.Math.Bool.{and-false}
use Rattle.qc_event.specs.declared.event.Ask.{Ask}
use Rattle.qc_event.specs.History.{Name}
use Rattle.qc_event.specs.Manager.{Result, reply_of, why_of, holder_of}
use Rattle.qc_managers.specs.Told.{Told, reply_in, why_in, holder_in, was_asked, replied_by, missing_in}
use Rattle.qc_managers.specs.Answered.{told_of}

-- each request has a result
abbrev pub EachHas : (Name → Option Result) → List Ask → Type 0
EachHas of asks = AllByRecursion (λ (ask : Ask). IsSome (of ask.access)) asks

abbrev pub told_all : (Name → Option Result) → List Ask → List Told
told_all of asks = filter_map (told_of of) asks

-- what was told of a request with a result, before what was told of others
abbrev pub told_then : Ask → Option Result → List Told → List Told
told_then ask r told = cons_option (option_map (λ (x : Result). record { copy = ask.copy; result = x }) r) told

pub filter_map-told : (of : Name → Option Result) (asks : List Ask) → filter_map reply_in (told_all of asks) ≡ filter_map (λ (ask : Ask). reply_of (of ask.access)) asks
filter_map-told of [] = refl
filter_map-told of (ask ∷ asks) = step (of ask.access) (told_all of asks) _ (filter_map-told of asks)
  where
    step : (r : Option Result) (told : List Told) (replies : _) → filter_map reply_in told ≡ replies → filter_map reply_in (told_then ask r told) ≡ cons_option (reply_of r) replies
    step None told replies ih = ih
    step (Some x) told replies ih = ap (cons_option (reply_of (Some x))) ih

pub replied_by-told : (of : Name → Option Result) (copy : ℕ) (asks : List Ask) → replied_by (told_all of asks) copy ≡ list_any (λ (ask : Ask). (ask.copy == copy) && is_some (reply_of (of ask.access))) asks
replied_by-told of copy [] = refl
replied_by-told of copy (ask ∷ asks) = step (of ask.access) (told_all of asks) _ (replied_by-told of copy asks)
  where
    step : (r : Option Result) (told : List Told) (b : Bool) → replied_by told copy ≡ b → replied_by (told_then ask r told) copy ≡ (((ask.copy == copy) && is_some (reply_of r)) || b)
    step None told b ih = ih ∙ ap (λ c. c || b) (sym (and-false (ask.copy == copy)))
    step (Some x) told b ih = ap (λ c. ((ask.copy == copy) && is_some (reply_of (Some x))) || c) ih

pub was_asked-told : (of : Name → Option Result) (copy : ℕ) (asks : List Ask) → EachHas of asks → was_asked (told_all of asks) copy ≡ is_some (find (λ (ask : Ask). ask.copy == copy) asks)
was_asked-told of copy [] has = refl
was_asked-told of copy (ask ∷ asks) has = step (of ask.access) (told_all of asks) (find (λ (a : Ask). a.copy == copy) asks) has.0 (was_asked-told of copy asks has.1)
  where
    choose : (b : Bool) (o : Option Ask) → (b || is_some o) ≡ is_some (if b then Some ask else o)
    choose true o = refl
    choose false o = refl

    step : (r : Option Result) (told : List Told) (o : Option Ask) → is_some r ≡ true → was_asked told copy ≡ is_some o → was_asked (told_then ask r told) copy ≡ is_some (if ask.copy == copy then Some ask else o)
    step None told o some ih = absurd cc
    step (Some x) told o some ih = ap (λ c. (ask.copy == copy) || c) ih ∙ choose (ask.copy == copy) o

pub missing_in-told : (of : Name → Option Result) (copy : ℕ) (asks : List Ask) → EachHas of asks → missing_in (told_all of asks) copy ≡ option_and_then (λ (ask : Ask). why_of (of ask.access)) (find (λ (ask : Ask). ask.copy == copy) asks)
missing_in-told of copy [] has = refl
missing_in-told of copy (ask ∷ asks) has = step (of ask.access) refl (told_all of asks) (find (λ (a : Ask). a.copy == copy) asks) has.0 (missing_in-told of copy asks has.1)
  where
    choose : (b : Bool) (x : Result) (told : List Told) (o : Option Ask) → of ask.access ≡ Some x → missing_in told copy ≡ option_and_then (λ (a : Ask). why_of (of a.access)) o → option_and_then why_in (if b then Some (record { copy = ask.copy; result = x }) else find (λ (t : Told). t.copy == copy) told) ≡ option_and_then (λ (a : Ask). why_of (of a.access)) (if b then Some ask else o)
    choose true x told o is ih = ap why_of (sym is)
    choose false x told o is ih = ih

    step : (r : Option Result) → of ask.access ≡ r → (told : List Told) (o : Option Ask) → is_some r ≡ true → missing_in told copy ≡ option_and_then (λ (a : Ask). why_of (of a.access)) o → missing_in (told_then ask r told) copy ≡ option_and_then (λ (a : Ask). why_of (of a.access)) (if ask.copy == copy then Some ask else o)
    step None is told o some ih = absurd cc
    step (Some x) is told o some ih = choose (ask.copy == copy) x told o is ih

-- the first that is blocked, as a request and as what was told of it
abbrev pub SameBlocked : (Name → Option Result) → Option Told → Option Ask → Type 0
SameBlocked of None o = o ≡ None
SameBlocked of (Some t) None = ⊥
SameBlocked of (Some t) (Some ask) = (ask.copy ≡ t.copy) × (holder_of (of ask.access) ≡ holder_in t)

pub blocked_in-told : (of : Name → Option Result) (asks : List Ask) → SameBlocked of (find (λ (t : Told). is_some (holder_in t)) (told_all of asks)) (find (λ (ask : Ask). is_some (holder_of (of ask.access))) asks)
blocked_in-told of [] = refl
blocked_in-told of (ask ∷ asks) = step (of ask.access) refl (told_all of asks) _ (blocked_in-told of asks)
  where
    choose : (b : Bool) (x : Result) (t : Option Told) (o : Option Ask) → of ask.access ≡ Some x → SameBlocked of t o → SameBlocked of (if b then Some (record { copy = ask.copy; result = x }) else t) (if b then Some ask else o)
    choose true x t o is ih = (refl, ap holder_of is)
    choose false x t o is ih = ih

    step : (r : Option Result) → of ask.access ≡ r → (told : List Told) (o : Option Ask) → SameBlocked of (find (λ (t : Told). is_some (holder_in t)) told) o → SameBlocked of (find (λ (t : Told). is_some (holder_in t)) (told_then ask r told)) (if is_some (holder_of r) then Some ask else o)
    step None is told o ih = ih
    step (Some x) is told o ih = choose (is_some (holder_of (Some x))) x (find (λ (t : Told). is_some (holder_in t)) told) o is ih
