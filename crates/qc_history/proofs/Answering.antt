-- What copies answered to accesses: each answer comes after the start of its access, and the first entry tells it.
use Rattle.std.proofs.Common.{◌≡◌, ℕ, Bool, true, false, [], ◌∷◌, refl, sym, ap, ◌∙◌, subst, inl, inr}
use mathlib.Core.Bool.{true≢false}
use Rattle.std.specs.Prelude.{None, Some, is_some, if◌then◌else◌, option_and_then}
use Rattle.std.proofs.lemmas.Option.{same_Some}
use Rattle.qc_event.specs.declared.event.Ask.{Ask}
use Rattle.qc_event.specs.declared.event.Entry.{Entry}
use Rattle.qc_event.specs.declared.event.Event.{Event}
use Rattle.qc_event.specs.declared.event.Event.TheVariants as event
use Rattle.qc_event.specs.declared.event.Refusal.{Refusal}
use Rattle.qc_event.specs.Base.{Setting}
use Rattle.qc_event.specs.History.{Past, Name, Given, same, start, asked, ask_in, granted, grant_in, refused, refusal_in}
use Rattle.qc_event.specs.Legal.{Legal, Allowed, MayHappen}
use Rattle.qc_event.specs.Requests.{MayAsk}
use Rattle.qc_event.proofs.Absent.{same_is}
use Rattle.qc_event.proofs.Lawful.{started_some}
use Rattle.qc_event.proofs.Options.{some_match}
use Rattle.qc_event.proofs.OneEntry.{first_some, if_some, start_stays}
use Rattle.qc_history.specs.Places.{starts_in}
use Rattle.qc_history.specs.Firsts.{ComesAfterStart, about_in, first_about}
use Rattle.qc_history.specs.Grants.{given_of, granted_name}
use Rattle.qc_history.specs.Refusals.{refusal_of, refused_name}
use Rattle.qc_history.proofs.FirstEntries.{first_tells}

-- WHO GOT AN ANSWER WAS STARTED

is_ask : (n : Name) (seat : ℕ) (ev : Event) → is_some (ask_in n seat ev) ≡ true → (ask : Ask) × (ev ≡ event.Ask ask) × (ask.access ≡ n)
is_ask n seat (event.Ask ask) h = (ask, refl, same_is ask.access n (if_some (same ask.access n) _ h))
is_ask n seat _ h = absurd (true≢false (sym h))

pub asked_started : (setting : Setting) (past : Past) (n : Name) → Legal setting past → is_some (asked past n) ≡ true → is_some (start past n) ≡ true
asked_started setting [] n legal h = absurd (true≢false (sym h))
asked_started setting (e ∷ past) n legal h = start_stays e past n (elim (first_some (asked past n) (ask_in n e.seat e.event) h) [
  | inl old ↦ asked_started setting past n legal.0 old
  | inr new ↦ by_event e.event legal.1 (is_ask n e.seat e.event new.1)
])
  where
    by_event : (ev : Event) → Allowed setting past (record { seat = e.seat; event = ev }) → (ask : Ask) × (ev ≡ event.Ask ask) × (ask.access ≡ n) → is_some (start past n) ≡ true
    by_event ev may is =
        let asks : MayAsk setting past e.seat is.0 = subst (λ x. MayHappen setting past e.seat x) is.1 may in
        ap (λ m. is_some (start past m)) (sym is.2) ∙ started_some _ (start past is.0.access) asks.started

-- REFUSALS

pub refused_after_start : ComesAfterStart refused_name
refused_after_start = record { started = λ setting past e n legal is. started setting past e n legal e.event legal.1 is; calm = calm }
  where
    started : (setting : Setting) (past : Past) (e : Entry) (n : Name) → Legal setting (e ∷ past) → (ev : Event) → MayHappen setting past e.seat ev → refused_name ev ≡ Some n → is_some (start past n) ≡ true
    started setting past e n legal (event.Refused m copy refusal) may is =
        ap (λ x. is_some (start past x)) (sym (same_Some m n is)) ∙ asked_started setting past m legal.0 (some_match (asked past m) _ may.request)
    started setting past e n legal _ may is = absurd cc

    calm : (ev : Event) (n : Name) → refused_name ev ≡ Some n → starts_in ev ≡ 0
    calm (event.Start m k) n is = absurd cc
    calm _ n is = refl

pub first_refusal : (past : Past) (n : Name) → option_and_then (λ (e : Entry). refusal_of e.event) (first_about refused_name past n) ≡ refused past n
first_refusal past n = first_tells refused_name n (λ e. refusal_in n e.event) (λ e. refusal_of e.event) (λ e. by_event e e.event) (λ e is. told e.event is) past
  where
    if_here : (e : Entry) (b : Bool) (refusal : Refusal) → refusal_of e.event ≡ Some refusal → (if b then Some refusal else None) ≡ option_and_then (λ (x : Entry). refusal_of x.event) (if b then Some e else None)
    if_here e true refusal is = sym is
    if_here e false refusal is = refl

    by_event : (e : Entry) (ev : Event) → refusal_in n ev ≡ option_and_then (λ (x : Entry). refusal_of x.event) (about_in refused_name n (record e { event = ev }))
    by_event e (event.Refused m copy refusal) = if_here (record e { event = event.Refused m copy refusal }) (same m n) refusal refl
    by_event e _ = refl

    told : (ev : Event) → refused_name ev ≡ Some n → is_some (refusal_of ev) ≡ true
    told (event.Refused m copy refusal) is = refl
    told _ is = absurd cc

-- GRANTS

pub granted_after_start : ComesAfterStart granted_name
granted_after_start = record { started = λ setting past e n legal is. started setting past e n legal e.event legal.1 is; calm = calm }
  where
    started : (setting : Setting) (past : Past) (e : Entry) (n : Name) → Legal setting (e ∷ past) → (ev : Event) → MayHappen setting past e.seat ev → granted_name ev ≡ Some n → is_some (start past n) ≡ true
    started setting past e n legal (event.Granted copy grant) may is =
        ap (λ x. is_some (start past x)) (sym (same_Some grant.access n is)) ∙ asked_started setting past grant.access legal.0 (some_match (asked past grant.access) _ may.request)
    started setting past e n legal _ may is = absurd cc

    calm : (ev : Event) (n : Name) → granted_name ev ≡ Some n → starts_in ev ≡ 0
    calm (event.Start m k) n is = absurd cc
    calm _ n is = refl

pub first_grant : (past : Past) (n : Name) → option_and_then (λ (e : Entry). given_of e.event) (first_about granted_name past n) ≡ granted past n
first_grant past n = first_tells granted_name n (λ e. grant_in n e.event) (λ e. given_of e.event) (λ e. by_event e e.event) (λ e is. told e.event is) past
  where
    if_here : (e : Entry) (b : Bool) (given : Given) → given_of e.event ≡ Some given → (if b then Some given else None) ≡ option_and_then (λ (x : Entry). given_of x.event) (if b then Some e else None)
    if_here e true given is = sym is
    if_here e false given is = refl

    by_event : (e : Entry) (ev : Event) → grant_in n ev ≡ option_and_then (λ (x : Entry). given_of x.event) (about_in granted_name n (record e { event = ev }))
    by_event e (event.Granted copy grant) = if_here (record e { event = event.Granted copy grant }) (same grant.access n) (record { copy = copy; grant = grant }) refl
    by_event e _ = refl

    told : (ev : Event) → granted_name ev ≡ Some n → is_some (given_of ev) ≡ true
    told (event.Granted copy grant) is = refl
    told _ is = absurd cc
