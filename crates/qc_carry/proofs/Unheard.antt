-- Of an access that has not started, a legal history tells nothing: no request, grant, refusal or giving up.
use Rattle.std.proofs.Common.{◌≡◌, true, [], ◌∷◌, sym, ap, ◌∙◌, inl, inr}
use mathlib.Core.Bool.{true≢false}
use Rattle.std.specs.Prelude.{Option, None, is_some}
use Rattle.qc_event.specs.declared.event.Entry.{Entry}
use Rattle.qc_event.specs.declared.event.Event.{Event}
use Rattle.qc_event.specs.declared.event.Event.TheVariants as event
use Rattle.qc_event.specs.Base.{Setting}
use Rattle.qc_event.specs.Grants.{MayGrant, MayRefuse}
use Rattle.qc_event.specs.History.{Past, Name, same, start, asked, ask_in, gone, gone_in, granted, grant_in, refused, refusal_in, earliest}
use Rattle.qc_event.specs.Legal.{Legal, Allowed, MayHappen}
use Rattle.qc_event.specs.Requests.{MayAsk, MayGiveUp}
use Rattle.qc_event.proofs.Absent.{same_is}
use Rattle.qc_event.proofs.Lawful.{started_some}
use Rattle.qc_event.proofs.OneEntry.{if_some, first_some, start_stays, not_some, some_or_none}
use Rattle.qc_event.proofs.Options.{some_match}

-- what each entry tells of a started name alone, the whole history does
heard_started : {Y : Type 0} (setting : Setting) (f : Entry → Option Y) (n : Name)
    → ((past : Past) (e : Entry) → Legal setting past → Allowed setting past e → is_some (f e) ≡ true → is_some (start past n) ≡ true)
    → (past : Past) → Legal setting past → is_some (earliest f past) ≡ true → is_some (start past n) ≡ true
heard_started setting f n step [] legal h = absurd (true≢false (sym h))
heard_started setting f n step (e ∷ past) legal h = start_stays e past n (elim (first_some (earliest f past) (f e) h) [
  | inl old ↦ heard_started setting f n step past legal.0 old
  | inr new ↦ step past e legal.0 legal.1 new.1
])

module _ (setting : Setting) (n : Name) where
  asks : (past : Past) (e : Entry) → Legal setting past → Allowed setting past e → is_some (ask_in n e.seat e.event) ≡ true → is_some (start past n) ≡ true
  asks past e legal may h = by_event e.event may h
    where
      by_event : (ev : Event) → MayHappen setting past e.seat ev → is_some (ask_in n e.seat ev) ≡ true → is_some (start past n) ≡ true
      by_event (event.Ask ask) may h =
          let may_ask : MayAsk setting past e.seat ask = may in
          ap (λ m. is_some (start past m)) (sym (same_is ask.access n (if_some (same ask.access n) _ h))) ∙ started_some _ (start past ask.access) may_ask.started
      by_event _ may h = absurd (true≢false (sym h))

  pub asked_started : (past : Past) → Legal setting past → is_some (asked past n) ≡ true → is_some (start past n) ≡ true
  asked_started = heard_started setting (λ e. ask_in n e.seat e.event) n asks

  gives_up : (past : Past) (e : Entry) → Legal setting past → Allowed setting past e → is_some (gone_in n e.event) ≡ true → is_some (start past n) ≡ true
  gives_up past e legal may h = by_event e.event may h
    where
      by_event : (ev : Event) → MayHappen setting past e.seat ev → is_some (gone_in n ev) ≡ true → is_some (start past n) ≡ true
      by_event (event.Gone m why) may h =
          let gives_up : MayGiveUp past e.seat m why = may in
          asked_started past legal (ap (λ x. is_some (asked past x)) (sym (same_is m n (if_some (same m n) why h))) ∙ some_match (asked past m) _ gives_up.asked_here)
      by_event _ may h = absurd (true≢false (sym h))

  grants : (past : Past) (e : Entry) → Legal setting past → Allowed setting past e → is_some (grant_in n e.event) ≡ true → is_some (start past n) ≡ true
  grants past e legal may h = by_event e.event may h
    where
      by_event : (ev : Event) → MayHappen setting past e.seat ev → is_some (grant_in n ev) ≡ true → is_some (start past n) ≡ true
      by_event (event.Granted copy g) may h =
          let may_grant : MayGrant setting past e.seat copy g = may in
          asked_started past legal (ap (λ x. is_some (asked past x)) (sym (same_is g.access n (if_some (same g.access n) _ h))) ∙ some_match (asked past g.access) _ may_grant.request)
      by_event _ may h = absurd (true≢false (sym h))

  refuses : (past : Past) (e : Entry) → Legal setting past → Allowed setting past e → is_some (refusal_in n e.event) ≡ true → is_some (start past n) ≡ true
  refuses past e legal may h = by_event e.event may h
    where
      by_event : (ev : Event) → MayHappen setting past e.seat ev → is_some (refusal_in n ev) ≡ true → is_some (start past n) ≡ true
      by_event (event.Refused m copy refusal) may h =
          let may_refuse : MayRefuse past e.seat m copy refusal = may in
          asked_started past legal (ap (λ x. is_some (asked past x)) (sym (same_is m n (if_some (same m n) refusal h))) ∙ some_match (asked past m) _ may_refuse.request)
      by_event _ may h = absurd (true≢false (sym h))

  module _ (past : Past) (legal : Legal setting past) (none : start past n ≡ None) where
    unheard : {Y : Type 0} (f : Entry → Option Y) → ((older : Past) (e : Entry) → Legal setting older → Allowed setting older e → is_some (f e) ≡ true → is_some (start older n) ≡ true) → earliest f past ≡ None
    unheard f step = not_some (earliest f past) (λ h. some_or_none (start past n) (heard_started setting f n step past legal h) none)

    pub not_asked : asked past n ≡ None
    not_asked = unheard (λ e. ask_in n e.seat e.event) asks

    pub not_gone : gone past n ≡ None
    not_gone = unheard (λ e. gone_in n e.event) gives_up

    pub not_granted : granted past n ≡ None
    not_granted = unheard (λ e. grant_in n e.event) grants

    pub not_refused : refused past n ≡ None
    not_refused = unheard (λ e. refusal_in n e.event) refuses
