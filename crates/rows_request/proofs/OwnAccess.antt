-- An access of one's own stays so when it asks, and whatever others entered since.
use Rattle.std.proofs.Common.{◌≡◌, ℕ, true, [], ◌∷◌, sym, ap, ◌∙◌, subst}
use Rattle.std.specs.Prelude.{Option, None}
use Rattle.std.specs.Option.{option_or}
use Rattle.qc_event.specs.declared.event.Ask.{Ask}
use Rattle.qc_event.specs.declared.event.Event.TheVariants as event
use Rattle.qc_event.specs.declared.event.Kind.TheVariants as kind
use Rattle.qc_event.specs.Base.{Setting}
use Rattle.qc_event.specs.History.{Past, Name}
use Rattle.qc_event.specs.Legal.{Legal}
use Rattle.qc_event.specs.Standing.{IsManager}
use Rattle.qc_event.proofs.Later.{started_still}
use Rattle.qc_event.proofs.OneEntry.{started_stays}
use Rattle.qc_event.proofs.StillTold.{begun_still}
use Rattle.qc_desk.specs.declared.refusal.DeskNo.{DeskNo}
use Rattle.qc_desk.specs.declared.view.View.{View}
use Rattle.qc_desk.specs.Calling.{Entered, Shown}
use Rattle.qc_desk.specs.Entries.{IsSince, entry}
use Rattle.qc_desk.specs.Own.{IsOwnAccess, MayAskOwn}
use Rattle.qc_desk.proofs.OwnSince.{access_end_same}

pub own_since : (setting : Setting) (past now : Past) (seat : ℕ) (n : Name) → Legal setting now → IsSince seat past now → IsOwnAccess past seat n → IsOwnAccess now seat n
own_since setting past now seat n legal (newer, is, others) own = subst (λ p. IsOwnAccess p seat n) (sym is) (record {
  by_client = own.by_client;
  manager = own.manager;
  child = own.child;
  mine = started_still newer past own.manager (λ b. IsManager b.kind × (b.seat ≡ seat)) own.mine;
  started = started_still newer past n (λ a. (a.seat ≡ seat) × (a.kind ≡ kind.Access)) own.started;
  is_open = record {
    started = begun_still newer past n own.is_open.started;
    not_ended = access_end_same setting past seat own.manager own.mine newer (subst (Legal setting) is legal) others n own.child ∙ own.is_open.not_ended;
  };
})

pub own_asked : (setting : Setting) (against : Past → Option DeskNo) (v w : View) (ask : Ask) (m : Name) → Entered against (event.Ask ask) v w → Legal setting w.seen → MayAskOwn setting v.seen v.number m ask → IsOwnAccess w.seen v.number ask.access
own_asked setting against v w ask m (before, since, none, same) legal own = subst (λ p. IsOwnAccess p v.number ask.access) (sym seen) (record {
  by_client = then.by_client;
  manager = then.manager;
  child = then.child;
  mine = started_stays (entry v.number (event.Ask ask)) before then.manager (λ b. IsManager b.kind × (b.seat ≡ v.number)) then.mine;
  started = started_stays (entry v.number (event.Ask ask)) before ask.access (λ a. (a.seat ≡ v.number) × (a.kind ≡ kind.Access)) then.started;
  is_open = record {
    started = begun_still (entry v.number (event.Ask ask) ∷ []) before ask.access then.is_open.started;
    not_ended = ap (λ o. option_or o None) then.is_open.not_ended;
  };
})
  where
    seen : w.seen ≡ entry v.number (event.Ask ask) ∷ before
    seen = ap (λ (x : View). x.seen) same

    then : IsOwnAccess before v.number ask.access
    then = own_since setting v.seen before v.number ask.access (subst (Legal setting) seen legal).0 since
        (record { by_client = own.by_client; manager = m; child = own.child; mine = own.mine; started = own.started; is_open = own.is_open })

-- what a pass was shown others entered
pub own_shown : (setting : Setting) (v w : View) (seat : ℕ) (n : Name) → v.live ≡ true → v.number ≡ seat → Shown v w → Legal setting w.seen → IsOwnAccess v.seen seat n → IsOwnAccess w.seen w.number n
own_shown setting v w seat n live number (older, is, since) legal own =
    subst (λ k. IsOwnAccess w.seen k n) (sym (ap (λ (x : View). x.number) is ∙ number))
    (own_since setting v.seen w.seen seat n legal (subst (λ k. IsSince k v.seen w.seen) number (since live)) own)
