-- What a client knows of its request once it was shown more, and once it was granted.
use Rattle.std.proofs.Common.{◌≡◌, ℕ, Bool, ◌∷◌, refl, sym, ap, ◌∙◌, subst}
use Rattle.std.specs.Prelude.{Option, None, Some, MatchOption, if◌then◌else◌}
use Rattle.std.specs.Option.{option_or}
use Rattle.qc_config.specs.declared.tuple.Tuple.{Tuple}
use Rattle.qc_event.specs.Grants.{grant_with, MayGrant}
use Rattle.qc_event.specs.declared.event.Ask.{Ask}
use Rattle.qc_event.specs.declared.event.Event.TheVariants as event
use Rattle.qc_event.specs.declared.event.Grant.{Grant}
use Rattle.qc_event.specs.Base.{Setting}
use Rattle.qc_event.specs.History.{Past, Asked, Given, asked, granted, grant_in}
use Rattle.qc_event.specs.Legal.{Legal}
use Rattle.qc_event.proofs.Absent.{same_itself}
use Rattle.qc_event.proofs.StillTold.{is_stays, match_stays}
use Rattle.qc_desk.specs.declared.refusal.DeskNo.{DeskNo}
use Rattle.qc_desk.specs.declared.view.View.{View}
use Rattle.qc_desk.specs.Calling.{Entered, Shown}
use Rattle.qc_desk.specs.Entries.{IsSince, entry}
use Rattle.qc_desk.specs.Own.{MayReplyOwn}
use Rattle.qc_desk.specs.Rules.{knows}
use Rattle.qc_desk.proofs.Seers.{older_trans, since_trans}

pub shown_on : (v u w : View) → Shown v u → Shown u w → Shown v w
shown_on v u w (older, is, since) (older_then, is_then, since_then) = (
  older_trans v.seen u.seen w.seen older older_then,
  is_then ∙ ap (λ x. knows w.seen x) is,
  λ live. since_trans v.number v.seen u.seen w.seen (since live)
      (subst (λ n. IsSince n u.seen w.seen) (ap (λ (x : View). x.number) is) (since_then (ap (λ (x : View). x.live) is ∙ live))),
)

-- a grant that was entered stands
pub granted_is : (setting : Setting) (against : Past → Option DeskNo) (v w : View) (copy : ℕ) (grant : Grant) → Entered against (event.Granted copy grant) v w → Legal setting w.seen → granted w.seen grant.access ≡ Some (record { copy = copy; grant = grant })
granted_is setting against v w copy grant (before, since, none, same) legal =
    ap (λ past. granted past grant.access) seen
    ∙ ap (λ o. option_or o (grant_in grant.access (event.Granted copy grant))) may.first_time
    ∙ ap (λ (b : Bool). if b then Some (record { copy = copy; grant = grant }) else None) (same_itself grant.access)
  where
    seen : w.seen ≡ entry v.number (event.Granted copy grant) ∷ before
    seen = ap (λ (x : View). x.seen) same

    may : MayGrant setting before v.number copy grant
    may = (subst (Legal setting) seen legal).1

-- who asked, and was shown the grant, may reply with its tuple
pub may_reply : (v u w : View) (seat : ℕ) (ask : Ask) (tuple : Tuple) → MatchOption (asked v.seen ask.access) ⊥ (λ a. a.seat ≡ seat) → v.number ≡ seat → Shown v u → granted u.seen ask.access ≡ Some (record { copy = 0; grant = grant_with ask tuple }) → Shown u w
    → MayReplyOwn w.seen w.number ask.access tuple
may_reply v u w seat ask tuple here number before given after = record {
  asked_here = subst (λ k. MatchOption (asked w.seen ask.access) ⊥ (λ (a : Asked). a.seat ≡ k)) (sym (ap (λ (x : View). x.number) all.1 ∙ number))
      (subst (λ p. MatchOption (asked p ask.access) ⊥ (λ (a : Asked). a.seat ≡ seat)) (sym all.0.1) (match_stays _ all.0.0 v.seen (λ (a : Asked). a.seat ≡ seat) here));
  reply = subst (λ o. MatchOption o ⊥ (λ (g : Given). g.grant.tuple ≡ tuple)) (sym given_now) refl;
}
  where
    all : Shown v w
    all = shown_on v u w before after

    given_now : granted w.seen ask.access ≡ Some (record { copy = 0; grant = grant_with ask tuple })
    given_now = ap (λ p. granted p ask.access) after.0.1 ∙ is_stays (λ e. grant_in ask.access e.event) after.0.0 u.seen (record { copy = 0; grant = grant_with ask tuple }) given
