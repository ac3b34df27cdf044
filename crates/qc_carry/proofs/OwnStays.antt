-- What stays of an access of one's own while its pass goes on, and for what it may be ended.
use Rattle.std.proofs.Common.{◌≡◌, ℕ, ◌++◌, refl, sym, ap, ◌∙◌, subst}
use Rattle.std.specs.Prelude.{None, IsTrue, not, ◌||◌}
use Rattle.std.specs.Option.{option_or}
use Rattle.qc_names.specs.Name as name
use Rattle.qc_event.specs.declared.event.Ask.{Ask}
use Rattle.qc_event.specs.declared.event.Cause.{Cause}
use Rattle.qc_event.specs.declared.event.Kind.TheVariants as kind
use Rattle.qc_event.specs.declared.event.Why.{Why}
use Rattle.qc_event.specs.Aborts.{AccessCause, Licensed}
use Rattle.qc_event.specs.Base.{Setting}
use Rattle.qc_event.specs.History.{Past, Name, Begun, Asked, start, end, asked, gone}
use Rattle.qc_event.specs.Legal.{Legal}
use Rattle.qc_event.specs.Requests.{MayGiveUp, is_fault, was_unable}
use Rattle.qc_event.specs.Standing.{IsManager, Started}
use Rattle.qc_event.proofs.LastNumber.{child_front}
use Rattle.qc_event.proofs.Later.{started_still}
use Rattle.qc_event.proofs.Lawful.{started_wider}
use Rattle.qc_event.proofs.Options.{match_wider, match_some}
use Rattle.qc_event.proofs.StillTold.{begun_still}
use Rattle.qc_desk.specs.declared.view.View.{View}
use Rattle.qc_desk.specs.Own.{IsOwnAccess}
use Rattle.qc_carry.specs.Access.{Waits}
use Rattle.qc_carry.specs.Walk.{Walk}
use Rattle.qc_carry.proofs.Walks as walks

module _ (setting : Setting) (v w : View) (made : Past) (walk : Walk v w made) (legal : Legal setting w.seen) (n : Name) (own : IsOwnAccess v.seen v.number n) where
  now_legal : Legal setting (walk.newer ++ v.seen)
  now_legal = subst (Legal setting) walk.grown legal

  end_on : end w.seen n ≡ option_or (end v.seen n) (end made n)
  end_on = ap (λ p. end p n) walk.grown ∙ walks.end_c setting v.seen v.number own.manager own.mine walk.newer now_legal n own.child ∙ ap (λ p. option_or (end v.seen n) (end p n)) walk.own

  pub gone_on : gone w.seen n ≡ option_or (gone v.seen n) (gone made n)
  gone_on = ap (λ p. gone p n) walk.grown ∙ walks.gone_c setting v.seen v.number own.manager own.mine walk.newer now_legal n own.child ∙ ap (λ p. option_or (gone v.seen n) (gone p n)) walk.own

  -- it is open where nothing of one's own ended it
  pub still_open : end made n ≡ None → end w.seen n ≡ None
  still_open none = end_on ∙ ap (λ o. option_or o (end made n)) own.is_open.not_ended ∙ none

  pub still_own : end made n ≡ None → IsOwnAccess w.seen w.number n
  still_own none = subst (λ p. IsOwnAccess p w.number n) (sym walk.grown) (subst (λ k. IsOwnAccess (walk.newer ++ v.seen) k n) (sym walk.number) (record {
    by_client = own.by_client;
    manager = own.manager;
    child = own.child;
    mine = started_still walk.newer v.seen own.manager (λ b. IsManager b.kind × (b.seat ≡ v.number)) own.mine;
    started = started_still walk.newer v.seen n (λ a. (a.seat ≡ v.number) × (a.kind ≡ kind.Access)) own.started;
    is_open = record {
      started = begun_still walk.newer v.seen n own.is_open.started;
      not_ended = ap (λ p. end p n) (sym walk.grown) ∙ still_open none;
    };
  }))

-- what waits may be given up
pub may_give_up : (past : Past) (seat : ℕ) (ask : Ask) (why : Why) → Waits past seat ask → IsTrue (not (is_fault why) || was_unable past ask.access why) → MayGiveUp past seat ask.access why
may_give_up past seat ask why waits told = record {
  by_client = waits.own.by_client;
  asked_here = match_some (asked past ask.access) (λ (a : Asked). a.seat ≡ seat) _ waits.asks_it refl;
  is_open = waits.own.is_open;
  first_time = waits.ungone;
  told = told;
}

-- what may be aborted under one's own seat
pub licensed : (setting : Setting) (past : Past) (seat : ℕ) (n : Name) (c : Cause) → IsOwnAccess past seat n → AccessCause past n c → Started past n (λ b. Licensed setting past seat n b b.kind c)
licensed setting past seat n c own cause =
    match_wider (start past n) (λ (b : Begun). (b.seat ≡ seat) × (b.kind ≡ kind.Access)) (λ (b : Begun). Licensed setting past seat n b b.kind c)
    (λ b is. subst (λ k. Licensed setting past seat n b k c) (sym is.1) (cause, by_manager)) own.started
  where
    by_manager : Started past (name.front n) (λ m. seat ≡ m.seat)
    by_manager =
        subst (λ x. Started past x (λ m. seat ≡ m.seat)) (sym (child_front own.manager n own.child))
        (started_wider (λ b. IsManager b.kind × (b.seat ≡ seat)) (λ m. seat ≡ m.seat) (start past own.manager) (λ b is. sym is.1) own.mine)
