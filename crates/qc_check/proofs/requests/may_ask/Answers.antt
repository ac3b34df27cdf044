use Rattle.std.proofs.Common.{ℕ, sym, ◌∙◌, subst}
use Rattle.qc_names.specs.Name as name
use Rattle.qc_event.specs.declared.event.Ask.{Ask}
use Rattle.qc_event.specs.Base.{Setting}
use Rattle.qc_event.specs.History.{Past, Name}
use Rattle.qc_event.specs.Manager.{AtStage}
use Rattle.qc_event.specs.Requests.{MayAsk, IsNextAsk}
use Rattle.qc_event.specs.Standing.{Started}
use Rattle.qc_check.specs.Parts.{IsFreeToAsk}
use Rattle.qc_check.proofs.requests.may_ask.Goals as goal

module _ (setting : Setting) (past : Past) (seat : ℕ) (ask : Ask) where
  abbrev AsksNext : Name → Type 0
  AsksNext m = Started past m (λ b. AtStage setting past m b.kind (IsNextAsk past m b.kind ask))

  free : MayAsk setting past seat ask → IsFreeToAsk past seat ask
  free may = record {
    by_client = may.by_client;
    started = may.started;
    manager_started = may.manager_started;
    going = may.going;
    not_asked = may.not_asked;
    nothing_open = may.nothing_open;
  }

  whole : IsFreeToAsk past seat ask → AsksNext (name.front ask.access) → MayAsk setting past seat ask
  whole free next = record {
    by_client = free.by_client;
    started = free.started;
    manager_started = free.manager_started;
    going = free.going;
    not_asked = free.not_asked;
    nothing_open = free.nothing_open;
    of_stage = next;
  }

pub returns-then-not-is_free_to_ask : goal.returns-then-not-is_free_to_ask
returns-then-not-is_free_to_ask g c = (
  λ e. absurd cc,
  λ may. sym c.if-not-is_free_to_ask.true ∙ c.is_free_to_ask.ensures.1 (free c.args.setting.now (g.H.Looks.past c.args.h.now) c.args.seat c.args.ask.now may),
)

pub returns : goal.returns
returns g c =
    let setting = c.args.setting.now in
    let past = g.H.Looks.past c.args.h.now in
    let ask = c.args.ask.now in
    let next = AsksNext setting past c.args.seat ask in (
      λ e. whole setting past c.args.seat ask (c.is_free_to_ask.ensures.0 c.if-not-is_free_to_ask.false) (subst next c.front.ensures (c.is_asked_next.ensures.0 e)),
      λ may. c.is_asked_next.ensures.1 (subst next (sym c.front.ensures) may.of_stage),
    )
