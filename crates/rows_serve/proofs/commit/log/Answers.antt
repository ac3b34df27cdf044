use Rattle.std.proofs.Common.{ap, subst, ◌∙◌}
use Rattle.std.specs.Prelude.{IsTrue, Option, is_some}
use Rattle.std.specs.Bool.{OnFalse}
use Rattle.qc_event.specs.History.{Past, is_ready}
use Rattle.qc_event.specs.declared.event.How.{How}
use Rattle.qc_desk.specs.declared.view.View.{View}
use Rattle.qc_ledger.specs.Entered.{MayFinish}
use Rattle.qc_desk.proofs.Listed.{ready_stays}
use Rattle.qc_ledger.proofs.Passes.{may_first}
use Rattle.qc_desk.proofs.Seers.{older_trans}
use Rattle.rows_serve.proofs.commit.log.Goals as goal

pub finish-requires-clause-ready : goal.finish-requires-clause-ready
finish-requires-clause-ready g c = ready_stays c.args.pass.now.seen c.show.new.seer.seen c.args.top.now c.show.ensures.seer.0 c.requires.ready

pub finish-requires-clause-first : goal.finish-requires-clause-first
finish-requires-clause-first g c =
    let shown = c.show.new.pass in
    let now = c.ended.new.pass in
    let top = c.args.top.now in
    let ready : IsTrue (is_ready now.seen top) = ready_stays shown.seen now.seen top c.ended.ensures.looked.0
    (subst (λ (p : Past). IsTrue (is_ready p top)) c.show.ensures.same (ready_stays c.args.pass.now.seen c.show.new.seer.seen top c.show.ensures.seer.0 c.requires.ready)) in
    let may : MayFinish now top = subst (λ b. OnFalse b (MayFinish now top)) c.if-is_some.false
    (may_first now top c.is_some.result c.requires.is_top ready (c.ended.ensures.known.mine (ap (λ (v : View). v.live) c.ended.ensures.looked.1 ∙ ap (λ (v : View). v.live) c.show.ensures.pass.1 ∙ c.requires.ledger.0)) (c.is_some.ensures ∙ ap (λ (o : Option How). is_some o) c.ended.ensures.end)) in
    may.first

pub returns-clause-older : goal.returns-clause-older
returns-clause-older g c = older_trans c.args.pass.now.seen c.show.new.seer.seen c.finish.new.seer.seen c.show.ensures.seer.0 c.finish.ensures.shown.0
