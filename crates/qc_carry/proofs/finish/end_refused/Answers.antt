-- An access that was refused has a first refusal.
use Rattle.std.proofs.Common.{[], refl, sym, ap, ◌∙◌}
use Rattle.std.specs.Prelude.{is_some}
use Rattle.qc_event.specs.History.{refused, refusal_in}
use Rattle.qc_event.specs.Tables.{setting_of}
use Rattle.qc_event.proofs.OneEntry.{some_or_none}
use Rattle.qc_event.proofs.StillTold.{some_stays}
use Rattle.qc_carry.proofs.Ending.{ends_on}
use Rattle.qc_carry.proofs.OwnStays.{still_own}
use Rattle.qc_carry.proofs.Walking as walking
use Rattle.qc_carry.proofs.finish.end_refused.Goals as goal

pub refuse-requires-clause-own : goal.refuse-requires-clause-own
refuse-requires-clause-own g c =
    let v = c.args.pass.now in
    let u = c.refusal-first.new.pass in
    still_own (setting_of g.N.Store.table g.N.Store.base) v u [] (walking.of_shown v u c.requires.client c.refusal-first.ensures.looked) c.refusal-first.ensures.known.legal c.args.ask.now.access c.requires.waits.own refl

pub unreachable-requires : goal.unreachable-requires
unreachable-requires g c =
    let v = c.args.pass.now in
    let u = c.refusal-first.new.pass in
    let n = c.args.ask.now.access in
    let walk = walking.of_shown v u c.requires.client c.refusal-first.ensures.looked in
    some_or_none (refused u.seen n)
    (ap (λ p. is_some (refused p n)) walk.grown ∙ some_stays (λ e. refusal_in n e.event) walk.newer v.seen c.requires.refused)
    (sym c.refusal-first.ensures.first ∙ c.in-None.is)

pub returns-clause-ends : goal.returns-clause-ends
returns-clause-ends g c =
    let v = c.args.pass.now in
    let u = c.refusal-first.new.pass in
    ends_on v u c.refuse.new.pass c.args.ask.now c.refuse.result (walking.of_shown v u c.requires.client c.refusal-first.ensures.looked) c.refuse.ensures.ends
