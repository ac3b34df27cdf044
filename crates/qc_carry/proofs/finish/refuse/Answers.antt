-- An access ends by its first refusal.
use Rattle.std.proofs.Common.{ap, ◌∙◌}
use Rattle.std.specs.Prelude.{Some}
use Rattle.qc_event.specs.declared.event.Refusal.{Refusal}
use Rattle.qc_event.specs.declared.event.Refusal.TheVariants as refusal
use Rattle.qc_event.specs.Tables.{setting_of}
use Rattle.qc_carry.proofs.Ending.{ends_stopped, missed_refused, still_refused}
use Rattle.qc_carry.proofs.Orphans.{refused_orphan}
use Rattle.qc_carry.proofs.Walking as walking
use Rattle.qc_carry.proofs.finish.refuse.Goals as goal

pub miss-requires-clause-missed : goal.miss-requires-clause-missed
miss-requires-clause-missed g c = missed_refused c.args.pass.now.seen c.args.ask.now.access c.args.first.now c.requires.first

pub orphaned-requires-clause-orphan : goal.orphaned-requires-clause-orphan
orphaned-requires-clause-orphan g c =
    let seen = c.args.pass.now.seen in
    refused_orphan (setting_of g.N.Store.table g.N.Store.base) seen c.args.ask.now.access c.in-Dead.ancestor c.requires.known.legal
    (c.requires.first ∙ ap (λ (r : Refusal). Some r) c.in-Dead.is) c.requires.own.is_open.not_ended

pub returns-in_ok-miss-in-Blocked-clause-ends : goal.returns-in_ok-miss-in-Blocked-clause-ends
returns-in_ok-miss-in-Blocked-clause-ends g c = (
  c.in_ok-miss-in-Blocked.ensures.ok,
  still_refused c.args.pass.now c.miss.new.pass _ c.in_ok-miss-in-Blocked.ensures.ok c.args.ask.now.access (refusal.Blocked c.in-Blocked.holder)
      (c.requires.first ∙ ap (λ (r : Refusal). Some r) c.in-Blocked.is),
)

pub returns-in-Dead-clause-ends : goal.returns-in-Dead-clause-ends
returns-in-Dead-clause-ends g c = ends_stopped c.args.pass.now c.args.pass.now c.orphaned.new.pass c.args.ask.now c.orphaned.result (walking.nothing c.args.pass.now) c.orphaned.ensures.stopped
