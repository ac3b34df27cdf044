use Rattle.std.proofs.Common.{ap, ◌∙◌}
use Rattle.crossbeam_queue.specs.Passes.{view}
use Rattle.qc_lane.specs.declared.lane.Lane.{Lane}
use Rattle.qc_lane.proofs.Moves.{closes, reopens, balances}
use Rattle.qc_lane.proofs.queue.settle.Goals as goal

pub absorb-requires-clause-rule : goal.absorb-requires-clause-rule
absorb-requires-clause-rule g c = closes g.T.Posted.requests _ _ _ _
    (ap (λ v. v.takes) c.note-note.ensures.noted.0 ∙ c.requires.takes)
    (ap (λ p. (view {V = Lane} p).puts) c.replace-own.ensures.value ∙ c.requires.puts)

pub learn_as-requires-clause-rule : goal.learn_as-requires-clause-rule
learn_as-requires-clause-rule g c = balances g.T.Posted.requests _ _
    (ap (λ v. v.takes) c.absorb.ensures.rule ∙ ap (λ v. v.takes) c.note-note.ensures.noted.0 ∙ c.requires.takes)
    (ap (λ v. v.puts) c.absorb.ensures.rule ∙ ap (λ p. (view {V = Lane} p).puts) c.replace-own.ensures.value ∙ c.requires.puts)

pub another-requires-clause-rule : goal.another-requires-clause-rule
another-requires-clause-rule g c = reopens g.T.Posted.requests _ _
    (ap (λ v. v.takes) c.learn_as.ensures.queue.1 ∙ ap (λ v. v.takes) c.absorb.ensures.rule ∙ ap (λ v. v.takes) c.note-note.ensures.noted.0 ∙ c.requires.takes)
    (ap (λ v. v.puts) c.learn_as.ensures.queue.1 ∙ ap (λ v. v.puts) c.absorb.ensures.rule ∙ ap (λ p. (view {V = Lane} p).puts) c.replace-own.ensures.value ∙ c.requires.puts)
