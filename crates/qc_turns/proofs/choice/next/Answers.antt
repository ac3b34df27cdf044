-- Where no one waits before a place nor from it on, no one waits.
use Rattle.std.proofs.Common.{◌≡◌}
use Rattle.qc_turns.specs.declared.place.Place.TheVariants as place
use Rattle.qc_turns.specs.declared.row.Row.{Row}
use Rattle.qc_turns.proofs.Halves.{all_of_both}
use Rattle.qc_turns.proofs.choice.next.Goals as goal

pub returns-in-None-clause-none : goal.returns-in-None-clause-none
returns-in-None-clause-none c none =
    all_of_both (λ (row : Row). row.place ≡ place.Waiting → ⊥) _ c.args.rows.now _ _ c.split_at.ensures.front c.split_at.ensures.back (c.first_waiting-in-None.ensures.none none) (c.first_waiting.ensures.none c.in-None.is)
