-- An orphan is one still once it has ended.
use Rattle.qc_carry.proofs.Ending.{still_orphan}
use Rattle.qc_carry.proofs.calls.orphaned.Goals as goal

pub returns-in-Ok-clause-stopped : goal.returns-in-Ok-clause-stopped
returns-in-Ok-clause-stopped g c =
    (c.in-Ok.ensures.ok, still_orphan c.args.pass.now c.abort.new.pass _ c.in-Ok.ensures.ok c.args.access.now c.args.ancestor.now c.requires.orphan)
