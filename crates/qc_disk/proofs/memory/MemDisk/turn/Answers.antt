-- Time goes on by one act.
use Rattle.qc_disk.proofs.Moments.{elapses-applied}
use Rattle.qc_disk.proofs.Turns.{elapsed}
use Rattle.qc_disk.proofs.memory.MemDisk.turn.Goals as goal

pub returns-then-is_some-clause-time : goal.returns-then-is_some-clause-time
returns-then-is_some-clause-time c = elapsed _ _ (elapses-applied _ _ _ _ _ c.in_ok-apply.ensures.ok.first c.in_ok-apply.ensures.ok.acts)

pub returns-clause-time : goal.returns-clause-time
returns-clause-time c = elapsed _ _ (elapses-applied _ _ _ _ _ c.in_ok-apply.ensures.ok.first c.in_ok-apply.ensures.ok.acts)
