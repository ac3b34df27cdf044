-- The last copy's pair goes behind those that are out.
use Rattle.std.proofs.Common.{◌≡◌, ◌∷◌, [], length, ap, ap₂, arith, length-append}
use Rattle.qc_opening.specs.Mounted.{copy_disks}
use Rattle.qc_opening.proofs.Places.{last_over}
use Rattle.qc_system.specs.Pairs.{pairs_in}
use Rattle.qc_system.specs.declared.boxed.Boxed.{Boxed}
use Rattle.qc_opening.proofs.refusing.put_copies.Goals as goal

pub loop-last-preserved : goal.loop-last-preserved
loop-last-preserved g c =
    let kept = c.loop-last.invariant in
    let there = pairs_in c.loop-last.returns in
    let now = pairs_in c.put.new.returns in
    let taken = c.in-Some.ensures.items in
    let disks : c.into_disks.result ≡ copy_disks c.in-Some.last = ap₂ (λ (a b : Boxed g.row.D.Denot). (a, b)) c.into_disks.ensures.own c.into_disks.ensures.spare in
    record {
      pairs =
          last_over copy_disks (λ (p : Boxed g.row.D.Denot × Boxed g.row.D.Denot). (p.0.disk.value, p.1.disk.value)) there now _ c.loop-last.copies.items c.pop.new.self.items c.in-Some.last c.into_disks.result taken disks c.put.ensures kept.pairs;
      few = omega (arith, kept.few, ap length c.put.ensures, length-append there ((c.into_disks.result.0.disk.value, c.into_disks.result.1.disk.value) ∷ []), ap length taken, length-append c.pop.new.self.items (c.in-Some.last ∷ []));
    }
