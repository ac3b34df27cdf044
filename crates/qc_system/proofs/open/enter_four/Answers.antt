-- The fourth copy's number is greater by three than the first one's.
use Rattle.std.proofs.Common.{◌≡◌, ◌+◌, arith, subst}
use Rattle.qc_system.specs.Parts.{AreWaiting}
use Rattle.qc_system.proofs.open.enter_four.Goals as goal

pub returns-clause-waiting : goal.returns-clause-waiting
returns-clause-waiting g c =
    let next : g.row.C3 + 1 ≡ g.row.C0 + 4 = omega (arith, c.requires.next.2) in
    subst (λ n. AreWaiting g.N.Store.base g.N.Mounting.found n c.enter_at-s3.new.copies.items) next c.enter_at-s3.ensures.waiting
