-- There is room for one more of both, and they are the first pair.
use Rattle.std.proofs.Common.{◌≤◌, ap, sym, subst, arith, length}
use Rattle.qc_system.proofs.Pairings.{in_pairs-length}
use Rattle.qc_system.proofs.returns.Returns.put_first.Goals as goal

pub put_before-requires-2 : goal.put_before-requires-2
put_before-requires-2 g c = let old = c.args.self.now in omega (arith, in_pairs-length old.disks.items old.spares.items old.as_many, c.requires, old.as_many, old.enough_spares)

pub invariant_of-self : goal.invariant_of-self
invariant_of-self g c =
    let old = c.args.self.now in
    let many = in_pairs-length old.disks.items old.spares.items old.as_many in
    let owns = ap length c.put_before.ensures.items in
    let spares = ap length c.put_before-2.ensures.items in
    record {
      as_many = omega (arith, owns, spares, old.as_many);
      few = omega (arith, owns, many, c.requires);
      enough = subst (λ k. 34 ≤ k) (sym c.put_before.ensures.capacity) old.enough;
      enough_spares = subst (λ k. 17 ≤ k) (sym c.put_before-2.ensures.capacity) old.enough_spares;
    }
