-- There is room for one more of both, and they are a pair.
use Rattle.std.proofs.Common.{◌≤◌, [], ◌∷◌, ap, ap₂, sym, subst, ◌∙◌, arith, length}
use Rattle.std.proofs.lemmas.List.{length-append}
use Rattle.qc_system.specs.Pairs.{in_pairs}
use Rattle.qc_system.proofs.Pairings.{in_pairs-append, in_pairs-length}
use Rattle.qc_system.proofs.returns.Returns.put.Goals as goal

pub push_reserved-requires-2 : goal.push_reserved-requires-2
push_reserved-requires-2 g c = let old = c.args.self.now in omega (arith, old.spares.ok.0, in_pairs-length old.disks.items old.spares.items old.as_many, c.requires, old.as_many, old.enough_spares)

pub invariant_of-self : goal.invariant_of-self
invariant_of-self g c =
    let old = c.args.self.now in
    let many = in_pairs-length old.disks.items old.spares.items old.as_many in
    let owns = ap length c.push_reserved.ensures.items ∙ length-append old.disks.items (c.args.disk ∷ []) in
    let spares = ap length c.push_reserved-2.ensures.items ∙ length-append old.spares.items (c.args.spare ∷ []) in
    record {
      as_many = omega (arith, owns, spares, old.as_many);
      few = omega (arith, owns, many, c.requires);
      enough = subst (λ k. 34 ≤ k) (sym c.push_reserved.ensures.capacity) old.enough;
      enough_spares = subst (λ k. 17 ≤ k) (sym c.push_reserved-2.ensures.capacity) old.enough_spares;
    }

pub returns : goal.returns
returns g c =
    let old = c.args.self.now in
    ap₂ in_pairs c.push_reserved.ensures.items c.push_reserved-2.ensures.items ∙ in_pairs-append old.disks.items old.spares.items (c.args.disk ∷ []) (c.args.spare ∷ []) old.as_many
