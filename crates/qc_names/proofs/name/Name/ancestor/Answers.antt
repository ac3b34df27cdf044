use Rattle.std.proofs.Common.{◌<◌, ◌-◌, arith, drop, replicate, sym}
use Rattle.std.proofs.lemmas.List.{length-take-le}
use Rattle.qc_names.specs.Name.{longest}
use Rattle.qc_names.proofs.Padding.{ancestor_is, ancestor_begins, fits_within}
use Rattle.qc_names.proofs.name.Name.ancestor.Goals as goal

pub slice_bounds-rest-end : goal.slice_bounds-rest-end
slice_bounds-rest-end c =
    let inside = c.self.inside in
    omega (arith, fits_within inside.top inside.rest inside.len c.args.len _ c.self.invariant c.self.view_is c.requires, c.self.invariant.short)

pub slice_bounds-copy_from_slice-length : goal.slice_bounds-copy_from_slice-length
slice_bounds-copy_from_slice-length c =
    let inside = c.self.inside in
    let within = fits_within inside.top inside.rest inside.len c.args.len _ c.self.invariant c.self.view_is c.requires in
    sym (length-take-le (c.args.len - 1) (replicate (longest - 1) 0) (omega (arith, within, c.self.invariant.short)))

pub invariant_of-result : goal.invariant_of-result
invariant_of-result c =
    let inside = c.self.inside in
    let within = fits_within inside.top inside.rest inside.len c.args.len _ c.self.invariant c.self.view_is c.requires in
    rw c.copy_from_slice.ensures.after (ancestor_is inside.top inside.rest inside.len c.args.len c.self.invariant (omega (arith, c.if-len-eq0.false)) within)

pub returns : goal.returns
returns c =
    let inside = c.self.inside in
    let some : 0 < c.args.len = omega (arith, c.if-len-eq0.false) in
    let within = fits_within inside.top inside.rest inside.len c.args.len _ c.self.invariant c.self.view_is c.requires in
    rw (c.copy_from_slice.ensures.after, ← c.self.view_is) (ancestor_begins inside.top inside.rest (drop (c.args.len - 1) (replicate (longest - 1) 0)) inside.len c.args.len c.self.invariant some within)
