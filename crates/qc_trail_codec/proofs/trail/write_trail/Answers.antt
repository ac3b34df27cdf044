use Rattle.std.proofs.Common.{◌^◌, ◌<◌, ◌++◌, List, [], ℕ, length, ap, subst, ◌∙◌, arith}
use Rattle.std.specs.Prelude.{flat_map}
use Rattle.std.specs.List.{All}
use Rattle.qc_codec.specs.Fields.{current, current_format, long}
use Rattle.qc_codec.proofs.Puts.{three}
use Rattle.qc_trail_codec.specs.Events.{entry}
use Rattle.qc_trail_codec.specs.Trail.{base, trail}
use Rattle.qc_trail_codec.proofs.Fits.{trail_fits}
use Rattle.qc_trail_codec.proofs.trail.write_trail.Goals as goal

pub returns : goal.returns
unfolding trail
returns c =
    let of = c.args.base.now in
    let entries = c.args.entries.now in
    let few : length entries < 2 ^ 64 = omega (arith, c.len.ensures) in (
      three [] c.put_base.new.out.items c.put_long.new.out.items c.put_entries.new.out.items ((base current_format).spell of) (long.spell (length entries))
          (flat_map (entry (current c.copies.result)).spell entries) (flat_map (entry (current (length of))).spell entries)
          (c.in_ok-put_base.ensures.written ∙ ap (λ (bs : List ℕ). bs ++ (base current_format).spell of) c.new-out.ensures.items)
          (c.in_ok-put_long.ensures ∙ ap (λ (n : ℕ). c.put_base.new.out.items ++ long.spell n) c.len.ensures)
          (ap (λ (n : ℕ). flat_map (entry (current n)).spell entries) c.copies.ensures) c.in_ok-put_entries.ensures.written,
      trail_fits of entries c.in_ok-put_base.ensures.fits few (subst (λ (n : ℕ). All (entry (current n)).fits entries) c.copies.ensures c.in_ok-put_entries.ensures.fits),
    )
