use Rattle.std.proofs.Common.{◌≡◌, ◌++◌, ◌∷◌, [], length, take}
use Rattle.std.specs.Prelude.{flat_map, slice_index_or}
use Rattle.std.specs.List.{All}
use Rattle.qc_codec.specs.Fields as field
use Rattle.qc_codec.specs.Fields.{current}
use Rattle.qc_trail_codec.proofs.base.put_base.Given as goal

abbrev pub invariant-loop-copy : goal.invariant-loop-copy
invariant-loop-copy l = record {
  written : l.out.items ≡ l.fn.out.items ++ l.copies ∷ length (slice_index_or l.base 0 []) ∷ flat_map (flat_map (field.tuple (current l.copies)).spell) (take l.copy l.base);
  fits : All (λ row. All (field.tuple (current l.copies)).fits row) (take l.copy l.base);
}
