use Rattle.std.proofs.Common.{◌≡◌, ◌++◌, ◌∷◌, take, drop, length}
use Rattle.std.specs.Prelude.{flat_map, slice_index}
use Rattle.qc_codec.specs.Fields as field
use Rattle.qc_codec.proofs.spelling.put_name.Given as goal

abbrev pub invariant-loop-number : goal.invariant-loop-number
invariant-loop-number l = l.out.items ≡ l.fn.out.items ++ length l.name ∷ (field.long.spell (slice_index l.name 0) ++ flat_map field.word.spell (take l.number-index (drop 1 l.name)))
