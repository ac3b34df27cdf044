use Rattle.std.proofs.Common.{drop, arith}
use Rattle.std.proofs.lemmas.List.{length-drop}
use Rattle.qc_trail_codec.proofs.Marks.{number_small}
use Rattle.qc_trail_codec.proofs.reason.number_of.Goals as goal

pub overflow_mul-number : goal.overflow_mul-number
overflow_mul-number c = omega (arith, c.loop-place.invariant, number_small 15 (drop c.loop-place.place c.args.marks.now) (omega (arith, length-drop c.loop-place.place c.args.marks.now, c.requires, c.loop-place-test.true)))

pub overflow_add-number : goal.overflow_add-number
overflow_add-number c = omega (arith, c.loop-place.invariant, number_small 15 (drop c.loop-place.place c.args.marks.now) (omega (arith, length-drop c.loop-place.place c.args.marks.now, c.requires, c.loop-place-test.true)))
