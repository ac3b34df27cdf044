use Rattle.std.proofs.Common.{◌∙◌, ap₂}
use Rattle.std.specs.Cmp.{booleans_Decides}
use Rattle.std.specs.Cmp.Lexicographic.{pointwise}
use Rattle.std.proofs.lemmas.Slice.Eq.{slice_eq-Decides}
use mathlib.Core.Bool.{beq}
use Rattle.qc_scan.proofs.same.same_copies.Goals as goal

pub returns : goal.returns
returns c =
    slice_eq-Decides booleans_Decides c.args.a.now c.args.b.now c.eq.result (c.eq.ensures ∙ ap₂ (pointwise beq) c.as_slice.ensures.marks c.as_slice-2.ensures.marks)
