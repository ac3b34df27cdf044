use Rattle.std.proofs.Common.{sym, ap, ◌∙◌, arith}
use Rattle.std.specs.Prelude.{is_none}
use Rattle.qc_event.specs.Standing.{open_child}
use Rattle.qc_looks.proofs.Depths.{none_open}
use Rattle.qc_looks.proofs.names.children_ended.Goals as goal

pub returns-then-is_empty : goal.returns-then-is_empty
returns-then-is_empty c = λ setting legal.
    c.settled.ensures setting legal ∙ ap (λ n. is_none (open_child c.args.history.now n)) (sym (c.is_empty.ensures.0 c.if-is_empty.true))

pub returns-then-len-gt-DEEPEST : goal.returns-then-len-gt-DEEPEST
returns-then-len-gt-DEEPEST c = λ setting legal. none_open setting c.args.history.now c.args.n.now legal (omega (arith, c.if-len-gt-DEEPEST.true, c.len.ensures.length))

pub returns-in-Some : goal.returns-in-Some
returns-in-Some c = λ setting legal. ap is_none (sym c.in-Some.is ∙ c.open_child.ensures setting legal)

pub returns-in-None : goal.returns-in-None
returns-in-None c = λ setting legal. ap is_none (sym c.in-None.is ∙ c.open_child.ensures setting legal)
