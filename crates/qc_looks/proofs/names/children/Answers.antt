use Rattle.std.proofs.Common.{length, sym, ap, ◌∙◌}
use Rattle.qc_event.specs.History.{children}
use Rattle.qc_looks.proofs.names.children.Goals as goal

pub returns-then-is_empty : goal.returns-then-is_empty
returns-then-is_empty c = λ setting legal.
    c.tops.ensures setting legal ∙ ap (λ n. length (children c.args.history.now n)) (sym (c.is_empty.ensures.0 c.if-is_empty.true))
