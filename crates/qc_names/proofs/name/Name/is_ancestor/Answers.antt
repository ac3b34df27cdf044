use Rattle.std.proofs.Common.{sym, ◌∙◌}
use Rattle.qc_names.proofs.Ancestors.{root_above, above_root, other_tops}
use Rattle.qc_names.proofs.name.Name.is_ancestor.Goals as goal

pub returns-in-None-default : goal.returns-in-None-default
returns-in-None-default c = root_above c.args.self.now c.args.other.now (sym c.number.ensures ∙ c.in-None-default.is-0)

pub returns-in-Some-None : goal.returns-in-Some-None
returns-in-Some-None c = above_root c.in-Some-None.field-0-0 c.args.self.now c.args.other.now (sym c.number.ensures ∙ c.in-Some-None.is-0) (sym c.number-2.ensures ∙ c.in-Some-None.is-1)

pub returns-else-a-b : goal.returns-else-a-b
returns-else-a-b c = other_tops c.in-Some-Some.a c.in-Some-Some.b c.args.self.now c.args.other.now (sym c.number.ensures ∙ c.in-Some-Some.is-0) (sym c.number-2.ensures ∙ c.in-Some-Some.is-1) c.if-a-b.false
