use Rattle.std.proofs.Common.{sym, ◌∙◌}
use Rattle.std.proofs.lemmas.Bool.{true≢false}
use Rattle.std.proofs.lemmas.Slice.Eq.{bytes_eq-Decides}
use Rattle.qc_run.proofs.Numerals.{none_spelled, one_spelled, other_spelled, small}
use Rattle.qc_run.proofs.words.number_in.Goals as goal

pub returns-in_default : goal.returns-in_default
returns-in_default c = none_spelled c.args.word.now c.parse.result c.parse.ensures.value.0 c.in_default.field-0 c.in_default.is

pub returns-then-eq : goal.returns-then-eq
returns-then-eq c =
    let same = (bytes_eq-Decides c.format.result.now c.args.word.now).0 (sym c.eq.ensures ∙ c.if-eq.true) in
    one_spelled c.args.word.now c.parse.result c.parse.ensures.value.0 c.in-Ok.number c.in-Ok.is
    (small c.args.word.now c.parse.result c.parse.ensures.value.0 c.in-Ok.number c.in-Ok.is) (sym same ∙ c.format.ensures.text)

pub returns-else-eq : goal.returns-else-eq
returns-else-eq c =
    other_spelled c.args.word.now c.parse.result c.parse.ensures.value.0 c.in-Ok.number c.in-Ok.is
    (λ spelled. true≢false (sym ((bytes_eq-Decides c.format.result.now c.args.word.now).1 (c.format.ensures.text ∙ sym spelled)) ∙ sym c.eq.ensures ∙ c.if-eq.false))
