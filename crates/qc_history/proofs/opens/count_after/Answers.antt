use Rattle.std.proofs.Common.{◌∷◌, arith, sym, ◌∙◌}
use Rattle.qc_event.proofs.LegalOrderly.{legal_orderly}
use Rattle.qc_history.proofs.OpenTops.{open_few, top_started, top_ended, tops_stay}
use Rattle.qc_history.proofs.opens.count_after.Goals as goal

pub overflow_add-result : goal.overflow_add-result
overflow_add-result c =
    let r = c.requires in
    let few = open_few r.1 in
    omega (arith, few, r.2, r.4)

pub returns-then-starts_top : goal.returns-then-starts_top
returns-then-starts_top c = λ setting past is legal.
    let more = top_started c.args.entry.now past (legal_orderly setting (c.args.entry.now ∷ past) legal) (sym c.starts_top.ensures ∙ c.if-starts_top.true) in
    omega (arith, is, more)

pub overflow_sub-result : goal.overflow_sub-result
overflow_sub-result c =
    let r = c.requires in
    let less = top_ended c.args.entry.now r.1 (legal_orderly r.0 (c.args.entry.now ∷ r.1) r.3) (sym c.ends_top.ensures ∙ c.if-ends_top.true) in
    omega (arith, less, r.2)

pub returns-then-ends_top : goal.returns-then-ends_top
returns-then-ends_top c = λ setting past is legal.
    let less = top_ended c.args.entry.now past (legal_orderly setting (c.args.entry.now ∷ past) legal) (sym c.ends_top.ensures ∙ c.if-ends_top.true) in
    omega (arith, is, less)

pub returns : goal.returns
returns c = λ setting past is legal.
    is ∙ tops_stay c.args.entry.now past (legal_orderly setting (c.args.entry.now ∷ past) legal) (sym c.starts_top.ensures ∙ c.if-starts_top.false) (sym c.ends_top.ensures ∙ c.if-ends_top.false)
