use Rattle.std.proofs.Common.{◌≡◌, ◌&&◌, true, false, sym, ap, ap₂, ◌∙◌}
use Rattle.qc_event.specs.Manager as words
use Rattle.qc_scan.proofs.manager.at_last_number.Goals as goal

pub returns-then-is_enough : goal.returns-then-is_enough
returns-then-is_enough g c =
    let past = g.H.Looks.past c.args.h.now in
    let m = c.args.m.now in
    let now = words.newest past c.args.first.now m in
    let enough = words.is_enough past m in
    let here : enough (words.collecting now) ≡ true =
    ap (λ n. enough (words.collecting n)) (sym c.newest-now.ensures) ∙ ap enough (sym c.collecting.ensures) ∙ sym c.is_enough.ensures ∙ c.if-is_enough.true in
    c.is_last.ensures ∙ ap₂ (words.is_last c.args.kind.now) c.newest-now.ensures c.greatest.ensures
    ∙ sym (ap (λ b. b && words.is_last c.args.kind.now now (words.greatest past m)) here)

pub returns-else-is_enough : goal.returns-else-is_enough
returns-else-is_enough g c =
    let past = g.H.Looks.past c.args.h.now in
    let m = c.args.m.now in
    let now = words.newest past c.args.first.now m in
    let enough = words.is_enough past m in
    let here : enough (words.collecting now) ≡ false =
    ap (λ n. enough (words.collecting n)) (sym c.newest-now.ensures) ∙ ap enough (sym c.collecting.ensures) ∙ sym c.is_enough.ensures ∙ c.if-is_enough.false in
    c.if-is_enough.false ∙ sym (ap (λ b. b && words.is_last c.args.kind.now now (words.greatest past m)) here)
