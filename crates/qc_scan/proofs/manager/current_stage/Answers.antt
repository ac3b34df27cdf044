use Rattle.std.proofs.Common.{◌≡◌, ◌+◌, false, true, [], ◌∷◌, sym, ap, ap₂, ◌∙◌}
use Rattle.std.specs.Prelude.{Some, find}
use Rattle.qc_config.specs.declared.tuple.Op.TheVariants.{PutData}
use Rattle.qc_event.specs.declared.event.Phase.TheVariants.{Values}
use Rattle.qc_event.specs.Manager as words
use Rattle.qc_scan.specs.Raised.{later_stages}
use Rattle.qc_scan.proofs.Stages.{collects, first_short, later, none_left, short}
use Rattle.qc_scan.proofs.manager.current_stage.Goals as goal

pub returns-then-is_manager : goal.returns-then-is_manager
returns-then-is_manager g c =
    let past = g.H.Looks.past c.args.h.now in
    let m = c.args.m.now in
    let now = words.newest past c.args.first.now m in
    let found = words.greatest past m in
    let enough = words.is_enough past m in
    let same : c.collecting-collecting.result ≡ words.collecting now = c.collecting-collecting.ensures ∙ ap words.collecting c.newest-now.ensures in
    let here : enough (words.collecting now) ≡ false = ap enough (sym same) ∙ sym c.is_enough.ensures ∙ c.if-not-is_enough.true in
    let goes = collects c.args.kind.now now found (c.is_manager.ensures.0 c.if-is_manager.true) in
    ap (λ s. Some s) same ∙ sym (first_short enough (words.is_last c.args.kind.now now found) (words.collecting now) goes.0 (words.stages_by c.args.kind.now now found) here goes.1)

pub returns-then-is_last : goal.returns-then-is_last
returns-then-is_last g c =
    let past = g.H.Looks.past c.args.h.now in
    let m = c.args.m.now in
    let now = words.newest past c.args.first.now m in
    let found = words.greatest past m in
    let enough = words.is_enough past m in
    let here : enough (words.collecting now) ≡ true =
    ap (λ n. enough (words.collecting n)) (sym c.newest-now.ensures) ∙ ap enough (sym c.collecting-collecting.ensures) ∙ sym c.is_enough.ensures ∙ c.if-not-is_enough.false in
    let ends : words.is_last c.args.kind.now now found ≡ true =
    ap₂ (words.is_last c.args.kind.now) (sym c.newest-now.ensures) (sym c.greatest-found.ensures) ∙ sym c.is_last.ensures ∙ c.if-is_last.true in
    sym (none_left enough (words.is_last c.args.kind.now now found) (words.collecting now) (words.stages_by c.args.kind.now now found) here ends)

pub returns-in-Write : goal.returns-in-Write
returns-in-Write g c =
    let past = g.H.Looks.past c.args.h.now in
    let m = c.args.m.now in
    let now = words.newest past c.args.first.now m in
    let found = words.greatest past m in
    let enough = words.is_enough past m in
    let here : enough (words.collecting now) ≡ true =
    ap (λ n. enough (words.collecting n)) (sym c.newest-now.ensures) ∙ ap enough (sym c.collecting-collecting.ensures) ∙ sym c.is_enough.ensures ∙ c.if-not-is_enough.false in
    let goes : words.is_last c.args.kind.now now found ≡ false =
    ap₂ (words.is_last c.args.kind.now) (sym c.newest-now.ensures) (sym c.greatest-found.ensures) ∙ sym c.is_last.ensures ∙ c.if-is_last.false in
    let value = c.in-Write.value in
    let values = λ (n : words.Newest) (best : words.Greatest). let s : words.Stage = record { phase = Values; config = n.config; op = PutData (best.version + 1) value; writes = true } in s in
    let are : words.stages_by c.args.kind.now now found ≡ words.collecting now ∷ values now found ∷ [] = ap (λ k. words.stages_by k now found) c.in-Write.is in
    c.if_short.ensures
    ∙ ap (λ s. find (short enough) (s ∷ [])) (c.writing.ensures ∙ ap₂ values c.now.view_is c.found.view_is ∙ ap₂ values c.newest-now.ensures c.greatest-found.ensures)
    ∙ sym (later enough (words.is_last c.args.kind.now now found) (words.collecting now) (values now found ∷ []) (words.stages_by c.args.kind.now now found) here goes are)

pub returns-in-Reconf : goal.returns-in-Reconf
returns-in-Reconf g c =
    let past = g.H.Looks.past c.args.h.now in
    let m = c.args.m.now in
    let now = words.newest past c.args.first.now m in
    let found = words.greatest past m in
    let enough = words.is_enough past m in
    let here : enough (words.collecting now) ≡ true =
    ap (λ n. enough (words.collecting n)) (sym c.newest-now.ensures) ∙ ap enough (sym c.collecting-collecting.ensures) ∙ sym c.is_enough.ensures ∙ c.if-not-is_enough.false in
    let goes : words.is_last c.args.kind.now now found ≡ false =
    ap₂ (words.is_last c.args.kind.now) (sym c.newest-now.ensures) (sym c.greatest-found.ensures) ∙ sym c.is_last.ensures ∙ c.if-is_last.false in
    let are : words.stages_by c.args.kind.now now found ≡ words.collecting now ∷ later_stages c.in-Reconf.config now found = ap (λ k. words.stages_by k now found) c.in-Reconf.is in
    c.reconfiguring_stage.ensures
    ∙ ap (find (short enough)) (ap₂ (later_stages c.in-Reconf.config) c.newest-now.ensures c.greatest-found.ensures)
    ∙ sym (later enough (words.is_last c.args.kind.now now found) (words.collecting now) (later_stages c.in-Reconf.config now found) (words.stages_by c.args.kind.now now found) here goes are)
