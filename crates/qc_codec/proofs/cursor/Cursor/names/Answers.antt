use Rattle.std.proofs.Common.{◌+◌, ◌-◌, List, ap, ◌∙◌}
use Rattle.std.proofs.lemmas.Result.{err_from_is_err_and}
use Rattle.qc_event.specs.History.{Name}
use Rattle.qc_codec.specs.Form.{times_taken}
use Rattle.qc_codec.specs.Lists.{continued}
use Rattle.qc_codec.specs.Bodies as body
use Rattle.qc_codec.proofs.Loops.{goes_on, refused}
use Rattle.qc_codec.proofs.cursor.Cursor.names.Goals as goal

pub returns-in_err-name : goal.returns-in_err-name
returns-in_err-name c =
    let p = err_from_is_err_and c.from_residual.result c.from_residual.ensures.1 in
    rw (p.1, p.2)
    (refused (body.below c.args.top) c.loop.names.items c.args.count c.loop.counter c.loop.self.rest.now _ c.in_err-name.field-0.0 c.loop-test.true c.in_err-name.ensures.taken c.loop.invariant)

pub loop-preserved : goal.loop-preserved
loop-preserved c =
    ap (λ (xs : List Name). continued xs (times_taken (c.args.count - (c.loop.counter + 1)) (body.below c.args.top) c.below.new.self.rest.now)) c.in_ok-push.ensures.items
    ∙ goes_on (body.below c.args.top) c.loop.names.items c.args.count c.loop.counter c.loop.self.rest.now c.below.new.self.rest.now c.in_ok-name.name _ c.loop-test.true c.in_ok-name.ensures.taken c.loop.invariant
