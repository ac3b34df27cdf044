use Rattle.std.proofs.Common.{◌≡◌, ◌+◌, ◌-◌, map, ap, ◌∙◌, arith}
use Rattle.std.specs.List.{range_with_len}
use Rattle.qc_script.specs.MadePlan.{top_at}
use Rattle.qc_script.specs.Steps.{numbered}
use Rattle.qc_script.proofs.MadeRows.{one_more_seen}
use Rattle.qc_script.proofs.made.tops_from.Goals as goal

pub loop-place-preserved : goal.loop-place-preserved
loop-place-preserved c =
    let first = c.args.first in
    let place = c.loop-place.place in
    let later = c.loop-place.auto.place in
    let one = one_more_seen numbered (top_at c.args.seed) first (place - first) place c.loop-place.tops.items c.in_ok-top.top (omega arith) c.loop-place.invariant c.in_ok-top.ensures in
    let many : place - first + 1 ≡ place + 1 - first = omega arith in
    ap (map numbered) c.in_ok-push.ensures.items ∙ one ∙ ap (λ n. map (top_at c.args.seed) (range_with_len first n)) many

pub returns : goal.returns
returns c =
    let first = c.args.first in
    let place = c.loop-place.place in
    let all : place - first ≡ 100 = omega (arith, c.loop-place.auto.place, c.loop-place.auto.place-end, c.loop-place-test.false) in
    c.loop-place.invariant ∙ ap (λ n. map (top_at c.args.seed) (range_with_len first n)) all
