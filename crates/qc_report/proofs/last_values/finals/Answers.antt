use Rattle.std.proofs.Common.{◌≡◌, ◌∙◌, ap, length, map, reverse, subst, take, take_all, arith}
use Rattle.std.proofs.lemmas.Option.{slice_get_within}
use Rattle.std.proofs.lemmas.Result.{IfOk-weaker}
use Rattle.qc_report.specs.LastValues.{AreBest, value_of, values_by_version}
use Rattle.qc_report.proofs.Further.{read_there, something_at}
use Rattle.qc_report.proofs.Bests.{tuples_of, no_entries, entries_more, values_are}
use Rattle.qc_report.proofs.last_values.finals.Goals as goal

pub loop-at-init : goal.loop-at-init
loop-at-init c =
    let first = no_entries c.args.base.now (reverse c.args.history.now) c.args.records c.in_ok-bests.bests.items c.in_ok-bests.ensures in
    record { as_many = first.0; best = first.1 }

pub loop-at-preserved : goal.loop-at-preserved
loop-at-preserved c =
    let base = c.args.base.now in
    let past = reverse c.args.history.now in
    let es = c.args.history.now in
    let i = c.loop-at.at in
    let here = something_at es i (omega (arith, c.loop-at-test.true, c.len-at-end.ensures, ap length c.trail-trail.ensures)) in
    let put = c.take_in_at.ensures.best here.0 here.1 (tuples_of base past (take i es)) c.loop-at.invariant.best in
    record {
      as_many = c.take_in_at.ensures.len ∙ c.loop-at.invariant.as_many;
      best = entries_more base past es i here.0 c.take_in_at.new.bests.items (slice_get_within es i here.0 here.1) (read_there es i here.0 here.1) put;
    }

pub returns : goal.returns
returns c =
    let base = c.args.base.now in
    let h = c.args.history.now in
    let i = c.loop-at.at in
    let all : take i h ≡ h = take_all i h (omega (arith, c.loop-at-test.false, c.len-at-end.ensures, ap length c.trail-trail.ensures)) in
    let best = subst (λ x. AreBest (tuples_of base (reverse h) x) c.loop-at.bests.items) all c.loop-at.invariant.best in
    IfOk-weaker c.values_of.result (λ v. v.items ≡ map value_of c.as_slice.result.now) (λ v. v.items ≡ values_by_version base (reverse h) c.args.records)
    (λ v is. values_are base h c.args.records c.loop-at.bests.items v.items c.loop-at.invariant.as_many best (is ∙ ap (map value_of) c.as_slice.ensures.value))
    c.values_of.ensures
