use Rattle.std.proofs.Common.{◌≡◌, ◌∙◌, ◌∷◌, ◌+◌, ap, subst, sym, reverse, take, take_all, arith}
use Rattle.std.proofs.lemmas.Option.{slice_get_within}
use Rattle.qc_event.specs.Legal.{Legal}
use Rattle.qc_event.proofs.Histories.{reverse-take_more}
use Rattle.qc_history.specs.Index.{IsOf}
use Rattle.qc_trail.proofs.Outlined.{outlined}
use Rattle.qc_report.proofs.Further.{read_there}
use Rattle.qc_report.proofs.history.index_of.Goals as goal

pub loop-at-preserved : goal.loop-at-preserved
loop-at-preserved c =
    let i = c.loop-at.at in
    let h = c.args.trail.now in
    let here = outlined h i c.outline.result c.outline.ensures in
    let e = here.entry in
    let more : reverse (take (i + 1) h) ≡ e ∷ reverse (take i h) =
    reverse-take_more h i e (slice_get_within h i e here.there) ∙ ap (λ x. x ∷ reverse (take i h)) (sym (read_there h i e here.there)) in
    record {
      index = λ setting legal.
          let allowed = subst (Legal setting) more legal in
          subst (IsOf c.take_in.new.self) (sym more) (c.in_ok-take_in.ensures.ok e here.is setting (reverse (take i h)) (c.loop-at.invariant.index setting allowed.0) allowed);
      count = c.in_ok-take_in.ensures.count ∙ ap (λ n. n + 1) c.loop-at.invariant.count;
    }

pub returns : goal.returns
returns c = λ setting legal.
    let all = take_all c.loop-at.at c.args.trail.now (omega (arith, c.loop-at-test.false, c.len-at-end.ensures)) in
    subst (λ es. IsOf c.loop-at.index (reverse es)) all (c.loop-at.invariant.index setting (subst (λ es. Legal setting (reverse es)) (sym all) legal))
