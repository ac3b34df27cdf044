use Rattle.std.proofs.Common.{◌≡◌, ℕ, length, take, reverse, sym, ◌∙◌, subst, arith}
use Rattle.std.specs.Prelude.{Some}
use Rattle.qc_event.specs.History.{grants}
use Rattle.qc_event.specs.declared.event.Grant.{Grant}
use Rattle.qc_history.specs.Grants.{Differs}
use Rattle.qc_history.proofs.GrantPlaces.{reads, all_listed, same_further, take_whole}
use Rattle.qc_history.proofs.grants.Grants.differ.Goals as goal

pub at-requires : goal.at-requires
at-requires c = (reads c.args.entries.now _ c.requires.kept c.args.copy _ c.places-place-items.ensures c.loop-index.index c.loop-index-test.true).within

pub returns-in-Some : goal.returns-in-Some
returns-in-Some c =
    let on = reads c.args.entries.now _ c.requires.kept c.args.copy _ c.places-place-items.ensures c.loop-index.index c.loop-index-test.true in
    let grant = on.grant c.at.result c.at.ensures in
    let told = c.other_at.ensures.other grant.0 c.in-Some.found (c.grant_of-grant.ensures ∙ grant.1) c.in-Some.is in
    subst (λ (d : ℕ × Grant). Differs c.args.given.now (grants (reverse c.args.entries.now) c.args.copy) (Some d)) (sym told.0) (c.loop-index.invariant, grant.2, told.1)

pub loop-index-preserved : goal.loop-index-preserved
loop-index-preserved c =
    let on = reads c.args.entries.now _ c.requires.kept c.args.copy _ c.places-place-items.ensures c.loop-index.index c.loop-index-test.true in
    let grant = on.grant c.at.result c.at.ensures in
    same_further c.args.given.now (grants (reverse c.args.entries.now) c.args.copy) c.loop-index.index grant.0 c.loop-index.invariant
    (c.other_at.ensures.same grant.0 (c.grant_of-grant.ensures ∙ grant.1) c.in_default.is) grant.2

pub returns : goal.returns
returns c =
    let theirs = grants (reverse c.args.entries.now) c.args.copy in
    let n = length theirs in
    let many = all_listed c.args.entries.now _ c.requires.kept c.args.copy _ c.places-place-items.ensures in
    let over = c.loop-index-test.false in
    let whole = c.loop-index.auto.index-end in
    let here : c.loop-index.index ≡ n = omega (arith, many, over, whole) in
    subst (λ (k : ℕ). take k c.args.given.now ≡ take k theirs) here c.loop-index.invariant ∙ take_whole theirs n (omega arith)
