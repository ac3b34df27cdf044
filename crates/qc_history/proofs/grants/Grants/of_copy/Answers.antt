use Rattle.std.proofs.Common.{◌++◌, take, reverse, sym, ap, ◌∙◌, arith}
use Rattle.std.specs.Prelude.{option_to_list}
use Rattle.qc_event.specs.History.{grants}
use Rattle.qc_history.proofs.GrantPlaces.{reads, all_listed, take_one, take_whole}
use Rattle.qc_history.proofs.grants.Grants.of_copy.Goals as goal

pub at-requires : goal.at-requires
at-requires c = (reads c.args.entries.now _ c.requires.kept c.args.copy _ c.places-place-items.ensures c.loop-place.place-index c.loop-place-test.true).within

pub loop-place-preserved : goal.loop-place-preserved
loop-place-preserved c =
    let j = c.loop-place.place-index in
    let theirs = grants (reverse c.args.entries.now) c.args.copy in
    let on = reads c.args.entries.now _ c.requires.kept c.args.copy _ c.places-place-items.ensures j c.loop-place-test.true in
    let grant = on.grant c.at.result c.at.ensures in
    c.in_ok-append_some.ensures ∙ ap (λ gs. gs ++ option_to_list c.grant_of.result) c.loop-place.invariant
    ∙ ap (λ o. take j theirs ++ option_to_list o) (c.grant_of.ensures ∙ grant.1)
    ∙ sym (take_one theirs j grant.0 grant.2)

pub returns : goal.returns
returns c =
    let over = c.loop-place-test.false in
    let many = all_listed c.args.entries.now _ c.requires.kept c.args.copy _ c.places-place-items.ensures in
    c.loop-place.invariant ∙ take_whole (grants (reverse c.args.entries.now) c.args.copy) c.loop-place.place-index (omega (arith, over, many))
