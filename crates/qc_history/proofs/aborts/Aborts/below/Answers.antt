use Rattle.std.proofs.Common.{◌≡◌, ℕ, ◌+◌, ◌-◌, List, ◌++◌, reverse, sym, ap, ◌∙◌, subst, arith}
use Rattle.std.specs.Prelude.{Some, slice_get, slice_index, option_to_list}
use Rattle.std.proofs.lemmas.List.{reverse-reverse, length-reverse}
use Rattle.qc_event.specs.History.{Name}
use Rattle.qc_history.proofs.AbortsBelow.{IsMidway, one_further, all_found}
use Rattle.qc_history.proofs.aborts.Aborts.below.Goals as goal

pub at-requires : goal.at-requires
at-requires c =
    let next = c.loop-next.next in
    let m = c.loop-next.invariant in
    let more : next ≡ next - 1 + 1 = omega (arith, c.loop-next-test.true) in
    let on = one_further (reverse c.args.entries.now) _ c.args.self.now.before.items c.requires.kept.1 c.args.top.now next (next - 1) c.loop-next.found.items c.requires.top m more in
    omega (arith, on.inside, length-reverse c.args.entries.now)

pub loop-next-smaller : goal.loop-next-smaller
loop-next-smaller c =
    let next = c.loop-next.next in
    let m = c.loop-next.invariant in
    let more : next ≡ next - 1 + 1 = omega (arith, c.loop-next-test.true) in
    let on = one_further (reverse c.args.entries.now) _ c.args.self.now.before.items c.requires.kept.1 c.args.top.now next (next - 1) c.loop-next.found.items c.requires.top m more in
    let stands = c.slot-next.ensures ∙ ap (λ xs. slice_index xs (next - 1)) c.deref.ensures.value in
    omega (arith, on.smaller, stands, more)

pub loop-next-preserved : goal.loop-next-preserved
loop-next-preserved c =
    let next = c.loop-next.next in
    let m = c.loop-next.invariant in
    let entries = c.args.entries.now in
    let past = reverse entries in
    let e = c.at.result in
    let more : next ≡ next - 1 + 1 = omega (arith, c.loop-next-test.true) in
    let on = one_further past _ c.args.self.now.before.items c.requires.kept.1 c.args.top.now next (next - 1) c.loop-next.found.items c.requires.top m more in
    let stands = c.slot-next.ensures ∙ ap (λ xs. slice_index xs (next - 1)) c.deref.ensures.value in
    let here : slice_get (reverse past) (next - 1) ≡ Some e =
    ap (λ es. slice_get es (next - 1)) (reverse-reverse entries) ∙ c.at.ensures in
    let added = c.in_ok-append_some.ensures ∙ ap (λ o. c.loop-next.found.items ++ option_to_list o) (c.aborted_in.ensures c.requires.kept.0 past c.requires.kept.2 c.requires.kept.3) in
    subst (λ (x : ℕ × List Name). IsMidway past c.args.top.now x.0 x.1) (λ i. (sym stands i, sym added i)) (on.goes_on e here)

pub returns : goal.returns
returns c =
    let zero : c.loop-next.next ≡ 0 = omega (arith, c.loop-next-test.false) in
    c.turn.ensures ∙ all_found (reverse c.args.entries.now) _ c.args.self.now.before.items c.requires.kept.1 c.args.top.now c.loop-next.next c.loop-next.found.items c.requires.top c.loop-next.invariant zero
