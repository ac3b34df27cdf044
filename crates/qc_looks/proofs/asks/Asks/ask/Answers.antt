use Rattle.std.proofs.Common.{reverse, sym, ◌∙◌}
use Rattle.std.proofs.lemmas.Option.{none-some}
use Rattle.qc_looks.proofs.Asking.{is_listed, is_there}
use Rattle.qc_looks.proofs.asks.Asks.ask.Goals as goal

pub unreachable-requires : goal.unreachable-requires
unreachable-requires c =
    let kept = c.requires.kept in
    is_listed c.args.entries.now c.args.m.now c.args.k c.requires.within
    (sym (c.place_at.ensures kept.0 (reverse c.args.entries.now) kept.1 kept.2 kept.3) ∙ c.in_default.is)

pub at-requires : goal.at-requires
at-requires c =
    let kept = c.requires.kept in
    (is_there c.args.entries.now c.args.m.now c.args.k c.requires.within c.in-Some.at
    (sym (c.place_at.ensures kept.0 (reverse c.args.entries.now) kept.1 kept.2 kept.3) ∙ c.in-Some.is)).within

pub unreachable-requires-in-None : goal.unreachable-requires-in-None
unreachable-requires-in-None c =
    let kept = c.requires.kept in
    let there =
    is_there c.args.entries.now c.args.m.now c.args.k c.requires.within c.in-Some.at
    (sym (c.place_at.ensures kept.0 (reverse c.args.entries.now) kept.1 kept.2 kept.3) ∙ c.in-Some.is) in
    let request = there.request c.at.result c.at.ensures in
    none-some request.0 (sym c.in-None.is ∙ c.ask_of.ensures ∙ request.1)

pub returns : goal.returns
returns c =
    let kept = c.requires.kept in
    let there =
    is_there c.args.entries.now c.args.m.now c.args.k c.requires.within c.in-Some.at
    (sym (c.place_at.ensures kept.0 (reverse c.args.entries.now) kept.1 kept.2 kept.3) ∙ c.in-Some.is) in
    let request = there.request c.at.result c.at.ensures in
    request.2 ∙ sym request.1 ∙ sym c.ask_of.ensures ∙ c.in-Some-ask_of.is
