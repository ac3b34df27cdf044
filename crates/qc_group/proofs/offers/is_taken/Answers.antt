-- A top is one's own, or one of those drawn.
use Rattle.std.proofs.Common.{Bool, ap, sym, rules, tests, ◌∙◌}
use Rattle.std.specs.Prelude.{◌||◌}
use Rattle.std.specs.List.{list_any}
use Rattle.std.proofs.lemmas.Iterator.{YieldsList-from_slice}
use Rattle.std.proofs.lemmas.Iterator.Search.{any_from_yields_List}
use Rattle.qc_event.specs.History.{same}
use Rattle.qc_group.specs.declared.waiting.Waiting.{Waiting}
use Rattle.qc_group.specs.Offers.{tops}
use Rattle.qc_group.proofs.Placing.{any_top}
use Rattle.qc_group.proofs.offers.is_taken.Goals as goal

pub returns-then-eq : goal.returns-then-eq
returns-then-eq g c = c.if-eq.true ∙ sym (ap (λ (b : Bool). b || list_any (same c.args.top.now) (tops c.args.drawn.now)) (sym c.eq.ensures ∙ c.if-eq.true))

pub returns-else-eq : goal.returns-else-eq
returns-else-eq g c =
    let is = λ (w : Waiting g.row.N.Denot g.N.Store). same c.args.top.now w.top in
    any_from_yields_List is _ _ c.any.result c.any.ensures.ran (YieldsList-from_slice c.args.drawn.now cc) (λ x b q k. search (rules, tests))
    ∙ (any_top c.args.top.now c.args.drawn.now
    ∙ sym (ap (λ (b : Bool). b || list_any (same c.args.top.now) (tops c.args.drawn.now)) (sym c.eq.ensures ∙ c.if-eq.false)))
