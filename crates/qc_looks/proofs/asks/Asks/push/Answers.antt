use Rattle.std.proofs.Common.{◌++◌, ◌∷◌, [], sym, ap, ◌∙◌}
use Rattle.std.proofs.lemmas.Result.{on_ok_weaker}
use Rattle.qc_looks.specs.Asks.{listed}
use Rattle.qc_looks.proofs.Asking.{none_more, placed_before, has_place, one_more}
use Rattle.qc_looks.proofs.asks.Asks.push.Goals as goal

pub returns-in_default : goal.returns-in_default
returns-in_default c = λ setting past was names legal at.
    none_more setting c.args.entry.now past c.args.self.now.lists.items was legal (sym c.manager_of.ensures ∙ c.in_default.is)

pub returns-in_default-place : goal.returns-in_default-place
returns-in_default-place c = λ setting past was names legal at.
    let e = c.args.entry.now in
    absurd (has_place setting e past c.args.self.now.lists.items was legal c.in-Some.manager (sym c.manager_of.ensures ∙ c.in-Some.is)
    (sym (c.place.ensures.place setting (e ∷ past) names legal) ∙ c.in_default-place.is))

pub returns : goal.returns
returns c =
    on_ok_weaker c.append.result (λ here setting past was names legal at.
    let e = c.args.entry.now in
    let lists = c.args.self.now.lists.items in
    let manager = c.in-Some.manager in
    let place = c.in-Some-place.place in
    let is = sym c.manager_of.ensures ∙ c.in-Some.is in
    one_more setting e past lists was legal manager is place _
    (placed_before setting e past lists was legal manager is place (sym (c.place.ensures.place setting (e ∷ past) names legal) ∙ c.in-Some-place.is))
    (here ∙ ap (λ xs. xs ++ c.args.at ∷ []) (c.reach.ensures.same place) ∙ ap (λ n. listed lists place ++ n ∷ []) at)
    (λ i other. c.append.ensures.others i other ∙ c.reach.ensures.same i)) c.append.ensures.here
