-- Room is made, which changes nothing that is held; then a due step, and then the request meets its fate.
use Rattle.std.proofs.Common.{◌≡◌, List, inl, sym, ap, ◌∙◌, subst, length}
use Rattle.std.specs.Prelude.{option_map}
use Rattle.std.proofs.lemmas.List.Elements.{All-same}
use Rattle.qc_event.specs.declared.event.Ask.{Ask}
use Rattle.qc_net.specs.Plan.{due_in, asked, passed}
use Rattle.qc_net.specs.Courier.{IsLeft, Stepped}
use Rattle.qc_net.proofs.Left.{left-same, left-wider, left-err, left-stepped, held-after, all-stepped}
use Rattle.qc_net.proofs.Steps.{each-plan}
use Rattle.qc_net.proofs.Sendings.{sends, sends-ok}
use Rattle.qc_net.proofs.courier.Courier.send.Goals as goal

pub returns-then-is_err-clause-held : goal.returns-then-is_err-clause-held
returns-then-is_err-clause-held g c =
    let Gave = (g.P.Port.view c.args.port.now).gave in
    let held = c.args.self.now.held.items in
    inl (subst (λ (now : List Ask). IsLeft Gave held now) (sym c.reserve.ensures.items) (left-same Gave held))

pub returns-in_err-due_step-clause-held : goal.returns-in_err-due_step-clause-held
returns-in_err-due_step-clause-held g c =
    let Gives = (g.P.Port.view c.due_step.new.port).gave in
    let held = c.args.self.now.held.items in
    let same : c.due_step.new.self.held.items ≡ held = c.in_err-due_step.ensures.held_err ∙ c.reserve.ensures.items in
    left-err _ _ _ _ _ _ c.from_residual.ensures.1 (inl (subst (λ (now : List Ask). IsLeft Gives held now) (sym same) (left-same Gives held)))

pub meet-requires-clause-held : goal.meet-requires-clause-held
meet-requires-clause-held g c =
    let May = (g.P.Port.view c.args.port.now).may in
    let kept = All-same May c.reserve.new.self.items c.args.self.now.held.items c.reserve.ensures.items c.requires.held in
    all-stepped (g.P.Port.view c.due_step.new.port).gave May (g.P.Port.view c.due_step.new.port).may c.due_step.ensures.may _ _ _ _ c.in_ok-due_step.field-0 c.in_ok-due_step.ensures.stepped kept

pub returns-clause-held : goal.returns-clause-held
returns-clause-held g c =
    let Gives = (g.P.Port.view c.due_step.new.port).gave in
    let held = c.args.self.now.held.items in
    let step = c.in_ok-due_step.field-0 in
    let stepped = subst (λ (h : List Ask). Stepped Gives h c.due_step.new.self.held.items (g.P.Port.view c.args.port.now).made (g.P.Port.view c.due_step.new.port).made step) c.reserve.ensures.items c.in_ok-due_step.ensures.stepped in
    let left = left-stepped Gives held c.due_step.new.self.held.items _ _ step stepped in
    held-after _ held _ _ _ _ (left-wider _ _ c.meet.ensures.gave held _ left) c.meet.ensures.held

pub returns-clause-told : goal.returns-clause-told
returns-clause-told g c =
    let Gives = (g.P.Port.view c.due_step.new.port).gave in
    let step = c.in_ok-due_step.field-0 in
    let stepped = subst (λ (h : List Ask). Stepped Gives h c.due_step.new.self.held.items (g.P.Port.view c.args.port.now).made (g.P.Port.view c.due_step.new.port).made step) c.reserve.ensures.items c.in_ok-due_step.ensures.stepped in
    each-plan _ _ (λ first told.
    let due_plan = c.due_step.ensures.plan ∙ ap (option_map passed) told in
    let fate_plan = c.fate-fate.ensures.plan ∙ ap (option_map asked) due_plan in
    let fate_is = rw due_plan at c.fate-fate.ensures.told in
    let place_before = rw told at c.in_ok-due_step.ensures.place in
    let place = subst (λ (h : List Ask). option_map (λ s. s.0) step ≡ due_in first (length h)) c.reserve.ensures.items place_before in
    let meets = rw fate_plan at c.meet.ensures.told in
    sends-ok c.meet.result _ _ (λ sent is. sends Gives _ c.meet.ensures.gave first _ _ _ _ step stepped place c.fate-fate.result fate_is c.args.ask.now c.args.patience _ _ _ sent is) meets)
