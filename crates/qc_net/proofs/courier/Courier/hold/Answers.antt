-- Each due step leaves the request held last, or delivers it.
use Rattle.std.proofs.Common.{◌≡◌, ◌≢◌, ℕ, ◌+◌, ◌-◌, List, [], ◌∷◌, ◌++◌, length, inr, Option, Some, None, refl, sym, ap, ◌∙◌, subst, arith}
use Rattle.std.proofs.lemmas.List.Elements.{All-push, All-weaker, All-same}
use Rattle.std.proofs.lemmas.Result.{err_from_is_err_and}
use Rattle.qc_event.specs.declared.event.Ask.{Ask}
use Rattle.qc_event.specs.declared.event.Answered.{Answered}
use Rattle.qc_net.specs.Courier.{IsLeft}
use Rattle.qc_net.proofs.Left.{left-same, left-wider, behind-same, behind-mine, behind-stepped, held-some, all-stepped}
use Rattle.qc_net.proofs.Steps.{each-plan, anew-passed}
use Rattle.qc_net.proofs.Waits.{waits-begin, waits-step, wait-goes, wait-mine, wait-late}
use Rattle.qc_net.proofs.courier.Courier.hold.Goals as goal
use Rattle.qc_net.proofs.courier.Courier.hold.Goals.{in-Some+else-place-last, in_default}

pub loop-init : goal.loop-init
loop-init g c =
    let Gave = (g.P.Port.view c.args.port.now).gave in
    let May = (g.P.Port.view c.args.port.now).may in
    let held = c.args.self.now.held.items in
    let mine = c.args.ask.now in
    let pushed : c.add.new.items.items ≡ held ++ mine ∷ [] = c.add.ensures in
    let whole : c.args.patience - 0 ≡ c.args.patience = omega arith in
    record {
      behind = (held, pushed, left-same Gave held);
      allowed = All-same May _ _ pushed (All-push May held mine c.requires.held c.requires.ask);
      may = λ other is. is;
      gave = λ other answer is. is;
      became = g.met.P.Port.became_itself c.args.port.now;
      plan = refl;
      counts = refl;
      told = λ first told. rw (whole, pushed) (waits-begin Gave c.args.patience _ (held ++ mine ∷ []) _ first told);
    }

pub overflow_sub-last : goal.overflow_sub-last
overflow_sub-last g c =
    let some = held-some _ _ _ c.loop.self.held.items c.loop.invariant.behind in
    omega (arith, some, c.len-last.ensures)

pub due_step-requires : goal.due_step-requires
due_step-requires g c = c.loop.invariant.allowed

pub returns-in_err-place-clause-held : goal.returns-in_err-place-clause-held
returns-in_err-place-clause-held g c =
    let p = err_from_is_err_and c.from_residual.result c.from_residual.ensures.1 in
    let same : c.due_step.new.self.held.items ≡ c.loop.self.held.items = c.in_err-place.ensures.held_err in
    rw (p.1) (inr (behind-same (g.P.Port.view c.loop.port).gave (g.P.Port.view c.due_step.new.port).gave c.due_step.ensures.gave _ _ c.loop.self.held.items _ same c.loop.invariant.behind))

pub returns-in_err-place-clause-allowed : goal.returns-in_err-place-clause-allowed
returns-in_err-place-clause-allowed g c =
    let Mays = (g.P.Port.view c.due_step.new.port).may in
    let same : c.due_step.new.self.held.items ≡ c.loop.self.held.items = c.in_err-place.ensures.held_err in
    All-same Mays _ _ same (All-weaker (g.P.Port.view c.loop.port).may Mays c.due_step.ensures.may c.loop.self.held.items c.loop.invariant.allowed)

pub returns-in_err-place-clause-may : goal.returns-in_err-place-clause-may
returns-in_err-place-clause-may g c = λ other is. c.due_step.ensures.may other (c.loop.invariant.may other is)

pub returns-in_err-place-clause-gave : goal.returns-in_err-place-clause-gave
returns-in_err-place-clause-gave g c = λ other answer is. c.due_step.ensures.gave other answer (c.loop.invariant.gave other answer is)

pub returns-in_err-place-clause-became : goal.returns-in_err-place-clause-became
returns-in_err-place-clause-became g c = g.met.P.Port.became_by_both _ _ _ c.loop.invariant.became c.due_step.ensures.became

pub returns-in_err-place-clause-plan : goal.returns-in_err-place-clause-plan
returns-in_err-place-clause-plan g c = anew-passed _ _ c.due_step.ensures.plan ∙ c.loop.invariant.plan

pub returns-in_err-place-clause-counts : goal.returns-in_err-place-clause-counts
returns-in_err-place-clause-counts g c = c.due_step.ensures.counts ∙ c.loop.invariant.counts

pub returns-then-place-last-clause-told : goal.returns-then-place-last-clause-told
returns-then-place-last-clause-told g c =
    let last : c.in-Some.place ≡ length c.loop.self.held.items - 1 = omega (arith, c.if-place-last.true, c.len-last.ensures) in
    each-plan _ _ (λ first told.
    let waits = c.loop.invariant.told first told in
    let due = rw (waits.told) at c.in_ok-place.ensures.place in
    wait-mine _ _ _ waits.current _ _ _ _ _ _ c.in_ok-place.field-0 c.in_ok-place.ensures.stepped _ _ c.in-Some.is due last
    (waits-step _ _ c.due_step.ensures.gave _ _ (c.args.patience - (c.loop.counter + 1)) (omega (arith, c.loop-test.true)) _ _ _ _ _ _ _ waits c.due_step.ensures.plan c.in_ok-place.field-0 c.in_ok-place.ensures.stepped c.in_ok-place.ensures.place))

pub returns-then-place-last-clause-answered : goal.returns-then-place-last-clause-answered
returns-then-place-last-clause-answered g c =
    let last : c.in-Some.place ≡ length c.loop.self.held.items - 1 = omega (arith, c.if-place-last.true, c.len-last.ensures) in
    let stepped = rw c.in-Some.is at c.in_ok-place.ensures.stepped in
    let mine = behind-mine _ _ c.args.ask.now c.loop.self.held.items c.in-Some.place stepped.0 c.loop.invariant.behind stepped.1 last in
    subst (λ (a : Ask). (g.P.Port.view c.due_step.new.port).gave a c.in-Some.answer) mine.0 stepped.3

pub returns-then-place-last-clause-held : goal.returns-then-place-last-clause-held
returns-then-place-last-clause-held g c =
    let Gives = (g.P.Port.view c.due_step.new.port).gave in
    let held = c.args.self.now.held.items in
    let last : c.in-Some.place ≡ length c.loop.self.held.items - 1 = omega (arith, c.if-place-last.true, c.len-last.ensures) in
    let stepped = rw c.in-Some.is at c.in_ok-place.ensures.stepped in
    let mine = behind-mine _ _ c.args.ask.now c.loop.self.held.items c.in-Some.place stepped.0 c.loop.invariant.behind stepped.1 last in
    subst (λ (now : List Ask). IsLeft Gives held now) (sym stepped.2) (left-wider (g.P.Port.view c.loop.port).gave Gives c.due_step.ensures.gave held _ mine.1)

pub returns-then-place-last-clause-allowed : goal.returns-then-place-last-clause-allowed
returns-then-place-last-clause-allowed g c =
    all-stepped (g.P.Port.view c.due_step.new.port).gave (g.P.Port.view c.loop.port).may (g.P.Port.view c.due_step.new.port).may c.due_step.ensures.may c.loop.self.held.items c.due_step.new.self.held.items _ _ c.in_ok-place.field-0 c.in_ok-place.ensures.stepped c.loop.invariant.allowed

pub returns-then-place-last-clause-may : goal.returns-then-place-last-clause-may
returns-then-place-last-clause-may g c = λ other is. c.due_step.ensures.may other (c.loop.invariant.may other is)

pub returns-then-place-last-clause-gave : goal.returns-then-place-last-clause-gave
returns-then-place-last-clause-gave g c = λ other answer is. c.due_step.ensures.gave other answer (c.loop.invariant.gave other answer is)

pub returns-then-place-last-clause-became : goal.returns-then-place-last-clause-became
returns-then-place-last-clause-became g c = g.met.P.Port.became_by_both _ _ _ c.loop.invariant.became c.due_step.ensures.became

pub returns-then-place-last-clause-plan : goal.returns-then-place-last-clause-plan
returns-then-place-last-clause-plan g c = anew-passed _ _ c.due_step.ensures.plan ∙ c.loop.invariant.plan

pub returns-then-place-last-clause-counts : goal.returns-then-place-last-clause-counts
returns-then-place-last-clause-counts g c = c.due_step.ensures.counts ∙ c.loop.invariant.counts

abbrev place_in : Option (ℕ × Answered) → ℕ
place_in (Some (place, answer)) = place
place_in None = 0

pub loop-preserved : goal.loop-preserved
loop-preserved g c =
    let Gives = (g.P.Port.view c.due_step.new.port).gave in
    let step = c.in_ok-place.field-0 in
    let stepped = c.in_ok-place.ensures.stepped in
    let other : (place : ℕ) (answer : Answered) → step ≡ Some (place, answer) → place ≢ length c.loop.self.held.items - 1 = elim c.match-branch-2.branch [
      | in-Some+else-place-last w ↦ λ place answer is last.
          let same = ap place_in (sym w.in-Some.is ∙ is) in
          w.if-place-last.false (omega (arith, same, last, c.len-last.ensures))
      | in_default w ↦ λ place answer is last. w.in_default.not-Some (place, answer) is
    ] in
    let behind = behind-stepped (g.P.Port.view c.loop.port).gave Gives c.due_step.ensures.gave _ c.args.ask.now c.loop.self.held.items c.due_step.new.self.held.items _ _ c.loop.invariant.behind step stepped other in
    record {
      behind = behind;
      allowed = all-stepped Gives (g.P.Port.view c.loop.port).may (g.P.Port.view c.due_step.new.port).may c.due_step.ensures.may _ _ _ _ step stepped c.loop.invariant.allowed;
      may = λ ask is. c.due_step.ensures.may ask (c.loop.invariant.may ask is);
      gave = λ ask answer is. c.due_step.ensures.gave ask answer (c.loop.invariant.gave ask answer is);
      became = g.met.P.Port.became_by_both _ _ _ c.loop.invariant.became c.due_step.ensures.became;
      plan = anew-passed _ _ c.due_step.ensures.plan ∙ c.loop.invariant.plan;
      counts = c.due_step.ensures.counts ∙ c.loop.invariant.counts;
      told = λ first told. wait-goes _ _ _ _ _ _ _ _
          (waits-step _ _ c.due_step.ensures.gave _ _ (c.args.patience - (c.loop.counter + 1)) (omega (arith, c.loop-test.true)) _ _ _ _ _ _ _ (c.loop.invariant.told first told) c.due_step.ensures.plan step stepped c.in_ok-place.ensures.place)
          (held-some _ _ _ c.due_step.new.self.held.items behind);
    }

pub returns-clause-told : goal.returns-clause-told
returns-clause-told g c =
    each-plan _ _ (λ first told. wait-late _ _ (c.args.patience - c.loop.counter) _ _ _ _ (c.loop.invariant.told first told) (omega (arith, c.loop-test.false)))

pub returns-clause-held : goal.returns-clause-held
returns-clause-held g c = c.loop.invariant.behind

pub returns-clause-allowed : goal.returns-clause-allowed
returns-clause-allowed g c = c.loop.invariant.allowed

pub returns-clause-may : goal.returns-clause-may
returns-clause-may g c = c.loop.invariant.may

pub returns-clause-gave : goal.returns-clause-gave
returns-clause-gave g c = c.loop.invariant.gave

pub returns-clause-became : goal.returns-clause-became
returns-clause-became g c = c.loop.invariant.became

pub returns-clause-plan : goal.returns-clause-plan
returns-clause-plan g c = c.loop.invariant.plan

pub returns-clause-counts : goal.returns-clause-counts
returns-clause-counts g c = c.loop.invariant.counts
