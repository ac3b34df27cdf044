-- The plans of bodies and of steps, one step at a time.
use Rattle.std.proofs.Common.{◌≡◌, ℕ, zero, suc, ◌+◌, ◌<◌, ◌≤◌, arith, Bool, true, false, drop, List, [], ◌∷◌, length, get_or, sym, ap, ◌∙◌, subst, Vec, Global, add-one, drop-cons}
use Rattle.std.specs.Prelude.{Option, None, Some, if◌then◌else◌, map}
use Rattle.qc_config.specs.Config.{Voting}
use Rattle.qc_config.specs.Val.{Datum}
use Rattle.qc_event.specs.declared.event.Answer.TheVariants as answer
use Rattle.qc_event.specs.declared.event.Kind.TheVariants as kind
use Rattle.qc_event.specs.Base.{Setting}
use Rattle.qc_script.specs.declared.script.Body.{Body, out-Body, fold_out-Body}
use Rattle.qc_script.specs.declared.script.Step.{Step, Step-F, map-Step, out-Step, fold-roll-Step, fold_out-Step}
use Rattle.qc_script.specs.declared.script.Step.TheVariants as step
use Rattle.qc_script.specs.Plan.{Plan, Numbered, PlanFits, manage_then, change_then, need_then, number_in, is_enough, write_changed, plus, minus, row_of}
use Rattle.qc_script.proofs.Plans.{all_before-map}
use Rattle.qc_script.specs.Steps.{before, layer, numbered, put, plan_of}

-- a body's plan is the plan of its steps
pub numbered_is : (b : Body) → numbered b ≡ record { number = (out-Body b).number; tries = (out-Body b).tries; must = (out-Body b).must; plan = plan_of (out-Body b).steps.items }
numbered_is b =
    fold_out-Body (Plan → Plan) Numbered before layer b ∙
    ap (λ p. let n : Numbered = record { number = (out-Body b).number; tries = (out-Body b).tries; must = (out-Body b).must; plan = p } in n) (all_before-map (out-Body b).steps.items)

pub plan_is : (b : Body) (steps : List Step) → steps ≡ (out-Body b).steps.items → plan_of steps ≡ (numbered b).plan
plan_is b steps taken = ap plan_of taken ∙ sym (ap (λ (n : Numbered). n.plan) (numbered_is b))

pub tries_of : (b : Body) → (numbered b).tries ≡ (out-Body b).tries
tries_of b = ap (λ (n : Numbered). n.tries) (numbered_is b)

pub number_of : (b : Body) → (numbered b).number ≡ (out-Body b).number
number_of b = ap (λ (n : Numbered). n.number) (numbered_is b)

pub must_of : (b : Body) → (numbered b).must ≡ (out-Body b).must
must_of b = ap (λ (n : Numbered). n.must) (numbered_is b)

-- what each step is
pub put_read : (rec : ℕ) → put (step.Read rec) ≡ manage_then (kind.Read rec)
put_read rec = ap put (sym (step.rolls-Read rec)) ∙ fold-roll-Step (Plan → Plan) Numbered before layer (Step-F.Read rec)

pub put_set : (rec : ℕ) (value : Datum) → put (step.Set rec value) ≡ manage_then (kind.Write rec value)
put_set rec value = ap put (sym (step.rolls-Set rec value)) ∙ fold-roll-Step (Plan → Plan) Numbered before layer (Step-F.Set rec value)

pub put_add : (rec value : ℕ) → put (step.Add rec value) ≡ change_then rec (λ old. plus old value)
put_add rec value = ap put (sym (step.rolls-Add rec value)) ∙ fold-roll-Step (Plan → Plan) Numbered before layer (Step-F.Add rec value)

pub put_sub : (rec value : ℕ) → put (step.Sub rec value) ≡ change_then rec (λ old. minus old value)
put_sub rec value = ap put (sym (step.rolls-Sub rec value)) ∙ fold-roll-Step (Plan → Plan) Numbered before layer (Step-F.Sub rec value)

pub put_need : (rec value : ℕ) → put (step.Need rec value) ≡ need_then rec value
put_need rec value = ap put (sym (step.rolls-Need rec value)) ∙ fold-roll-Step (Plan → Plan) Numbered before layer (Step-F.Need rec value)

pub put_reconf : (rec : ℕ) (config : Voting) → put (step.Reconf rec config) ≡ manage_then (kind.Reconf rec config)
put_reconf rec config = ap put (sym (step.rolls-Reconf rec config)) ∙ fold-roll-Step (Plan → Plan) Numbered before layer (Step-F.Reconf rec config)

pub put_child : (b : Body) → put (step.Child b) ≡ Plan.child_then (numbered b).number (numbered b).tries (numbered b).must (numbered b).plan
put_child b = ap put (sym (step.rolls-Child b)) ∙ fold-roll-Step (Plan → Plan) Numbered before layer (Step-F.Child b)

pub put_par : (bodies : Vec Body Global) → put (step.Par bodies) ≡ Plan.par_then (row_of (map numbered bodies.items))
put_par bodies = ap put (sym (step.rolls-Par bodies)) ∙ fold-roll-Step (Plan → Plan) Numbered before layer (Step-F.Par bodies)

pub put_abort : (levels : ℕ) → put (step.Abort levels) ≡ Plan.abort_then levels
put_abort levels = ap put (sym (step.rolls-Abort levels)) ∙ fold-roll-Step (Plan → Plan) Numbered before layer (Step-F.Abort levels)

pub put_crash : (copy : ℕ) → put (step.Crash copy) ≡ Plan.crash_then copy
put_crash copy = ap put (sym (step.rolls-Crash copy)) ∙ fold-roll-Step (Plan → Plan) Numbered before layer (Step-F.Crash copy)

pub put_kill : (session : ℕ) → put (step.Kill session) ≡ Plan.kill_then session
put_kill session = ap put (sym (step.rolls-Kill session)) ∙ fold-roll-Step (Plan → Plan) Numbered before layer (Step-F.Kill session)

-- a number that falls from the tries of a child to each of them, from a body to its steps, and from steps to each
abbrev pub weight : Plan → ℕ
weight Plan.done = 0
weight (Plan.manage_by k next) = weight (next answer.Nothing)
weight (Plan.child_then number tries must inner rest) = weight inner + weight rest + 5
weight (Plan.par_then branches rest) = weight branches + weight rest + 5
weight (Plan.abort_then levels rest) = weight rest
weight (Plan.crash_then copy rest) = weight rest
weight (Plan.kill_then session rest) = weight rest

-- one step as it is open
layered : (s : Step) → put s ≡ before (map-Step Step Body (Plan → Plan) Numbered put numbered (out-Step s))
layered s = fold_out-Step (Plan → Plan) Numbered before layer s

lighter : (s : Step-F (Plan → Plan) Numbered) (rest : Plan) → weight rest ≤ weight (before s rest)
lighter (Step-F.Read rec) rest = omega arith
lighter (Step-F.Set rec value) rest = omega arith
lighter (Step-F.Add rec value) rest = omega arith
lighter (Step-F.Sub rec value) rest = omega arith
lighter (Step-F.Need rec value) rest = omega arith
lighter (Step-F.Reconf rec config) rest = omega arith
lighter (Step-F.Child body) rest = omega arith
lighter (Step-F.Par bodies) rest = omega arith
lighter (Step-F.Abort levels) rest = omega arith
lighter (Step-F.Crash copy) rest = omega arith
lighter (Step-F.Kill session) rest = omega arith

alone : (s : Step-F (Plan → Plan) Numbered) (rest : Plan) → weight (before s Plan.done) ≤ weight (before s rest)
alone (Step-F.Read rec) rest = omega arith
alone (Step-F.Set rec value) rest = omega arith
alone (Step-F.Add rec value) rest = omega arith
alone (Step-F.Sub rec value) rest = omega arith
alone (Step-F.Need rec value) rest = omega arith
alone (Step-F.Reconf rec config) rest = omega arith
alone (Step-F.Child body) rest = omega arith
alone (Step-F.Par bodies) rest = omega arith
alone (Step-F.Abort levels) rest = omega arith
alone (Step-F.Crash copy) rest = omega arith
alone (Step-F.Kill session) rest = omega arith

pub rest_lighter : (j : ℕ) (steps : List Step) → weight (plan_of (drop j steps)) ≤ weight (plan_of steps)
rest_lighter zero steps = omega arith
rest_lighter (suc j) [] = omega arith
rest_lighter (suc j) (s ∷ steps) =
    let l = map-Step Step Body (Plan → Plan) Numbered put numbered (out-Step s) in
    omega (arith, rest_lighter j steps, ap (λ f. weight (f (plan_of steps))) (layered s), lighter l (plan_of steps))

split : (steps : List Step) (i : ℕ) (s : Step) → i < length steps → s ≡ get_or steps i s → drop i steps ≡ s ∷ drop (i + 1) steps
split steps i s below is = rw add-one (drop-cons steps i s below ∙ ap (λ y. y ∷ drop (suc i) steps) (sym is))

pub plan_at : (steps : List Step) (i : ℕ) (s : Step) → i < length steps → s ≡ get_or steps i s → plan_of (drop i steps) ≡ put s (plan_of (drop (i + 1) steps))
plan_at steps i s below is = ap plan_of (split steps i s below is)

pub step_lighter : (steps : List Step) (i : ℕ) (s : Step) → i < length steps → s ≡ get_or steps i s → weight (put s Plan.done) ≤ weight (plan_of steps)
step_lighter steps i s below is =
    let l = map-Step Step Body (Plan → Plan) Numbered put numbered (out-Step s) in
    let rest = plan_of (drop (i + 1) steps) in
    omega (arith, rest_lighter i steps, ap weight (plan_at steps i s below is), ap (λ f. weight (f rest)) (layered s), ap (λ f. weight (f Plan.done)) (layered s), alone l rest)

-- what fits whether there was a number or not
changed_alone : (setting : Setting) (depth rec : ℕ) (changed : ℕ → ℕ) (rest : Plan) (o : Option ℕ) → PlanFits setting depth (write_changed rec changed rest o) → PlanFits setting depth (write_changed rec changed Plan.done o)
changed_alone setting depth rec changed rest None h = (h.0, tt)
changed_alone setting depth rec changed rest (Some n) h = (h.0, λ done. tt)

-- what fits whether a value was enough or not
either_alone : (setting : Setting) (depth : ℕ) (enough : Bool) (rest : Plan) → PlanFits setting depth (if enough then rest else Plan.abort_then 0 rest) → PlanFits setting depth (if enough then Plan.done else Plan.abort_then 0 Plan.done)
either_alone setting depth true rest h = tt
either_alone setting depth false rest h = (h.0, tt)

fits_layer : (setting : Setting) (depth : ℕ) (s : Step-F (Plan → Plan) Numbered) (rest : Plan) → PlanFits setting depth (before s rest) → PlanFits setting depth (before s Plan.done) × PlanFits setting depth rest
fits_layer setting depth (Step-F.Read rec) rest h = ((h.0, λ given. tt), h.1 answer.Nothing)
fits_layer setting depth (Step-F.Set rec value) rest h = ((h.0, λ given. tt), h.1 answer.Nothing)
fits_layer setting depth (Step-F.Add rec value) rest h = ((h.0, λ given. changed_alone setting depth rec (λ old. plus old value) rest (number_in given) (h.1 given)), (h.1 answer.Nothing).1)
fits_layer setting depth (Step-F.Sub rec value) rest h = ((h.0, λ given. changed_alone setting depth rec (λ old. minus old value) rest (number_in given) (h.1 given)), (h.1 answer.Nothing).1)
fits_layer setting depth (Step-F.Need rec value) rest h = ((h.0, λ given. either_alone setting depth (is_enough value given) rest (h.1 given)), (h.1 answer.Nothing).1)
fits_layer setting depth (Step-F.Reconf rec config) rest h = ((h.0, λ given. tt), h.1 answer.Nothing)
fits_layer setting depth (Step-F.Child body) rest h = ((h.0, h.1, h.2, tt), h.3)
fits_layer setting depth (Step-F.Par bodies) rest h = ((h.0, h.1, h.2, h.3, tt, h.5), h.4)
fits_layer setting depth (Step-F.Abort levels) rest h = ((h.0, tt), h.1)
fits_layer setting depth (Step-F.Crash copy) rest h = ((h.0, tt), h.1)
fits_layer setting depth (Step-F.Kill session) rest h = ((h.0, tt), h.1)

pub fits_at : (setting : Setting) (depth : ℕ) (steps : List Step) (i : ℕ) (s : Step) → i < length steps → s ≡ get_or steps i s → PlanFits setting depth (plan_of (drop i steps)) → PlanFits setting depth (put s Plan.done) × PlanFits setting depth (plan_of (drop (i + 1) steps))
fits_at setting depth steps i s below is h =
    let l = map-Step Step Body (Plan → Plan) Numbered put numbered (out-Step s) in
    let rest = plan_of (drop (i + 1) steps) in
    let f = fits_layer setting depth l rest (subst (λ p. PlanFits setting depth p) (plan_at steps i s below is ∙ ap (λ f. f rest) (layered s)) h) in
    (subst (λ p. PlanFits setting depth p) (sym (ap (λ f. f Plan.done) (layered s))) f.0, f.1)
