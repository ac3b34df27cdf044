-- The plans that a body, a session and a script are.
use Rattle.std.specs.Prelude.{List, [], ◌∷◌, map}
use Rattle.qc_event.specs.declared.event.Kind.TheVariants as kind
use Rattle.qc_script.specs.declared.script.Body.{Body, fold-Body}
use Rattle.qc_script.specs.declared.script.Script.{Script}
use Rattle.qc_script.specs.declared.script.Session.{Session}
use Rattle.qc_script.specs.declared.script.Step.{Step, fold-Step, Step-F}
use Rattle.qc_script.specs.declared.script.Step.TheOpen.{Body-F}
use Rattle.qc_script.specs.Plan.{Plan, Numbered, SessionPlan, ScriptPlan, manage_then, change_then, need_then, plus, minus, row_of}

-- a step, before the plan of the steps after it
abbrev pub before : Step-F (Plan → Plan) Numbered → Plan → Plan
before (Step-F.Read rec) rest = manage_then (kind.Read rec) rest
before (Step-F.Set rec value) rest = manage_then (kind.Write rec value) rest
before (Step-F.Add rec value) rest = change_then rec (λ old. plus old value) rest
before (Step-F.Sub rec value) rest = change_then rec (λ old. minus old value) rest
before (Step-F.Need rec value) rest = need_then rec value rest
before (Step-F.Reconf rec config) rest = manage_then (kind.Reconf rec config) rest
before (Step-F.Child body) rest = Plan.child_then body.number body.tries body.must body.plan rest
before (Step-F.Par bodies) rest = Plan.par_then (row_of bodies.items) rest
before (Step-F.Abort levels) rest = Plan.abort_then levels rest
before (Step-F.Crash copy) rest = Plan.crash_then copy rest
before (Step-F.Kill session) rest = Plan.kill_then session rest

abbrev pub all_before : List (Plan → Plan) → Plan
all_before [] = Plan.done
all_before (s ∷ steps) = s (all_before steps)

abbrev pub layer : Body-F (Plan → Plan) Numbered → Numbered
layer b = record { number = b.number; tries = b.tries; must = b.must; plan = all_before b.steps.items }

-- what a body is
abbrev pub numbered : Body → Numbered
numbered = fold-Body (Plan → Plan) Numbered before layer

-- the plan that a step and those after it make, from the plan of those after it
abbrev pub put : Step → Plan → Plan
put = fold-Step (Plan → Plan) Numbered before layer

-- the plan of steps
abbrev pub plan_of : List Step → Plan
plan_of [] = Plan.done
plan_of (s ∷ steps) = put s (plan_of steps)

-- what a session is
abbrev pub plan_of_session : Session → SessionPlan
plan_of_session s = record { fates = s.fates.items; hold = s.hold; tops = map numbered s.tops.items }

-- what a script is
abbrev pub plan_of_script : Script → ScriptPlan
plan_of_script s = record { table = s.table; patience = s.patience; sessions = map plan_of_session s.sessions.items }
