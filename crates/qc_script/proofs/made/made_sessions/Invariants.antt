use Rattle.std.proofs.Common.{◌≡◌, map}
use Rattle.std.specs.List.{range_with_len}
use Rattle.qc_script.specs.MadePlan.{made_session}
use Rattle.qc_script.specs.Steps.{plan_of_session}
use Rattle.qc_script.proofs.made.made_sessions.Given as goal

-- the sessions so far
abbrev pub invariant-loop-session : goal.invariant-loop-session
invariant-loop-session l = map plan_of_session l.sessions.items ≡ map (made_session l.seed) (range_with_len 0 l.session)
