use Rattle.std.proofs.Common.{◌≡◌, map, drop}
use Rattle.serde_json.specs.View.{view}
use Rattle.qc_script.specs.ScriptText as script
use Rattle.qc_script.specs.Steps.{plan_of_session}
use Rattle.qc_script.proofs.Parts.{with_counted}
use Rattle.qc_script.proofs.reader.session.sessions_of.Given as goal

-- the sessions that are left decide
abbrev pub invariant-loop-value : goal.invariant-loop-value
invariant-loop-value l =
    with_counted (map plan_of_session l.sessions.items) (script.each_counted (script.session_of l.scope) l.next (map view (drop l.value-index l.list)))
    ≡ script.each_counted (script.session_of l.scope) 0 (map view l.list)
