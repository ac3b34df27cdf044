use Rattle.std.proofs.Common.{◌≡◌, List, sym, subst, ap, ◌∙◌}
use Rattle.qc_event.specs.declared.table.Row.{Row}
use Rattle.qc_script.specs.MadePlan.{made_plan}
use Rattle.qc_script.specs.Plan.{SessionPlan, ScriptPlan}
use Rattle.qc_script.specs.Reading.{IsProper}
use Rattle.qc_script.proofs.ProperMade.{made_proper}
use Rattle.qc_script.proofs.script.Script.made.Goals as goal

-- a script of these records and sessions
abbrev over : List Row → List SessionPlan → ScriptPlan
over records sessions = record { table = record { copies = 5; records = records }; patience = 4; sessions = sessions }

same : (records others : List Row) (sessions later : List SessionPlan) → records ≡ others → sessions ≡ later → over records sessions ≡ over others later
same records others sessions later a b = ap (λ rows. over rows sessions) a ∙ ap (over others) b

pub returns-clause-made : goal.returns-clause-made
unfolding made_plan
returns-clause-made c = same _ _ _ _ (c.new-records.ensures ∙ c.in_ok-made_rows.ensures) c.in_ok-sessions.ensures

pub returns-clause-proper : goal.returns-clause-proper
returns-clause-proper c = subst IsProper (sym (returns-clause-made c)) (made_proper c.args.seed)
