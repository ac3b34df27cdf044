-- What the sessions leave, once their system is taken apart.
use Rattle.std.specs.Prelude.{ℕ, Result, Ok, Err, OnOk}
use Rattle.std.proofs.Common.{◌≡◌, []}
use Rattle.qc_event.specs.Base.{Setting}
use Rattle.qc_event.specs.declared.short.Short.{Short}
use Rattle.qc_event.specs.History.{Past}
use Rattle.qc_event.specs.Legal.{Legal}
use Rattle.qc_interp.specs.FollowsScript.{BeginsScript, FollowsScript}
use Rattle.qc_interp.specs.Reach.{Reach}
use Rattle.qc_desk.specs.declared.view.View.{View}
use Rattle.qc_desk.specs.Entries.{IsOlder}
use Rattle.qc_desk.specs.Rules.{IsSettled}
use Rattle.qc_script.specs.Plan.{ScriptPlan}
use Rattle.qc_session.specs.Session.{HaveRun, RanEach}
use Rattle.qc_session.proofs.Ran.{script_runs}

module _ (setting : Setting) (epoch : ℕ) (plan : ScriptPlan) (first back : View) (none : first.kin ≡ []) (final : Past) (legal : Legal setting final) (older : IsOlder back.seen final) (settled : IsSettled final back) where
  follows : (r : Result (Unit {0}) Short) → RanEach setting epoch plan.patience 0 plan.sessions first r back → OnOk r (HaveRun Reach.to_the_end setting epoch plan.patience 0 plan.sessions first back) → OnOk r (FollowsScript epoch plan.patience plan.sessions final)
  follows (Ok done) ran h = script_runs Reach.to_the_end setting epoch plan.patience final legal back older settled plan.sessions first none ran.first h
  follows (Err why) ran h = tt

  -- what came to its end follows the script
  pub followed : (r : Result (Unit {0}) Short) → RanEach setting epoch plan.patience 0 plan.sessions first r back → OnOk r (FollowsScript epoch plan.patience plan.sessions final)
  followed r ran = follows r ran ran.follows

  -- what was cut off is a beginning of it
  pub begun : (r : Result (Unit {0}) Short) → RanEach setting epoch plan.patience 0 plan.sessions first r back → BeginsScript epoch plan.patience plan.sessions final
  begun r ran = script_runs Reach.cut_off setting epoch plan.patience final legal back older settled plan.sessions first none ran.first ran.begins
