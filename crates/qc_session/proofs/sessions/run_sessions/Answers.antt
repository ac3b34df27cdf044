-- What the sessions leave, once their system is taken apart.
use Rattle.std.proofs.Common.{◌≡◌, false, refl, sym, subst, reverse}
use mathlib.Core.Bool.{true≢false}
use Rattle.std.specs.Prelude.{Result, Ok, Err, IsOk, OnOk}
use Rattle.qc_event.specs.Tables.{setting_of}
use Rattle.qc_interp.specs.Reach.{Reach}
use Rattle.qc_interp.proofs.Sessions.FromStart.{begins_none}
use Rattle.qc_interp.specs.FollowsScript.{BeginsScript}
use Rattle.qc_event.specs.History.{Past}
use Rattle.qc_script.specs.Steps.{plan_of_script}
use Rattle.qc_session.specs.Session.{RanEach}
use Rattle.qc_session.proofs.Closed.{first_closes}
use Rattle.qc_session.proofs.Followed.{begun, followed}
use Rattle.qc_session.proofs.Ran.{full_still}
use Rattle.qc_system.proofs.Settled.{kept_where}
use Rattle.qc_session.proofs.sessions.run_sessions.Goals as goal

-- what holds where sessions came to their end
module _ {A E : Type 0} {P : Type 0} where
  from_ok : (r : Result A E) → IsOk r → OnOk r P → P
  from_ok (Ok a) ok p = p
  from_ok (Err e) ok p = absurd (true≢false (sym ok))

  on_ok : (r : Result A E) → (IsOk r → P) → OnOk r P
  on_ok (Ok a) p = p refl
  on_ok (Err e) p = tt

pub finish-start-requires : goal.finish-start-requires
finish-start-requires g c =
    let setting = setting_of g.N.Store.table g.N.Store.base in
    let epoch = c.args.system.desk.epoch in
    let plan = plan_of_script c.args.script.now in
    let ran : RanEach setting epoch plan.patience 0 plan.sessions c.args.first c.run_over-ran.result.0 c.run_over-ran.result.1 =
    c.run_over-ran.ensures in
    record { first = first_closes Reach.cut_off setting epoch plan.patience plan.sessions c.args.first c.run_over-ran.result.1 c.requires.first ran.first ran.begins; others = c.requires.others }

pub returns-in-Err-clause-begins : goal.returns-in-Err-clause-begins
returns-in-Err-clause-begins g c =
    let plan = plan_of_script c.args.script.now in
    subst (λ (items : Past). BeginsScript c.args.system.desk.epoch plan.patience plan.sessions (reverse items)) (sym c.none_ran.ensures.nothing) (begins_none c.args.system.desk.epoch plan.patience plan.sessions)

pub returns-clause-follows : goal.returns-clause-follows
returns-clause-follows g c =
    let setting = setting_of g.N.Store.table g.N.Store.base in
    let epoch = c.args.system.desk.epoch in
    let plan = plan_of_script c.args.script.now in
    let ran : RanEach setting epoch plan.patience 0 plan.sessions c.args.first c.run_over-ran.result.0 c.run_over-ran.result.1 =
    c.run_over-ran.ensures in
    let follows = followed setting epoch plan c.args.first c.run_over-ran.result.1 c.requires.first.kin (reverse c.finish-start.result.1) c.finish-start.ensures.legal c.finish-start.ensures.seen c.finish-start.ensures.settled c.run_over-ran.result.0 ran in
    on_ok c.told_of.result (λ ok. from_ok c.run_over-ran.result.0 (subst (λ r. IsOk r) (c.told_of.ensures.same (c.told_of.ensures.ok ok)) ok) follows)

pub returns-clause-begins : goal.returns-clause-begins
returns-clause-begins g c =
    let setting = setting_of g.N.Store.table g.N.Store.base in
    let epoch = c.args.system.desk.epoch in
    let plan = plan_of_script c.args.script.now in
    let ran : RanEach setting epoch plan.patience 0 plan.sessions c.args.first c.run_over-ran.result.0 c.run_over-ran.result.1 =
    c.run_over-ran.ensures in
    begun setting epoch plan c.args.first c.run_over-ran.result.1 c.requires.first.kin (reverse c.finish-start.result.1) c.finish-start.ensures.legal c.finish-start.ensures.seen c.finish-start.ensures.settled c.run_over-ran.result.0 ran

pub returns-clause-room : goal.returns-clause-room
returns-clause-room g c = λ is. full_still c.run_over-ran.result.1.seen c.finish-start.result.1 c.finish-start.ensures.seen c.finish-start.ensures.bounded (c.run_over-ran.ensures.room (c.told_of.ensures.room is))

pub returns-clause-disks : goal.returns-clause-disks
returns-clause-disks g c =
    kept_where (setting_of g.N.Store.table g.N.Store.base) g.N.Mounting.found g.D.Disk.view c.finish-start.result.2.items (reverse c.finish-start.result.1) (c.finish-start.result.3 ≡ false) (IsOk c.told_of.result) c.told_of.ensures.ok c.finish-start.ensures.disks
