-- A manager that is not disturbed is not stopped, not at its last number, and never short.
use Rattle.std.proofs.Common.{◌≡◌, ℕ, Bool, true, false, List, [], ◌∷◌, refl, sym, ap, ◌∙◌, subst}
use Rattle.std.specs.Prelude.{◌==◌, IsTrue, is_some, cond, find, length, ◌≤◌, All, Option, None, Some, MatchOption}
use Rattle.std.specs.List.{AllByRecursion}
use Rattle.std.specs.Option.{option_and_then}
use Rattle.std.proofs.lemmas.Bool.{true≢false}
use Rattle.std.proofs.lemmas.List.Elements.{All-filter, recursion_from_All}
use Rattle.qc_config.specs.Config.{IsLegal}
use Rattle.qc_event.specs.Base.{Setting}
use Rattle.qc_event.specs.Counts.{Rose}
use Rattle.qc_event.specs.Dead.{dead}
use Rattle.qc_event.specs.declared.event.Ask.{Ask}
use Rattle.qc_event.specs.declared.event.Kind.{Kind}
use Rattle.qc_event.specs.declared.event.Phase.{Phase}
use Rattle.qc_event.specs.declared.event.Why.{Why}
use Rattle.qc_event.specs.History.{Past, Name, end, asks}
use Rattle.qc_event.specs.Manager.{Result, Stage, result, blocked_by, holder_of, asks_in, is_phase, phase_of, stage, first_for, at_last_number}
use Rattle.qc_event.specs.Standing.{IsOrphanOf}
use Rattle.qc_event.proofs.LastNumber.{rest_of}
use Rattle.qc_event.proofs.Lineage.{alive_above, alive_not_aborted}
use Rattle.qc_event.proofs.Outcomes.{abort_or_alive}
use Rattle.qc_managers.specs.Carrying.{Carriage, WasNotCarried, CarrierView}
use Rattle.qc_managers.specs.declared.carrier.CarryNo.{CarryNo}
use Rattle.qc_managers.specs.declared.carrier.CarryNo.TheVariants as carry
use Rattle.qc_managers.specs.Told.{Told, why_in, missing_in, blocked_in, next_in, replied_in}
use Rattle.qc_managers.specs.Answered.{told_in}
use Rattle.qc_managers.specs.Managed.{mgr_no, ManagerIsRefused}
use Rattle.qc_managers.specs.Undisturbed.{TellHasCause, StandsOn, IsUndisturbed, IsShortage}
use Rattle.qc_managers.proofs.Causes.{stands_on_nothing, rose_sooner}
use Rattle.qc_managers.proofs.Lists.{told_all, told_then}
use Rattle.qc_managers.proofs.Quorums.{hold_quorums}
use Rattle.qc_managers.proofs.Stages.{enough_by}
use Rattle.qc_managers.specs.Going.{HasServed}
use Rattle.qc_managers.specs.declared.no.MgrNo.{MgrNo}

-- NOTHING IS BLOCKED

none_blocked : (past : Past) (asks : List Ask) → AllByRecursion (λ (ask : Ask). blocked_by past ask.access ≡ None) asks → blocked_in (told_all (result past) asks) ≡ None
none_blocked past [] free = refl
none_blocked past (ask ∷ asks) free = step (result past ask.access) free.0 (told_all (result past) asks) (none_blocked past asks free.1)
  where
    step : (r : Option Result) → holder_of r ≡ None → (told : List Told) → blocked_in told ≡ None → blocked_in (told_then ask r told) ≡ None
    step None is told below = below
    step (Some x) is told below = ap (λ o. cond (is_some o) (Some (record { copy = ask.copy; result = x })) (blocked_in told)) is ∙ below

-- NOTHING IS MISSING

none_missing : (told : List Told) (copy : ℕ) → AllByRecursion (λ t. why_in t ≡ None) told → missing_in told copy ≡ None
none_missing [] copy here = refl
none_missing (t ∷ told) copy here = step (t.copy == copy) here.0 (none_missing told copy here.1)
  where
    step : (b : Bool) → why_in t ≡ None → missing_in told copy ≡ None → option_and_then why_in (cond b (Some t) (find (λ (u : Told). u.copy == copy) told)) ≡ None
    step true is below = is
    step false is below = below

-- THE MANAGER

module _ (setting : Setting) (past : Past) (m : Name) (k : Kind) (before now : ℕ) (u : IsUndisturbed setting past m k before now) where
  -- no ancestor of it is aborted
  pub never_orphan : (a : Name) → IsOrphanOf past m a → ⊥
  never_orphan a orphan =
      let rest = rest_of a m orphan.above in
      abort_or_alive (end past a) orphan.aborted (alive_not_aborted past a (alive_above past a rest.0 (sym (ap (dead past) rest.1) ∙ u.alive)))

  pub never_last : IsTrue (at_last_number past (first_for setting k) m k) → ⊥
  never_last last = true≢false (sym last ∙ u.not_last)

  no_reason : (t : Told) → TellHasCause past m (Rose before now) t → why_in t ≡ None
  no_reason t = of_why (why_in t)
    where
      of_why : (o : Option Why) → MatchOption o (Unit {0}) (StandsOn past m (Rose before now)) → o ≡ None
      of_why None h = refl
      of_why (Some why) h = absurd (stands_on_nothing past m (Rose before now) u.quiet u.able why h)

  each_here : (told : List Told) → AllByRecursion (TellHasCause past m (Rose before now)) told → AllByRecursion (λ t. why_in t ≡ None) told
  each_here [] causes = tt
  each_here (t ∷ told) causes = (no_reason t causes.0, each_here told causes.1)

  free : (phase : Phase) → blocked_in (told_in past m phase) ≡ None
  unfolding told_in
  free phase =
      let P : Ask → Type 0 = λ (ask : Ask). blocked_by past ask.access ≡ None in
      none_blocked past (asks_in past m phase) (recursion_from_All P (asks_in past m phase) (All-filter (λ (ask : Ask). is_phase phase (phase_of ask.op)) P (asks past m) u.free))

  -- it is not short at its stage, where what it was told there has causes
  pub never_short : (s : Stage) → stage past (first_for setting k) m k ≡ Some s → length s.config.votes ≤ 16 → All (TellHasCause past m (Rose before now)) (told_in past m s.phase) → next_in s.config (told_in past m s.phase) ≡ None → enough_by s (replied_in (told_in past m s.phase)) ≡ false → ⊥
  never_short s at few causes none short =
      let told = told_in past m s.phase in
      let legal : IsLegal s.config = subst (λ o. MatchOption o (Unit {0}) (λ (x : Stage). IsLegal x.config)) at u.legal in
      true≢false (sym (hold_quorums s.config told none (free s.phase) (λ copy. none_missing told copy (each_here told (recursion_from_All (TellHasCause past m (Rose before now)) told causes))) s.writes few legal) ∙ short)

-- where an access was not carried to an answer, memory or room was wanting
pub shortage_of : (setting : Setting) (way : Carriage) (m : Name) (k : Kind) (before now : ℕ) (why : CarryNo) → way.manager ≡ m → WasNotCarried way why → IsUndisturbed setting way.now m k before now → IsShortage (mgr_no why)
shortage_of setting way m k before now (carry.Orphan a) its stopped u = never_orphan setting way.now m k before now u a (subst (λ n. IsOrphanOf way.now n a) its stopped.orphan.orphan)
shortage_of setting way m k before now (carry.Short short) its cut u = tt

-- what is not disturbed since a time is not disturbed since a later one
pub undisturbed_since : (setting then : Setting) (past : Past) (m : Name) (k : Kind) (before later now : ℕ) → then ≡ setting → before ≤ later → IsUndisturbed setting past m k before now → IsUndisturbed then past m k later now
undisturbed_since setting then past m k before later now same more u =
    subst (λ s. IsUndisturbed s past m k later now) (sym same)
    (record { quiet = λ rose. u.quiet (rose_sooner before later now more rose); able = u.able; free = u.free; alive = u.alive; not_last = u.not_last; legal = u.legal })

-- WHAT IS TOLD SINCE A CARRIER BEGAN

module _ (m : Name) (k : Kind) (a now : CarrierView) (served : HasServed m a now) where
  -- where the next request is refused, the manager is
  pub refused_on : (past : Past) (why : MgrNo) → ManagerIsRefused now.setting now.seat past m k why → ManagerIsRefused a.setting a.seat past m k why
  refused_on past why refused =
      subst (λ setting. ManagerIsRefused setting a.seat past m k why) served.setting (subst (λ seat. ManagerIsRefused now.setting seat past m k why) served.seat refused)

  -- and where nothing disturbed the manager, memory or room was wanting
  pub complete_on : (past : Past) (troubles : ℕ) (why : MgrNo) → (IsUndisturbed now.setting past m k now.troubles troubles → IsShortage why) → IsUndisturbed a.setting past m k a.troubles troubles → IsShortage why
  complete_on past troubles why complete u = complete (undisturbed_since a.setting now.setting past m k a.troubles now.troubles troubles served.setting served.later u)
