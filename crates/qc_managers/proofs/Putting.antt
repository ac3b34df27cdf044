-- A manager that puts at a stage: what it asks next, when it has put enough, and why it is short.
use Rattle.std.proofs.Common.{◌≡◌, ℕ, ◌<◌, false, List, [], ◌∷◌, ◌++◌, refl, sym, ap, ◌∙◌, subst}
use Rattle.std.specs.Prelude.{◌≤◌, length, All, Some}
use Rattle.qc_config.specs.Config.{Voting, holds_write}
use Rattle.qc_config.specs.declared.tuple.Op.{Op}
use Rattle.qc_event.specs.declared.event.Kind.{Kind}
use Rattle.qc_event.specs.declared.event.Phase.{Phase}
use Rattle.qc_event.specs.Counts.{Rose}
use Rattle.qc_event.specs.History.{Name}
use Rattle.qc_event.specs.Manager.{phase_of, stage, record_of, first_for}
use Rattle.qc_managers.specs.Carrying.{CarrierView, MayCarry}
use Rattle.qc_managers.specs.declared.next.Next.{Next}
use Rattle.qc_managers.specs.declared.next.Next.TheVariants.{Enough, Copy, Short}
use Rattle.qc_managers.specs.declared.shortage.Shortage.{Shortage}
use Rattle.qc_managers.specs.Gathered.{Putting, put}
use Rattle.qc_managers.specs.Heard.{next_of, shortage_in}
use Rattle.qc_managers.specs.Told.{Told, replied_in}
use Rattle.qc_managers.specs.Answered.{told_in}
use Rattle.qc_managers.specs.Going.{MayGoOn, SameElsewhere, HasHeard, HasServed, MayPut, HasPut, putting}
use Rattle.qc_managers.specs.declared.no.MgrNo.{MgrNo}
use Rattle.qc_managers.specs.Managed.{ManagerIsRefused, no_of}
use Rattle.qc_managers.specs.Undisturbed.{TellHasCause, IsUndisturbed}
use Rattle.qc_managers.proofs.Causes.{causes_none, causes_further}
use Rattle.qc_managers.proofs.Nexts.{next_enough, next_short, next_copy_of}
use Rattle.qc_managers.proofs.Served.{served_none, served_further}
use Rattle.qc_managers.proofs.Short.{refused_short}
use Rattle.qc_managers.proofs.Stages.{is_enough-told, reached_stays, stage_at, may_carry}
use Rattle.qc_managers.proofs.Undisturbed.{never_short}
use Rattle.qc_managers.proofs.Unasked.{unasked, unasked_fewer, next_within}

-- a manager that puts, between the carrier where it began and the carrier now
pub record IsPutting (a now : CarrierView) (m : Name) (k : Kind) (config : Voting) (phase : Phase) (kept : Putting) : Type 0 where
  pub served : HasServed m a now
  pub goes_on : MayGoOn a.seat now.seen m k
  pub elsewhere : SameElsewhere a.seen now.seen m phase
  pub kept_is : kept ≡ put config phase (told_in now.seen m phase)
  pub causes : All (TellHasCause now.seen m (Rose a.troubles now.troubles)) (told_in now.seen m phase)

pub putting_begins : (a : CarrierView) (m : Name) (k : Kind) (rec : ℕ) (config : Voting) (phase : Phase) (op : Op) (kept : Putting) → MayPut a.setting a.seat a.seen m k rec (putting config phase op) → kept ≡ put config phase [] → IsPutting a a m k config phase kept
putting_begins a m k rec config phase op kept may is =
    record { served = served_none m a; goes_on = may.goes_on; elsewhere = λ p other. refl; kept_is = is ∙ ap (put config phase) (sym may.nothing_told); causes = causes_none a m phase may.nothing_told }

module _ (a now : CarrierView) (m : Name) (k : Kind) (config : Voting) (phase : Phase) (kept : Putting) (h : IsPutting a now m k config phase kept) where
  abbrev told : List Told
  told = told_in now.seen m phase

  -- what is next by what is kept
  abbrev pub Does : Next → Type 0
  Does next = next ≡ next_of (holds_write config (replied_in told)) config told

  module _ (rec : ℕ) (op : Op) (may : MayPut a.setting a.seat a.seen m k rec (putting config phase op)) where
    pub has_put : Does Enough → HasPut a.seat a.seen now.seen m k (putting config phase op)
    has_put does = record { goes_on = h.goes_on; elsewhere = h.elsewhere; enough = is_enough-told now.seen m (putting config phase op) ∙ next_enough _ config told does }

    at_here : holds_write config (replied_in told) ≡ false → stage now.seen (first_for a.setting k) m k ≡ Some (putting config phase op)
    at_here out =
        stage_at now.seen (first_for a.setting k) m k (putting config phase op) (reached_stays a.seen now.seen (first_for a.setting k) m k (putting config phase op) h.elsewhere may.after may.reached) (is_enough-told now.seen m (putting config phase op) ∙ out)

    pub asks_next : (copy : ℕ) → Does (Copy copy) → MayCarry now.setting now.seat now.seen m copy rec op
    asks_next copy does =
        let next = next_copy_of _ config told copy does in
        subst (λ r. MayCarry now.setting now.seat now.seen m copy r op) (sym may.same_record)
        (subst (λ setting. MayCarry setting now.seat now.seen m copy (record_of k) op) (sym h.served.setting)
        (subst (λ seat. MayCarry a.setting seat now.seen m copy (record_of k) op) (sym h.served.seat)
        (may_carry a.setting a.seat now.seen m k (putting config phase op) copy may.manages h.goes_on (at_here next.0) next.1)))

    pub is_short : (short : Shortage) (why : MgrNo) → why ≡ no_of short → short ≡ shortage_in phase told → Does Short → ManagerIsRefused a.setting a.seat now.seen m k why
    is_short short why for by does =
        let next = next_short _ config told does in
        subst (ManagerIsRefused a.setting a.seat now.seen m k) (sym (for ∙ ap no_of by)) (refused_short a.setting a.seat now.seen m k (putting config phase op) h.goes_on (at_here next.0) next.1)

    -- where it is short, it was disturbed
    pub short_disturbed : length kept.config.votes ≤ 16 → Does Short → IsUndisturbed a.setting now.seen m k a.troubles now.troubles → ⊥
    short_disturbed few does u =
        let next = next_short _ config told does in
        never_short a.setting now.seen m k a.troubles now.troubles u (putting config phase op) (at_here next.0) (subst (λ (p : Putting). length p.config.votes ≤ 16) h.kept_is few) h.causes next.1 next.0

    module _ (then : CarrierView) (t : Told) (served : HasServed m now then) (heard : HasHeard now.seat now.seen then.seen m k (phase_of op) (t ∷ [])) where
      heard_here : HasHeard now.seat now.seen then.seen m k phase (t ∷ [])
      heard_here = subst (λ p. HasHeard now.seat now.seen then.seen m k p (t ∷ [])) (sym may.of_phase) heard

      pub puts_on : TellHasCause then.seen m (Rose now.troubles then.troubles) t → (kept' : Putting) → kept' ≡ put config phase (told ++ t ∷ []) → IsPutting a then m k config phase kept'
      puts_on cause kept' is =
          record {
            served = served_further m a now then h.served served;
            goes_on = subst (λ seat. MayGoOn seat then.seen m k) h.served.seat heard_here.goes_on;
            elsewhere = λ p other. heard_here.elsewhere p other ∙ h.elsewhere p other;
            kept_is = is ∙ ap (put config phase) (sym heard_here.here);
            causes = causes_further a now then m phase t h.served served heard_here.here h.causes cause;
          }

      pub fewer_left : (copy : ℕ) → Does (Copy copy) → t.copy ≡ copy → unasked (told_in then.seen m phase) < unasked told
      fewer_left copy does its =
          subst (λ ts. unasked ts < unasked told) (sym heard_here.here) (unasked_fewer config told t copy (next_copy_of _ config told copy does).1 its)

  pub copy_within : (copy : ℕ) → Does (Copy copy) → copy < 16
  copy_within copy does = next_within config told copy (next_copy_of _ config told copy does).1

  pub may_go_on : MayGoOn now.seat now.seen m k
  may_go_on = subst (λ seat. MayGoOn seat now.seen m k) (sym h.served.seat) h.goes_on
