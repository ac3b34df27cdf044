-- The first pass, once the clients of a script's sessions have joined theirs, and what these sessions may ask for.
use Rattle.std.proofs.Common.{◌≡◌, ℕ, ◌+◌, ◌≤◌, List, [], ◌∷◌, length, refl, sym, ap, ◌∙◌, subst, arith}
use Rattle.std.proofs.lemmas.List.{length-map}
use Rattle.qc_config.specs.declared.tuple.Tuple.{Tuple}
use Rattle.qc_event.specs.declared.table.Row.{Row}
use Rattle.qc_event.specs.declared.table.Table.{Table}
use Rattle.qc_event.specs.Tables.{first_configs, setting_of}
use Rattle.qc_interp.specs.Reach.{Reach}
use Rattle.qc_event.specs.Base.{Setting}
use Rattle.qc_desk.specs.declared.view.View.{View}
use Rattle.qc_desk.specs.Rules.{Has}
use Rattle.qc_desk.proofs.Having.{has_none}
use Rattle.qc_script.specs.Plan.{ScriptPlan, SessionPlan, SessionsFit, SessionsWithin}
use Rattle.qc_script.specs.Reading.{IsProper}
use Rattle.qc_session.specs.Session.{HaveRun, IsFirst}
use Rattle.qc_system.specs.Parts.{IsClosing, IsOpening}

pub first_opened : (v : View) → IsOpening v 17 → IsFirst v
first_opened v is = record { live = is.live; number = is.number; given = is.given; mine = is.mine }

none_out : (xs : List ℕ) → ((k : ℕ) → Has xs k → ⊥) → xs ≡ []
none_out [] none = refl
none_out (x ∷ xs) none = absurd (none x (0, refl))

-- all passes that were given out are joined back
pub first_closes : (reach : Reach) (setting : Setting) (epoch patience : ℕ) (plans : List SessionPlan) (before now : View) → IsOpening before 17 → IsFirst now → HaveRun reach setting epoch patience 0 plans before now → IsClosing now
first_closes reach setting epoch patience plans before now opening is ran =
    (is.live, is.number, none_out now.out (λ k h. has_none k (subst (λ ks. Has ks k) opening.out (ran.out k h))))

-- what the sessions of a proper script ask for, it may
pub sessions_fit : (plan : ScriptPlan) (table : Table) (base : List (List Tuple)) → IsProper plan → plan.table ≡ table → length base ≡ plan.table.copies → SessionsFit (setting_of table base) plan.sessions
sessions_fit plan table base proper same many =
    subst (λ n. SessionsWithin n (length (first_configs table)) plan.sessions) (sym many)
    (subst (λ n. SessionsWithin plan.table.copies n plan.sessions) (ap (λ (t : Table). length t.records) same ∙ sym (length-map table.records (λ (r : Row). r.config))) proper.sessions)

pub few_sessions : (plan : ScriptPlan) → IsProper plan → 0 + length plan.sessions ≤ 16
few_sessions plan proper = omega (arith, proper.few_sessions)
