-- In every orderly history the serial order of a live transaction keeps to the serial machine's stack.
use Rattle.std.proofs.Common.{◌≡◌, ◌<◌, length, ℕ, true, List, [], ◌∷◌, ◌++◌, refl, sym, ap, ◌∙◌, subst, arith, append-nil}
use Rattle.std.specs.Prelude.{Option, None, Some, is_some, MatchOption}
use Rattle.std.specs.Option.{option_map}
use Rattle.qc_config.specs.Val.{Datum}
use Rattle.qc_event.specs.declared.event.How.{How}
use Rattle.qc_event.specs.declared.event.Kind.{Kind}
use Rattle.qc_event.specs.declared.event.Kind.TheVariants as kind
use Rattle.qc_event.specs.History.{Past, Name, Begun, start, end}
use Rattle.qc_event.specs.Dead.{dead}
use Rattle.qc_event.specs.Standing.{Started, IsUser}
use Rattle.qc_event.proofs.Orderly.{Orderly}
use Rattle.qc_event.proofs.LastNumber.{by_last, length_last, is_child-last}
use Rattle.qc_event.proofs.OneEntry.{some_or_none}
use Rattle.qc_event.proofs.Lawful.{Lawful, lawful, started_some, user_parent}
use Rattle.qc_event.proofs.Lineage.{dead_parent, parent_going}
use Rattle.qc_serial.specs.declared.event.SerialEvent.{SerialEvent}
use Rattle.qc_serial.specs.declared.event.SerialEvent.TheVariants.{Enter}
use Rattle.qc_serial.specs.Machine.{State, begin, top, next, run}
use Rattle.qc_serial.specs.Shape.{Shaped}
use Rattle.qc_serial.proofs.Runs.{run-append}
use Rattle.qc_serial.proofs.Shape.{shaped-append}
use Rattle.qc_serial.proofs.Steps.{waiting, waits}
use Rattle.qc_serial.specs.Walk.{walk, serialise}
use Rattle.qc_serial.specs.Serial.{IsUserOf}
use Rattle.qc_serial.proofs.OwnSerial.{serialise-last, visit_open, visit_ended}
use Rattle.qc_serial.proofs.Outside.{parent_last}
use Rattle.qc_serial.proofs.Stage.{stage, stage_of}
use Rattle.qc_serial.proofs.Kept.{Clean, Kept, Walked}
use Rattle.qc_serial.proofs.Inside.{clean_inside}
use Rattle.qc_serial.proofs.WalkShape.{walk_shaped}
use Rattle.qc_serial.proofs.OrderSteps.{entering_next}

-- THE ORDER, ONE ANCESTOR MORE

longer : (p : Name) (j : ℕ) → 0 < length (p ++ j ∷ [])
longer p j = omega (arith, length_last p j)

-- the order ends with the walk of a child that is open
order_open : (past : Past) (p : Name) (j : ℕ) → is_some (start past (p ++ j ∷ [])) ≡ true → end past (p ++ j ∷ []) ≡ None → serialise past (p ++ j ∷ []) ≡ serialise past p ++ Enter (p ++ j ∷ []) ∷ walk past (p ++ j ∷ [])
order_open past p j began going =
    serialise-last past p j
    ∙ ap (λ es. serialise past p ++ es) (visit_open past (p ++ j ∷ []) (longer p j) began going ∙ ap (λ es. es ++ walk past (p ++ j ∷ [])) (entering_next p j))

-- and is its parent's where the child has ended
order_ended : (past : Past) (p : Name) (j : ℕ) (how : How) → is_some (start past (p ++ j ∷ [])) ≡ true → end past (p ++ j ∷ []) ≡ Some how → serialise past (p ++ j ∷ []) ≡ serialise past p
order_ended past p j how began gone =
    serialise-last past p j
    ∙ ap (λ es. serialise past p ++ es) (visit_ended past (p ++ j ∷ []) how (longer p j) began gone)
    ∙ append-nil (serialise past p)

-- WHO IS OPEN

started_last : (past : Past) (p : Name) (j : ℕ) → IsUserOf past (p ++ j ∷ []) → Started past (p ++ j ∷ []) (λ b. IsUser b.kind)
started_last past [] j user = user
started_last past (x ∷ p) j user = user

is_user_parent : (past : Past) (p : Name) (j : ℕ) → Lawful past → Started past (p ++ j ∷ []) (λ b. IsUser b.kind) → IsUserOf past p
is_user_parent past [] j law user = tt
is_user_parent past (x ∷ p) j law user = user_parent past (x ∷ p) j law (omega arith) user

user_waits : (past : Past) (t : Name) → Started past t (λ b. IsUser b.kind) → end past t ≡ None → stage past t ≡ waiting
user_waits past t user going = ap (stage_of (option_map (λ (b : Begun). b.kind) (start past t))) going ∙ by_start (start past t) user
  where
    by_kind : (k : Kind) → IsUser k → stage_of (Some k) None ≡ waiting
    by_kind (kind.User session body) user = refl
    by_kind _ user = absurd user

    by_start : (o : Option Begun) → MatchOption o ⊥ (λ b. IsUser b.kind) → stage_of (option_map (λ (b : Begun). b.kind) o) None ≡ waiting
    by_start None user = absurd user
    by_start (Some b) user = by_kind b.kind user

-- THE ORDER

-- a machine that has walked through a name, with the name on top
record Through (past : Past) (t : Name) (after : State) : Type 0 where
  before : State
  on_top : top before.stack ≡ Some t
  kept : Kept past t before after

record Reached (past : Past) (t : Name) (m : State) (es : List SerialEvent) : Type 0 where
  shaped : Shaped m es
  inside : end past t ≡ None → Through past t (run m es)

module _ (past : Past) (values : List Datum) (orderly : Orderly past) where
  root_clean : Clean [] (begin values)
  root_clean = record { on_top = refl; unknown = λ j rest. refl }

  root : Reached past [] (begin values) (walk past [])
  root = let walked = walk_shaped past orderly [] (begin values) root_clean in record {
    shaped = walked.0;
    inside = λ open_still. record { before = begin values; on_top = refl; kept = walked.1 };
  }

  -- an open child of a name that was walked through is entered and walked through
  enter : (p : Name) (j : ℕ) (es : List SerialEvent) → Shaped (begin values) es → Through past p (run (begin values) es) → stage past (p ++ j ∷ []) ≡ waiting → end past (p ++ j ∷ []) ≡ None → Reached past (p ++ j ∷ []) (begin values) (es ++ Enter (p ++ j ∷ []) ∷ walk past (p ++ j ∷ []))
  enter p j es shaped through waits_there going =
      let t : Name = p ++ j ∷ [] in
      let m : State = run (begin values) es in
      let clean : Clean t (next m (Enter t)) = clean_inside past p t through.before m through.kept (is_child-last p j) going in
      let walked : Walked past t (next m (Enter t)) (walk past t) = walk_shaped past orderly t (next m (Enter t)) clean in
      let on : top m.stack ≡ Some p = ap top through.kept.stack ∙ through.on_top in
      record {
        shaped = shaped-append (begin values) es (Enter t ∷ walk past t) shaped (waits m p t on (parent_last p j) (through.kept.child j ∙ waits_there), walked.0);
        inside = λ open_still. subst (Through past t) (sym (run-append (begin values) es (Enter t ∷ walk past t))) (record { before = next m (Enter t); on_top = clean.on_top; kept = walked.1 });
      }

  next_ancestor : (p : Name) (j : ℕ) → (IsUserOf past p → dead past p ≡ None → Reached past p (begin values) (serialise past p)) → IsUserOf past (p ++ j ∷ []) → dead past (p ++ j ∷ []) ≡ None → Reached past (p ++ j ∷ []) (begin values) (serialise past (p ++ j ∷ []))
  next_ancestor p j parent user alive = by_end (end past (p ++ j ∷ [])) refl
    where
      law : Lawful past
      law = lawful past orderly

      user_there : Started past (p ++ j ∷ []) (λ b. IsUser b.kind)
      user_there = started_last past p j user

      began : is_some (start past (p ++ j ∷ [])) ≡ true
      began = started_some _ (start past (p ++ j ∷ [])) user_there

      reached : Reached past p (begin values) (serialise past p)
      reached = parent (is_user_parent past p j law user_there) (dead_parent past p j alive)

      by_end : (o : Option How) → end past (p ++ j ∷ []) ≡ o → Reached past (p ++ j ∷ []) (begin values) (serialise past (p ++ j ∷ []))
      by_end None going =
          subst (Reached past (p ++ j ∷ []) (begin values)) (sym (order_open past p j began going))
          (enter p j (serialise past p) reached.shaped (reached.inside (parent_going past p j law began going alive)) (user_waits past (p ++ j ∷ []) user_there going) going)
      by_end (Some how) gone = record {
        shaped = subst (Shaped (begin values)) (sym (order_ended past p j how began gone)) reached.shaped;
        inside = λ going. absurd (some_or_none (end past (p ++ j ∷ [])) (ap is_some gone) going);
      }

pub shaped_order : (past : Past) (t : Name) (values : List Datum) → Orderly past → IsUserOf past t → dead past t ≡ None → Shaped (begin values) (serialise past t)
shaped_order past t values orderly user alive =
    (by_last (λ t. IsUserOf past t → dead past t ≡ None → Reached past t (begin values) (serialise past t))
    (λ user alive. subst (Reached past [] (begin values)) (sym (append-nil (walk past []))) (root past values orderly))
    (next_ancestor past values orderly) t user alive).shaped
