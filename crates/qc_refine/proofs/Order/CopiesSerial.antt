-- From locks and copies to the serial order of every live transaction, and to the copies that are left.
use Rattle.std.proofs.Common.{◌≡◌, ℕ, zero, suc, ◌<◌, ◌≤◌, List, [], length, refl, sym, ap, ◌∙◌, subst, arith}
use Rattle.std.specs.Prelude.{All, Option, None, Some, MatchOption, slice_get}
use Rattle.std.proofs.lemmas.Option.{slice_get_within}
use Rattle.std.proofs.lemmas.List.Elements.{All-weaker}
use Rattle.qc_config.specs.Val.{Datum}
use Rattle.qc_event.specs.Base.{Setting, first_of}
use Rattle.qc_event.specs.Dead.{dead}
use Rattle.qc_event.specs.History.{Past, Name}
use Rattle.qc_event.specs.Legal.{Legal}
use Rattle.qc_event.specs.Sound.{Carries, IsSound, column}
use Rattle.qc_event.proofs.LegalOrderly.{legal_orderly}
use Rattle.qc_event.proofs.RootAndTops.{root_alive}
use Rattle.qc_serial.specs.Machine as machine
use Rattle.qc_serial.proofs.Shape as shape
use Rattle.qc_serial.specs.Serial.{IsSerialFor, IsUserOf, final_values}
use Rattle.qc_serial.specs.Visible.{Finds, served_order}
use Rattle.qc_serial.specs.Walk.{walk, serialise}
use Rattle.qc_serial.proofs.MossVisible.{finds}
use Rattle.qc_serial.proofs.OrderSteps.{serialise_root}
use Rattle.qc_serial.proofs.SerialOrder.{serial_for}
use Rattle.qc_serial.specs.Shape.{after}
use Rattle.qc_refine.specs.InTurn.{IsDone, given_to, left_setting, values_after}
use Rattle.qc_refine.specs.Turns.{dones_order}
use Rattle.qc_refine.proofs.Managers.AllDone.{order_done}
use Rattle.qc_refine.proofs.Order.DonesWalk.{Below, DonesFollow, order_follows}
use Rattle.qc_refine.proofs.Managers.GivenDones.{given_order}
use Rattle.qc_refine.proofs.Order.Grounded.{grounded}
use Rattle.qc_refine.proofs.Copies.InTurn.{reads_answer, left_sound}

-- a sound setting has a value for each record
has_values : (setting : Setting) (values : List Datum) → IsSound setting values → length setting.firsts ≤ length values
has_values setting values sound = by_size (length setting.firsts) refl
  where
    by_value : (rec : ℕ) (o : Option Datum) → slice_get values rec ≡ o → MatchOption o ⊥ (Carries (first_of setting rec) (column setting.base rec)) → rec < length values
    by_value rec None is carried = absurd carried
    by_value rec (Some value) is carried = slice_get_within values rec value is

    by_size : (n : ℕ) → length setting.firsts ≡ n → n ≤ length values
    by_size zero is = omega arith
    by_size (suc n) is = let last = by_value n (slice_get values n) refl (sound n (omega arith)) in omega arith

module _ (setting : Setting) (values : List Datum) (past : Past) (t : Name) (legal : Legal setting past) (sound : IsSound setting values) (user : IsUserOf past t) (alive : dead past t ≡ None) where
  pub done : All (IsDone setting) (dones_order past t)
  done = order_done setting past t (grounded setting values sound) legal

  pub there : Finds setting.base (given_to (dones_order past t))
  there = subst (Finds setting.base) (sym (given_order setting past t legal user)) (finds setting past t legal user alive)

  follows : DonesFollow values (serialise past t) (dones_order past t)
  follows = order_follows (length setting.firsts) past t values (has_values setting values sound)
      (All-weaker (IsDone setting) (Below (length setting.firsts)) (λ d is. is.record_there) (dones_order past t) done)
      (reads_answer setting values (dones_order past t) sound done there)

  -- the serial machine accepts the serial order of the transaction
  pub serial : IsSerialFor values past t
  serial = serial_for values past t (legal_orderly setting past legal) user alive follows.reads

  -- the values after its managers are those after its order
  pub values_are : values_after values (dones_order past t) ≡ after values (serialise past t)
  values_are = sym follows.leaves

  -- what the transaction was served leaves sound copies for the values after its order
  pub left_for : IsSound (left_setting setting (served_order past t)) (after values (serialise past t))
  left_for =
      subst (λ given. IsSound (left_setting setting given) (after values (serialise past t))) (given_order setting past t legal user)
      (subst (IsSound (left_setting setting (given_to (dones_order past t)))) values_are (left_sound setting values (dones_order past t) sound done there))

pub serial_order : (setting : Setting) (values : List Datum) (past : Past) (t : Name) → Legal setting past → IsSound setting values → IsUserOf past t → dead past t ≡ None → IsSerialFor values past t
serial_order setting values past t legal sound user alive = serial setting values past t legal sound user alive

-- the values after the root's order are the final ones
root_values : (values : List Datum) (past : Past) → after values (serialise past []) ≡ final_values values past
root_values values past = ap (after values) (serialise_root past) ∙ sym (shape.values_after (machine.begin values) (walk past []))

pub final_are : (setting : Setting) (values : List Datum) (past : Past) → Legal setting past → IsSound setting values → values_after values (dones_order past []) ≡ final_values values past
final_are setting values past legal sound = values_are setting values past [] legal sound tt (root_alive setting past legal) ∙ root_values values past

-- what all that was handed up leaves at the copies carries the final values
pub left_copies : (setting : Setting) (values : List Datum) (past : Past) → Legal setting past → IsSound setting values → IsSound (left_setting setting (served_order past [])) (final_values values past)
left_copies setting values past legal sound =
    subst (IsSound (left_setting setting (served_order past []))) (root_values values past)
    (left_for setting values past [] legal sound tt (root_alive setting past legal))
