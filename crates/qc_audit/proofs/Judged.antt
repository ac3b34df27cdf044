-- What the serial machine tells of a legal trail.
use Rattle.std.proofs.Common.{◌≡◌, ℕ, suc, List, [], ◌∷◌, length, map, reverse, refl, sym, ap, ◌∙◌, subst, arith}
use Rattle.std.specs.Prelude.{None, Some, Err, IsErrOf, slice_get, if◌then◌else◌, MatchOption}
use Rattle.std.specs.Option.{option_map}
use Rattle.std.specs.List.{range_with_len}
use Rattle.std.proofs.lemmas.List.{length-map}
use Rattle.std.proofs.lemmas.List.FromFn.{get_or-map-range_with_len, length-map-range_with_len}
use Rattle.std.proofs.lemmas.Option.{none-some, slice_get-get_or}
use Rattle.qc_config.specs.Val.{Datum, Number}
use Rattle.qc_event.specs.Base.{Setting, first_of}
use Rattle.qc_event.specs.History.{Past}
use Rattle.qc_event.specs.Legal.{Legal}
use Rattle.qc_event.specs.Sound.{IsSound, Carries, column}
use Rattle.qc_event.proofs.LegalOrderly.{legal_orderly}
use Rattle.qc_event.proofs.RootAndTops.{root_alive}
use Rattle.qc_refine.specs.Final.{final_value}
use Rattle.qc_refine.proofs.Order.CopiesSerial.{serial_order}
use Rattle.qc_refine.proofs.Order.LastValues.{last_value}
use Rattle.qc_report.specs.LastValues.{values_by_version}
use Rattle.qc_serial.specs.declared.event.SerialEvent.{SerialEvent}
use Rattle.qc_serial.specs.Machine.{State, Accepts, begin, first_refused, next}
use Rattle.qc_serial.specs.Shape.{first_unfound}
use Rattle.qc_serial.specs.Walk.{walk, serialise}
use Rattle.qc_serial.proofs.OrderSteps.{serialise_root}
use Rattle.qc_serial.proofs.Shaped.{shaped_order}
use Rattle.qc_serial.proofs.Unfound.{refused_unfound}
use Rattle.qc_trail_codec.specs.declared.record.SavedTrail.{SavedTrail}
use Rattle.qc_event.specs.declared.table.Row.{Row}
use Rattle.qc_event.specs.declared.table.Table.{Table}
use Rattle.qc_event.specs.Tables.{setting_of}
use Rattle.qc_codec.specs.declared.fault.CodecNo.{CodecNo}
use Rattle.qc_codec.specs.declared.fault.CodecNo.TheVariants as codec_no
use Rattle.qc_audit.specs.declared.verdict.AuditNo.TheVariants as audit_no
use Rattle.qc_audit.specs.Verdicts.{IsLegal, IsSerial, IsUnserial, no_of, order_of, start_values}

module _ (setting : Setting) (past : Past) (legal : Legal setting past) where
  -- the machine refuses the whole order for its values alone
  pub refused_for_values : (values : List Datum) → first_refused (begin values) (walk past []) ≡ first_unfound values (walk past [])
  refused_for_values values =
      subst (λ es. first_refused (begin values) es ≡ first_unfound values es) (serialise_root past)
      (refused_unfound (begin values) (serialise past []) (shaped_order past [] values (legal_orderly setting past legal) tt (root_alive setting past legal)))

  -- where start tuples carry a map of values, they carry those of their greatest versions
  carried_by_version : (values : List Datum) → IsSound setting values → IsSound setting (values_by_version setting.base [] (length setting.firsts))
  carried_by_version values sound rec less =
      let n = length setting.firsts in
      let f = final_value setting.base [] in
      let own : slice_get values rec ≡ Some (f rec) = last_value setting values [] rec tt sound less in
      let other : slice_get (values_by_version setting.base [] n) rec ≡ Some (f rec) =
      slice_get-get_or (map f (range_with_len 0 n)) rec (Number 0) (omega (arith, less, length-map-range_with_len f 0 n)) ∙ ap (λ v. Some v) (get_or-map-range_with_len f 0 n rec rec (Number 0) less (omega arith)) in
      subst (λ o. MatchOption o ⊥ (Carries (first_of setting rec) (column setting.base rec))) (own ∙ sym other) (sound rec less)

  accepts_all : (m : State) (es : List SerialEvent) → Accepts m es → first_refused m es ≡ None
  accepts_all m [] all = refl
  accepts_all m (e ∷ es) all = ap (λ b. if b then option_map (λ k. suc k) (first_refused (next m e) es) else Some 0) all.0 ∙ ap (option_map (λ k. suc k)) (accepts_all (next m e) es all.1)

  -- so where the machine refuses the order from there, they carry none
  pub unsound : (place : ℕ) → first_refused (begin (values_by_version setting.base [] (length setting.firsts))) (walk past []) ≡ Some place → (values : List Datum) → IsSound setting values → ⊥
  unsound place refused values sound =
      let start = values_by_version setting.base [] (length setting.firsts) in
      let serial = serial_order setting start past [] legal (carried_by_version values sound) tt (root_alive setting past legal) in
      none-some place (sym (accepts_all (begin start) (serialise past []) serial.accepted) ∙ ap (first_refused (begin start)) (serialise_root past) ∙ refused)

-- VERDICTS

module _ (table : Table) (trail : SavedTrail) (legal : IsLegal table trail) where
  pub is_serial : first_unfound (start_values table trail) (order_of trail) ≡ None → IsSerial table trail
  is_serial found = record {
    legal = legal;
    accepted = refused_for_values (setting_of table trail.base) (reverse trail.entries) legal (start_values table trail) ∙ found;
  }

  pub is_unserial : (place : ℕ) → first_unfound (start_values table trail) (order_of trail) ≡ Some place → IsUnserial table trail place
  is_unserial place found =
      let refused = refused_for_values (setting_of table trail.base) (reverse trail.entries) legal (start_values table trail) ∙ found in
      let many : length table.records ≡ length (map (λ (r : Row). r.config) table.records) = sym (length-map table.records (λ (r : Row). r.config)) in
      record {
        legal = legal;
        refused = refused;
        unsound = unsound (setting_of table trail.base) (reverse trail.entries) legal place
            (ap (λ n. first_refused (begin (values_by_version trail.base [] n)) (order_of trail)) (sym many) ∙ refused);
      }

pub bad_is : {T U : Type 0} (f : CodecNo) → IsErrOf {T = T} (Err (no_of f)) audit_no.Malformed → IsErrOf {T = U} (Err f) codec_no.Bad
bad_is codec_no.Bad is = refl
bad_is codec_no.Memory is = absurd cc
