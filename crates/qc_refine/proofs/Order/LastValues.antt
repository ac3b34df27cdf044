-- The last values by the versions are those of the serial machine.
use Rattle.std.proofs.Common.{◌≡◌, ℕ, ◌<◌, ◌≤◌, List, [], length, sym, ap, ◌∙◌, subst, arith, map}
use Rattle.std.specs.Prelude.{All, Option, None, Some, MatchOption, slice_get}
use Rattle.std.specs.List.{Contains, range_with_len}
use Rattle.std.proofs.lemmas.List.Elements.{All-append, All-weaker, All-get_or, All-contains, All-contains_itself, Contains-append_left, Contains-append_right}
use Rattle.std.proofs.lemmas.List.FromFn.{fill_by_all}
use Rattle.std.proofs.lemmas.Option.{get_or_from_slice_get}
use Rattle.qc_config.specs.Val.{Datum, Number}
use Rattle.qc_config.specs.declared.tuple.Tuple.{Tuple}
use Rattle.qc_event.specs.Base.{Setting, first_of, no_tuple}
use Rattle.qc_event.specs.History.{Past, Given, every}
use Rattle.qc_event.specs.Legal.{Legal}
use Rattle.qc_event.specs.Manager.{greatest_among}
use Rattle.qc_event.specs.Sound.{Carries, IsSound, column, greatest_version}
use Rattle.qc_event.proofs.RootAndTops.{root_alive}
use Rattle.qc_serial.specs.Serial.{final_values}
use Rattle.qc_serial.specs.Visible.{served_order}
use Rattle.qc_refine.specs.Completed.{tuple_at}
use Rattle.qc_refine.specs.Final.{put_for_good, last_tuples, final_value}
use Rattle.qc_refine.specs.InTurn.{given_to}
use Rattle.qc_refine.specs.Turns.{dones_order}
use Rattle.qc_refine.proofs.Copies.Columns.{left_column, column_left}
use Rattle.qc_refine.proofs.Order.CopiesSerial.{done, there, final_are, left_copies}
use Rattle.qc_refine.proofs.Copies.Fits.{Fits}
use Rattle.qc_refine.proofs.Copies.Folds.{greatest_one, greatest_above}
use Rattle.qc_refine.proofs.Order.ForGood.{puts_are, puts_among}
use Rattle.qc_refine.proofs.Managers.GivenDones.{given_order}
use Rattle.qc_refine.proofs.Copies.Grown.{Top, top_copy}
use Rattle.qc_refine.proofs.Copies.NoneAbove.{FitsOf, NoneAboveAt, none_above}
use Rattle.qc_refine.proofs.Order.DonesWalk.{after_length}

-- the greatest of tuples that fit a version, one of which has it, has the value
greatest_fits : (version : ℕ) (value : Datum) (tuples : List Tuple) (t : Tuple) → All (Fits version value) tuples → Contains tuples t → t.version ≡ version → (greatest_among tuples).value ≡ value
greatest_fits version value tuples t fits among at = best.1 same
  where
    best : ((greatest_among tuples).version ≤ version) × ((greatest_among tuples).version ≡ version → (greatest_among tuples).value ≡ value)
    best = greatest_one (λ g. (g.version ≤ version) × (g.version ≡ version → g.value ≡ value)) tuples (let lt = among.1 in omega (arith, lt)) fits

    same : (greatest_among tuples).version ≡ version
    same =
        let low = All-contains (λ x. x.version ≤ (greatest_among tuples).version) tuples t (greatest_above tuples) among in
        let high = best.0 in
        omega (arith, low, high, at)

module _ (setting : Setting) (values : List Datum) (past : Past) (rec : ℕ) (legal : Legal setting past) (sound : IsSound setting values) (here : rec < length setting.firsts) where
  abbrev whole : List Given
  whole = served_order past []

  abbrev tuples : List Tuple
  tuples = left_column setting.base whole rec

  abbrev Known : Tuple → Type 0
  Known t = Contains (last_tuples setting.base past rec) t

  above : NoneAboveAt setting rec Known whole (slice_get (final_values values past) rec)
  above =
      let alive = root_alive setting past legal in
      let same = given_order setting past [] legal tt in
      subst (λ gs. NoneAboveAt setting rec Known gs (slice_get (final_values values past) rec)) same
      (subst (λ vs. NoneAboveAt setting rec Known (given_to (dones_order past [])) (slice_get vs rec)) (final_are setting values past legal sound)
      (none_above setting rec Known values (dones_order past []) sound (done setting values past [] legal sound tt alive) (there setting values past [] legal sound tt alive) here
      (All-weaker (Contains (column setting.base rec)) Known (λ t c. Contains-append_left (column setting.base rec) (every (λ e. put_for_good past rec e.event) past) t c) (column setting.base rec) (All-contains_itself (column setting.base rec)))
      (λ g served of_record put.
      Contains-append_right (column setting.base rec) (every (λ e. put_for_good past rec e.event) past) g.grant.tuple
      (puts_among setting past legal rec g (subst (λ gs. Contains gs g) same served) of_record put))))

  carried : MatchOption (slice_get (final_values values past) rec) ⊥ (Carries (first_of setting rec) tuples)
  carried = subst (λ ts. MatchOption (slice_get (final_values values past) rec) ⊥ (Carries (first_of setting rec) ts)) (column_left setting whole rec here) (left_copies setting values past legal sound rec here)

  by_value : (o : Option Datum) → MatchOption o ⊥ (Carries (first_of setting rec) tuples) → NoneAboveAt setting rec Known whole o → o ≡ Some (final_value setting.base past rec)
  by_value None carried was = absurd carried
  by_value (Some value) carried was = ap (λ v. Some v) (sym (
      greatest_fits top value (last_tuples setting.base past rec) (tuple_at tuples copy.copy)
      (All-append (Fits top value) (column setting.base rec) (every (λ e. put_for_good past rec e.event) past) was.starts
      (puts_are setting past legal rec (Fits top value) (λ g served of_record. All-contains (FitsOf rec top value) whole g was.grants served of_record)))
      (All-get_or Known tuples copy.copy no_tuple copy.within was.known)
      copy.is
      ))
    where
      top : ℕ
      top = greatest_version tuples

      copy : Top tuples
      copy = top_copy (first_of setting rec) tuples value carried

  pub last_value : slice_get (final_values values past) rec ≡ Some (final_value setting.base past rec)
  last_value = by_value (slice_get (final_values values past) rec) carried above

-- ALL RECORDS

pub last_values : (setting : Setting) (values : List Datum) (past : Past) → Legal setting past → IsSound setting values → length values ≡ length setting.firsts
    → final_values values past ≡ map (final_value setting.base past) (range_with_len 0 (length setting.firsts))
last_values setting values past legal sound many =
    fill_by_all (final_value setting.base past) (final_values values past) (length setting.firsts) (Number 0)
    (ap length (sym (final_are setting values past legal sound)) ∙ after_length values (dones_order past []) ∙ many)
    (λ rec here. get_or_from_slice_get (final_values values past) rec (final_value setting.base past rec) (Number 0) (last_value setting values past rec legal sound here))
