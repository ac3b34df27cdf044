-- Complete managers in turn: each read answers the record's value, and what is left carries the values after them.
use Rattle.std.proofs.Common.{◌≡◌, ◌≢◌, ℕ, zero, suc, ◌<◌, List, [], ◌∷◌, ◌++◌, length, refl, sym, ap, ◌∙◌, subst, inl, inr, set, append_assoc, append-nil}
use Rattle.std.specs.Prelude.{All, Option, None, Some, MatchOption, slice_get}
use Rattle.std.proofs.lemmas.Bool.{cases_eq}
use Rattle.std.proofs.lemmas.List.Elements.{All-head, All-tail}
use Rattle.qc_config.specs.Val.{Datum}
use Rattle.qc_event.specs.Base.{Setting, first_of}
use Rattle.qc_event.specs.History.{Given}
use Rattle.qc_event.specs.Manager.{record_of}
use Rattle.qc_event.specs.Sound.{Carries, IsSound}
use Rattle.qc_event.specs.declared.event.Answer.{Answer}
use Rattle.qc_event.specs.declared.event.Answer.TheVariants as answer
use Rattle.qc_event.specs.declared.event.Kind.{Kind}
use Rattle.qc_event.specs.declared.event.Kind.TheVariants as kind
use Rattle.qc_serial.specs.Visible.{Finds}
use Rattle.qc_refine.specs.Completed.{FindsThere}
use Rattle.qc_refine.specs.InTurn.{Done, Complete, IsAt, IsDone, given_to, values_by, values_after, AnswersValue, AnswerValues, left_setting}
use Rattle.qc_refine.proofs.Copies.Columns.{left_column, column_start, column_left, column_after, column_apart, column_finds, column_within}
use Rattle.qc_refine.proofs.Copies.Writes.{read_answers, read_leaves, write_carries}
use Rattle.qc_refine.proofs.Copies.Moves.{move_carries}

pub set_here : (values : List Datum) (rec : ℕ) (old value : Datum) → slice_get values rec ≡ Some old → slice_get (set values rec value) rec ≡ Some value
set_here [] rec old value at = absurd (cc)
set_here (v ∷ values) zero old value at = refl
set_here (v ∷ values) (suc rec) old value at = set_here values rec old value at

pub set_elsewhere : (values : List Datum) (rec other : ℕ) (value : Datum) → other ≢ rec → slice_get (set values rec value) other ≡ slice_get values other
set_elsewhere [] rec other value apart = refl
set_elsewhere (v ∷ values) zero zero value apart = absurd (apart refl)
set_elsewhere (v ∷ values) zero (suc other) value apart = refl
set_elsewhere (v ∷ values) (suc rec) zero value apart = refl
set_elsewhere (v ∷ values) (suc rec) (suc other) value apart = set_elsewhere values rec other value (λ e. apart (ap suc e))

-- the tuples of a record that earlier grants leave carry its value
abbrev pub CarriedAt : Setting → List Given → List Datum → ℕ → Type 0
CarriedAt setting given values rec = MatchOption (slice_get values rec) ⊥ (Carries (first_of setting rec) (left_column setting.base given rec))

abbrev pub Carried : Setting → List Given → List Datum → Type 0
Carried setting given values = (rec : ℕ) → rec < length setting.firsts → CarriedAt setting given values rec

-- a record's value, with the tuples that carry it
record Valued (at : Option Datum) (P : Datum → Type 0) : Type 0 where
  value : Datum
  is : at ≡ Some value
  carried : P value

valued : (at : Option Datum) (P : Datum → Type 0) → MatchOption at ⊥ P → Valued at P
valued None P h = absurd h
valued (Some value) P h = record { value = value; is = refl; carried = h }

carried_from : (setting : Setting) (given : List Given) (values : List Datum) (rec : ℕ) (value : Datum) → slice_get values rec ≡ Some value → Carries (first_of setting rec) (left_column setting.base given rec) value → CarriedAt setting given values rec
carried_from setting given values rec value is carried = subst (λ at. MatchOption at ⊥ (Carries (first_of setting rec) (left_column setting.base given rec))) (sym is) carried

-- what a manager of one record does to all
each_record : (setting : Setting) (given gs : List Given) (values later : List Datum) (rec : ℕ) → All (IsAt setting rec) gs → Carried setting given values → CarriedAt setting (given ++ gs) later rec → ((other : ℕ) → other ≢ rec → slice_get later other ≡ slice_get values other) → Carried setting (given ++ gs) later
each_record setting given gs values later rec at before here same other there = elim (cases_eq other rec) [
  | inl is ↦ subst (λ r. CarriedAt setting (given ++ gs) later r) (sym is) here
  | inr apart ↦
      subst (λ tuples. MatchOption (slice_get later other) ⊥ (Carries (first_of setting other) tuples)) (column_apart setting given gs rec other apart at)
      (subst (λ v. MatchOption v ⊥ (Carries (first_of setting other) (left_column setting.base given other))) (sym (same other apart)) (before other there))
]

-- what one manager finds and leaves
pub record Step (setting : Setting) (given gs : List Given) (values : List Datum) (k : Kind) (a : Answer) : Type 0 where
  pub answers : AnswersValue values k a
  pub carried : Carried setting (given ++ gs) (values_by values k)

pub step : (setting : Setting) (given gs : List Given) (values : List Datum) (k : Kind) (a : Answer) → record_of k < length setting.firsts → All (IsAt setting (record_of k)) gs → Complete (first_of setting (record_of k)) k a gs → FindsThere (left_column setting.base given (record_of k)) gs → Carried setting given values → Step setting given gs values k a
step setting given gs values (kind.Read rec) (answer.Value value) there at done finds before =
    let now = valued (slice_get values rec) (Carries (first_of setting rec) (left_column setting.base given rec)) (before rec there) in
    let first = first_of setting rec in
    let tuples = left_column setting.base given rec in
    let is = read_answers first tuples now.value value gs now.carried (column_within setting given gs rec at) finds done in
    let left = sym (read_leaves first tuples value gs done) ∙ column_after setting given gs rec at in
    record {
      answers = now.is ∙ ap (λ v. Some v) (sym is);
      carried = each_record setting given gs values values rec at before (carried_from setting (given ++ gs) values rec now.value now.is (subst (λ ts. Carries first ts now.value) left now.carried)) (λ other apart. refl);
    }
step setting given gs values (kind.Write rec value) answer.Nothing there at done finds before =
    let now = valued (slice_get values rec) (Carries (first_of setting rec) (left_column setting.base given rec)) (before rec there) in
    let first = first_of setting rec in
    let tuples = left_column setting.base given rec in
    let after = write_carries first tuples now.value value gs now.carried (column_within setting given gs rec at) finds done in
    record {
      answers = tt;
      carried = each_record setting given gs values (set values rec value) rec at before (carried_from setting (given ++ gs) (set values rec value) rec value (set_here values rec now.value value now.is) (subst (λ ts. Carries first ts value) (column_after setting given gs rec at) after)) (λ other apart. set_elsewhere values rec other value apart);
    }
step setting given gs values (kind.Reconf rec config) (answer.Generation generation) there at done finds before =
    let now = valued (slice_get values rec) (Carries (first_of setting rec) (left_column setting.base given rec)) (before rec there) in
    let first = first_of setting rec in
    let tuples = left_column setting.base given rec in
    let after = (move_carries first config tuples now.value generation gs now.carried (column_within setting given gs rec at) finds done).0 in
    record {
      answers = tt;
      carried = each_record setting given gs values values rec at before (carried_from setting (given ++ gs) values rec now.value now.is (subst (λ ts. Carries first ts now.value) (column_after setting given gs rec at) after)) (λ other apart. refl);
    }
step setting given gs values k a there at done finds before = absurd done

-- what managers in turn find and leave
record InTurn (setting : Setting) (whole : List Given) (values : List Datum) (dones : List Done) : Type 0 where
  answers : AnswerValues values dones
  carried : Carried setting whole (values_after values dones)

in_turn : (setting : Setting) (whole given : List Given) (values : List Datum) (dones : List Done) → Finds setting.base whole → whole ≡ given ++ given_to dones → All (IsDone setting) dones → Carried setting given values → InTurn setting whole values dones
in_turn setting whole given values [] finds parts all before = record { answers = tt; carried = subst (λ gs. Carried setting gs values) (sym (append-nil given) ∙ sym parts) before }
in_turn setting whole given values (d ∷ dones) finds parts all before =
    let done = All-head (IsDone setting) d dones all in
    let rec = record_of d.kind in
    let there = column_finds setting whole given d.given (given_to dones) rec finds parts done.at_record in
    let one = step setting given d.given values d.kind d.answer done.record_there done.at_record done.complete there before in
    let rest = in_turn setting whole (given ++ d.given) (values_by values d.kind) dones finds (parts ∙ sym (append_assoc given d.given (given_to dones))) (All-tail (IsDone setting) d dones all) one.carried in
    record { answers = (one.answers, rest.answers); carried = rest.carried }

pub started : (setting : Setting) (values : List Datum) → IsSound setting values → Carried setting [] values
started setting values sound rec there = subst (λ tuples. MatchOption (slice_get values rec) ⊥ (Carries (first_of setting rec) tuples)) (column_start setting.base rec) (sound rec there)

pub reads_answer : (setting : Setting) (values : List Datum) (dones : List Done) → IsSound setting values → All (IsDone setting) dones → Finds setting.base (given_to dones) → AnswerValues values dones
reads_answer setting values dones sound all finds = (in_turn setting (given_to dones) [] values dones finds refl all (started setting values sound)).answers

pub left_sound : (setting : Setting) (values : List Datum) (dones : List Done) → IsSound setting values → All (IsDone setting) dones → Finds setting.base (given_to dones) → IsSound (left_setting setting (given_to dones)) (values_after values dones)
left_sound setting values dones sound all finds rec there =
    subst (λ tuples. MatchOption (slice_get (values_after values dones) rec) ⊥ (Carries (first_of setting rec) tuples)) (sym (column_left setting (given_to dones) rec there))
    ((in_turn setting (given_to dones) [] values dones finds refl all (started setting values sound)).carried rec there)
