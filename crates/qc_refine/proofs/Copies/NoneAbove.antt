-- After complete managers in turn no tuple that a record's copies ever had is above those that they have.
use Rattle.std.proofs.Common.{◌≡◌, ◌≢◌, ℕ, ◌<◌, List, [], ◌∷◌, ◌++◌, length, refl, sym, ap, ◌∙◌, subst, inl, inr, set, append_assoc, append-nil}
use Rattle.std.specs.Prelude.{All, Option, None, Some, MatchOption, slice_get}
use Rattle.std.specs.List.{Contains}
use Rattle.std.proofs.lemmas.Bool.{cases_eq}
use Rattle.std.proofs.lemmas.List.Elements.{All-nil, All-head, All-tail, All-append, All-weaker, All-contains, All-contains_itself, Contains-append_left, Contains-append_right}
use Rattle.qc_config.specs.Config.{Voting}
use Rattle.qc_config.specs.Val.{Datum}
use Rattle.qc_config.specs.declared.tuple.Tuple.{Tuple}
use Rattle.qc_event.specs.Base.{Setting, first_of}
use Rattle.qc_event.specs.History.{Given}
use Rattle.qc_event.specs.Manager.{record_of}
use Rattle.qc_event.specs.Sound.{Carries, IsSound, greatest_version, column}
use Rattle.qc_event.specs.declared.event.Answer.{Answer}
use Rattle.qc_event.specs.declared.event.Answer.TheVariants as answer
use Rattle.qc_event.specs.declared.event.Kind.{Kind}
use Rattle.qc_event.specs.declared.event.Kind.TheVariants as kind
use Rattle.qc_serial.specs.Visible.{Finds}
use Rattle.qc_refine.specs.Completed.{FindsThere, Within, after_all}
use Rattle.qc_refine.specs.InTurn.{Done, Complete, IsAt, IsDone, given_to, values_by, values_after}
use Rattle.qc_refine.proofs.Copies.Columns.{left_column, column_length, column_start, column_after, column_apart, column_finds, column_within}
use Rattle.qc_refine.proofs.Copies.Fits.{Fits, PutIs, carried_fit, left_are}
use Rattle.qc_refine.proofs.Copies.Grown.{Grown, read_grown, write_grown, move_grown}
use Rattle.qc_refine.proofs.Copies.InTurn.{CarriedAt, Carried, set_here, set_elsewhere, step, started}

-- a grant of the record fits
abbrev pub FitsOf : ℕ → ℕ → Datum → Given → Type 0
FitsOf rec version value g = g.grant.rec ≡ rec → Fits version value g.grant.tuple

-- The start tuples of a record and those of its grants fit the copies that grants leave, and of each of these a
-- property holds.
pub record NoneAbove (setting : Setting) (rec : ℕ) (P : Tuple → Type 0) (given : List Given) (value : Datum) : Type 0 where
  pub starts : All (Fits (greatest_version (left_column setting.base given rec)) value) (column setting.base rec)
  pub grants : All (FitsOf rec (greatest_version (left_column setting.base given rec)) value) given
  pub known : All P (left_column setting.base given rec)

abbrev pub NoneAboveAt : Setting → ℕ → (Tuple → Type 0) → List Given → Option Datum → Type 0
NoneAboveAt setting rec P given at = MatchOption at ⊥ (NoneAbove setting rec P given)

module _ (setting : Setting) (rec : ℕ) (P : Tuple → Type 0) where
  -- grants of another record
  apart : (given gs : List Given) (other : ℕ) (value : Datum) → rec ≢ other → All (IsAt setting other) gs → NoneAbove setting rec P given value → NoneAbove setting rec P (given ++ gs) value
  apart given gs other value differ at was = record {
    starts = subst (λ ts. All (Fits (greatest_version ts) value) (column setting.base rec)) same was.starts;
    grants = All-append (FitsOf rec now value) given gs
        (subst (λ ts. All (FitsOf rec (greatest_version ts) value) given) same was.grants)
        (All-weaker (IsAt setting other) (FitsOf rec now value) (λ g is of_record. absurd (differ (sym of_record ∙ is.of_record))) gs at);
    known = subst (All P) same was.known;
  }
    where
      same : left_column setting.base given rec ≡ left_column setting.base (given ++ gs) rec
      same = column_apart setting given gs other rec differ at

      now : ℕ
      now = greatest_version (left_column setting.base (given ++ gs) rec)

  -- grants of a manager of the record
  more : (given gs : List Given) (value new : Datum) → All (IsAt setting rec) gs → FindsThere (left_column setting.base given rec) gs → All (PutIs P) gs → Grown (left_column setting.base given rec) gs value new → NoneAbove setting rec P given value → NoneAbove setting rec P (given ++ gs) new
  more given gs value new at finds puts grown was = record {
    starts = subst (λ ts. All (Fits (greatest_version ts) new) (column setting.base rec)) left
        (All-weaker (Fits (greatest_version tuples) value) (Fits (greatest_version (after_all tuples gs)) new) grown.older (column setting.base rec) was.starts);
    grants = subst (λ ts. All (FitsOf rec (greatest_version ts) new) (given ++ gs)) left (
        All-append (FitsOf rec (greatest_version (after_all tuples gs)) new) given gs
        (All-weaker (FitsOf rec (greatest_version tuples) value) (FitsOf rec (greatest_version (after_all tuples gs)) new) (λ g fits of_record. grown.older g.grant.tuple (fits of_record)) given was.grants)
        (All-weaker (λ (g : Given). Fits (greatest_version (after_all tuples gs)) new g.grant.tuple) (FitsOf rec (greatest_version (after_all tuples gs)) new) (λ g fits of_record. fits) gs grown.given)
        );
    known = subst (All P) left (left_are P tuples gs (column_within setting given gs rec at) finds puts was.known);
  }
    where
      tuples : List Tuple
      tuples = left_column setting.base given rec

      left : after_all tuples gs ≡ left_column setting.base (given ++ gs) rec
      left = column_after setting given gs rec at

  -- one manager of the record more
  by_kind : (given gs : List Given) (values : List Datum) (k : Kind) (a : Answer) → record_of k ≡ rec → All (IsAt setting rec) gs → Complete (first_of setting rec) k a gs → FindsThere (left_column setting.base given rec) gs → All (PutIs P) gs
      → CarriedAt setting given values rec → NoneAboveAt setting rec P given (slice_get values rec) → NoneAboveAt setting rec P (given ++ gs) (slice_get (values_by values k) rec)
  by_kind given gs values k a of_record at done finds puts = by_value (slice_get values rec) refl
    where
      first : Voting
      first = first_of setting rec

      tuples : List Tuple
      tuples = left_column setting.base given rec

      within : Within (length tuples) gs
      within = column_within setting given gs rec at

      same : length (after_all tuples gs) ≡ length tuples
      same = ap length (column_after setting given gs rec at) ∙ column_length setting.base (given ++ gs) rec ∙ sym (column_length setting.base given rec)

      by_complete : (k : Kind) (a : Answer) (value : Datum) → record_of k ≡ rec → Complete first k a gs → slice_get values rec ≡ Some value → Carries first tuples value → NoneAbove setting rec P given value → NoneAboveAt setting rec P (given ++ gs) (slice_get (values_by values k) rec)
      by_complete (kind.Read r) (answer.Value told) value of done is carried was =
          subst (NoneAboveAt setting rec P (given ++ gs)) (sym is) (more given gs value value at finds puts (read_grown first tuples value gs carried within finds told done same) was)
      by_complete (kind.Write r new) answer.Nothing value of done is carried was =
          subst (NoneAboveAt setting rec P (given ++ gs)) (sym (ap (λ x. slice_get (set values x new) rec) of ∙ set_here values rec value new is))
          (more given gs value new at finds puts (write_grown first tuples value gs carried within finds new done same) was)
      by_complete (kind.Reconf r config) (answer.Generation told) value of done is carried was =
          subst (NoneAboveAt setting rec P (given ++ gs)) (sym is) (more given gs value value at finds puts (move_grown first tuples value gs carried within finds config told done same) was)
      by_complete k a value of done is carried was = absurd done

      by_value : (o : Option Datum) → slice_get values rec ≡ o → MatchOption o ⊥ (Carries first tuples) → NoneAboveAt setting rec P given o → NoneAboveAt setting rec P (given ++ gs) (slice_get (values_by values k) rec)
      by_value None is carried was = absurd carried
      by_value (Some value) is carried was = by_complete k a value of_record done is carried was

  -- a manager of another record leaves its value
  other_value : (values : List Datum) (k : Kind) → rec ≢ record_of k → slice_get (values_by values k) rec ≡ slice_get values rec
  other_value values (kind.Write r value) differ = set_elsewhere values r rec value differ
  other_value values _ differ = refl

  other_kind : (given gs : List Given) (values : List Datum) (k : Kind) → rec ≢ record_of k → All (IsAt setting (record_of k)) gs → NoneAboveAt setting rec P given (slice_get values rec) → NoneAboveAt setting rec P (given ++ gs) (slice_get (values_by values k) rec)
  other_kind given gs values k differ at was = subst (NoneAboveAt setting rec P (given ++ gs)) (sym (other_value values k differ)) (by_value (slice_get values rec) was)
    where
      by_value : (o : Option Datum) → NoneAboveAt setting rec P given o → NoneAboveAt setting rec P (given ++ gs) o
      by_value None was = was
      by_value (Some value) was = apart given gs (record_of k) value differ at was

  module _ (whole : List Given) (finds : Finds setting.base whole) (there : rec < length setting.firsts) (puts : (g : Given) → Contains whole g → g.grant.rec ≡ rec → PutIs P g) where
    -- the puts of a part
    part_puts : (given gs later : List Given) → whole ≡ given ++ (gs ++ later) → All (IsAt setting rec) gs → All (PutIs P) gs
    part_puts given gs later parts at =
        All-weaker (Contains gs) (PutIs P)
        (λ g c. puts g (subst (λ w. Contains w g) (sym parts) (Contains-append_right given (gs ++ later) g (Contains-append_left gs later g c))) (All-contains (IsAt setting rec) gs g at c).of_record)
        gs (All-contains_itself gs)

    above_after : (given : List Given) (values : List Datum) (dones : List Done) → whole ≡ given ++ given_to dones → All (IsDone setting) dones → Carried setting given values → NoneAboveAt setting rec P given (slice_get values rec)
        → NoneAboveAt setting rec P whole (slice_get (values_after values dones) rec)
    above_after given values [] parts all carried was = subst (λ gs. NoneAboveAt setting rec P gs (slice_get values rec)) (sym (append-nil given) ∙ sym parts) was
    above_after given values (d ∷ dones) parts all carried was =
        above_after (given ++ d.given) (values_by values d.kind) dones (parts ∙ sym (append_assoc given d.given (given_to dones))) (All-tail (IsDone setting) d dones all)
        (step setting given d.given values d.kind d.answer done.record_there done.at_record done.complete here carried).carried
        (elim (cases_eq rec (record_of d.kind)) [
          | inl is ↦ by_kind given d.given values d.kind d.answer (sym is) (at_rec is) (subst (λ r. Complete (first_of setting r) d.kind d.answer d.given) (sym is) done.complete)
              (subst (λ r. FindsThere (left_column setting.base given r) d.given) (sym is) here) (part_puts given d.given (given_to dones) parts (at_rec is)) (carried rec there) was
          | inr differ ↦ other_kind given d.given values d.kind differ done.at_record was
        ])
      where
        done : IsDone setting d
        done = All-head (IsDone setting) d dones all

        here : FindsThere (left_column setting.base given (record_of d.kind)) d.given
        here = column_finds setting whole given d.given (given_to dones) (record_of d.kind) finds parts done.at_record

        at_rec : rec ≡ record_of d.kind → All (IsAt setting rec) d.given
        at_rec is = subst (λ r. All (IsAt setting r) d.given) (sym is) done.at_record

  -- no grant is above what sound copies start with
  begins : (values : List Datum) → Carried setting [] values → rec < length setting.firsts → All P (column setting.base rec) → NoneAboveAt setting rec P [] (slice_get values rec)
  begins values carried there known = by_value (slice_get values rec) (carried rec there)
    where
      by_value : (o : Option Datum) → MatchOption o ⊥ (Carries (first_of setting rec) (left_column setting.base [] rec)) → NoneAboveAt setting rec P [] o
      by_value None carried = carried
      by_value (Some value) carried = record {
        starts = subst (All (Fits (greatest_version (left_column setting.base [] rec)) value)) (sym (column_start setting.base rec)) (carried_fit (first_of setting rec) (left_column setting.base [] rec) value carried);
        grants = All-nil _;
        known = subst (All P) (column_start setting.base rec) known;
      }

  pub none_above : (values : List Datum) (dones : List Done) → IsSound setting values → All (IsDone setting) dones → Finds setting.base (given_to dones) → rec < length setting.firsts → All P (column setting.base rec)
      → ((g : Given) → Contains (given_to dones) g → g.grant.rec ≡ rec → PutIs P g) → NoneAboveAt setting rec P (given_to dones) (slice_get (values_after values dones) rec)
  none_above values dones sound all finds there known puts =
      let begun = started setting values sound in
      above_after (given_to dones) finds there puts [] values dones refl all begun (begins values begun there known)
