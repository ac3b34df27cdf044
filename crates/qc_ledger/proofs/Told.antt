-- What bodies tell with one more, and that they stay in order.
use Rattle.std.proofs.Common.{◌≡◌, inl, inr, ℕ, ◌<◌, ◌==◌, Bool, true, false, List, [], ◌∷◌, ◌++◌, length, refl, sym, ap, ap₂, ◌∙◌, arith, append-nil}
use mathlib.Core.Bool.{true≢false}
use Rattle.std.specs.Prelude.{Option, None, Some, MatchOption, if◌then◌else◌, is_some, unwrap_or}
use Rattle.std.specs.List.{cons_option, filter_map, last_or}
use Rattle.std.specs.Option.{option_and_then, option_map}
use Rattle.std.proofs.lemmas.Bool.{eqb-true}
use Rattle.std.proofs.lemmas.List.Elements.{filter_map-append}
use Rattle.qc_event.proofs.Lists.{last_push}
use Rattle.qc_codec.specs.Base.{base_in, epoch_of_base, layout_of, ledger_base}
use Rattle.qc_codec.specs.Bodies as body
use Rattle.qc_codec.specs.Fields.{Layout}
use Rattle.qc_codec.specs.Form.{Form, all_of, marked}
use Rattle.qc_codec.specs.Ledger.{IsMade, IsNextBody, MayStand, logged_in, past_in, readings}
use Rattle.qc_codec.specs.declared.past.Logged.{Logged}
use Rattle.qc_codec.specs.declared.past.Past.{Past}
use Rattle.qc_codec.specs.declared.record.BaseRecord.{BaseRecord}
use Rattle.qc_codec.specs.declared.record.LedgerRecord.{LedgerRecord}
use Rattle.qc_codec.specs.declared.record.LedgerRecord.TheVariants.{Made, Epoch, Top}
use Rattle.qc_codec.specs.declared.record.Made.{Made as MadeRecord}
use Rattle.qc_ledger.specs.Reading.{IsMadeBy}
use Rattle.qc_ledger.specs.Seen.{with_base, with_body}

abbrev last_epoch : Option BaseRecord → List LedgerRecord → ℕ
last_epoch base rs = unwrap_or (last_or None (filter_map body.epoch_of rs)) (epoch_of_base base)

abbrev epoch_in : Option BaseRecord → Option ℕ
epoch_in base = option_map (λ (b : BaseRecord). b.epoch) base

abbrev made_past : Option BaseRecord → ℕ → List Logged → Past
made_past base epoch tops = record { epoch = epoch; base = epoch_in base; tops = tops }

abbrev tells : Option BaseRecord → List LedgerRecord → Past
tells base rs = made_past base (last_epoch base rs) (filter_map logged_in rs)

-- ONE MORE

module _ (base : Option BaseRecord) where
  past_is : (a b : ℕ) (s t : List Logged) → a ≡ b → s ≡ t → made_past base a s ≡ made_past base b t
  past_is a b s t e is = ap₂ (made_past base) e is

  epoch_same : (rs : List LedgerRecord) (r : LedgerRecord) → filter_map body.epoch_of (r ∷ []) ≡ [] → last_epoch base (rs ++ r ∷ []) ≡ last_epoch base rs
  epoch_same rs r none = ap (λ (l : List ℕ). unwrap_or (last_or None l) (epoch_of_base base)) (filter_map-append body.epoch_of rs (r ∷ []) ∙ ap (λ (l : List ℕ). filter_map body.epoch_of rs ++ l) none ∙ append-nil (filter_map body.epoch_of rs))

  tops_same : (rs : List LedgerRecord) (r : LedgerRecord) → filter_map logged_in (r ∷ []) ≡ [] → filter_map logged_in (rs ++ r ∷ []) ≡ filter_map logged_in rs
  tops_same rs r none = filter_map-append logged_in rs (r ∷ []) ∙ ap (λ (l : List Logged). filter_map logged_in rs ++ l) none ∙ append-nil (filter_map logged_in rs)

  tells_more : (rs : List LedgerRecord) (o : Option LedgerRecord) → tells base (rs ++ cons_option o []) ≡ with_body (tells base rs) o
  tells_more rs None = ap (tells base) (append-nil rs)
  tells_more rs (Some (Made m)) = past_is _ _ _ _ (epoch_same rs (Made m) refl) (tops_same rs (Made m) refl)
  tells_more rs (Some (Epoch e)) = past_is _ _ _ _
      (ap (λ (l : List ℕ). unwrap_or (last_or None l) (epoch_of_base base)) (filter_map-append body.epoch_of rs (Epoch e ∷ []))
      ∙ ap (λ (o : Option ℕ). unwrap_or o (epoch_of_base base)) (last_push None (filter_map body.epoch_of rs) e))
      (tops_same rs (Epoch e) refl)
  tells_more rs (Some (Top t aborted)) = past_is _ _ _ _ (epoch_same rs (Top t aborted) refl) (filter_map-append logged_in rs (Top t aborted ∷ []))

-- what bodies tell with one more that leaves the base as it is
pub past_push : (bodies : List (List ℕ)) (bytes : List ℕ) → base_in ledger_base (bodies ++ bytes ∷ []) ≡ base_in ledger_base bodies → past_in (bodies ++ bytes ∷ []) ≡ with_body (past_in bodies) (all_of body.ledger bytes)
past_push bodies bytes same =
    ap (λ (base : Option BaseRecord). tells base (readings body.ledger (bodies ++ bytes ∷ []))) same
    ∙ ap (tells (base_in ledger_base bodies)) (filter_map-append (all_of body.ledger) bodies (bytes ∷ []))
    ∙ tells_more (base_in ledger_base bodies) (readings body.ledger bodies) (all_of body.ledger bytes)

-- what stands behind the next one has no part in the base
pub base_front : (bodies rest : List (List ℕ)) (bytes : List ℕ) → 0 < length bodies → base_in ledger_base (bodies ++ bytes ∷ rest) ≡ base_in ledger_base (bodies ++ bytes ∷ [])
base_front [] rest bytes some = absurd (omega (arith, some))
base_front (first ∷ []) rest bytes some = refl
base_front (first ∷ second ∷ bodies) rest bytes some = refl

-- behind some bodies, the rule is that of the past that they tell
module _ (disk : ℕ) where
  pub stands_by : (bodies : List (List ℕ)) (bytes : List ℕ) → 0 < length bodies → IsNextBody bodies bytes → MayStand disk bodies bytes
  stands_by [] bytes some may = absurd (omega (arith, some))
  stands_by (first ∷ []) bytes some may = inr may
  stands_by (first ∷ second ∷ bodies) bytes some may = may

  pub by_stands : (bodies : List (List ℕ)) (bytes : List ℕ) → 0 < length bodies → base_in ledger_base (bodies ++ bytes ∷ []) ≡ base_in ledger_base bodies → MayStand disk bodies bytes → IsNextBody bodies bytes
  by_stands [] bytes some same may = absurd (omega (arith, some))
  by_stands (first ∷ []) bytes some same (inl is) = absurd (true≢false (sym is ∙ ap (λ (o : Option BaseRecord). is_some o) same))
  by_stands (first ∷ []) bytes some same (inr may) = may
  by_stands (first ∷ second ∷ bodies) bytes some same may = may

-- A BASE

-- what is read behind a mark begins with it
marked_front : {A : Type 0} (n : ℕ) (f : Form A) (bytes : List ℕ) (x : A) → all_of (marked n f) bytes ≡ Some x → (rest : List ℕ) × (bytes ≡ n ∷ rest)
marked_front n f [] x is = absurd cc
marked_front {A} n f (b ∷ bytes) x is = by (b == n) refl is
  where
    by : (t : Bool) → (b == n) ≡ t → option_and_then (λ (y : A × List ℕ). if length y.1 == 0 then Some y.0 else None) (if t then f.taken bytes else None) ≡ Some x → (rest : List ℕ) × (b ∷ bytes ≡ n ∷ rest)
    by true same read = (bytes, ap (λ k. k ∷ bytes) (eqb-true b n same))
    by false same read = absurd cc

-- what is a base is no record of the ledger
pub base_no_record : (layout : Layout) (bytes : List ℕ) (b : BaseRecord) → all_of (body.base layout 0) bytes ≡ Some b → all_of body.ledger bytes ≡ None
unfolding body.base body.ledger
base_no_record layout bytes b is = let front = marked_front 4 (body.folded layout 0) bytes b is in ap (all_of body.ledger) front.1

-- what stands second is read by the layout of the made record
pub base_read : (layout : Layout) (first second : List ℕ) (bodies : List (List ℕ)) → IsMadeBy layout first → base_in ledger_base (first ∷ second ∷ bodies) ≡ all_of (body.base layout 0) second
base_read layout first second bodies over = by (all_of body.made first) over
  where
    by : (o : Option MadeRecord) → MatchOption o ⊥ (λ (made : MadeRecord). layout_of made ≡ layout) → option_and_then (λ (made : MadeRecord). all_of (ledger_base made) second) o ≡ all_of (body.base layout 0) second
    by None of = absurd of
    by (Some made) of = ap (λ (l : Layout). all_of (body.base l 0) second) of

-- what the first two tell where the second is a base
pub past_base : (disk : ℕ) (first second : List ℕ) (b : BaseRecord) → base_in ledger_base (first ∷ second ∷ []) ≡ Some b → all_of body.ledger second ≡ None → MatchOption (all_of body.ledger first) ⊥ (IsMade disk) → past_in (first ∷ second ∷ []) ≡ with_base (past_in []) (Some b)
past_base disk first second b is none made =
    ap (λ (base : Option BaseRecord). tells base (readings body.ledger (first ∷ second ∷ []))) is
    ∙ ap (λ (o : Option LedgerRecord). tells (Some b) (cons_option (all_of body.ledger first) (cons_option o []))) none
    ∙ by (all_of body.ledger first) made
  where
    by : (o : Option LedgerRecord) → MatchOption o ⊥ (IsMade disk) → tells (Some b) (cons_option o []) ≡ with_base (past_in []) (Some b)
    by None of = absurd of
    by (Some (Made m)) of = refl
    by (Some (Epoch epoch)) of = absurd of
    by (Some (Top top aborted)) of = absurd of
