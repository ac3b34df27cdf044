-- What grants leave at the copies of one record: those of this record change its tuples, and others none.
use Rattle.std.proofs.Common.{◌≡◌, ◌≢◌, ℕ, ◌<◌, ◌==◌, true, false, List, [], ◌∷◌, ◌++◌, length, refl, sym, ap, ◌∙◌, subst, inl, inr, arith, map, get_or, append_assoc}
use Rattle.std.specs.Prelude.{All}
use Rattle.std.specs.List.{range_with_len}
use Rattle.std.proofs.lemmas.Bool.{cases_eq, cond-true, cond-false, eq-eqb, ne_eqb, and_left, and_right, and_from}
use Rattle.std.proofs.lemmas.List.{length-map, length-set, get_or-map, get_or-set_same, get_or-set_other, append-nil}
use Rattle.std.proofs.lemmas.List.Elements.{All-head, All-tail, All-weaker}
use Rattle.std.proofs.lemmas.List.FromFn.{length-map-range_with_len, get_or-map-range_with_len, fill_by_all}
use Rattle.qc_config.specs.Tuple.{after}
use Rattle.qc_config.specs.declared.tuple.Tuple.{Tuple}
use Rattle.qc_event.specs.Base.{Setting, no_tuple}
use Rattle.qc_event.specs.History.{Given}
use Rattle.qc_event.specs.Sound.{column}
use Rattle.qc_serial.specs.Visible.{is_at, left_at, Finds}
use Rattle.qc_serial.proofs.MossFinds.{left_last}
use Rattle.qc_refine.specs.Completed.{FindsThere, Within, tuple_at, after_one, after_all}
use Rattle.qc_refine.specs.InTurn.{IsAt, left_base}

-- a record's tuples after grants
abbrev pub left_column : List (List Tuple) → List Given → ℕ → List Tuple
left_column base given rec = map (λ copy. left_at base given copy rec) (range_with_len 0 (length base))

pub column_length : (base : List (List Tuple)) (given : List Given) (rec : ℕ) → length (left_column base given rec) ≡ length base
column_length base given rec = length-map-range_with_len (λ copy. left_at base given copy rec) 0 (length base)

column_at : (base : List (List Tuple)) (given : List Given) (rec copy : ℕ) → copy < length base → tuple_at (left_column base given rec) copy ≡ left_at base given copy rec
column_at base given rec copy lt = get_or-map-range_with_len (λ c. left_at base given c rec) 0 (length base) copy copy no_tuple lt (omega arith)

pub column_start : (base : List (List Tuple)) (rec : ℕ) → column base rec ≡ left_column base [] rec
column_start base rec =
    fill_by_all (λ copy. left_at base [] copy rec) (column base rec) (length base) no_tuple
    (length-map base (λ row. get_or row rec no_tuple))
    (λ copy lt. get_or-map (λ row. get_or row rec no_tuple) base copy [] no_tuple lt)

pub column_left : (setting : Setting) (given : List Given) (rec : ℕ) → rec < length setting.firsts → column (left_base setting given) rec ≡ left_column setting.base given rec
column_left setting given rec there =
    fill_by_all (λ copy. left_at setting.base given copy rec) (column (left_base setting given) rec) (length setting.base) no_tuple
    (length-map (left_base setting given) at_record ∙ rows)
    (λ copy lt.
    get_or-map at_record (left_base setting given) copy [] no_tuple (omega (arith, rows, lt))
    ∙ ap at_record (get_or-map-range_with_len row 0 (length setting.base) copy copy [] lt (omega arith))
    ∙ get_or-map-range_with_len (λ r. left_at setting.base given copy r) 0 (length setting.firsts) rec rec no_tuple there (omega arith))
  where
    at_record : List Tuple → Tuple
    at_record tuples = get_or tuples rec no_tuple

    row : ℕ → List Tuple
    row copy = map (λ r. left_at setting.base given copy r) (range_with_len 0 (length setting.firsts))

    rows : length (left_base setting given) ≡ length setting.base
    rows = length-map-range_with_len row 0 (length setting.base)

-- ONE GRANT MORE

one_at : (base : List (List Tuple)) (given : List Given) (g : Given) (copy rec : ℕ) → is_at copy rec g ≡ true → left_at base (given ++ g ∷ []) copy rec ≡ after (left_at base given copy rec) g.grant.op
one_at base given g copy rec at = left_last base given g copy rec ∙ cond-true (is_at copy rec g) (after (left_at base given copy rec) g.grant.op) (left_at base given copy rec) at

one_apart : (base : List (List Tuple)) (given : List Given) (g : Given) (copy rec : ℕ) → is_at copy rec g ≡ false → left_at base (given ++ g ∷ []) copy rec ≡ left_at base given copy rec
one_apart base given g copy rec apart = left_last base given g copy rec ∙ cond-false (is_at copy rec g) (after (left_at base given copy rec) g.grant.op) (left_at base given copy rec) apart

one_of_record : (base : List (List Tuple)) (given : List Given) (g : Given) (rec : ℕ) → g.copy < length base → g.grant.rec ≡ rec → after_one (left_column base given rec) g ≡ left_column base (given ++ g ∷ []) rec
one_of_record base given g rec there of_record =
    fill_by_all (λ copy. left_at base (given ++ g ∷ []) copy rec) (after_one before g) (length base) no_tuple
    (length-set before g.copy changed ∙ column_length base given rec)
    each
  where
    before : List Tuple
    before = left_column base given rec

    changed : Tuple
    changed = after (tuple_at before g.copy) g.grant.op

    here : tuple_at (after_one before g) g.copy ≡ left_at base (given ++ g ∷ []) g.copy rec
    here =
        get_or-set_same before g.copy changed no_tuple (let l = column_length base given rec in omega (arith, l, there))
        ∙ ap (λ t. after t g.grant.op) (column_at base given rec g.copy there)
        ∙ sym (one_at base given g g.copy rec (and_from (g.copy == g.copy) (g.grant.rec == rec) (eq-eqb g.copy g.copy refl) (eq-eqb g.grant.rec rec of_record)))

    each : (copy : ℕ) → copy < length base → tuple_at (after_one before g) copy ≡ left_at base (given ++ g ∷ []) copy rec
    each copy lt = elim (cases_eq copy g.copy) [
      | inl same ↦ subst (λ c. tuple_at (after_one before g) c ≡ left_at base (given ++ g ∷ []) c rec) (sym same) here
      | inr other ↦
          get_or-set_other before g.copy copy changed no_tuple other
          ∙ column_at base given rec copy lt
          ∙ sym (one_apart base given g copy rec (and_left (g.copy == copy) (g.grant.rec == rec) (ne_eqb g.copy copy (λ e. other (sym e)))))
    ]

one_of_other : (base : List (List Tuple)) (given : List Given) (g : Given) (rec : ℕ) → g.grant.rec ≢ rec → left_column base given rec ≡ left_column base (given ++ g ∷ []) rec
one_of_other base given g rec other =
    fill_by_all (λ copy. left_at base (given ++ g ∷ []) copy rec) (left_column base given rec) (length base) no_tuple
    (column_length base given rec)
    (λ copy lt.
    column_at base given rec copy lt
    ∙ sym (one_apart base given g copy rec (and_right (g.copy == copy) (g.grant.rec == rec) (ne_eqb g.grant.rec rec other))))

-- MANY GRANTS MORE

pub column_after : (setting : Setting) (given gs : List Given) (rec : ℕ) → All (IsAt setting rec) gs → after_all (left_column setting.base given rec) gs ≡ left_column setting.base (given ++ gs) rec
column_after setting given [] rec at = ap (λ xs. left_column setting.base xs rec) (sym (append-nil given))
column_after setting given (g ∷ gs) rec at =
    let first = All-head (IsAt setting rec) g gs at in
    ap (λ ts. after_all ts gs) (one_of_record setting.base given g rec first.copy_there first.of_record)
    ∙ column_after setting (given ++ g ∷ []) gs rec (All-tail (IsAt setting rec) g gs at)
    ∙ ap (λ xs. left_column setting.base xs rec) (append_assoc given (g ∷ []) gs)

pub column_apart : (setting : Setting) (given gs : List Given) (rec other : ℕ) → other ≢ rec → All (IsAt setting rec) gs → left_column setting.base given other ≡ left_column setting.base (given ++ gs) other
column_apart setting given [] rec other apart at = ap (λ xs. left_column setting.base xs other) (sym (append-nil given))
column_apart setting given (g ∷ gs) rec other apart at =
    let first = All-head (IsAt setting rec) g gs at in
    one_of_other setting.base given g other (λ e. apart (sym e ∙ first.of_record))
    ∙ column_apart setting (given ++ g ∷ []) gs rec other apart (All-tail (IsAt setting rec) g gs at)
    ∙ ap (λ xs. left_column setting.base xs other) (append_assoc given (g ∷ []) gs)

-- grants that find what earlier ones leave find it in their record's column
pub column_finds : (setting : Setting) (whole given gs later : List Given) (rec : ℕ) → Finds setting.base whole → whole ≡ given ++ (gs ++ later) → All (IsAt setting rec) gs → FindsThere (left_column setting.base given rec) gs
column_finds setting whole given [] later rec finds parts at = tt
column_finds setting whole given (g ∷ gs) later rec finds parts at =
    let first = All-head (IsAt setting rec) g gs at in
    let there = first.copy_there in
    let here : g.grant.tuple ≡ after (left_at setting.base given g.copy rec) g.grant.op = subst (λ r. g.grant.tuple ≡ after (left_at setting.base given g.copy r) g.grant.op) first.of_record (finds given (gs ++ later) g parts) in (
      here ∙ ap (λ t. after t g.grant.op) (sym (column_at setting.base given rec g.copy there)),
      subst (λ ts. FindsThere ts gs) (sym (one_of_record setting.base given g rec there first.of_record))
          (column_finds setting whole (given ++ g ∷ []) gs later rec finds (parts ∙ sym (append_assoc given (g ∷ []) (gs ++ later))) (All-tail (IsAt setting rec) g gs at)),
    )

pub column_within : (setting : Setting) (given gs : List Given) (rec : ℕ) → All (IsAt setting rec) gs → Within (length (left_column setting.base given rec)) gs
column_within setting given gs rec at =
    subst (λ n. Within n gs) (sym (column_length setting.base given rec))
    (All-weaker (IsAt setting rec) (λ (g : Given). g.copy < length setting.base) (λ g is. is.copy_there) gs at)
