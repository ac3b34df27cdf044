-- The tuples that grants leave, with one grant more, and those of a row where nothing was granted.
use Rattle.std.proofs.Common.{◌≡◌, inl, inr, ℕ, ◌<◌, ◌≤◌, List, [], ◌∷◌, ◌++◌, length, get_or, set, refl, sym, ap, ◌∙◌, subst, arith, cond}
use Rattle.std.specs.Prelude.{◌==◌, ◌&&◌, Bool, true, false, filter}
use Rattle.std.proofs.lemmas.Bool.{cases_lt, eqb-true, eqb-false, and_right}
use Rattle.std.proofs.lemmas.List.{ext_get_or, get_or-set_same, get_or-set_other, length-set}
use Rattle.std.proofs.lemmas.List.Elements.{filter-append}
use Rattle.std.proofs.lemmas.List.FromFn.{get_or-map-range_with_len, length-map-range_with_len}
use Rattle.std.proofs.lemmas.List.Sums.{fold-append}
use Rattle.qc_config.specs.Tuple.{after}
use Rattle.qc_config.specs.declared.tuple.Tuple.{Tuple}
use Rattle.qc_event.specs.declared.event.Grant.{Grant}
use Rattle.qc_event.specs.Base.{no_tuple}
use Rattle.qc_event.specs.Clear.{is_get}
use Rattle.qc_event.specs.History.{Name}
use Rattle.qc_event.specs.Seen.{changed_by}
use Rattle.qc_moss.proofs.Answering.{after_read}
use Rattle.qc_desk.specs.Held.{changed_row, changed_tuple, from_row, is_of}

module _ (keep : Name → Bool) (records : ℕ) (start : ℕ → Tuple) where
  -- ONE RECORD

  module _ (rec : ℕ) (gs : List Grant) (g : Grant) where
    one_more : changed_tuple keep rec (start rec) (gs ++ g ∷ []) ≡ changed_by (changed_tuple keep rec (start rec) gs) (cond (is_of keep rec g) (g ∷ []) [])
    one_more = ap (changed_by (start rec)) (filter-append (is_of keep rec) gs (g ∷ []))
        ∙ fold-append (λ (t : Tuple) (h : Grant). after t h.op) (start rec) (filter (is_of keep rec) gs) (cond (is_of keep rec g) (g ∷ []) [])

    same_by : is_of keep rec g ≡ false → changed_tuple keep rec (start rec) (gs ++ g ∷ []) ≡ changed_tuple keep rec (start rec) gs
    same_by none = one_more ∙ ap (λ b. changed_by (changed_tuple keep rec (start rec) gs) (cond b (g ∷ []) [])) none

    next_by : is_of keep rec g ≡ true → changed_tuple keep rec (start rec) (gs ++ g ∷ []) ≡ after (changed_tuple keep rec (start rec) gs) g.op
    next_by kept = one_more ∙ ap (λ b. changed_by (changed_tuple keep rec (start rec) gs) (cond b (g ∷ []) [])) kept

  -- EACH RECORD

  abbrev row : List Grant → List Tuple
  row gs = changed_row keep records start gs

  row_length : (gs : List Grant) → length (row gs) ≡ records
  row_length gs = length-map-range_with_len (λ rec. changed_tuple keep rec (start rec) gs) 0 records

  row_at : (gs : List Grant) (i : ℕ) (d : Tuple) → i < records → get_or (row gs) i d ≡ changed_tuple keep i (start i) gs
  row_at gs i d within = get_or-map-range_with_len (λ rec. changed_tuple keep rec (start rec) gs) 0 records i i d within (omega arith)

  module _ (gs : List Grant) (g : Grant) where
    -- a grant that is not kept changes none
    pub row_same : keep g.access ≡ false → row (gs ++ g ∷ []) ≡ row gs
    row_same none = ext_get_or no_tuple (row (gs ++ g ∷ [])) (row gs) (row_length (gs ++ g ∷ []) ∙ sym (row_length gs)) (λ i within.
        let below : i < records = subst (λ n. i < n) (row_length (gs ++ g ∷ [])) within in
        row_at (gs ++ g ∷ []) i no_tuple below ∙ same_by i gs g (and_right (g.rec == i) (keep g.access) none) ∙ sym (row_at gs i no_tuple below))

    -- nor does one of a read
    pub row_read : is_get g.op ≡ true → row (gs ++ g ∷ []) ≡ row gs
    row_read reads = ext_get_or no_tuple (row (gs ++ g ∷ [])) (row gs) (row_length (gs ++ g ∷ []) ∙ sym (row_length gs)) (λ i within.
        let below : i < records = subst (λ n. i < n) (row_length (gs ++ g ∷ [])) within in
        row_at (gs ++ g ∷ []) i no_tuple below ∙ each i (is_of keep i g) refl ∙ sym (row_at gs i no_tuple below))
      where
        each : (i : ℕ) (b : Bool) → is_of keep i g ≡ b → changed_tuple keep i (start i) (gs ++ g ∷ []) ≡ changed_tuple keep i (start i) gs
        each i true is = next_by i gs g is ∙ after_read (changed_tuple keep i (start i) gs) g.op reads
        each i false is = same_by i gs g is

    -- nor does one of no record
    pub row_past : records ≤ g.rec → row (gs ++ g ∷ []) ≡ row gs
    row_past past = ext_get_or no_tuple (row (gs ++ g ∷ [])) (row gs) (row_length (gs ++ g ∷ []) ∙ sym (row_length gs)) (λ i within.
        let below : i < records = subst (λ n. i < n) (row_length (gs ++ g ∷ [])) within in
        row_at (gs ++ g ∷ []) i no_tuple below
        ∙ same_by i gs g (ap (λ b. b && keep g.access) (apart i below))
        ∙ sym (row_at gs i no_tuple below))
      where
        apart : (i : ℕ) → i < records → (g.rec == i) ≡ false
        apart i below = by (g.rec == i) refl
          where
            by : (b : Bool) → (g.rec == i) ≡ b → b ≡ false
            by true is = let same : g.rec ≡ i = eqb-true g.rec i is in absurd (omega (arith, past, below, same))
            by false is = refl

    -- one that is kept changes that of its record
    pub row_next : (d : Tuple) → g.rec < records → keep g.access ≡ true → row (gs ++ g ∷ []) ≡ set (row gs) g.rec (after (get_or (row gs) g.rec d) g.op)
    row_next d known kept = ext_get_or no_tuple (row (gs ++ g ∷ [])) changed (row_length (gs ++ g ∷ []) ∙ sym (length-set (row gs) g.rec next ∙ row_length gs)) (λ i within.
        each i (subst (λ n. i < n) (row_length (gs ++ g ∷ [])) within) (g.rec == i) refl)
      where
        next : Tuple
        next = after (get_or (row gs) g.rec d) g.op

        changed : List Tuple
        changed = set (row gs) g.rec next

        each : (i : ℕ) → i < records → (b : Bool) → (g.rec == i) ≡ b → get_or (row (gs ++ g ∷ [])) i no_tuple ≡ get_or changed i no_tuple
        each i below true is =
            let here : g.rec ≡ i = eqb-true g.rec i is in
            row_at (gs ++ g ∷ []) i no_tuple below
            ∙ next_by i gs g (ap (λ b. b && keep g.access) is ∙ kept)
            ∙ ap (λ (t : Tuple). after t g.op) (sym (row_at gs i d below) ∙ ap (λ k. get_or (row gs) k d) (sym here))
            ∙ sym (get_or-set_same (row gs) g.rec next no_tuple (subst (λ n. g.rec < n) (sym (row_length gs)) known))
            ∙ ap (λ k. get_or changed k no_tuple) here
        each i below false is =
            row_at (gs ++ g ∷ []) i no_tuple below
            ∙ same_by i gs g (ap (λ b. b && keep g.access) is)
            ∙ sym (row_at gs i no_tuple below)
            ∙ sym (get_or-set_other (row gs) g.rec i next no_tuple (λ same. absurd (eqb-false g.rec i is (sym same))))

-- the row so far with one grant that is kept
pub row_more : (keep : Name → Bool) (records : ℕ) (start : ℕ → Tuple) (gs : List Grant) (g : Grant) (old new : List Tuple) → keep g.access ≡ true
    → (g.rec < length old → new ≡ set old g.rec (after (from_row old g.rec) g.op)) → (length old ≤ g.rec → new ≡ old) → old ≡ changed_row keep records start gs → new ≡ changed_row keep records start (gs ++ g ∷ [])
row_more keep records start gs g old new kept known past was = elim (cases_lt g.rec records) [
  | inl below ↦ known (subst (λ n. g.rec < n) (sym size) below)
      ∙ ap (λ (l : List Tuple). set l g.rec (after (from_row l g.rec) g.op)) was
      ∙ sym (row_next keep records start gs g no_tuple below kept)
  | inr beyond ↦ past (subst (λ n. n ≤ g.rec) (sym size) beyond) ∙ was ∙ sym (row_past keep records start gs g beyond)
]
  where
    size : length old ≡ records
    size = ap length was ∙ row_length keep records start gs

-- a row of first tuples, where nothing was granted
pub row_none : (keep : Name → Bool) (firsts : List Tuple) → changed_row keep (length firsts) (from_row firsts) [] ≡ firsts
row_none keep firsts = ext_get_or no_tuple (changed_row keep (length firsts) (from_row firsts) []) firsts (row_length keep (length firsts) (from_row firsts) []) (λ i within.
    row_at keep (length firsts) (from_row firsts) [] i no_tuple (subst (λ n. i < n) (row_length keep (length firsts) (from_row firsts) []) within))
