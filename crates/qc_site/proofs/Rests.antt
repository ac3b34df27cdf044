-- What bodies behind the first tell, one by one.
use Rattle.std.proofs.Common.{◌≡◌, ◌⊎◌, inl, inr, ⊎_elim, ℕ, zero, suc, ◌+◌, ◌<◌, ◌≤◌, List, [], ◌∷◌, ◌++◌, length, take, drop, get_or, refl, sym, ap, ap₂, ◌∙◌, subst, arith, append-nil}
use Rattle.std.specs.Prelude.{◌==◌, Bool, true, false, if◌then◌else◌, is_some, Option, None, Some, MatchOption, Vec, slice_index_or, unwrap_or}
use Rattle.std.specs.List.{cons_option}
use Rattle.std.specs.Option.{option_and_then, option_map}
use Rattle.std.specs.declared.alloc.Global.{Global}
use Rattle.std.proofs.lemmas.Bool.{eqb-true}
use Rattle.std.proofs.lemmas.List.Elements.{filter_map-append}
use Rattle.qc_config.specs.declared.tuple.Tuple.{Tuple}
use Rattle.qc_desk.specs.Held.{from_row}
use Rattle.qc_event.specs.declared.event.Grant.{Grant}
use Rattle.qc_event.specs.declared.table.Table.{Table}
use Rattle.qc_codec.specs.Base.{base_in, copy_base, epoch_of_base, format_in, layout_of, tuples_of_base}
use Rattle.qc_codec.specs.Bodies as body
use Rattle.qc_codec.specs.Copy.{grant_in, granted_in, AreInOrder, IsMadeOf, IsNextBody, MayFollow, MayStand}
use Rattle.qc_codec.specs.Fields.{current_format, layout}
use Rattle.qc_codec.specs.Form.{Form, all_of, marked}
use Rattle.qc_codec.specs.Ledger.{made_for, made_in, readings}
use Rattle.qc_codec.specs.Restored.{restored_row}
use Rattle.qc_codec.specs.declared.image.ImageFault.TheVariants.{Grammar}
use Rattle.qc_codec.specs.declared.past.Past.{Past}
use Rattle.qc_codec.specs.declared.record.BaseRecord.{BaseRecord}
use Rattle.qc_codec.specs.declared.record.Made.{Made}
use Rattle.qc_codec.proofs.Bodies.{exact_made}
use Rattle.qc_codec.proofs.Exact.{all_again}
use Rattle.qc_codec.proofs.Order.{each_none, each_push}
use Rattle.qc_journal.specs.Image.{bodies_of}
use Rattle.qc_ledger.proofs.Firsts.{one_more, parted, so_many}
use Rattle.qc_site.specs.Image.{made_body, to_write, AreMadeIn}
use Rattle.qc_site.specs.Reading.{IsLaterBad}
use Rattle.qc_site.specs.Renewal.{restored_in}

-- TWO TAGS

module _ {A B : Type 0} (f : Form A) (h : Form B) (n k : ℕ) (apart : (n == k) ≡ false) where
  untold : {C : Type 0} (form : Form C) (m b : ℕ) (bytes : List ℕ) → (b == m) ≡ false → all_of (marked m form) (b ∷ bytes) ≡ None
  untold {C} form m b bytes other = ap (λ (t : Bool). option_and_then (λ (x : C × List ℕ). if length x.1 == 0 then Some x.0 else None) (if t then form.taken bytes else None)) other

  -- what bytes are with one tag, they are not with another
  other_tag : (bytes : List ℕ) → (all_of (marked n f) bytes ≡ None) ⊎ (all_of (marked k h) bytes ≡ None)
  other_tag [] = inl refl
  other_tag (b ∷ bytes) = by (b == n) refl
    where
      by : (t : Bool) → (b == n) ≡ t → (all_of (marked n f) (b ∷ bytes) ≡ None) ⊎ (all_of (marked k h) (b ∷ bytes) ≡ None)
      by true is = inr (untold h k b bytes (ap (λ m. m == k) (eqb-true b n is) ∙ apart))
      by false is = inl (untold f n b bytes is)

made_or_granted : (format : ℕ) (table : Table) (bytes : List ℕ) → (all_of body.made bytes ≡ None) ⊎ (all_of (grant_in format table) bytes ≡ None)
unfolding body.made body.grant
made_or_granted format table bytes = other_tag body.making (body.granted 3 (layout table.copies format)) 1 2 refl bytes

base_or_granted : (made : Made) (format : ℕ) (table : Table) (bytes : List ℕ) → (all_of (copy_base made) bytes ≡ None) ⊎ (all_of (grant_in format table) bytes ≡ None)
unfolding body.base body.grant
base_or_granted made format table bytes = other_tag (body.folded (layout_of made) (length made.table.records)) (body.granted 3 (layout table.copies format)) 4 2 refl bytes

-- a base is no grant
pub base_no_grant : (made : Made) (format : ℕ) (table : Table) (bytes : List ℕ) (b : BaseRecord) → all_of (copy_base made) bytes ≡ Some b → all_of (grant_in format table) bytes ≡ None
base_no_grant made format table bytes b is = ⊎_elim (λ none. let never : None ≡ Some b = sym none ∙ is in absurd cc) (λ none. none) (base_or_granted made format table bytes)

-- WHERE A BASE STANDS

-- nowhere where there is one body
pub base_alone : (bodies : List (Vec ℕ Global)) → length bodies < 2 → base_in copy_base (bodies_of bodies) ≡ None
base_alone [] few = refl
base_alone (v ∷ []) few = refl
base_alone (v ∷ w ∷ bodies) few = absurd (omega (arith, few))

-- among the first two
pub base_early : (i : ℕ) (bodies : List (Vec ℕ Global)) → 2 ≤ i → base_in copy_base (bodies_of (take i bodies)) ≡ base_in copy_base (bodies_of bodies)
base_early zero bodies some = absurd (omega (arith, some))
base_early (suc zero) bodies some = absurd (omega (arith, some))
base_early (suc (suc i)) [] some = refl
base_early (suc (suc i)) (v ∷ []) some = refl
base_early (suc (suc i)) (v ∷ w ∷ bodies) some = refl

second_no_grant : (format : ℕ) (table : Table) (first second : List ℕ) (b : BaseRecord) → base_in copy_base (first ∷ second ∷ []) ≡ Some b → all_of (grant_in format table) second ≡ None
second_no_grant format table first second b is = by (all_of body.made first) is
  where
    by : (o : Option Made) → option_and_then (λ (m : Made). all_of (copy_base m) second) o ≡ Some b → all_of (grant_in format table) second ≡ None
    by None none = absurd cc
    by (Some m) read = base_no_grant m format table second b read

-- the format stands in the first body
format_early : (i : ℕ) (bodies : List (Vec ℕ Global)) → 1 ≤ i → format_in (bodies_of (take i bodies)) ≡ format_in (bodies_of bodies)
format_early zero bodies some = absurd (omega (arith, some))
format_early (suc i) [] some = refl
format_early (suc i) (v ∷ bodies) some = refl

module _ (disk : ℕ) (table : Table) where
  -- it is read by the table, in the format
  pub second_read : (format : ℕ) (bodies : List (Vec ℕ Global)) (v : Vec ℕ Global) → 1 < length bodies → v ≡ get_or bodies 1 v → AreMadeIn disk table format (bodies_of bodies)
      → base_in copy_base (bodies_of bodies) ≡ all_of (copy_base (made_in format disk table)) v.items
  second_read format [] v within is made = absurd (omega (arith, within))
  second_read format (first ∷ []) v within is made = absurd (omega (arith, within))
  second_read format (first ∷ second ∷ bodies) v within is made =
      ap (option_and_then (λ (m : Made). all_of (copy_base m) second.items)) made ∙ ap (λ (w : Vec ℕ Global). all_of (copy_base (made_in format disk table)) w.items) (sym is)

  -- which the first body tells
  pub format_told : (format : ℕ) (bodies : List (List ℕ)) (first bytes : List ℕ) (rest : List (List ℕ)) → bodies ≡ first ∷ rest → bytes ≡ first → all_of body.made bytes ≡ Some (made_in format disk table)
      → format ≡ format_in bodies
  format_told format bodies first bytes rest split is made =
      ap (λ (o : Option Made). unwrap_or (option_map (λ (m : Made). m.format) o) current_format) (sym made ∙ ap (all_of body.made) is)
      ∙ ap format_in (sym split)

  -- what a mounting writes is none
  pub written_base : (found : List (List ℕ)) → base_in copy_base (found ++ to_write disk table found) ≡ base_in copy_base found
  written_base [] = refl
  written_base (first ∷ bodies) = ap (base_in copy_base) (append-nil (first ∷ bodies))

-- THE FIRST BODIES

module _ (disk : ℕ) (table : Table) (past : Past) where
  -- how the disk was made may stand first
  pub made_stands : (bytes : List ℕ) (format : ℕ) (kept : Table) → all_of body.made bytes ≡ Some (made_in format disk kept) → MayStand disk table past [] bytes
  made_stands bytes format kept is = subst (λ (o : Option Made). MatchOption o ⊥ (IsMadeOf disk)) (sym is) refl

  pub made_no_grant : (format : ℕ) (bytes : List ℕ) → MayStand disk table past [] bytes → all_of (grant_in format table) bytes ≡ None
  made_no_grant format bytes may = ⊎_elim
      (λ none. absurd (subst (λ (o : Option Made). MatchOption o ⊥ (IsMadeOf disk)) none may))
      (λ none. none)
      (made_or_granted format table bytes)

  made_tells_none : (format : ℕ) (bytes : List ℕ) → MayStand disk table past [] bytes → readings (grant_in format table) (bytes ∷ []) ≡ []
  made_tells_none format bytes may = ap (λ (o : Option Grant). cons_option o []) (made_no_grant format bytes may)

  alone : (bytes : List ℕ) → MayStand disk table past [] bytes → AreInOrder disk table past (bytes ∷ [])
  alone bytes may = each_push (MayStand disk table past) [] bytes (each_none (MayStand disk table past)) may

  -- So many bodies stand in front of the grants.
  pub record HasBegun (format : ℕ) (base : Option BaseRecord) (bodies : List (Vec ℕ Global)) (n : ℕ) : Type 0 where
    pub told : readings (grant_in format table) (bodies_of (take n bodies)) ≡ []
    pub order : AreInOrder disk table past (bodies_of (take n bodies))
    pub based : base_in copy_base (bodies_of (take n bodies)) ≡ base
    pub some : 1 ≤ n

  pub begun : (format : ℕ) (base : Option BaseRecord) (bodies : List (Vec ℕ Global)) → 0 < length bodies → MayStand disk table past [] (slice_index_or (bodies_of bodies) 0 []) → base ≡ base_in copy_base (bodies_of bodies) → epoch_of_base base ≤ past.epoch
      → HasBegun format base bodies (if is_some base then 2 else 1)
  begun format base [] some may is old = absurd (omega (arith, some))
  begun format None (v ∷ bodies) some may is old = record { told = made_tells_none format v.items may; order = alone v.items may; based = refl; some = omega arith }
  begun format (Some b) (v ∷ []) some may is old = absurd cc
  begun format (Some b) (v ∷ w ∷ bodies) some may is old = record {
    told = ap₂ (λ (o p : Option Grant). cons_option o (cons_option p [])) (made_no_grant format v.items may) (second_no_grant format table v.items w.items b (sym is));
    order = each_push (MayStand disk table past) (v.items ∷ []) w.items (alone v.items may) (inl (subst (λ (o : Option BaseRecord). MatchOption o ⊥ (λ (x : BaseRecord). x.epoch ≤ past.epoch)) is old));
    based = sym is;
    some = omega arith;
  }

  -- a base of a later epoch is the first fault
  pub second_bad : (format : ℕ) (bodies : List (Vec ℕ Global)) (v : Vec ℕ Global) → 1 < length bodies → v ≡ get_or bodies 1 v → AreMadeIn disk table format (bodies_of bodies) → (b : BaseRecord) → all_of (copy_base (made_in format disk table)) v.items ≡ Some b → (b.epoch ≤ past.epoch → ⊥)
      → IsLaterBad disk table past (bodies_of bodies) (Grammar 1)
  second_bad format [] v within is made b read late = absurd (omega (arith, within))
  second_bad format (first ∷ []) v within is made b read late = absurd (omega (arith, within))
  second_bad format (first ∷ second ∷ bodies) v within is made b read late = (
    (λ none. omega (arith, none)),
    record {
      before = first.items ∷ [];
      after = bodies_of bodies;
      item = second.items;
      split = refl;
      size = refl;
      order = alone first.items (made_stands first.items format table made);
      breaks = never;
    },
  )
    where
      based : base_in copy_base (first.items ∷ second.items ∷ []) ≡ Some b
      based = second_read disk table format (first ∷ second ∷ bodies) v within is made ∙ read

      never : MayStand disk table past (first.items ∷ []) second.items → ⊥
      never (inl old) = late (subst (λ (o : Option BaseRecord). MatchOption o ⊥ (λ (x : BaseRecord). x.epoch ≤ past.epoch)) based old)
      never (inr may) = subst (λ (o : Option Grant). MatchOption o ⊥ (MayFollow table past 0 (granted_in table (first.items ∷ []))))
          (second_no_grant (format_in (first.items ∷ [])) table first.items second.items b based) may

  -- what a mounting writes grants nothing
  pub written_none : (fits : body.made.fits (made_for disk table)) (found : List (List ℕ)) → granted_in table (found ++ to_write disk table found) ≡ granted_in table found
  written_none fits [] = made_tells_none (format_in (made_body disk table ∷ [])) (made_body disk table)
      (made_stands (made_body disk table) current_format table (all_again body.made exact_made (made_for disk table) fits))
  written_none fits (first ∷ bodies) = ap (granted_in table) (append-nil (first ∷ bodies))

  -- what a copy starts with is told by all of its records
  pub start_told : (fits : body.made.fits (made_for disk table)) (found records : List (List ℕ)) → records ≡ found ++ to_write disk table found → (start : List Tuple)
      → start ≡ restored_in past.tops table found → start ≡ restored_in past.tops table records
  start_told fits found records all start is =
      is
      ∙ ap₂ (λ (base : Option BaseRecord) (gs : List Grant). restored_row past.tops (length table.records) (from_row (tuples_of_base table base)) gs)
      (sym (written_base disk table found) ∙ ap (base_in copy_base) (sym all))
      (sym (written_none fits found) ∙ ap (granted_in table) (sym all))

  -- BODIES BEHIND THEM

  stands_by : (bodies : List (List ℕ)) (bytes : List ℕ) → 0 < length bodies → IsNextBody disk table past bodies bytes → MayStand disk table past bodies bytes
  stands_by [] bytes some may = absurd (omega (arith, some))
  stands_by (first ∷ []) bytes some may = inr may
  stands_by (first ∷ second ∷ bodies) bytes some may = may

  by_stands : (bodies : List (List ℕ)) (bytes : List ℕ) → 0 < length bodies → base_in copy_base (bodies ++ bytes ∷ []) ≡ base_in copy_base bodies → MayStand disk table past bodies bytes → IsNextBody disk table past bodies bytes
  by_stands [] bytes some same may = absurd (omega (arith, some))
  by_stands (first ∷ []) bytes some same (inl old) = absurd (subst (λ (o : Option BaseRecord). MatchOption o ⊥ (λ (x : BaseRecord). x.epoch ≤ past.epoch)) same old)
  by_stands (first ∷ []) bytes some same (inr may) = may
  by_stands (first ∷ second ∷ bodies) bytes some same may = may

  module _ (bodies : List (Vec ℕ Global)) (i : ℕ) (v : Vec ℕ Global) (within : i < length bodies) (is : v ≡ get_or bodies i v) (some : 1 ≤ i) (order : AreInOrder disk table past (bodies_of (take i bodies)))
      (format : ℕ) (of : format ≡ format_in (bodies_of bodies)) (base : Option BaseRecord) (whole : base ≡ base_in copy_base (bodies_of bodies)) (based : base_in copy_base (bodies_of (take i bodies)) ≡ base) (epoch : ℕ) (of_base : epoch ≡ epoch_of_base base) where
    abbrev so_far : List (List ℕ)
    so_far = bodies_of (take i bodies)

    -- the base stays what it was
    pub base_kept : base_in copy_base (bodies_of (take (i + 1) bodies)) ≡ base
    base_kept = base_early (i + 1) bodies (omega (arith, some)) ∙ sym whole

    same_epoch : epoch ≡ epoch_of_base (base_in copy_base so_far)
    same_epoch = of_base ∙ ap epoch_of_base (sym based)

    same_format : format ≡ format_in so_far
    same_format = of ∙ sym (format_early i bodies (omega (arith, some)))

    -- what may stand behind those before it, by their format and the epoch of their base
    abbrev May : List ℕ → Type 0
    May bytes = MatchOption (all_of (grant_in format table) bytes) ⊥ (MayFollow table past epoch (readings (grant_in format table) so_far))

    next_is : (bytes : List ℕ) → May bytes ≡ IsNextBody disk table past so_far bytes
    next_is bytes =
        ap₂ (λ (f e : ℕ). MatchOption (all_of (grant_in f table) bytes) ⊥ (MayFollow table past e (readings (grant_in f table) so_far))) same_format same_epoch

    -- a body that may not stand behind those before it is the first fault
    pub later_bad : (May v.items → ⊥) → IsLaterBad disk table past (bodies_of bodies) (Grammar i)
    later_bad never = (
      (λ none. omega (arith, some, none)),
      record {
        before = so_far;
        after = bodies_of (drop (i + 1) bodies);
        item = v.items;
        split = parted bodies i v within is;
        size = so_many bodies i v within is;
        order = order;
        breaks = λ may. never (subst (λ (T : Type 0). T) (sym (next_is v.items))
            (by_stands so_far v.items (omega (arith, some, so_many bodies i v within is)) (ap (base_in copy_base) (sym (one_more bodies i v within is)) ∙ base_kept ∙ sym based) may));
      },
    )

    -- a body that may stand behind those before it
    pub keeps_on : (given : List Grant) (bytes : List ℕ) → bytes ≡ v.items → given ≡ readings (grant_in format table) so_far → MatchOption (all_of (grant_in format table) bytes) ⊥ (MayFollow table past epoch given)
        → (given ++ readings (grant_in format table) (bytes ∷ []) ≡ readings (grant_in format table) (bodies_of (take (i + 1) bodies))) × AreInOrder disk table past (bodies_of (take (i + 1) bodies))
    keeps_on given bytes same told may =
        let follows : May bytes = subst (λ (gs : List Grant). MatchOption (all_of (grant_in format table) bytes) ⊥ (MayFollow table past epoch gs)) told may in
        let stands = stands_by so_far bytes (omega (arith, some, so_many bodies i v within is)) (subst (λ (T : Type 0). T) (next_is bytes) follows) in
        let all : so_far ++ bytes ∷ [] ≡ bodies_of (take (i + 1) bodies) = ap (λ (b : List ℕ). so_far ++ b ∷ []) same ∙ sym (one_more bodies i v within is) in (
          ap (λ (gs : List Grant). gs ++ readings (grant_in format table) (bytes ∷ [])) told ∙ sym (filter_map-append (all_of (grant_in format table)) so_far (bytes ∷ [])) ∙ ap (readings (grant_in format table)) all,
          subst (AreInOrder disk table past) all (each_push (MayStand disk table past) so_far bytes order stands),
        )
