-- What records restore over a proper script's table is a proper base.
use Rattle.std.proofs.Common.{◌≡◌, ℕ, ◌+◌, ◌<◌, List, [], ◌∷◌, length, map, get_or, Option, sym, subst, arith}
use Rattle.std.specs.Prelude.{None, Some, All, filter, option_to_list}
use Rattle.std.specs.List.{range_with_len}
use Rattle.std.proofs.lemmas.List.{length-map, get_or_default}
use Rattle.std.proofs.lemmas.List.Elements.{All-head, All-tail, All-map, All-filter, All-weaker, All-from_recursion}
use Rattle.std.proofs.lemmas.List.FromFn.{get_or-map-range_with_len, length-map-range_with_len}
use Rattle.qc_codec.specs.Base.{base_in, copy_base, current_copy_base, tuples_of_base}
use Rattle.qc_codec.specs.Bodies as body
use Rattle.qc_codec.specs.Copy.{granted_in}
use Rattle.qc_codec.specs.Fields.{current, config, tuple}
use Rattle.qc_codec.specs.Restored.{is_kept_at, restored_tuple}
use Rattle.qc_codec.specs.declared.record.BaseRecord.{BaseRecord}
use Rattle.qc_codec.proofs.Fits.{config_legal, config_votes}
use Rattle.qc_config.specs.Config.{Voting}
use Rattle.qc_config.specs.Tuple.{after}
use Rattle.qc_config.specs.declared.tuple.Op.{Op}
use Rattle.qc_config.specs.declared.tuple.Op.TheVariants.{Get, PutData, PutConfig}
use Rattle.qc_config.specs.declared.tuple.Tuple.{Tuple}
use Rattle.qc_event.proofs.PutConfigs.{GrantHas, OpHas, after_has}
use Rattle.qc_event.specs.declared.event.Grant.{Grant}
use Rattle.qc_event.specs.declared.table.Row.{Row}
use Rattle.qc_event.specs.Base.{IsConfigFor, IsRowFor, no_tuple, IsProper as IsProperSetting}
use Rattle.qc_event.specs.Grants.{Sets}
use Rattle.qc_event.specs.Seen.{changed_by}
use Rattle.qc_event.specs.Tables.{first_configs, first_tuple, setting_of}
use Rattle.qc_desk.specs.Held.{from_row}
use Rattle.qc_script.specs.Plan.{ScriptPlan}
use Rattle.qc_script.specs.Reading.{IsProper, IsProperRow}
use Rattle.qc_opening.specs.Mountings.{MountedOn}
use Rattle.qc_opening.proofs.KeptDisks.Stands.{copy_spelled}

-- CONFIGURATIONS

-- what fits the form of configurations for so many copies is a legal one for them
config_for : (copies : ℕ) (c : Voting) → (config (current copies)).fits c → IsConfigFor copies c
config_for copies c fits = record { legal = config_legal (current copies) c fits; for_copies = config_votes (current copies) c fits }

tuple_for : (copies : ℕ) (t : Tuple) → (tuple (current copies)).fits t → IsConfigFor copies t.config
unfolding tuple
tuple_for copies t fits = config_for copies t.config fits.0.1.1.1

-- the tuples of a base are a row of legal configurations
base_for : (copies records : ℕ) (b : BaseRecord) → (body.base (current copies) records).fits b → IsRowFor copies records b.tuples
unfolding body.base body.folded
base_for copies records b fits = record {
  same_records = fits.0.1.1.0;
  configs = All-weaker (tuple (current copies)).fits (λ (t : Tuple). IsConfigFor copies t.config) (tuple_for copies) b.tuples fits.0.1.1.1;
}

-- GRANTS

-- what a grant puts is a legal configuration, where it puts one
grant_puts : (copies : ℕ) (g : Grant) → (body.grant (current copies)).fits g → GrantHas (IsConfigFor copies) g
unfolding body.grant body.granted
grant_puts copies g fits = by_op g.op g.tuple fits.1 (tuple_for copies g.tuple fits.0.1.1.1)
  where
    by_op : (op : Op) (t : Tuple) → Sets op t → IsConfigFor copies t.config → OpHas (IsConfigFor copies) op
    by_op Get t sets for = tt
    by_op (PutData version value) t sets for = tt
    by_op (PutConfig generation c) t sets for = subst (IsConfigFor copies) sets.1 for

changed_has : (P : Voting → Type 0) (t : Tuple) (given : List Grant) → P t.config → All (GrantHas P) given → P (changed_by t given).config
changed_has P t [] here all = here
changed_has P t (g ∷ given) here all =
    changed_has P (after t g.op) given (after_has P t g.op here (All-head (GrantHas P) g given all)) (All-tail (GrantHas P) g given all)

-- THE TABLE

module _ (plan : ScriptPlan) (proper : IsProper plan) where
  rows_fit : All (λ (r : Row). IsConfigFor plan.table.copies r.config) plan.table.records
  rows_fit = All-from_recursion (IsProperRow plan.table.copies) plan.table.records proper.rows

  -- a copy begins with legal configurations: those of its base, or the table's
  begin_for : (base : Option BaseRecord) → All (current_copy_base plan.table).fits (option_to_list base) → (rec : ℕ) → rec < length plan.table.records → IsConfigFor plan.table.copies (from_row (tuples_of_base plan.table base) rec).config
  begin_for None fits rec within =
      All-map (λ (t : Tuple). IsConfigFor plan.table.copies t.config) first_tuple plan.table.records rows_fit rec no_tuple (omega (arith, within, length-map plan.table.records first_tuple))
  begin_for (Some b) fits rec within =
      let of_base = base_for plan.table.copies (length plan.table.records) b (All-head (current_copy_base plan.table).fits b [] fits) in
      of_base.configs rec no_tuple (omega (arith, within, of_base.same_records))

  module _ (disk : ℕ → ℕ) (told : ℕ → Option (List ℕ)) (records : ℕ → List (List ℕ)) (epoch : ℕ) (base : List (List Tuple)) (m : MountedOn disk plan.table told records epoch base) where
    puts : (copy : ℕ) → copy < plan.table.copies → All (GrantHas (IsConfigFor plan.table.copies)) (granted_in plan.table (records (copy + 1)))
    puts copy there k d lt = grant_puts plan.table.copies _ ((copy_spelled disk plan.table told records epoch base m copy there).tells.grants_fit k d lt)

    -- with what a copy begins
    abbrev begin : ℕ → List Tuple
    begin copy = tuples_of_base plan.table (base_in copy_base (records (copy + 1)))

    start_for : (copy rec : ℕ) → copy < plan.table.copies → rec < length plan.table.records → IsConfigFor plan.table.copies (from_row (begin copy) rec).config
    start_for copy rec there within =
        let is = (copy_spelled disk plan.table told records epoch base m copy there).tells in
        subst (λ (row : List Tuple). IsConfigFor plan.table.copies (from_row row rec).config) (sym is.begin_is) (begin_for is.base is.base_fits rec within)

    restored_for : (copy rec : ℕ) → copy < plan.table.copies → rec < length plan.table.records
        → IsConfigFor plan.table.copies (restored_tuple m.past.tops rec (from_row (begin copy) rec) (granted_in plan.table (records (copy + 1)))).config
    restored_for copy rec there within =
        changed_has (IsConfigFor plan.table.copies) (from_row (begin copy) rec) (filter (is_kept_at m.past.tops rec) (granted_in plan.table (records (copy + 1)))) (start_for copy rec there within)
        (All-filter (is_kept_at m.past.tops rec) (GrantHas (IsConfigFor plan.table.copies)) (granted_in plan.table (records (copy + 1))) (puts copy there))

    row_for : (copy : ℕ) → copy < plan.table.copies → IsRowFor plan.table.copies (length plan.table.records) (get_or base copy [])
    row_for copy there = subst (IsRowFor plan.table.copies (length plan.table.records)) (sym (m.starts copy there)) (record { same_records = size; configs = fits })
      where
        tuple_at : ℕ → Tuple
        tuple_at rec = restored_tuple m.past.tops rec (from_row (begin copy) rec) (granted_in plan.table (records (copy + 1)))

        size : length (map tuple_at (range_with_len 0 (length plan.table.records))) ≡ length plan.table.records
        size = length-map-range_with_len tuple_at 0 (length plan.table.records)

        fits : All (λ (t : Tuple). IsConfigFor plan.table.copies t.config) (map tuple_at (range_with_len 0 (length plan.table.records)))
        fits rec d lt =
            let within : rec < length plan.table.records = omega (arith, lt, size) in
            subst (λ (t : Tuple). IsConfigFor plan.table.copies t.config) (sym (get_or-map-range_with_len tuple_at 0 (length plan.table.records) rec rec d within (omega arith))) (restored_for copy rec there within)

    -- what the copies start with is a proper setting
    pub setting_proper : IsProperSetting (setting_of plan.table base)
    setting_proper =
        let many : length (first_configs plan.table) ≡ length plan.table.records = length-map plan.table.records (λ (r : Row). r.config) in
        record {
          base = record {
            some_copy = omega (arith, m.as_many, proper.some_copy);
            most_copies = omega (arith, m.as_many, proper.few_copies);
            some_record = omega (arith, many, proper.some_records);
            most_records = omega (arith, many, proper.few_records);
            rows = λ copy d lt. row_at many copy d lt;
          };
          firsts = subst (λ n. All (IsConfigFor n) (first_configs plan.table)) (sym m.as_many) (All-map (IsConfigFor plan.table.copies) (λ (r : Row). r.config) plan.table.records rows_fit);
        }
      where
        row_at : length (first_configs plan.table) ≡ length plan.table.records → (copy : ℕ) (d : List Tuple) → copy < length base → IsRowFor (length base) (length (first_configs plan.table)) (get_or base copy d)
        row_at many copy d lt =
            let there : copy < plan.table.copies = omega (arith, lt, m.as_many) in
            subst (λ (row : List Tuple). IsRowFor (length base) (length (first_configs plan.table)) row) (get_or_default base copy [] d lt)
            (subst (λ n. IsRowFor n (length (first_configs plan.table)) (get_or base copy [])) (sym m.as_many) (subst (λ n. IsRowFor plan.table.copies n (get_or base copy [])) (sym many) (row_for copy there)))
