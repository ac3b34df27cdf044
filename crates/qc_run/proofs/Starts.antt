-- The first tuples of a proper script's table carry the start values of its rows.
use Rattle.std.proofs.Common.{◌≡◌, ℕ, zero, suc, ◌+◌, ◌<◌, true, List, [], ◌∷◌, length, map, replicate, Option, Some, None, refl, sym, ap, ◌∙◌, subst, arith}
use Rattle.std.specs.Prelude.{MatchOption, slice_get, slice_index_or, sum, nat_le, ◌==◌, IsTrue}
use Rattle.std.specs.Option.{option_map}
use Rattle.std.proofs.lemmas.Bool.{le-leb}
use Rattle.std.proofs.lemmas.List.{length-map}
use Rattle.std.proofs.lemmas.List.Elements.{All-nil, All-cons, All-replicate}
use Rattle.std.proofs.lemmas.List.Sums.{sum_by-cons}
use Rattle.std.proofs.lemmas.Option.{slice_get-map, get_or_from_slice_get}
use Rattle.qc_config.specs.Config.{IsLegal, weight, holds_write, no_config}
use Rattle.qc_config.specs.declared.tuple.Tuple.{Tuple}
use Rattle.qc_event.specs.Base.{first_of, no_tuple}
use Rattle.qc_event.specs.Sound.{Carries, IsSound, HasValue, column, greatest_version}
use Rattle.qc_event.specs.Tables.{base_of, setting_of, first_tuple, first_configs, first_values}
use Rattle.qc_event.specs.declared.table.Row.{Row}
use Rattle.qc_event.specs.declared.table.Table.{Table}
use Rattle.qc_interp.proofs.Listing.Places.{at_place}
use Rattle.qc_script.specs.Plan.{ScriptPlan}
use Rattle.qc_script.specs.Reading.{IsProper, IsProperRow}

-- LISTS

map_replicate : {X Y : Type 0} (f : X → Y) (n : ℕ) (x : X) → map f (replicate n x) ≡ replicate n (f x)
map_replicate f zero x = refl
map_replicate f (suc n) x = ap (λ ys. f x ∷ ys) (map_replicate f n x)

-- ONE RECORD

-- all votes together are held by as many copies as there are votes
weight_all : (votes : List ℕ) → weight votes (replicate (length votes) true) ≡ sum votes
weight_all [] = refl
weight_all (v ∷ votes) = ap (λ n. v + n) (weight_all votes) ∙ sym (sum_by-cons (λ x. x) v votes)

greatest_zero : (row : Row) (n : ℕ) → greatest_version (replicate n (first_tuple row)) ≡ 0
greatest_zero row zero = refl
greatest_zero row (suc n) = let rest = greatest_zero row n in omega arith

-- as many first tuples as a configuration has votes carry the start value
carries : (row : Row) → IsLegal row.config → Carries row.config (replicate (length row.config.votes) (first_tuple row)) row.start
carries row legal = record {
  configs = row.config ∷ [];
  newest = row.config;
  begins = refl;
  ends = refl;
  legal = All-cons IsLegal row.config [] legal (All-nil IsLegal);
  each_listed = All-replicate (λ (t : Tuple). slice_get (row.config ∷ []) t.generation ≡ Some t.config) (length row.config.votes) (first_tuple row) refl;
  passed_on = λ g later. absurd (omega arith);
  version_held = held;
  values = All-replicate (HasValue (greatest_version tuples) row.start) (length row.config.votes) (first_tuple row) (λ _. refl);
}
  where
    tuples : List Tuple
    tuples = replicate (length row.config.votes) (first_tuple row)

    marks : map (λ (t : Tuple). t.version == greatest_version tuples) tuples ≡ replicate (length row.config.votes) true
    marks = map_replicate (λ (t : Tuple). t.version == greatest_version tuples) (length row.config.votes) (first_tuple row) ∙ ap (λ n. replicate (length row.config.votes) (0 == n)) (greatest_zero row (length row.config.votes))

    held : IsTrue (holds_write row.config (map (λ (t : Tuple). t.version == greatest_version tuples) tuples))
    held = ap (holds_write row.config) marks ∙ ap (nat_le row.config.write) (weight_all row.config.votes) ∙ le-leb row.config.write (sum row.config.votes) legal.write_possible

-- THE TABLE

abbrev first_row : Table → List Tuple
first_row table = map first_tuple table.records

pub firsts_length : (table : Table) → length (first_configs table) ≡ length table.records
firsts_length table = length-map table.records (λ (r : Row). r.config)

column_is : (table : Table) (rec : ℕ) (row : Row) → slice_get table.records rec ≡ Some row → column (base_of table) rec ≡ replicate table.copies (first_tuple row)
column_is table rec row is =
    map_replicate (λ (ts : List Tuple). slice_index_or ts rec no_tuple) table.copies (first_row table)
    ∙ ap (replicate table.copies) (get_or_from_slice_get (first_row table) rec (first_tuple row) no_tuple (slice_get-map first_tuple table.records rec ∙ ap (option_map first_tuple) is))

first_is : (table : Table) (rec : ℕ) (row : Row) → slice_get table.records rec ≡ Some row → first_of (setting_of table (base_of table)) rec ≡ row.config
first_is table rec row is =
    get_or_from_slice_get (map (λ (r : Row). r.config) table.records) rec row.config no_config (slice_get-map (λ (r : Row). r.config) table.records rec ∙ ap (option_map (λ (r : Row). r.config)) is)

start_is : (table : Table) (rec : ℕ) (row : Row) → slice_get table.records rec ≡ Some row → slice_get (first_values table) rec ≡ Some row.start
start_is table rec row is = slice_get-map (λ (r : Row). r.start) table.records rec ∙ ap (option_map (λ (r : Row). r.start)) is

carried_at : (s : ScriptPlan) (rec : ℕ) (row : Row) → IsProper s → slice_get s.table.records rec ≡ Some row → Carries (first_of (setting_of s.table (base_of s.table)) rec) (column (base_of s.table) rec) row.start
carried_at s rec row proper is =
    let row_proper = at_place (IsProperRow s.table.copies) s.table.records rec row proper.rows is in
    subst (λ first. Carries first (column (base_of s.table) rec) row.start) (sym (first_is s.table rec row is))
    (subst (λ ts. Carries row.config ts row.start) (ap (λ n. replicate n (first_tuple row)) row_proper.for_copies ∙ sym (column_is s.table rec row is)) (carries row row_proper.legal))

by_row : (s : ScriptPlan) (rec : ℕ) (o : Option Row) → IsProper s → rec < length s.table.records → slice_get s.table.records rec ≡ o → MatchOption (slice_get (first_values s.table) rec) ⊥ (Carries (first_of (setting_of s.table (base_of s.table)) rec) (column (base_of s.table) rec))
by_row s rec None proper there is = absurd (none_within s.table.records rec there is)
  where
    none_within : (rows : List Row) (k : ℕ) → k < length rows → slice_get rows k ≡ None → ⊥
    none_within [] k there none = omega arith
    none_within (r ∷ rows) zero there none = cc
    none_within (r ∷ rows) (suc k) there none = none_within rows k (omega arith) none
by_row s rec (Some row) proper there is =
    subst (λ o. MatchOption o ⊥ (Carries (first_of (setting_of s.table (base_of s.table)) rec) (column (base_of s.table) rec))) (sym (start_is s.table rec row is)) (carried_at s rec row proper is)

-- a script's first tuples carry its start values
pub start_is_sound : (s : ScriptPlan) → IsProper s → IsSound (setting_of s.table (base_of s.table)) (first_values s.table)
start_is_sound s proper rec there =
    let size = firsts_length s.table in
    by_row s rec (slice_get s.table.records rec) proper (omega arith) refl
