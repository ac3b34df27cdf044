-- What a copy holds of each record fits the form in which a base has it. What the rules of histories do not say, the types
-- of numbers do.
use Rattle.std.proofs.Common.{◌≡◌, inl, inr, ℕ, ◌^◌, ◌<◌, List, [], get_or, length, sym, ap, ◌∙◌, subst, arith}
use Rattle.std.specs.Prelude.{slice_index_or}
use Rattle.std.specs.List.{All}
use Rattle.std.proofs.lemmas.Bool.{cases_lt}
use Rattle.std.proofs.lemmas.List.{get_or_past}
use Rattle.std.proofs.lemmas.List.Elements.{All-from_get_or}
use Rattle.std.proofs.lemmas.List.FromFn.{get_or-map-range_with_len, length-map-range_with_len}
use Rattle.qc_config.proofs.Faults.{legal_faultless}
use Rattle.qc_config.specs.declared.tuple.Tuple.{Tuple}
use Rattle.qc_event.specs.Base.{Setting, IsProper, IsConfigFor, no_tuple}
use Rattle.qc_event.specs.History.{Past}
use Rattle.qc_event.specs.Legal.{Legal}
use Rattle.qc_event.specs.Seen.{seen}
use Rattle.qc_event.proofs.LegalConfigs.{seen_legal}
use Rattle.qc_event.proofs.SizedConfigs.{seen_sized}
use Rattle.qc_desk.specs.Held.{held_row}
use Rattle.qc_codec.proofs.Fits.{IsConfigInRange, config_fits, tuple_fits}
use Rattle.qc_codec.specs.Fields.{current, current_format, datum, tuple}

-- the numbers of a tuple are in range
pub record IsTupleInRange (t : Tuple) : Type 0 where
  pub version : t.version < 2 ^ 64
  pub value : (datum current_format).fits t.value
  pub generation : t.generation < 2 ^ 64
  pub config : IsConfigInRange t.config

module _ (setting : Setting) (past : Past) (proper : IsProper setting) (legal : Legal setting past) (copy : ℕ) where
  abbrev start : List Tuple
  start = slice_index_or setting.base copy []

  -- a copy has a legal configuration of each record, for as many copies as there are
  config_held : (rec : ℕ) → rec < length start → IsConfigFor (length setting.base) (seen setting.base past copy rec).config
  config_held rec within = elim (cases_lt copy (length setting.base)) [
    | inl is_copy ↦
        let first = (proper.base.rows copy [] is_copy).configs rec no_tuple within in
        record { legal = seen_legal setting past copy rec legal first.legal; for_copies = seen_sized setting past copy rec legal first.for_copies }
    | inr beyond ↦ let none = ap length (get_or_past setting.base copy [] beyond) in absurd (omega (arith, within, none))
  ]

  pub held_all_fit : (held : List Tuple) → held ≡ held_row start past copy → All IsTupleInRange held → All (tuple (current (length setting.base))).fits held
  held_all_fit held is range = All-from_get_or (tuple (current (length setting.base))).fits held no_tuple (λ k lt.
      let t = slice_index_or held k no_tuple in
      let size : length held ≡ length start = ap length is ∙ length-map-range_with_len (seen setting.base past copy) 0 (length start) in
      let within : k < length start = omega (arith, lt, size) in
      let same : t ≡ seen setting.base past copy k = ap (λ row. get_or row k no_tuple) is ∙ get_or-map-range_with_len (seen setting.base past copy) 0 (length start) k k no_tuple within (omega arith) in
      let there : IsConfigFor (length setting.base) t.config = subst (λ (x : Tuple). IsConfigFor (length setting.base) x.config) (sym same) (config_held k within) in
      let numbers = range k no_tuple lt in
      tuple_fits (current (length setting.base)) t numbers.version numbers.value numbers.generation
      (config_fits (current (length setting.base)) t.config there.for_copies (legal_faultless t.config there.legal) numbers.config))
