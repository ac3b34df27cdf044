-- What a run starts from: its tuples are a list, by copy, of lists, by record.
use Rattle.std.specs.Prelude.{ℕ, ◌≡◌, ◌<◌, ◌≤◌, List, [], length, slice_get, slice_index_or, All, MatchOption}
use Rattle.qc_config.specs.Config.{Voting, IsLegal, no_config}
use Rattle.qc_config.specs.Val.{Number}
use Rattle.qc_config.specs.declared.tuple.Tuple.{Tuple}

-- the tuple where there is none
abbrev pub no_tuple : Tuple
no_tuple = record { version = 0; value = Number 0; generation = 0; config = no_config }

-- a copy and a record of the base
abbrev pub IsWithin : List (List Tuple) → ℕ → ℕ → Type 0
IsWithin base copy rec = MatchOption (slice_get base copy) ⊥ (λ row. rec < length row)

-- the tuple with which a copy starts
abbrev pub start_tuple : List (List Tuple) → ℕ → ℕ → Tuple
start_tuple base copy rec = slice_index_or (slice_index_or base copy []) rec no_tuple

-- What a run starts from: each record's first configuration, and the tuples of each copy.
pub record Setting : Type 0 where
  pub firsts : List Voting
  pub base : List (List Tuple)

-- a record's first configuration, which has generation 0
abbrev pub first_of : Setting → ℕ → Voting
first_of setting rec = slice_index_or setting.firsts rec no_config

-- PROPER SETTINGS

-- a legal configuration, with one vote for each of so many copies
pub record IsConfigFor (copies : ℕ) (config : Voting) : Type 0 where
  pub legal : IsLegal config
  pub for_copies : length config.votes ≡ copies

-- the row of a copy has so many tuples, each with a legal configuration for so many copies
pub record IsRowFor (copies records : ℕ) (row : List Tuple) : Type 0 where
  pub same_records : length row ≡ records
  pub configs : All (λ (t : Tuple). IsConfigFor copies t.config) row

-- A base is proper where it has 1 to 16 copies, the same 1 to 64 records at each, and legal configurations for as
-- many copies.
pub record IsProperBase (records : ℕ) (base : List (List Tuple)) : Type 0 where
  pub some_copy : 0 < length base
  pub most_copies : length base ≤ 16
  pub some_record : 0 < records
  pub most_records : records ≤ 64
  pub rows : All (IsRowFor (length base) records) base

-- A setting is proper where its base is, and has a legal first configuration for as many copies for each record.
pub record IsProper (setting : Setting) : Type 0 where
  pub base : IsProperBase (length setting.firsts) setting.base
  pub firsts : All (IsConfigFor (length setting.base)) setting.firsts
