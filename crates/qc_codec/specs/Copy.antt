-- What a copy's records tell, and which may stand behind which.
use Rattle.std.specs.Prelude.{ℕ, ◌≡◌, ◌≢◌, ◌<◌, ◌≤◌, ◌+◌, ◌⊎◌, List, [], ◌∷◌, length, All, MatchOption}
use Rattle.qc_event.specs.declared.event.Grant.{Grant}
use Rattle.qc_event.specs.declared.table.Table.{Table}
use Rattle.qc_event.specs.History.{Name}
use Rattle.qc_codec.specs.Base.{base_in, copy_base, epoch_of_base, format_in}
use Rattle.qc_codec.specs.Bodies as body
use Rattle.qc_codec.specs.Fields.{current_format, layout}
use Rattle.qc_codec.specs.Form.{Form, all_of}
use Rattle.qc_codec.specs.Ledger.{IsOld, epoch_in, readings}
use Rattle.qc_codec.specs.Order.{EachMay, FirstMayNot}
use Rattle.qc_codec.specs.declared.past.Past.{Past}
use Rattle.qc_codec.specs.declared.record.Made.{Made}

-- the form of what a table's copies granted, in a format
abbrev pub grant_in : ℕ → Table → Form Grant
grant_in format table = body.grant (layout table.copies format)

-- and in the current one
abbrev pub grant_form : Table → Form Grant
grant_form table = grant_in current_format table

-- what a journal's bodies tell that a copy granted, each in their format
abbrev pub granted_in : Table → List (List ℕ) → List Grant
granted_in table bodies = readings (grant_in (format_in bodies) table) bodies

-- a name is below a top of a later epoch
abbrev pub IsLater : ℕ → Name → Type 0
IsLater epoch [] = ⊥
IsLater epoch (number ∷ n) = epoch < epoch_in number

-- A grant may stand behind a base of an epoch and other grants: its record is one of the table's, its top is of a later epoch
-- than the base and of no later one than the ledger's last, and its access is none of theirs.
abbrev pub MayFollow : Table → Past → ℕ → List Grant → Grant → Type 0
MayFollow table past base before g = (g.rec < length table.records) × IsOld (past.epoch + 1) g.access × IsLater base g.access × All (λ (other : Grant). other.access ≢ g.access) before

-- a made record tells that it is of the disk of this number
abbrev pub IsMadeOf : ℕ → Made → Type 0
IsMadeOf disk made = made.who ≡ disk

module _ (disk : ℕ) (table : Table) (past : Past) where
  -- a body is a grant that may stand behind these
  abbrev pub IsNextBody : List (List ℕ) → List ℕ → Type 0
  IsNextBody bodies bytes = MatchOption (all_of (grant_in (format_in bodies) table) bytes) ⊥ (MayFollow table past (epoch_of_base (base_in copy_base bodies)) (granted_in table bodies))

  -- a body may stand behind others: the first tells how the disk was made, the second may be a base of no later epoch than the
  -- ledger's last, and each further one is a grant
  abbrev pub MayStand : List (List ℕ) → List ℕ → Type 0
  MayStand [] bytes = MatchOption (all_of body.made bytes) ⊥ (IsMadeOf disk)
  MayStand (first ∷ []) bytes = MatchOption (base_in copy_base (first ∷ bytes ∷ [])) ⊥ (λ base. base.epoch ≤ past.epoch) ⊎ IsNextBody (first ∷ []) bytes
  MayStand (first ∷ second ∷ bodies) bytes = IsNextBody (first ∷ second ∷ bodies) bytes

  -- each body may stand behind those before it
  abbrev pub AreInOrder : List (List ℕ) → Type 0
  AreInOrder bodies = EachMay MayStand bodies

  -- The first body that may not stand behind those before it has this index.
  abbrev pub IsOutOfOrder : ℕ → List (List ℕ) → Type 0
  IsOutOfOrder index bodies = FirstMayNot MayStand index bodies
