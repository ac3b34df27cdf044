-- What is wrong with the bodies of a copy's journal.
use Rattle.std.specs.Prelude.{ℕ, ◌≡◌, ◌≢◌, List, [], Some}
use Rattle.qc_event.specs.declared.table.Table.{Table}
use Rattle.qc_codec.specs.Bodies as body
use Rattle.qc_codec.specs.Copy.{MayStand, IsOutOfOrder}
use Rattle.qc_codec.specs.Form.{all_of}
use Rattle.qc_codec.specs.Ledger.{made_in}
use Rattle.qc_codec.specs.declared.image.ImageFault.{ImageFault}
use Rattle.qc_codec.specs.declared.image.ImageFault.TheVariants.{Grammar, Table as OtherTable}
use Rattle.qc_codec.specs.declared.past.Past.{Past}

module _ (disk : ℕ) (table : Table) (past : Past) where
  -- the first body tells nothing that may stand first, or that the disk was made for another table
  abbrev pub IsFirstBad : List ℕ → ImageFault → Type 0
  IsFirstBad first (Grammar index) = (index ≡ 0) × (MayStand disk table past [] first → ⊥)
  IsFirstBad first (OtherTable kept asked) = (asked ≡ table) × (kept ≢ table) × ((format : ℕ) × (all_of body.made first ≡ Some (made_in format disk kept)))
  IsFirstBad first _ = ⊥

  -- a body behind the first may not stand where it does
  abbrev pub IsLaterBad : List (List ℕ) → ImageFault → Type 0
  IsLaterBad bodies (Grammar index) = (index ≢ 0) × IsOutOfOrder disk table past index bodies
  IsLaterBad bodies _ = ⊥
