-- What is read of the bodies of a ledger's journal, and what is wrong with them.
use Rattle.std.specs.Prelude.{ℕ, ◌≡◌, ◌≢◌, ◌≤◌, List, [], length, take, MatchOption, Some, Vec}
use Rattle.std.specs.declared.alloc.Global.{Global}
use Rattle.qc_event.specs.declared.table.Table.{Table}
use Rattle.qc_codec.specs.Base.{base_in, layout_of, ledger_base}
use Rattle.qc_codec.specs.Bodies as body
use Rattle.qc_codec.specs.Fields.{Layout}
use Rattle.qc_codec.specs.Form.{all_of}
use Rattle.qc_codec.specs.Ledger.{made_in, past_in, AreInOrder, MayStand, IsOutOfOrder}
use Rattle.qc_codec.specs.declared.image.ImageFault.{ImageFault}
use Rattle.qc_codec.specs.declared.image.ImageFault.TheVariants.{Grammar, Table as OtherTable}
use Rattle.qc_codec.specs.declared.record.LedgerRecord.TheVariants as ledger_record
use Rattle.qc_codec.specs.declared.record.Made.{Made}
use Rattle.qc_journal.specs.Image.{bodies_of}
use Rattle.qc_ledger.specs.Seen.{told_by, HasNumbers}
use Rattle.qc_ledger.specs.declared.seen.Seen.{Seen}

module _ (disk : ℕ) where
  -- the first body tells nothing that may stand first, or that the disk was made for another table
  abbrev pub IsFirstBad : Table → List ℕ → ImageFault → Type 0
  IsFirstBad table first (Grammar index) = (index ≡ 0) × (MayStand disk [] first → ⊥)
  IsFirstBad table first (OtherTable kept asked) = (asked ≡ table) × (kept ≢ table) × ((format : ℕ) × (all_of body.ledger first ≡ Some (ledger_record.Made (made_in format disk kept))))
  IsFirstBad table first _ = ⊥

  -- a body behind the first may not stand where it does
  abbrev pub IsLaterBad : List (List ℕ) → ImageFault → Type 0
  IsLaterBad bodies (Grammar index) = (index ≢ 0) × IsOutOfOrder disk index bodies
  IsLaterBad bodies _ = ⊥

-- a body tells how a disk was made, with this layout
abbrev pub IsMadeBy : Layout → List ℕ → Type 0
IsMadeBy layout first = MatchOption (all_of body.made first) ⊥ (λ (made : Made). layout_of made ≡ layout)

-- So many first bodies were read, which are in order. What they tell is known, and the base of all stands among them.
pub record AreRead (disk : ℕ) (bodies : List (Vec ℕ Global)) (seen : Seen) (count : ℕ) : Type 0 where
  pub some : 1 ≤ count
  pub within : count ≤ length bodies
  pub told : told_by seen ≡ past_in (bodies_of (take count bodies))
  pub order : AreInOrder disk (bodies_of (take count bodies))
  pub base : base_in ledger_base (bodies_of (take count bodies)) ≡ base_in ledger_base (bodies_of bodies)
  pub numbers : HasNumbers seen
