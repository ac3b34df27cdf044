-- The saved form of a trail.
use Rattle.std.specs.Prelude.{ℕ, ◌≡◌, ◌++◌, List, length, All}
use Rattle.qc_codec.specs.Bodies as body
use Rattle.qc_codec.specs.Fields.{current_format, word}
use Rattle.qc_codec.specs.Gives.{Spells}
use Rattle.qc_codec.specs.Ledger.{made_for, made_in}
use Rattle.qc_config.specs.declared.tuple.Tuple.{Tuple}
use Rattle.qc_event.specs.declared.table.Table.{Table}
use Rattle.qc_trail_codec.specs.Trail as saved
use Rattle.qc_trail_codec.specs.declared.record.SavedTrail.{SavedTrail}

-- the form in which a table and a trail are saved: how disk 0 of the table's store is made in the current format, as a body whose
-- length stands before it, and then the trail
abbrev pub saved_text : Table → SavedTrail → List ℕ
saved_text table trail =
    let made = body.made.spell (made_for 0 table) in
    word.spell (length made) ++ (made ++ (saved.trail current_format).spell trail)

-- Bytes are a front and a back, behind four bytes that tell how long the front is.
pub record AreParts (bytes front back : List ℕ) : Type 0 where
  pub short : word.fits (length front)
  pub joined : bytes ≡ word.spell (length front) ++ (front ++ back)

-- A base has the table's copies, and its records at each.
pub record HasSizes (table : Table) (base : List (List Tuple)) : Type 0 where
  pub copies : length base ≡ table.copies
  pub records : All (λ (row : List Tuple). length row ≡ length table.records) base

-- The bytes are the saved form of a table and a trail: how disk 0 of the table's store is made in a format, as a body whose length
-- stands before it, and then the trail in that format, of as many copies and records.
pub record IsSaved (table : Table) (trail : SavedTrail) (bytes : List ℕ) : Type 0 where
  pub front : List ℕ
  pub back : List ℕ
  pub format : ℕ
  pub parts : AreParts bytes front back
  pub made : Spells body.made front (made_in format 0 table)
  pub rest : Spells (saved.trail format) back trail
  pub sizes : HasSizes table trail.base
