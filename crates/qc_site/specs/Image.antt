-- The first fault of the image of a copy's disk, and what a mounting writes behind what it finds.
use Rattle.std.specs.Prelude.{ℕ, ◌≡◌, ◌≢◌, ◌<◌, List, [], All}
use Rattle.qc_event.specs.declared.table.Table.{Table}
use Rattle.qc_codec.specs.Bodies as body
use Rattle.qc_codec.specs.Copy.{AreInOrder, IsOutOfOrder}
use Rattle.qc_codec.specs.Ledger.{made_for, made_in}
use Rattle.qc_codec.specs.declared.image.ImageFault.{ImageFault}
use Rattle.qc_codec.specs.declared.image.ImageFault.TheVariants.{Broken, Grammar, Full, Table as OtherTable, Epoch}
use Rattle.qc_codec.specs.declared.past.Past.{Past}
use Rattle.qc_ledger.specs.Image.{made_where_none, BeginWith, HaveRoom, IsFull}

-- each number of these bodies is a byte
abbrev pub AreBytes : List (List ℕ) → Type 0
AreBytes bodies = All (λ (bytes : List ℕ). All (λ (byte : ℕ). byte < 256) bytes) bodies

module _ (disk : ℕ) (table : Table) where
  -- the body that says that a disk of a copy's was made for a table
  abbrev pub made_body : List ℕ
  made_body = body.made.spell (made_for disk table)

  -- what a mounting writes behind these bodies: how the disk was made, where there are none
  abbrev pub to_write : List (List ℕ) → List (List ℕ)
  to_write = made_where_none made_body

  -- the first of these bodies, where there is one, says that a disk of a copy's was made for a table, in this format
  abbrev pub AreMadeIn : ℕ → List (List ℕ) → Type 0
  AreMadeIn format = BeginWith body.made (made_in format disk table)

  -- it says so in some format
  abbrev pub AreMadeFor : List (List ℕ) → Type 0
  AreMadeFor bodies = (format : ℕ) × AreMadeIn format bodies

  -- Bodies are those of a disk of a copy's for a table, in order behind a ledger's past.
  pub record AreGranted (past : Past) (bodies : List (List ℕ)) : Type 0 where
    pub made : AreMadeFor bodies
    pub order : AreInOrder disk table past bodies

module _ (disk : ℕ) (table : Table) (past : Past) (limit : ℕ) where
  -- the first fault that bodies have
  abbrev pub IsCopyFault : List (List ℕ) → ImageFault → Type 0
  IsCopyFault bodies (Broken place) = ⊥
  IsCopyFault bodies (Grammar index) = IsOutOfOrder disk table past index bodies × (index ≢ 0 → AreMadeFor disk table bodies)
  IsCopyFault bodies (OtherTable kept asked) = (asked ≡ table) × (kept ≢ table) × (bodies ≢ []) × AreMadeFor disk kept bodies
  IsCopyFault bodies (Epoch epoch) = ⊥
  IsCopyFault bodies (Full place) = AreGranted disk table past bodies × IsFull limit bodies (to_write disk table bodies) place

  -- Bodies have no fault, and what a mounting writes fits behind them.
  pub record AreMountableAsCopy (bodies : List (List ℕ)) : Type 0 where
    pub granted : AreGranted disk table past bodies
    pub room : HaveRoom limit bodies (to_write disk table bodies)
