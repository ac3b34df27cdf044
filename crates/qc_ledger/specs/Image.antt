-- The first fault of a ledger's image, and what a mounting writes behind what it finds.
use Rattle.std.specs.Prelude.{ℕ, ◌≡◌, ◌≢◌, ◌+◌, ◌-◌, ◌<◌, ◌^◌, ◌⊎◌, List, [], ◌∷◌, ◌++◌, length, Some}
use Rattle.qc_event.specs.declared.table.Table.{Table}
use Rattle.qc_codec.specs.Bodies as body
use Rattle.qc_codec.specs.Form.{Form, all_of}
use Rattle.qc_codec.specs.Ledger.{made_for, made_in, past_in, AreInOrder, IsOutOfOrder}
use Rattle.qc_codec.specs.declared.image.ImageFault.{ImageFault}
use Rattle.qc_codec.specs.declared.image.ImageFault.TheVariants.{Broken, Grammar, Full, Table as OtherTable, Epoch}
use Rattle.qc_codec.specs.declared.record.LedgerRecord.TheVariants as ledger_record
use Rattle.qc_journal.specs.Image.{row, HasRecords, IsBroken}
use Rattle.qc_journal.specs.Journal.{IsTooLong}

-- the body that says that a disk of the ledger's was made for a table
abbrev pub made_body : ℕ → Table → List ℕ
made_body disk table = body.ledger.spell (ledger_record.Made (made_for disk table))

-- the body of an epoch
abbrev pub epoch_body : ℕ → List ℕ
epoch_body epoch = body.ledger.spell (ledger_record.Epoch epoch)

-- the body that says how a ledger was made, where there are no bodies
abbrev pub made_where_none : List ℕ → List (List ℕ) → List (List ℕ)
made_where_none made [] = made ∷ []
made_where_none made (first ∷ bodies) = []

-- what a mounting writes behind these bodies: how the disk was made, where there are none, and the next epoch
abbrev pub to_write : ℕ → Table → List (List ℕ) → List (List ℕ)
to_write disk table bodies = made_where_none (made_body disk table) bodies ++ epoch_body ((past_in bodies).epoch + 1) ∷ []

-- the greatest epoch
abbrev pub LAST_EPOCH : ℕ
LAST_EPOCH = 2 ^ 32 - 1

-- the first of these bodies, where there is one, is this record
abbrev pub BeginWith : {R : Type 0} → Form R → R → List (List ℕ) → Type 0
BeginWith form made [] = Unit {0}
BeginWith form made (first ∷ bodies) = all_of form first ≡ Some made

-- it says in some format that a disk of the ledger's was made for a table
abbrev pub AreMadeFor : ℕ → Table → List (List ℕ) → Type 0
AreMadeFor disk table bodies = (format : ℕ) × BeginWith body.ledger (ledger_record.Made (made_in format disk table)) bodies

-- Of bodies that are written one behind another, behind these, the first that would pass the limit goes to this place.
abbrev pub IsFull : ℕ → List (List ℕ) → List (List ℕ) → ℕ → Type 0
IsFull limit bodies [] place = ⊥
IsFull limit bodies (next ∷ more) place = ((place ≡ length (row bodies)) × IsTooLong place limit next)
    ⊎ ((IsTooLong (length (row bodies)) limit next → ⊥) × IsFull limit (bodies ++ next ∷ []) more place)

-- they all have room behind these
abbrev pub HaveRoom : ℕ → List (List ℕ) → List (List ℕ) → Type 0
HaveRoom limit bodies more = (place : ℕ) → IsFull limit bodies more place → ⊥

-- Bodies are a ledger's for a table, in order.
pub record AreLedgers (disk : ℕ) (table : Table) (bodies : List (List ℕ)) : Type 0 where
  pub made : AreMadeFor disk table bodies
  pub order : AreInOrder disk bodies

-- the first fault that bodies have
abbrev pub IsLedgerFault : ℕ → Table → ℕ → List (List ℕ) → ImageFault → Type 0
IsLedgerFault disk table limit bodies (Broken place) = ⊥
IsLedgerFault disk table limit bodies (Grammar index) = IsOutOfOrder disk index bodies × (index ≢ 0 → AreMadeFor disk table bodies)
IsLedgerFault disk table limit bodies (OtherTable kept asked) = (asked ≡ table) × (kept ≢ table) × (bodies ≢ []) × AreMadeFor disk kept bodies
IsLedgerFault disk table limit bodies (Epoch epoch) = AreLedgers disk table bodies × ((past_in bodies).epoch ≡ epoch) × (epoch ≡ LAST_EPOCH)
IsLedgerFault disk table limit bodies (Full place) = AreLedgers disk table bodies × ((past_in bodies).epoch < LAST_EPOCH) × IsFull limit bodies (to_write disk table bodies) place

-- the first fault of an image: it is broken, or its bodies have a fault
abbrev pub IsFirstFault : (List (List ℕ) → ImageFault → Type 0) → ImageFault → List ℕ → Type 0
IsFirstFault Has (Broken place) image = IsBroken place image
IsFirstFault Has fault image = (bodies : List (List ℕ)) × HasRecords bodies image × Has bodies fault

-- Bodies have no fault, and what a mounting writes fits behind them.
pub record AreMountableAsLedger (disk : ℕ) (table : Table) (limit : ℕ) (bodies : List (List ℕ)) : Type 0 where
  pub ledgers : AreLedgers disk table bodies
  pub epoch : (past_in bodies).epoch < LAST_EPOCH
  pub room : HaveRoom limit bodies (to_write disk table bodies)
