-- What a mounting gives.
use Rattle.std.specs.Prelude.{ℕ, ◌≡◌, ◌+◌, List, ◌++◌, Option, IfSome}
use Rattle.qc_disk.specs.declared.disk.Disk.{Ghosts}
use Rattle.qc_event.specs.declared.table.Table.{Table}
use Rattle.qc_codec.specs.Ledger.{past_in}
use Rattle.qc_codec.specs.declared.past.Past.{Past}
use Rattle.qc_journal.specs.Image.{HasRecords, bodies_of}
use Rattle.qc_journal.specs.declared.journal.Journal.{Journal}
use Rattle.qc_ledger.specs.Image.{AreLedgers, AreMountableAsLedger, to_write}
use Rattle.qc_ledger.specs.declared.book.Book.{Book}

-- the journal
abbrev pub journal_of : {D : Type 0} {g : Ghosts D} → Book D g → Journal D g
journal_of book = book.journal

-- the bodies of its records
abbrev pub records_of : {D : Type 0} {g : Ghosts D} → Book D g → List (List ℕ)
records_of book = bodies_of book.bodies.items

-- an image has these records and some first ones of others
pub record HasSome (bodies more : List (List ℕ)) (image : List ℕ) : Type 0 where
  pub first : List (List ℕ)
  pub rest : List (List ℕ)
  pub split : more ≡ first ++ rest
  pub has : HasRecords (bodies ++ first) image

-- Bodies were found, which are a ledger's and tell this past. A disk that tells its bytes has them, without a fault.
-- What a mounting writes stands behind them.
pub record MountsLedger (disk : ℕ) (table : Table) (limit : ℕ) (told : Option (List ℕ)) (records : List (List ℕ)) (past : Past) (epoch : ℕ) : Type 0 where
  pub found : List (List ℕ)
  pub ledgers : AreLedgers disk table found
  pub fine : IfSome told (λ bytes. HasRecords found bytes × AreMountableAsLedger disk table limit found)
  pub past_is : past ≡ past_in found
  pub next : epoch ≡ past.epoch + 1
  pub all : records ≡ found ++ to_write disk table found
