-- The law on pairs says something: the pairs of a store of one copy and one record, each folded before anything ran, stand beside
-- the empty history.
use Rattle.std.proofs.Common.{◌≡◌, ℕ, zero, suc, ◌<◌, inr, true, List, [], ◌∷◌, ◌++◌, length, refl, sym, arith, rules}
use mathlib.Core.Bool.{true≢false}
use Rattle.std.specs.Prelude.{All}
use Rattle.std.proofs.lemmas.List.Elements.{All-cons, All-nil}
use Rattle.qc_config.specs.Val.{Number}
use Rattle.qc_codec.specs.Base.{copy_base, current_copy_base, current_ledger_base, is_swapped, ledger_base}
use Rattle.qc_codec.specs.Bodies as body
use Rattle.qc_codec.specs.Fields.{config, datum, half, long, number_datum, tuple, word}
use Rattle.qc_codec.specs.Ledger.{made_for}
use Rattle.qc_codec.specs.declared.record.BaseRecord.{BaseRecord}
use Rattle.qc_codec.specs.declared.record.LedgerRecord.TheVariants as ledger_record
use Rattle.qc_config.specs.declared.tuple.Tuple.{Tuple}
use Rattle.qc_event.specs.declared.table.Row.{Row}
use Rattle.qc_event.specs.declared.table.Table.{Table}
use Rattle.qc_event.specs.Standing.{HasEnded}
use Rattle.qc_event.specs.Tables.{base_of, first_tuple, setting_of}
use Rattle.qc_journal.specs.Image.{HasRecords, IsShort, row as records_row}
use Rattle.qc_refine.specs.Folded.{seen_row}
use Rattle.qc_refine.specs.Pairs.{IsFoldedCopy, IsFoldedLedger, StandInPairs, TellsCopy, TellsLedger}
use Rattle.qc_refine.proofs.Restoring.GrownImages.{by_swapped}
use Rattle.qc_refine.proofs.Restoring.RestoredBases.{fresh_beside}

abbrev one_row : Row
one_row = record { name = 97 ∷ []; start = Number 0; config = record { votes = 1 ∷ []; read = 1; write = 1 } }

abbrev pub table : Table
table = record { copies = 1; records = one_row ∷ [] }

-- the first fold of a disk
abbrev folded_to : List Tuple → BaseRecord
folded_to tuples = record { number = 1; epoch = 1; tuples = tuples }

-- BODIES

-- how the disk of a number was made
abbrev pub made : ℕ → List ℕ
made disk = body.made.spell (made_for disk table)

abbrev ledger_own : List (List ℕ)
ledger_own = made 0 ∷ body.ledger.spell (ledger_record.Epoch 1) ∷ []

abbrev ledger_spare : List (List ℕ)
ledger_spare = made 17 ∷ (current_ledger_base table).spell (folded_to []) ∷ []

abbrev copy_own : List (List ℕ)
copy_own = made 1 ∷ []

abbrev copy_spare : List (List ℕ)
copy_spare = made 18 ∷ (current_copy_base table).spell (folded_to (first_tuple one_row ∷ [])) ∷ []

-- an image of bodies, with a closed gate behind them
abbrev pub image : List (List ℕ) → List ℕ
image bodies = records_row bodies ++ 0 ∷ []

abbrev images : List (List ℕ)
images = image ledger_own ∷ image copy_own ∷ image ledger_spare ∷ image copy_spare ∷ []

pub has : (bodies : List (List ℕ)) → All IsShort bodies → HasRecords bodies (image bodies)
has bodies short = inr (length (records_row bodies), record { gate = 0; rest = []; split = refl; closed = λ is. cc; size = refl; short = short })

-- THEY ARE SHORT

pub made_short : (disk : ℕ) → length (made disk) ≡ 22
unfolding body.made body.making body.table body.row body.label config datum number_datum half long
made_short disk = refl

epoch_short : length (body.ledger.spell (ledger_record.Epoch 1)) ≡ 5
unfolding body.ledger word
epoch_short = refl

ledger_base_short : length ((current_ledger_base table).spell (folded_to [])) ≡ 13
unfolding body.base body.folded long word
ledger_base_short = refl

copy_base_short : length ((current_copy_base table).spell (folded_to (first_tuple one_row ∷ []))) ≡ 44
unfolding body.base body.folded tuple config datum number_datum half long word
copy_base_short = refl

both_short : (disk : ℕ) (second : List ℕ) → length second < 100 → All IsShort (made disk ∷ second ∷ [])
both_short disk second few =
    All-cons IsShort (made disk) (second ∷ []) (omega (arith, made_short disk))
    (All-cons IsShort second [] (omega (arith, few)) (All-nil IsShort))

-- THEY FIT

made_fits : (disk : ℕ) → disk < 256 → body.made.fits (made_for disk table)
unfolding body.made body.making body.table body.row body.label config datum number_datum half long
made_fits disk few = (((omega arith, refl), (few, search rules)), tt)

ledger_base_fits : (current_ledger_base table).fits (folded_to [])
unfolding body.base body.folded long word
ledger_base_fits = search rules

copy_base_fits : (current_copy_base table).fits (folded_to (first_tuple one_row ∷ []))
unfolding body.base body.folded tuple config datum number_datum half long word
copy_base_fits = search rules

-- THE SPARES ARE ACTIVE

ledger_swapped : is_swapped ledger_base ledger_own ledger_spare ≡ true
unfolding body.made body.making body.table body.row body.label body.ledger body.base body.folded tuple config datum number_datum half long word
ledger_swapped = refl

copy_swapped : is_swapped copy_base copy_own copy_spare ≡ true
unfolding body.made body.making body.table body.row body.label body.base body.folded tuple config datum number_datum half long word
copy_swapped = refl

-- THEY STAND

ledger_folded : TellsLedger table images (IsFoldedLedger table 1)
ledger_folded = record {
  own = ledger_own;
  spare = ledger_spare;
  has = has ledger_own (both_short 0 _ (omega (arith, epoch_short)));
  has_spare = has ledger_spare (both_short 17 _ (omega (arith, ledger_base_short)));
  tells = by_swapped ledger_base 0 (IsFoldedLedger table 1) ledger_own ledger_spare true ledger_swapped
      (record { base = folded_to []; of_epoch = refl; made_fits = made_fits 17 (omega arith); base_fits = ledger_base_fits; are = refl });
}

copy_folded : TellsCopy table images 0 (IsFoldedCopy table 1 (first_tuple one_row ∷ []))
copy_folded = record {
  own = copy_own;
  spare = copy_spare;
  has = has copy_own (All-cons IsShort (made 1) [] (omega (arith, made_short 1)) (All-nil IsShort));
  has_spare = has copy_spare (both_short 18 _ (omega (arith, copy_base_short)));
  tells = by_swapped copy_base 1 (IsFoldedCopy table 1 (first_tuple one_row ∷ [])) copy_own copy_spare true copy_swapped
      (record { base = folded_to (first_tuple one_row ∷ []); of_epoch = refl; holds = refl; made_fits = made_fits 18 (omega arith); base_fits = copy_base_fits; are = refl });
}

stand : StandInPairs table (base_of table) 1 [] images
stand = record {
  first = base_of table;
  before = record { tops = []; granted = [] };
  now = record { tops = []; granted = [] };
  beside = fresh_beside table;
  many = refl;
  as_many = refl;
  ledger = inr (none, ledger_folded, each_copy);
  copies = λ copy there. inr (none, each_copy copy there);
}
  where
    none : HasEnded []
    none number began = absurd (true≢false (sym began))

    each_copy : (copy : ℕ) → copy < 1 → TellsCopy table images copy (IsFoldedCopy table 1 (seen_row (setting_of table (base_of table)) [] copy))
    each_copy zero there = copy_folded
    each_copy (suc copy) there = absurd (omega (arith, there))
