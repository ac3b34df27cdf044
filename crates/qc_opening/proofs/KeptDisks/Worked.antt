-- The law on kept disks says something: a store of one copy and one record, mounted over empty disks.
use Rattle.std.proofs.Common.{◌≡◌, ℕ, zero, suc, ◌+◌, ◌<◌, ◌≤◌, inl, inr, true, List, [], ◌∷◌, ◌++◌, length, get_or, refl, sym, ap, subst, arith, rules}
use mathlib.Core.Bool.{true≢false}
use Rattle.std.specs.Prelude.{nat_lt, Option, None, Some}
use Rattle.std.specs.List.{All, list_all}
use Rattle.std.proofs.lemmas.Bool.{and_parts, ltb-true}
use Rattle.std.proofs.lemmas.List.{length-append}
use Rattle.std.proofs.lemmas.List.Elements.{All-nil, All-cons}
use Rattle.qc_config.specs.Val.{Number}
use Rattle.qc_event.specs.declared.table.Row.{Row}
use Rattle.qc_event.specs.declared.table.Table.{Table}
use Rattle.qc_event.specs.Base.{start_tuple}
use Rattle.qc_event.specs.Tables.{base_of, setting_of}
use Rattle.qc_codec.specs.Base.{base_in, copy_base, format_in, tuples_of_base}
use Rattle.qc_codec.specs.Copy as Copy
use Rattle.qc_codec.specs.Copy.{granted_in}
use Rattle.qc_codec.specs.Ledger.{MayStand, made_for}
use Rattle.qc_codec.specs.Restored.{restored_row}
use Rattle.qc_desk.specs.Held.{from_row}
use Rattle.qc_journal.specs.Image.{HasRecords, IsShort, length_bytes, row as records_row}
use Rattle.qc_journal.specs.Journal.{IsTooLong}
use Rattle.qc_journal.proofs.Images.{length-length_bytes}
use Rattle.qc_site.specs.Mounted as copies
use Rattle.qc_system.specs.Left.{KeepsGrants}
use Rattle.qc_refine.proofs.Restoring.Actives.{ActivesStand}
use Rattle.qc_refine.proofs.Restoring.ImageReadings.{made_told}
use Rattle.qc_refine.proofs.WorkedPairs.{has}
use Rattle.qc_opening.proofs.KeptDisks.Stands.{stand}
use Rattle.qc_codec.specs.Bodies as body
use Rattle.qc_codec.specs.Fields.{config, current_format, datum, half, long, number_datum, word}
use Rattle.qc_codec.proofs.Order.{each_none}
use Rattle.qc_ledger.specs.Image as tops
use Rattle.qc_site.specs.Image as grants
use Rattle.qc_opening.specs.Mountings.{AreKept, MountedOn}
use Rattle.qc_site.specs.Image.{AreBytes}
use Rattle.qc_site.proofs.OfBytes.{Bytes}

abbrev row : Row
row = record { name = 97 ∷ []; start = Number 0; config = record { votes = 1 ∷ []; read = 1; write = 1 } }

abbrev pub table : Table
table = record { copies = 1; records = row ∷ [] }

-- how the disk of a number was made
abbrev made_bytes : ℕ → List ℕ
made_bytes number = 1 ∷ 2 ∷ number ∷ 1 ∷ 1 ∷ 1 ∷ 97 ∷ 0 ∷ 0 ∷ 0 ∷ 0 ∷ 0 ∷ 0 ∷ 0 ∷ 0 ∷ 0 ∷ 1 ∷ 1 ∷ 0 ∷ 1 ∷ 0 ∷ 1 ∷ []

ledger_made : tops.made_body 0 table ≡ made_bytes 0
unfolding body.ledger body.making body.table body.row body.label config datum number_datum half long
ledger_made = refl

copy_made : grants.made_body 1 table ≡ made_bytes 1
unfolding body.made body.making body.table body.row body.label config datum number_datum half long
copy_made = refl

first_epoch : tops.epoch_body 1 ≡ 2 ∷ 0 ∷ 0 ∷ 0 ∷ 1 ∷ []
unfolding body.ledger word
first_epoch = refl

proper : (body.table current_format).fits table
unfolding body.table body.row body.label config datum number_datum half long
proper = search rules

-- BYTES

bytes_by_test : (xs : List ℕ) → list_all (λ n. nat_lt n 256) xs ≡ true → Bytes xs
bytes_by_test [] is = All-nil (λ (n : ℕ). n < 256)
bytes_by_test (x ∷ xs) is = let parts = and_parts (nat_lt x 256) (list_all (λ n. nat_lt n 256) xs) is in All-cons (λ (n : ℕ). n < 256) x xs (ltb-true x 256 parts.0) (bytes_by_test xs parts.1)

-- the records of each disk, where the first mounting has written them
abbrev pub records : ℕ → List (List ℕ)
records zero = tops.made_body 0 table ∷ tops.epoch_body 1 ∷ []
records (suc copy) = grants.made_body (suc copy) table ∷ []

ledger_bytes : AreBytes (records 0)
ledger_bytes =
    All-cons Bytes (tops.made_body 0 table) (tops.epoch_body 1 ∷ []) (subst Bytes (sym ledger_made) (bytes_by_test (made_bytes 0) refl))
    (All-cons Bytes (tops.epoch_body 1) [] (subst Bytes (sym first_epoch) (bytes_by_test (2 ∷ 0 ∷ 0 ∷ 0 ∷ 1 ∷ []) refl)) (All-nil Bytes))

copy_bytes : AreBytes (records 1)
copy_bytes = All-cons Bytes (grants.made_body 1 table) [] (subst Bytes (sym copy_made) (bytes_by_test (made_bytes 1) refl)) (All-nil Bytes)

-- ROOM

enough : (place : ℕ) (bytes : List ℕ) → place ≤ 100 → length bytes ≤ 100 → IsTooLong place 1000 bytes → ⊥
enough place bytes low few (inl long) = omega (arith, low, few, long)
enough place bytes low few (inr long) = omega (arith, few, long)

one_row : (bytes : List ℕ) → length (records_row (bytes ∷ [])) ≡ 5 + length bytes
one_row bytes = omega (arith, length-append (length_bytes bytes ++ bytes) [], length-append (length_bytes bytes) bytes, length-length_bytes bytes)

ledger_room : (place : ℕ) → tops.IsFull 1000 [] (tops.to_write 0 table []) place → ⊥
ledger_room place (inl here) = enough place (tops.made_body 0 table) (omega (arith, here.0)) (omega (arith, ap length ledger_made)) here.1
ledger_room place (inr (first, inl here)) = enough place (tops.epoch_body 1) (omega (arith, here.0, one_row (tops.made_body 0 table), ap length ledger_made)) (omega (arith, ap length first_epoch)) here.1
ledger_room place (inr (first, inr later)) = later.1

copy_room : (place : ℕ) → tops.IsFull 1000 [] (grants.to_write 1 table []) place → ⊥
copy_room place (inl here) = enough place (grants.made_body 1 table) (omega (arith, here.0)) (omega (arith, ap length copy_made)) here.1
copy_room place (inr later) = later.1

-- THE MOUNTING

-- each disk is empty
abbrev empty : ℕ → Option (List ℕ)
empty number = Some []

pub mounted : MountedOn (λ place. place) table empty records 1 (base_of table)
mounted = record {
  past = record { epoch = 0; base = None; tops = [] };
  limit = λ number. 1000;
  proper = proper;
  small = omega arith;
  bytes = λ number few. each_bytes number few;
  ledger = record {
    found = [];
    ledgers = record { made = (current_format, tt); order = each_none (MayStand 0) };
    fine = (inl (refl, omega arith), record { ledgers = record { made = (current_format, tt); order = each_none (MayStand 0) }; epoch = omega arith; room = ledger_room });
    past_is = refl;
    next = refl;
    all = refl;
  };
  copies = λ copy there. each_copy copy there;
  as_many = refl;
  starts = λ copy there. each_start copy there;
}
  where
    each_bytes : (number : ℕ) → number ≤ 1 → AreBytes (records number)
    each_bytes zero few = ledger_bytes
    each_bytes (suc zero) few = copy_bytes
    each_bytes (suc (suc number)) few = absurd (omega (arith, few))

    each_copy : (copy : ℕ) → copy < 1 → copies.MountsCopy (copy + 1) table (record { epoch = 0; base = None; tops = [] }) 1000 current_format (Some []) (records (copy + 1))
    each_copy zero there = record {
      found = [];
      format_is = refl;
      granted = record { made = (current_format, tt); order = each_none (Copy.MayStand 1 table (record { epoch = 0; base = None; tops = [] })) };
      fine = (inl (refl, omega arith), record { granted = record { made = (current_format, tt); order = each_none (Copy.MayStand 1 table (record { epoch = 0; base = None; tops = [] })) }; room = copy_room });
      all = refl;
    }
    each_copy (suc copy) there = absurd (omega (arith, there))

    each_start : (copy : ℕ) → copy < 1 → get_or (base_of table) copy [] ≡ restored_row [] 1 (from_row (tuples_of_base table (base_in copy_base (records (copy + 1))))) (granted_in table (records (copy + 1)))
    each_start zero there = ap (restored_row [] 1 (start_tuple (base_of table) 0)) (sym (made_told (format_in (records 1)) table (made_for 1 table) []))
    each_start (suc copy) there = absurd (omega (arith, there))

-- THE IMAGES

abbrev pub images : List (List ℕ)
images = (records_row (records 0) ++ 0 ∷ []) ∷ (records_row (records 1) ++ 0 ∷ []) ∷ []

-- before anything has run, each disk keeps what nothing tells
pub kept : AreKept table (base_of table) records [] images
kept = record {
  as_many = refl;
  ledger = ∣ record { untold = None; next = tt; each = λ image is. ([], inl refl, subst (HasRecords (records 0)) (sym is) (has (records 0) ledger_short)) } ∣₁;
  copies = λ copy there. each_copy copy there;
}
  where
    ledger_short : All IsShort (records 0)
    ledger_short =
        All-cons IsShort (tops.made_body 0 table) (tops.epoch_body 1 ∷ []) (omega (arith, ap length ledger_made))
        (All-cons IsShort (tops.epoch_body 1) [] (omega (arith, ap length first_epoch)) (All-nil IsShort))

    copy_short : All IsShort (records 1)
    copy_short = All-cons IsShort (grants.made_body 1 table) [] (omega (arith, ap length copy_made)) (All-nil IsShort)

    each_copy : (copy : ℕ) → copy < 1 → ∥ KeepsGrants (setting_of table (base_of table)) 1 copy (records (copy + 1)) (λ image. image ≡ get_or images (copy + 1) []) [] ∥₁
    each_copy zero there = ∣ record { untold = None; may = tt; fit = All-nil _; each = λ image is. ([], inl refl, subst (HasRecords (records 1)) (sym is) (has (records 1) copy_short)) } ∣₁
    each_copy (suc copy) there = absurd (omega (arith, there))

-- so they stand beside the empty history
stands : ∥ ActivesStand (λ place. place) 1 table (base_of table) 1 [] images ∥₁
stands = stand (λ place. place) table empty records 1 (base_of table) mounted [] images tt (omega arith) (λ number began. absurd (true≢false (sym began))) kept
