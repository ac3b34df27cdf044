-- What is kept on a store's disks stands beside its history.
use Rattle.std.proofs.Common.{◌≡◌, ℕ, ◌+◌, ◌<◌, ◌≤◌, inl, inr, List, [], ◌++◌, length, get_or, refl, sym, ap, ap₂, ◌∙◌, subst, arith}
use Rattle.std.specs.Prelude.{map, Option}
use Rattle.std.specs.List.{All, range_with_len}
use Rattle.std.proofs.Math.Logic.{∥∥₁_elim, ∥∥₁_map, ∥∥₁_prop}
use Rattle.std.proofs.lemmas.Bool.{cases_lt}
use Rattle.std.proofs.lemmas.List.{length-map}
use Rattle.std.proofs.lemmas.List.FromFn.{fill_by_all, get_or-map-range_with_len, length-map-range_with_len}
use Rattle.qc_config.specs.declared.tuple.Tuple.{Tuple}
use Rattle.qc_event.specs.declared.event.Grant.{Grant}
use Rattle.qc_event.specs.declared.table.Row.{Row}
use Rattle.qc_event.specs.declared.table.Table.{Table}
use Rattle.qc_event.specs.Base.{start_tuple}
use Rattle.qc_event.specs.History.{Past, grants, limit}
use Rattle.qc_event.specs.Legal.{Legal}
use Rattle.qc_event.specs.Tables.{setting_of}
use Rattle.qc_codec.specs.Base.{base_in, copy_base, tuples_of_base}
use Rattle.qc_codec.specs.Copy.{granted_in}
use Rattle.qc_codec.specs.Ledger.{IsOld}
use Rattle.qc_codec.specs.Restored.{restored_row}
use Rattle.qc_desk.specs.Held.{from_row}
use Rattle.qc_refine.specs.Folded.{begins}
use Rattle.qc_refine.specs.Images.{IsCopyImage}
use Rattle.qc_refine.specs.Listed.{logged}
use Rattle.qc_refine.specs.Restored.{Kept, granted_at, restored}
use Rattle.qc_refine.specs.Standing.{IsAskedOf, IsOfEpoch, IsUntold, StandBeside}
use Rattle.qc_refine.proofs.Restoring.Actives.{ActivesStand, first_told}
use Rattle.qc_opening.specs.Mountings.{AreKept, MountedOn}
use Rattle.qc_opening.proofs.KeptDisks.Choices.{Each, each_at_once}
use Rattle.qc_opening.proofs.KeptDisks.CopyImages as copy_image
use Rattle.qc_opening.proofs.KeptDisks.CopyRecords as copy_records
use Rattle.qc_opening.proofs.KeptDisks.LedgerImages as ledger_image
use Rattle.qc_opening.proofs.KeptDisks.LedgerRecords as ledger_records

-- the rows of copies are those that restored lists give, one by one
pub rows_restored : (table : Table) (base first : List (List Tuple)) (kept : Kept) → length base ≡ table.copies → length first ≡ table.copies
    → ((copy : ℕ) → copy < table.copies → get_or base copy [] ≡ restored_row kept.tops (length table.records) (start_tuple first copy) (granted_at kept copy))
    → base ≡ restored first (length table.records) kept
rows_restored table base first kept many as_many each =
    fill_by_all (λ copy. restored_row kept.tops (length table.records) (start_tuple first copy) (granted_at kept copy)) base (length first) []
    (many ∙ sym as_many)
    (λ copy there. each copy (subst (λ (n : ℕ). copy < n) as_many there))

-- by bodies, with what the copies begin is one for each
pub first_many : (table : Table) (bodies : ℕ → List (List ℕ)) → length (first_told table bodies) ≡ table.copies
first_many table bodies = length-map-range_with_len (λ c. tuples_of_base table (base_in copy_base (bodies (c + 1)))) 0 table.copies

pub first_at : (table : Table) (bodies : ℕ → List (List ℕ)) (copy : ℕ) → copy < table.copies → begins (first_told table bodies) copy ≡ tuples_of_base table (base_in copy_base (bodies (copy + 1)))
first_at table bodies copy there = get_or-map-range_with_len (λ c. tuples_of_base table (base_in copy_base (bodies (c + 1)))) 0 table.copies copy copy [] there (omega arith)

module _ (disk : ℕ → ℕ) (table : Table) (told : ℕ → Option (List ℕ)) (records : ℕ → List (List ℕ)) (epoch : ℕ) (base : List (List Tuple)) (m : MountedOn disk table told records epoch base) where
  -- what a copy had granted before
  abbrev pub old : ℕ → List Grant
  old copy = granted_in table (records (copy + 1))

  pub copy_spelled : (copy : ℕ) → copy < table.copies → copy_records.Spell (disk (copy + 1)) table m.past (tuples_of_base table (base_in copy_base (records (copy + 1)))) (granted_in table (records (copy + 1))) (records (copy + 1))
  copy_spelled copy there =
      copy_records.mounted (disk (copy + 1)) table m.past (m.limit (copy + 1)) (told (copy + 1)) (records (copy + 1)) m.proper (m.copies copy there) (m.bytes (copy + 1) (omega (arith, there)))

  ledger_mounted : ledger_records.Mounted (disk 0) table m.past epoch (records 0)
  ledger_mounted = ledger_records.mounted (disk 0) table m.past epoch m.proper m.small (m.limit 0) (told 0) (records 0) m.ledger (m.bytes 0 (omega arith))

  abbrev before : Kept
  before = record { tops = m.past.tops; granted = map (λ copy. granted_in table (records (copy + 1))) (range_with_len 0 table.copies) }

  before_at : (copy : ℕ) → copy < table.copies → granted_at before copy ≡ granted_in table (records (copy + 1))
  before_at copy there = get_or-map-range_with_len (λ c. granted_in table (records (c + 1))) 0 table.copies copy copy [] there (omega arith)

  -- with what the copies begin
  abbrev first : List (List Tuple)
  first = first_told table records

  starts_before : base ≡ restored first (length table.records) before
  starts_before = rows_restored table base first before m.as_many (first_many table records) (λ copy there.
      m.starts copy there ∙ ap₂ (λ (row : List Tuple) (gs : List Grant). restored_row m.past.tops (length table.records) (from_row row) gs) (sym (first_at table records copy there)) (sym (before_at copy there)))

  module _ (past : Past) (images : List (List ℕ)) (legal : Legal (setting_of table base) past) (few : length past ≤ limit) (of_epoch : IsOfEpoch epoch past) where
    abbrev image : ℕ → List ℕ
    image number = get_or images number []

    -- what an image of a copy's disk tells
    abbrev CopyTells : ℕ → Type 0
    CopyTells copy = copy_image.Tells (setting_of table base) table (length base) copy (disk (copy + 1)) (records (copy + 1)) (tuples_of_base table (base_in copy_base (records (copy + 1)))) (granted_in table (records (copy + 1))) past (get_or images (copy + 1) [])

    abbrev LedgerTells : Type 0
    LedgerTells = ledger_image.Tells (setting_of table base) past epoch legal few of_epoch m.small (disk 0) table m.past (records 0) ledger_mounted (get_or images 0 [])

    -- those of each copy, with none where there is no copy
    module _ (l : LedgerTells) (c : Each table.copies CopyTells) where
      told_at : (copy : ℕ) → (untold : List Grant) × (copy < table.copies → All (IsUntold past) untold × (length untold ≤ 1) × All (IsAskedOf past copy) untold × IsCopyImage table (begins first copy) (granted_in table (records (copy + 1)) ++ (grants past copy ++ untold)) (disk (copy + 1)) (get_or images (copy + 1) []))
      told_at copy = elim (cases_lt copy table.copies) [
        | inl there ↦ (
          (c copy there).untold,
          λ here. (
            (c copy there).are,
            (c copy there).few,
            (c copy there).asked,
            subst (λ row. IsCopyImage table row (granted_in table (records (copy + 1)) ++ (grants past copy ++ (c copy there).untold)) (disk (copy + 1)) (get_or images (copy + 1) [])) (sym (first_at table records copy there)) (c copy there).is_image,
          ),
        )
        | inr past_all ↦ ([], λ here. absurd (omega (arith, here, past_all)))
      ]

      abbrev all_granted : ℕ → List Grant
      all_granted copy = granted_in table (records (copy + 1)) ++ (grants past copy ++ (told_at copy).0)

      abbrev now : Kept
      now = record { tops = m.past.tops ++ (logged past ++ l.more); granted = map all_granted (range_with_len 0 table.copies) }

      now_at : (copy : ℕ) → copy < table.copies → granted_at now copy ≡ all_granted copy
      now_at copy there = get_or-map-range_with_len all_granted 0 table.copies copy copy [] there (omega arith)

      old_grants : (copy : ℕ) → copy < table.copies → All (λ (g : Grant). IsOld epoch g.access) (granted_at before copy)
      old_grants copy there =
          subst (All (λ (g : Grant). IsOld epoch g.access)) (sym (before_at copy there))
          (subst (λ (e : ℕ). All (λ (g : Grant). IsOld e g.access) (granted_in table (records (copy + 1)))) (sym m.ledger.next) (copy_spelled copy there).are_old)

      beside : StandBeside first epoch (setting_of table base) before now past
      beside = let many = first_many table records in record {
        starts = starts_before ∙ ap (λ n. restored first n before) (sym (length-map table.records (λ (r : Row). r.config)));
        old_tops = ledger_mounted.are_old;
        old_grants = λ copy there. old_grants copy (omega (arith, there, many));
        of_epoch = of_epoch;
        more = l.more;
        next = l.next;
        tops = refl;
        untold = λ copy. (told_at copy).0;
        are_untold = λ copy there. ((told_at copy).1 (omega (arith, there, many))).0;
        granted = λ copy there. let here : copy < table.copies = omega (arith, there, many) in now_at copy here ∙ ap (λ (gs : List Grant). gs ++ (grants past copy ++ (told_at copy).0)) (sym (before_at copy here));
      }

      stand_so : ActivesStand disk 1 table base epoch past images
      unfolding beside
      stand_so = record {
        first = first;
        before = before;
        now = now;
        beside = beside;
        many = first_many table records;
        ledger = l.is_image;
        copies = λ copy there. subst (λ gs. IsCopyImage table (begins first copy) gs (disk (copy + 1)) (get_or images (copy + 1) [])) (sym (now_at copy there)) ((told_at copy).1 there).3;
        few_tops = l.at_most_one;
        few_grants = λ copy there. ((told_at copy).1 there).1;
        asked = λ copy there. ((told_at copy).1 there).2;
      }

  -- the images of disks that keep a legal history stand beside it
  pub stand : (past : Past) (images : List (List ℕ)) → Legal (setting_of table base) past → length past ≤ limit → IsOfEpoch epoch past → AreKept table base records past images → ∥ ActivesStand disk 1 table base epoch past images ∥₁
  stand past images legal few of_epoch kept =
      ∥∥₁_elim ledger_tells ∥∥₁_prop (λ l. ∥∥₁_map (each_at_once table.copies (CopyTells past images legal few of_epoch) copies_tell) (λ c. stand_so past images legal few of_epoch l c))
    where
      ledger_tells : ∥ LedgerTells past images legal few of_epoch ∥₁
      ledger_tells = ∥∥₁_map kept.ledger (λ keeps.
          ledger_image.told (setting_of table base) past epoch legal few of_epoch m.small (disk 0) table m.past (records 0) ledger_mounted (get_or images 0 []) (λ i. i ≡ get_or images 0 []) refl keeps)

      copies_tell : Each table.copies (λ copy. ∥ CopyTells past images legal few of_epoch copy ∥₁)
      copies_tell copy there = ∥∥₁_map (kept.copies copy there) (λ keeps.
          copy_image.told (setting_of table base) table (length base) copy (disk (copy + 1)) (records (copy + 1)) (tuples_of_base table (base_in copy_base (records (copy + 1)))) (granted_in table (records (copy + 1))) past (get_or images (copy + 1) [])
          m.as_many (copy_spelled copy there).tells (λ i. i ≡ get_or images (copy + 1) []) refl keeps)
