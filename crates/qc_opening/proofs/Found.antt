-- What was found on each pair of disks of a store that was mounted.
use Rattle.std.proofs.Common.{◌≡◌, ℕ, ◌+◌, ◌≤◌, Bool, true, false, List, [], ◌∷◌, map, refl, sym, ap, ap₂, ◌∙◌, subst}
use Rattle.std.specs.Prelude.{if◌then◌else◌, not, Option, Some, IfSome, IsSome, is_some, slice_index_or}
use Rattle.qc_codec.specs.Bodies as body
use Rattle.qc_codec.specs.Ledger.{made_for}
use Rattle.qc_disk.specs.Disk.{DiskView, IsImage}
use Rattle.qc_disk.specs.declared.disk.Disk.{Ghosts}
use Rattle.qc_event.specs.declared.table.Table.{Table}
use Rattle.qc_journal.specs.Image.{HasRecords}
use Rattle.qc_journal.specs.Journal.{disk_of, limit_of, IsUp, Keeps}
use Rattle.qc_journal.specs.declared.journal.Journal.{Journal}
use Rattle.qc_ledger.specs.Mounted as book
use Rattle.qc_ledger.proofs.Writing.{kept_has}
use Rattle.qc_opening.specs.Disks.{told_by}
use Rattle.qc_opening.specs.Pairs.{made_other, of_active, of_other}
use Rattle.qc_opening.specs.Parts.{counted_by}
use Rattle.qc_opening.specs.Stored.{WasMounted}
use Rattle.qc_opening.proofs.ReadBodies.{bodies_told, told_read}
use Rattle.qc_pair.specs.Fold.{active_number, copies_in, epoch_in, made_in, other_in, own_disk, spare_disk, swapped_in}
use Rattle.qc_pair.specs.Pair.{number_at}
use Rattle.qc_pair.specs.declared.fold.Fold.{Fold}
use Rattle.qc_site.specs.Mounted as copy
use Rattle.qc_system.specs.Grown.{LeftAlike}
use Rattle.qc_system.specs.Parts.{Findings, Found, IsFound, IsOther}
use Rattle.qc_system.specs.declared.parts.CopyPair.{CopyPair}
use Rattle.qc_system.specs.declared.parts.LedgerPair.{LedgerPair}

-- a disk leaves what it leaves
alike_itself : (disk : DiskView) → LeftAlike disk disk
alike_itself disk = λ t c early. (λ left. left, λ left. left)

-- one of both is one of the same
one_same : {A : Type 0} {own spare own' spare' : A} {is_spare is_spare' : Bool} → is_spare ≡ is_spare' → own ≡ own' → spare ≡ spare' → (if is_spare then spare else own) ≡ (if is_spare' then spare' else own')
one_same {A} {own} {spare} {own'} {spare'} {is_spare} {is_spare'} which first second = ap (λ b. if b then spare else own) which ∙ ap₂ (λ (o s : A). if is_spare' then s else o) first second

module _ {D : Type 0} {g : Ghosts D} where
  -- of each pair, the ledger's first, the bodies of its records
  abbrev pub bodies_found : LedgerPair D g → List (CopyPair D g) → ℕ → List (List ℕ)
  bodies_found ledger copies pair = slice_index_or (book.records_of ledger.book ∷ map (λ p. copy.records_of p.copy) copies) pair []

  -- whether its spare is active
  abbrev pub swapped_found : LedgerPair D g → List (CopyPair D g) → ℕ → Bool
  swapped_found ledger copies pair = slice_index_or (swapped_in ledger.fold ∷ map (λ p. swapped_in p.fold) copies) pair false

  -- its active disk as it was mounted
  abbrev pub active_found : LedgerPair D g → List (CopyPair D g) → ℕ → D
  active_found ledger copies pair = slice_index_or (disk_of (book.journal_of ledger.book) ∷ map (λ p. disk_of (copy.journal_of p.copy)) copies) pair (disk_of (book.journal_of ledger.book))

  -- and the other one
  abbrev pub other_found : LedgerPair D g → List (CopyPair D g) → ℕ → D
  other_found ledger copies pair = slice_index_or (disk_of (other_in ledger.fold) ∷ map (λ p. disk_of (other_in p.fold)) copies) pair (disk_of (other_in ledger.fold))

  -- the number of the base of its active disk
  abbrev pub numbers_found : LedgerPair D g → List (CopyPair D g) → ℕ → ℕ
  numbers_found ledger copies pair = slice_index_or (active_number ledger.fold ∷ map (λ p. active_number p.fold) copies) pair 0

  -- the most bytes of a journal
  abbrev pub limit_found : LedgerPair D g → ℕ
  limit_found ledger = limit_of (book.journal_of ledger.book)

  -- the epoch of the run
  abbrev pub epoch_found : LedgerPair D g → ℕ
  epoch_found ledger = epoch_in ledger.fold

  -- what was found where this had been told, before any fold
  module _ (table : Table) (given : List (Option (List ℕ))) (ledger : LedgerPair D g) (copies : List (CopyPair D g)) where
    abbrev pub active_given : ℕ → Bool
    active_given pair = is_some (of_active table (swapped_found ledger copies) (told_by given) pair)

    abbrev pub other_given : ℕ → Bool
    other_given pair = is_some (of_other table (swapped_found ledger copies) (told_by given) pair)

    -- the bodies that the other disk of a pair shows as it was mounted
    abbrev pub bodies_shown : ℕ → List (List ℕ)
    bodies_shown pair = bodies_told (g.view (other_found ledger copies pair)).content

    abbrev pub found_on_active : ℕ → Found
    found_on_active pair = record { told = active_given pair; before = bodies_found ledger copies pair; first = g.view (active_found ledger copies pair) }

    abbrev pub found_on_other : ℕ → Found
    found_on_other pair = record { told = other_given pair; before = bodies_shown pair; first = g.view (other_found ledger copies pair) }

    abbrev pub found_of : Findings
    found_of = record {
      swapped = swapped_found ledger copies;
      active = found_on_active;
      other = found_on_other;
      number = numbers_found ledger copies;
      made = λ pair. made_other table (swapped_found ledger copies) pair;
      limit = limit_found ledger;
      epoch = epoch_found ledger;
    }

  module _ (table : Table) (told : List (Option (List ℕ))) (ledger : LedgerPair D g) (copies : List (CopyPair D g)) where
    -- what the active disk of a pair told, and the other one
    abbrev active_told : ℕ → Option (List ℕ)
    active_told pair = of_active table (swapped_found ledger copies) (told_by told) pair

    abbrev other_told : ℕ → Option (List ℕ)
    other_told pair = of_other table (swapped_found ledger copies) (told_by told) pair

    module _ (counts : List ℕ) where
      -- A pair was mounted from these disks, which tell this now, with this active journal and these records.
      pub record IsPairAt (pair : ℕ) (fold : Fold D g) (journal : Journal D g) (records : List (List ℕ)) (disks : D × D) (now : Option (List ℕ) × Option (List ℕ)) : Type 0 where
        pub own_told : told_by told pair ≡ now.0
        pub spare_told : told_by told (table.copies + 1 + pair) ≡ now.1
        pub own_counted : counted_by counts pair ≡ (g.view disks.0).faults
        pub spare_counted : counted_by counts (table.copies + 1 + pair) ≡ (g.view disks.1).faults
        pub own_later : (g.view disks.0).faults ≤ (g.view (own_disk fold (disk_of journal))).faults
        pub spare_later : (g.view disks.1).faults ≤ (g.view (spare_disk fold (disk_of journal))).faults
        pub bodies_are : bodies_found ledger copies pair ≡ records
        pub swapped_is : swapped_found ledger copies pair ≡ swapped_in fold
        pub active_is : active_found ledger copies pair ≡ disk_of journal
        pub other_is : other_found ledger copies pair ≡ disk_of (other_in fold)
        pub up : IsUp journal
        pub keeps : IsSome (if swapped_in fold then now.1 else now.0) → Keeps journal records
        pub other_up : IsUp (other_in fold)
        pub others : List (List ℕ)
        pub others_had : IfSome (if swapped_in fold then now.0 else now.1) (HasRecords others)
        pub keeps_other : IsSome (if swapped_in fold then now.0 else now.1) → Keeps (other_in fold) others
        pub number_is : numbers_found ledger copies pair ≡ active_number fold
        pub other_limit : limit_of (other_in fold) ≡ limit_found ledger
        pub made_is : made_in fold ≡ body.made.spell (made_for (number_at (not (swapped_in fold)) pair) table)
        pub epoch_is : epoch_in fold ≡ epoch_found ledger
        pub copies_are : copies_in fold ≡ table.copies

      module _ (pair : ℕ) (fold : Fold D g) (journal : Journal D g) (records : List (List ℕ)) (disks : D × D) (now : Option (List ℕ) × Option (List ℕ)) (at : IsPairAt pair fold journal records disks now) where
        -- WHAT WAS TOLD

        pub active_told_is : active_told pair ≡ (if swapped_in fold then now.1 else now.0)
        active_told_is = one_same at.swapped_is at.own_told at.spare_told

        other_told_is : other_told pair ≡ (if swapped_in fold then now.0 else now.1)
        other_told_is = one_same at.swapped_is at.spare_told at.own_told

        keeps_active : is_some (active_told pair) ≡ true → Keeps journal records
        keeps_active tells = at.keeps (sym (ap is_some active_told_is) ∙ tells)

        -- on the other disk stand the bodies that are read of what it told
        keeps_read : is_some (other_told pair) ≡ true → Keeps (other_in fold) (bodies_told (other_told pair))
        keeps_read tells =
            let tells_so = sym (ap is_some other_told_is) ∙ tells in
            let read : bodies_told (other_told pair) ≡ at.others = ap bodies_told other_told_is ∙ told_read _ at.others at.others_had tells_so in
            subst (Keeps (other_in fold)) (sym read) (at.keeps_other tells_so)

        -- so do those that it shows
        pub shown_read : ((disk : D) → IsImage (g.view disk).content (g.view disk).may_leave) → is_some (other_told pair) ≡ true → bodies_shown table told ledger copies pair ≡ bodies_told (other_told pair)
        shown_read law tells =
            let k = keeps_read tells in
            let had = kept_has (other_in fold) (bodies_told (other_told pair)) k.bytes at.other_up k (subst (λ o. IsImage o (g.view (disk_of (other_in fold))).may_leave) k.told (law (disk_of (other_in fold)))) in
            ap (λ d. bodies_told (g.view d).content) at.other_is ∙ ap bodies_told k.told ∙ told_read (Some k.bytes) (bodies_told (other_told pair)) had refl

        -- WHAT A SYSTEM ASKS

        pub active_found_so : (given : List (Option (List ℕ))) → (active_given table given ledger copies pair ≡ true → is_some (active_told pair) ≡ true) → IsFound (found_on_active table given ledger copies pair) records journal
        active_found_so given still = record {
          same = at.bodies_are;
          keeps = λ tells. keeps_active (still tells);
          count = ap (λ d. (g.view d).faults) at.active_is;
          at = ap (λ d. (g.view d).moment) at.active_is;
          left = subst (λ d. LeftAlike (g.view d) (g.view (disk_of journal))) (sym at.active_is) (alike_itself (g.view (disk_of journal)));
        }

        pub other_found_so : (given : List (Option (List ℕ))) → (other_given table given ledger copies pair ≡ true → is_some (other_told pair) ≡ true) → ((disk : D) → IsImage (g.view disk).content (g.view disk).may_leave) → (many : ℕ) → many ≡ table.copies
            → IsOther many (found_of table given ledger copies) pair fold
        other_found_so given still law many same = record {
          swapped = sym at.swapped_is;
          up = at.other_up;
          disk = record {
            same = refl;
            keeps = λ tells. subst (Keeps (other_in fold)) (sym (shown_read law (still tells))) (keeps_read (still tells));
            count = ap (λ d. (g.view d).faults) at.other_is;
            at = ap (λ d. (g.view d).moment) at.other_is;
            left = subst (λ d. LeftAlike (g.view d) (g.view (disk_of (other_in fold)))) (sym at.other_is) (alike_itself (g.view (disk_of (other_in fold))));
          };
          limit = at.other_limit;
          number = sym at.number_is;
          made = at.made_is ∙ ap (λ b. body.made.spell (made_for (number_at (not b) pair) table)) (sym at.swapped_is);
          epoch = at.epoch_is;
          many = at.copies_are ∙ sym same;
        }

        -- THE DISKS AS THEY WERE MOUNTED

        pub active_was_so : WasMounted g.view (active_found ledger copies pair) (bodies_found ledger copies pair) (active_told pair)
        active_was_so = record {
          tells = λ tells. subst (λ d. IsSome (g.view d).content) (sym at.active_is) (ap is_some (keeps_active tells).told);
          had = λ tells image left. subst (λ bodies. HasRecords bodies image) (sym at.bodies_are) (kept_has journal records image at.up (keeps_active tells) (subst (λ d. (g.view d).may_leave image) at.active_is left));
        }

        pub other_was_so : WasMounted g.view (other_found ledger copies pair) (bodies_told (other_told pair)) (other_told pair)
        other_was_so = record {
          tells = λ tells. subst (λ d. IsSome (g.view d).content) (sym at.other_is) (ap is_some (keeps_read tells).told);
          had = λ tells image left. kept_has (other_in fold) (bodies_told (other_told pair)) image at.other_up (keeps_read tells) (subst (λ d. (g.view d).may_leave image) at.other_is left);
        }

        -- no disk's count fell while it was mounted
        pub active_later_so : of_active table (swapped_found ledger copies) (counted_by counts) pair ≤ (g.view (active_found ledger copies pair)).faults
        active_later_so =
            subst (λ d. of_active table (swapped_found ledger copies) (counted_by counts) pair ≤ (g.view d).faults) (sym at.active_is)
            (subst (λ n. n ≤ (g.view (disk_of journal)).faults) (sym (one_same at.swapped_is at.own_counted at.spare_counted)) (one_later (swapped_in fold) at.own_later at.spare_later))
          where
            one_later : (b : Bool) → (g.view disks.0).faults ≤ (g.view (if b then disk_of (other_in fold) else disk_of journal)).faults → (g.view disks.1).faults ≤ (g.view (if b then disk_of journal else disk_of (other_in fold))).faults
                → (if b then (g.view disks.1).faults else (g.view disks.0).faults) ≤ (g.view (disk_of journal)).faults
            one_later true own spare = spare
            one_later false own spare = own

        pub other_later_so : of_other table (swapped_found ledger copies) (counted_by counts) pair ≤ (g.view (other_found ledger copies pair)).faults
        other_later_so =
            subst (λ d. of_other table (swapped_found ledger copies) (counted_by counts) pair ≤ (g.view d).faults) (sym at.other_is)
            (subst (λ n. n ≤ (g.view (disk_of (other_in fold))).faults) (sym (one_same at.swapped_is at.spare_counted at.own_counted)) (one_later (swapped_in fold) at.own_later at.spare_later))
          where
            one_later : (b : Bool) → (g.view disks.0).faults ≤ (g.view (if b then disk_of (other_in fold) else disk_of journal)).faults → (g.view disks.1).faults ≤ (g.view (if b then disk_of journal else disk_of (other_in fold))).faults
                → (if b then (g.view disks.0).faults else (g.view disks.1).faults) ≤ (g.view (disk_of (other_in fold))).faults
            one_later true own spare = own
            one_later false own spare = spare
