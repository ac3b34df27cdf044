-- The fold of a mounted copy into the other journal of its pair.
use Rattle.std.proofs.Common.{◌≡◌, ℕ, ◌<◌, ◌^◌, List, refl, sym, ap, ◌∙◌, subst, arith}
use Rattle.std.specs.Prelude.{All, Bool, true, false, not, if◌then◌else◌}
use Rattle.qc_codec.specs.Base.{current_copy_base}
use Rattle.qc_codec.specs.Bodies as body
use Rattle.qc_codec.specs.Fields.{current, current_format}
use Rattle.qc_codec.specs.declared.past.Past.{Past}
use Rattle.qc_config.specs.declared.tuple.Tuple.{Tuple}
use Rattle.qc_disk.specs.declared.disk.Disk.{Ghosts}
use Rattle.qc_event.specs.declared.table.Table.{Table}
use Rattle.qc_journal.specs.Journal.{disk_of, limit_of}
use Rattle.qc_journal.specs.declared.fault.Fault.{Fault}
use Rattle.qc_journal.specs.declared.fault.Fault.TheVariants as fault
use Rattle.qc_pair.specs.Fold.{active_number, copies_in, made_in, other_in, own_disk, spare_disk, swapped_in}
use Rattle.qc_pair.specs.Folding.{HasNoRoom, IsFoldNo, next_base}
use Rattle.qc_pair.specs.Front.{number_in}
use Rattle.qc_pair.specs.Opening.{mount_no}
use Rattle.qc_pair.specs.declared.fault.PairNo.{PairNo}
use Rattle.qc_pair.specs.declared.fold.Fold.{Fold}
use Rattle.qc_pair.specs.declared.kind.Kind.TheVariants as kind
use Rattle.qc_pair.proofs.Bases.{base_fits}
use Rattle.qc_site.specs.Image.{AreBytes, AreMadeFor}
use Rattle.qc_site.specs.Mounted.{records_of}
use Rattle.qc_site.specs.Renewal.{renewed_base, renewed_body, restored_in}
use Rattle.qc_site.specs.Renewing.{other_number, own_number, IsFullAt, IsNotRenewed, MayRenew}
use Rattle.qc_site.specs.Start.{start_of}
use Rattle.qc_site.specs.declared.mounted.Mounted.{Mounted}
use Rattle.qc_site.proofs.RestoredFit.{Fit, restored_fit, restored_size}

-- THE BASE

module _ (table : Table) (past : Past) (found : List (List ℕ)) where
  -- it fits, where there is a next number
  pub renewed_fits : (disk : ℕ) → (body.table current_format).fits table → AreBytes found → AreMadeFor disk table found → past.epoch < 2 ^ 32 → number_in kind.Copy found < 2 ^ 63
      → (current_copy_base table).fits (renewed_base table past found)
  renewed_fits disk proper bytes made small low =
      subst (λ (n : ℕ). (body.base (current table.copies) n).fits (renewed_base table past found)) (restored_size table past.tops found)
      (base_fits table.copies (renewed_base table past found) (omega arith) (omega (arith, low)) small (restored_fit table disk proper past.tops found bytes made))

  -- it is the next one of these tuples
  pub base_is : (copies number : ℕ) (tuples : List Tuple) → copies ≡ table.copies → number ≡ number_in kind.Copy found → tuples ≡ restored_in past.tops table found
      → next_base copies number past.epoch tuples ≡ renewed_body table past found
  base_is copies number tuples of_copies of_number are =
      ap (λ (c : ℕ). next_base c number past.epoch tuples) of_copies
      ∙ ap (λ (n : ℕ). next_base table.copies n past.epoch tuples) of_number
      ∙ ap (next_base table.copies (number_in kind.Copy found) past.epoch) are
      ∙ ap (λ (n : ℕ). (body.base (current table.copies) n).spell (renewed_base table past found)) (restored_size table past.tops found)

-- ROOM

-- there is none for bodies that are the same
pub full_same : (n k limit place : ℕ) (made m base b : List ℕ) → n ≡ k → made ≡ m → base ≡ b → HasNoRoom n limit made base place → HasNoRoom k limit m b place
full_same n k limit place made m base b of_number made_is base_is full =
    subst (λ (x : ℕ). HasNoRoom x limit m b place) of_number
    (subst (λ (x : List ℕ). HasNoRoom n limit x b place) made_is
    (subst (λ (x : List ℕ). HasNoRoom n limit made x place) base_is full))

module _ {D : Type 0} {g : Ghosts D} (table : Table) (past : Past) (mounted : Mounted D g) (fold : Fold D g) where
  module _ (may : MayRenew table past mounted fold) where
    abbrev found : List (List ℕ)
    found = records_of mounted

    -- what is folded fits, and is the next base
    pub start_fits : (body.table current_format).fits table → AreBytes found → (tuples : List Tuple) → tuples ≡ start_of mounted → All (Fit (copies_in fold)) tuples
    start_fits proper bytes tuples is =
        subst (All (Fit (copies_in fold))) (sym (is ∙ may.start))
        (subst (λ (n : ℕ). All (Fit n) (restored_in past.tops table found)) (sym may.copies_are)
        (restored_fit table (own_number table past mounted fold) proper past.tops found bytes may.granted.made))

    pub may_fit : (body.table current_format).fits table → AreBytes found → past.epoch < 2 ^ 32 → active_number fold < 2 ^ 63 → (current_copy_base table).fits (renewed_base table past found)
    may_fit proper bytes small low = renewed_fits table past found (own_number table past mounted fold) proper bytes may.granted.made small (omega (arith, low, may.number))

    pub folds_base : (tuples : List Tuple) → tuples ≡ start_of mounted → next_base (copies_in fold) (active_number fold) past.epoch tuples ≡ renewed_body table past found
    folds_base tuples is = base_is table past found (copies_in fold) (active_number fold) tuples may.copies_are may.number (is ∙ may.start)

    -- it is full where there is no room for that
    pub full_then : (tuples : List Tuple) → tuples ≡ start_of mounted → (place : ℕ) → HasNoRoom (active_number fold) (limit_of (other_in fold)) (made_in fold) (next_base (copies_in fold) (active_number fold) past.epoch tuples) place
        → IsFullAt table past mounted fold place
    full_then tuples is place = full_same (active_number fold) _ (limit_of (other_in fold)) place (made_in fold) _ _ _ may.number may.made (folds_base tuples is)

    pub full_before : (tuples : List Tuple) → tuples ≡ start_of mounted → (place : ℕ) → IsFullAt table past mounted fold place
        → HasNoRoom (active_number fold) (limit_of (other_in fold)) (made_in fold) (next_base (copies_in fold) (active_number fold) past.epoch tuples) place
    full_before tuples is place = full_same _ (active_number fold) (limit_of (other_in fold)) place _ (made_in fold) _ _ (sym may.number) (sym may.made) (sym (folds_base tuples is))

  -- a fault of the disk that was folded into is the refusal's
  pub refused_so : (disk : ℕ) (f : Fault) (said : PairNo) → said ≡ mount_no disk f → disk ≡ other_number table past mounted fold → IsFoldNo f → ((place : ℕ) → f ≡ fault.Full place → IsFullAt table past mounted fold place)
      → IsNotRenewed table past mounted fold said
  refused_so disk f said is at may full = subst (IsNotRenewed table past mounted fold) (sym is) (by f may full)
    where
      by : (f : Fault) → IsFoldNo f → ((place : ℕ) → f ≡ fault.Full place → IsFullAt table past mounted fold place) → IsNotRenewed table past mounted fold (mount_no disk f)
      by fault.Disk may full = at
      by (fault.Broken place) may full = absurd may
      by (fault.Full place) may full = (at, full place refl)
      by fault.Memory may full = tt

-- THE DISKS

module _ {D : Type 0} {g : Ghosts D} (fold after : Fold D g) where
  -- the one that was folded into is active after it
  pub folded_is : (active : D) → swapped_in after ≡ not (swapped_in fold) → (if swapped_in fold then own_disk after active else spare_disk after active) ≡ active
  folded_is active = by (swapped_in fold) (swapped_in after)
    where
      o : D
      o = disk_of (other_in after)

      by : (s t : Bool) → t ≡ not s → (if s then (if t then o else active) else (if t then active else o)) ≡ active
      by true true is = absurd cc
      by true false is = refl
      by false true is = refl
      by false false is = absurd cc

  -- or the other one's, where it was refused
  pub folded_back : (active : D) → swapped_in after ≡ swapped_in fold → (if swapped_in fold then own_disk after active else spare_disk after active) ≡ disk_of (other_in after)
  folded_back active = by (swapped_in fold) (swapped_in after)
    where
      o : D
      o = disk_of (other_in after)

      by : (s t : Bool) → t ≡ s → (if s then (if t then o else active) else (if t then active else o)) ≡ o
      by true true is = refl
      by true false is = absurd cc
      by false true is = absurd cc
      by false false is = refl
