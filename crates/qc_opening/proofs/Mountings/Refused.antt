-- What comes back where a store is not mounted.
use Rattle.std.proofs.Common.{◌≡◌, ℕ, ◌<◌, ◌≤◌, List, length, map, sym, refl, arith, ◌∙◌}
use Rattle.std.specs.Prelude.{◌↔◌, Option}
use Rattle.qc_codec.specs.declared.image.BadImage.{BadImage}
use Rattle.qc_disk.specs.Disk.{DiskView}
use Rattle.qc_event.specs.declared.table.Table.{Table}
use Rattle.qc_opening.specs.Disks.{all_places, by_place, number_of, told_by, AreCounted, AreOffered, IsLeft}
use Rattle.qc_opening.specs.Images.{IsFirstFault}
use Rattle.qc_opening.specs.Obtained.{IsNotGiven}
use Rattle.qc_opening.specs.Refusing.{disks_in, reason_in, AreLeft, ComeBack, FailedAt, IsBehind, IsFaultOf, IsNotMounted, IsReasonAmong, TellImages}
use Rattle.qc_opening.specs.declared.mount_no.MountNo.{MountNo}
use Rattle.qc_opening.specs.declared.mount_no.MountNo.TheVariants as no
use Rattle.qc_opening.proofs.Mountings.Disks.{unreached}
use Rattle.qc_opening.proofs.Mountings.Numbered.{pairs_length}
use Rattle.qc_opening.proofs.Mountings.Places.{apart}
use Rattle.qc_opening.proofs.Mountings.Reasons.{among_also}
use Rattle.qc_pair.specs.declared.fault.PairNo.{PairNo}

module _ {D : Type 0} (view : D → DiskView) where
  -- as many disks are left
  pub left_length : (table : Table) (reason : PairNo) (disks new : List D) → AreLeft view table reason disks new → length new ≡ length disks
  left_length table reason disks new left = pairs_length (IsLeft view table (told_by (map (λ disk. (view disk).content) disks)) (FailedAt reason) (IsBehind reason)) 0 disks new left

  -- nothing was mounted
  pub given_back : (here : (disk : D) (c : List ℕ) → (view disk).left_at (view disk).moment c ↔ (view disk).may_leave c) (offers : ℕ → Option (List ℕ)) (counts : ℕ → ℕ) (table : Table) (refused : MountNo D) (before now : ℕ) → table.copies ≤ 16
      → AreOffered view (by_place table.copies offers) 0 (disks_in refused) → AreCounted view (by_place table.copies counts) 0 (disks_in refused) → IsNotGiven table.copies before now refused → ComeBack view offers counts table refused
  given_back here offers counts table refused before now few offered counted not = record {
    given = disks_in refused;
    offered = offered;
    counted = counted;
    left = unreached view here table (reason_in refused) (disks_in refused) (none refused not);
    not_all = λ fewer. refl;
  }
    where
      none : (r : MountNo D) → IsNotGiven table.copies before now r → (n : ℕ) → n < length (disks_in r) → FailedAt (reason_in r) (number_of table.copies n) → ⊥
      none (no.Disk which disks) not n low failed = apart table.copies n (length disks.items) few low (sym (failed ∙ not.0))
      none (no.Image fault disks) not n low failed = failed
      none (no.Memory disks) not n low failed = failed

  -- a disk of all was refused
  pub come_back : (offers : ℕ → Option (List ℕ)) (counts : ℕ → ℕ) (table : Table) (refused : MountNo D) (disks : List D) → AreOffered view (by_place table.copies offers) 0 disks → AreCounted view (by_place table.copies counts) 0 disks
      → length disks ≡ all_places table.copies → AreLeft view table (reason_in refused) disks (disks_in refused) → ComeBack view offers counts table refused
  come_back offers counts table refused disks offered counted size left = record {
    given = disks;
    offered = offered;
    counted = counted;
    left = left;
    not_all = λ fewer. absurd (omega (arith, fewer, size));
  }

  pub not_mounted : (table : Table) (refused : MountNo D) (P : BadImage → Type 0) (disks : List D) → length disks ≡ all_places table.copies → AreLeft view table (reason_in refused) disks (disks_in refused)
      → IsReasonAmong 0 table.copies P (reason_in refused) → IsNotMounted table.copies refused
  not_mounted table refused P disks size left among = record {
    all = left_length table (reason_in refused) disks (disks_in refused) left ∙ size;
    reason = among_also 0 table.copies P (λ bad. Unit {0}) (reason_in refused) (λ bad has. tt) among;
  }

  pub fault_of : (table : Table) (limit : ℕ) (images : List (List ℕ)) (refused : MountNo D) (most : ℕ) (disks : List D) → TellImages view disks images
      → IsReasonAmong 0 most (λ bad. (images : List (List ℕ)) → TellImages view disks images → IsFirstFault table limit bad images) (reason_in refused) → IsFaultOf table limit images refused
  fault_of table limit images (no.Disk which disks') most disks told among = tt
  fault_of table limit images (no.Image fault disks') most disks told among = among.1 images told
  fault_of table limit images (no.Memory disks') most disks told among = tt
