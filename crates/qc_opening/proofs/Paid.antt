-- What the active disks have counted pays for the failures that a history tells of them.
use Rattle.std.proofs.Common.{◌≡◌, ℕ, zero, suc, ◌+◌, ◌≤◌, List, length, subst, arith}
use Rattle.std.specs.Prelude.{Some, slice_get}
use Rattle.qc_disk.specs.Disk.{DiskView}
use Rattle.qc_event.specs.Base.{Setting}
use Rattle.qc_event.specs.History.{Past}
use Rattle.qc_event.specs.Seats.{copy_seat, ledger_seat}
use Rattle.qc_event.specs.declared.table.Table.{Table}
use Rattle.qc_desk.specs.Entries.{entries_of}
use Rattle.qc_opening.specs.Stored.{active_place}
use Rattle.qc_opening.proofs.KeptPlaces.{active_keeps}
use Rattle.qc_system.specs.Closing.{AllKeep, CopyKeeps, LedgerKeeps}
use Rattle.qc_system.specs.Kept.{Pays, downs}
use Rattle.qc_system.specs.Parts.{Findings}

-- since it had counted no more, by the seat of its pair
from_fewer : (fewer first seat place : ℕ) (past : Past) (now : ℕ) → seat ≡ place → fewer ≤ first → Pays first (downs (entries_of seat past)) now → Pays fewer (downs (entries_of place past)) now
from_fewer fewer first seat place past now by few pays =
    let same : Pays first (downs (entries_of place past)) now = subst (λ n. Pays first (downs (entries_of n past)) now) by pays in
    omega (arith, few, same)

module _ {D : Type 0} (view : D → DiskView) (setting : Setting) (found : Findings) (table : Table) (Done : Type 0) (disks : List D) (past : Past) (all : AllKeep setting found view Done disks past) (many : length setting.base ≡ table.copies)
    (counts : ℕ → ℕ) (later : (pair : ℕ) → pair ≤ table.copies → counts pair ≤ (found.active pair).first.faults) where
  pub active_paid : (pair : ℕ) (disk : D) → pair ≤ table.copies → slice_get disks (active_place table found.swapped pair) ≡ Some disk → Pays (counts pair) (downs (entries_of (pair + 1) past)) (view disk).faults
  active_paid zero disk low is =
      from_fewer (counts 0) (found.active 0).first.faults ledger_seat (0 + 1) past (view disk).faults (omega arith) (later 0 low)
      (active_keeps view setting found table Done disks past all many 0 (LedgerKeeps setting found) all.ledger disk is).paid
  active_paid (suc copy) disk low is =
      let next : copy + 1 ≡ suc copy = omega arith in
      subst (λ n. slice_get disks (active_place table found.swapped n) ≡ Some disk → Pays (counts n) (downs (entries_of (n + 1) past)) (view disk).faults) next
      (λ there. from_fewer (counts (copy + 1)) (found.active (copy + 1)).first.faults (copy_seat copy) (copy + 1 + 1) past (view disk).faults (omega arith) (later (copy + 1) (omega (arith, low)))
      (active_keeps view setting found table Done disks past all many (copy + 1) (CopyKeeps setting found copy) (all.copies copy (omega (arith, low, many))) disk there).paid) is
