-- The disks of the copies that are left and those that wait are the same.
use Rattle.std.proofs.Common.{ℕ, ◌≡◌, ◌++◌, map, vec_len}
use Rattle.qc_opening.specs.Mounted.{copy_disks}
use Rattle.qc_opening.specs.Waiting.{waiting_in, HasRoom}
use Rattle.qc_opening.proofs.copies.put_back_all.Given as goal

abbrev pub invariant-loop-copy : goal.invariant-loop-copy
invariant-loop-copy g l = record {
  pairs : map copy_disks l.copies.items ++ waiting_in l.waiting ≡ map copy_disks l.initial.copies.items ++ waiting_in l.initial.waiting;
  room : (pairs : ℕ) → HasRoom pairs l.initial.waiting → HasRoom pairs l.waiting;
}

abbrev pub decreases-loop-copy : goal.decreases-loop-copy
decreases-loop-copy g l = vec_len l.copies
