-- The first pairs are mounted, as many as the next copy's number, and the others wait.
use Rattle.std.proofs.Common.{ℕ, ◌≡◌, length}
use Rattle.std.specs.Vec.{vec_capacity}
use Rattle.qc_opening.specs.Mounted.{AreTaken}
use Rattle.qc_opening.specs.Waiting.{waiting_in, HasRoom}
use Rattle.qc_opening.proofs.copies.mount_copies.Given as goal

abbrev pub invariant-loop-copy : goal.invariant-loop-copy
invariant-loop-copy g l = record {
  so_far : AreTaken l.table l.past l.epoch l.limit (waiting_in l.initial.waiting) (waiting_in l.waiting) l.copies.items;
  count : length l.copies.items ≡ l.copy;
  capacity : vec_capacity l.copies ≡ l.table.copies;
  room : (pairs : ℕ) → HasRoom pairs l.initial.waiting → HasRoom pairs l.waiting;
}
