-- What was read so far, and that less is left.
use Rattle.std.proofs.Common.{◌≡◌, ◌<◌, ◌-◌, ◌++◌, length, drop}
use Rattle.std.specs.List.{All}
use Rattle.qc_journal.specs.Image.{row, IsShort, bodies_of}
use Rattle.qc_journal.proofs.image.scan.Given as goal

abbrev pub invariant-loop-place : goal.invariant-loop-place
invariant-loop-place l = record {
  split : l.bytes ≡ row (bodies_of l.bodies.items) ++ drop l.place l.bytes;
  size : l.place ≡ length (row (bodies_of l.bodies.items));
  short : All IsShort (bodies_of l.bodies.items);
  within : l.place < length l.bytes;
}

abbrev pub decreases-loop-place : goal.decreases-loop-place
decreases-loop-place l = length l.bytes - l.place
