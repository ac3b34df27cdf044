-- What holds after each write, and that fewer bytes are still to go.
use Rattle.std.proofs.Common.{◌≡◌, ◌≤◌, ◌-◌, [], length, take}
use Rattle.qc_io.specs.Io.{Appends}
use Rattle.qc_io.proofs.whole.write_all.Given as goal

-- the bytes so far were taken
abbrev pub invariant-loop-done : goal.invariant-loop-done
invariant-loop-done g l = record {
  within : l.done ≤ length l.bytes;
  taken : Appends (g.K.Sink.view l.fn.sink).taken (g.K.Sink.view l.sink).taken (take l.done l.bytes);
  later : (g.K.Sink.view l.fn.sink).faults ≤ (g.K.Sink.view l.sink).faults;
  none : l.bytes ≡ [] → l.sink ≡ l.fn.sink;
}

abbrev pub decreases-loop-done : goal.decreases-loop-done
decreases-loop-done g l = length l.bytes - l.done
