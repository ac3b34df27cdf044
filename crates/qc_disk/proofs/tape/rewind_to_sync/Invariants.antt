-- What is left is exact, begins with the same bytes, and was synced last where all was.
use Rattle.std.proofs.Common.{◌≡◌, ℕ, List, length}
use Rattle.qc_disk.specs.Replay.{last_synced}
use Rattle.qc_disk.specs.Kept.{first_of, acts_of, past_kept, IsExact}
use Rattle.qc_disk.specs.declared.records.Past.{Past}
use Rattle.qc_disk.proofs.tape.rewind_to_sync.Given as goal

-- what all calls began with
abbrev first_bytes : Past → List ℕ → List ℕ
first_bytes past now = first_of (past_kept past) now

abbrev pub invariant-loop-left : goal.invariant-loop-left
invariant-loop-left l = record {
  exact : IsExact (past_kept l.left) l.bytes.items;
  first : first_of (past_kept l.left) l.bytes.items ≡ first_bytes l.past l.fn.bytes.items;
  synced : last_synced (first_bytes l.past l.fn.bytes.items) (first_bytes l.past l.fn.bytes.items) (acts_of (past_kept l.left) l.bytes.items)
      ≡ last_synced (first_bytes l.past l.fn.bytes.items) (first_bytes l.past l.fn.bytes.items) (acts_of (past_kept l.past) l.fn.bytes.items);
}

abbrev pub decreases-loop-left : goal.decreases-loop-left
decreases-loop-left l = length l.left.calls.now
