-- What the grants so far leave.
use Rattle.std.proofs.Common.{◌≡◌, length, take}
use Rattle.qc_event.specs.History.{grants}
use Rattle.qc_desk.specs.Held.{changed_row, from_row, is_alive}
use Rattle.qc_desk.proofs.locked.Locked.held.Given as goal

abbrev pub invariant-loop-index : goal.invariant-loop-index
invariant-loop-index g l = l.row.items ≡ changed_row (is_alive l.self) (length l.start) (from_row l.start) (take l.index (grants l.self l.copy))
