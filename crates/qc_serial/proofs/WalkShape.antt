-- In every orderly history the walk of a name keeps to the machine's stack.
use Rattle.std.proofs.Common.{[], ◌∷◌}
use Rattle.qc_serial.specs.Machine.{State}
use Rattle.qc_event.specs.History.{Past, Name}
use Rattle.qc_event.proofs.Orderly.{Orderly}
use Rattle.qc_event.proofs.Lawful.{lawful}
use Rattle.qc_serial.specs.Walk.{walk}
use Rattle.qc_serial.proofs.Kept.{Clean, Walked, kept_at_first}
use Rattle.qc_serial.proofs.NextEntry.{next_entry}

pub walk_shaped : (past : Past) → Orderly past → (n : Name) (m : State) → Clean n m → Walked past n m (walk past n)
walk_shaped [] orderly n m clean = (tt, kept_at_first n m clean)
walk_shaped (e ∷ past) orderly n m clean =
    next_entry past e.seat e.event n m (lawful past orderly.0) (lawful (e ∷ past) orderly) orderly.1 clean.on_top
    (walk_shaped past orderly.0 n m clean) (walk_shaped past orderly.0)
