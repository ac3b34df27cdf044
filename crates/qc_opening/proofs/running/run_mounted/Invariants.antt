-- The name is what was found on the disks.
use Rattle.std.specs.Prelude.{map}
use Rattle.qc_opening.proofs.Found.{found_of}
use Rattle.qc_opening.proofs.running.run_mounted.Given as goal

abbrev pub ghosts-run_named-N-Store : goal.ghosts-run_named-N-Store
ghosts-run_named-N-Store g a = record { desk = a.parts.blank.room.shared.table_id; table = a.script.now.table; base = a.parts.blank.base }

abbrev pub ghosts-run_named-N-Mounting : goal.ghosts-run_named-N-Mounting
ghosts-run_named-N-Mounting g a = record { found = found_of a.script.now.table (map (λ disk. (g.D.Disk.view disk).content) g.given) a.parts.ledger a.parts.copies.items }
