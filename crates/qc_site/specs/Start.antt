-- The tuples with which a copy starts.
use Rattle.std.specs.Prelude.{List}
use Rattle.qc_config.specs.declared.tuple.Tuple.{Tuple}
use Rattle.qc_disk.specs.declared.disk.Disk.{Ghosts}
use Rattle.qc_site.specs.declared.mounted.Mounted.{Mounted}

-- the tuples with which a mounted copy starts
abbrev pub start_of : {D : Type 0} {g : Ghosts D} → Mounted D g → List Tuple
start_of site = site.start
