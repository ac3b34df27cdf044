-- What the traits say of no desk.
use Rattle.std.specs.Prelude.{[]}
use Rattle.atomic_table.specs.Seated.{TableId}
use Rattle.qc_event.specs.declared.table.Table.{Table}

-- the name of no desk
abbrev pub no_desk : TableId
no_desk = record { words = 0; slots = 0; views_name = 0; atom = 0; block = 0; offset = 0; slot_names = [] }

-- the table of no records
abbrev pub no_table : Table
no_table = record { copies = 0; records = [] }
