-- When an index may stand beside the entries of a history.
use Rattle.std.specs.Prelude.{List, reverse, Option, None, Some}
use Rattle.qc_event.specs.declared.event.Entry.{Entry}
use Rattle.qc_event.specs.Base.{Setting}
use Rattle.qc_event.specs.Legal.{Legal}
use Rattle.qc_history.specs.Index.{Shape, IsOf}

-- the entries, the oldest first, are a legal history from some start
abbrev pub IsLegal : List Entry → Type 0
IsLegal entries = (setting : Setting) × Legal setting (reverse entries)

-- the index, where there is one, is that of the entries, and they are a legal history
abbrev pub IsIndexed : List Entry → Option Shape → Type 0
IsIndexed entries None = Unit {0}
IsIndexed entries (Some index) = IsLegal entries × IsOf index (reverse entries)
