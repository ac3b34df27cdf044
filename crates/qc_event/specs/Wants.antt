-- What want of memory or of room says of a history.
use Rattle.std.specs.Prelude.{◌≡◌, length}
use Rattle.qc_event.specs.declared.short.Short.{Short}
use Rattle.qc_event.specs.declared.short.Short.TheVariants as short
use Rattle.qc_event.specs.History.{Past, limit}

-- memory was wanting, or the history takes no more entries
abbrev pub IsWant : Past → Short → Type 0
IsWant past short.Memory = Unit {0}
IsWant past short.Room = length past ≡ limit

-- the same at one step: memory was wanting only while the history took more
abbrev pub IsExactWant : Past → Short → Type 0
IsExactWant past short.Memory = length past ≡ limit → ⊥
IsExactWant past short.Room = length past ≡ limit
