-- Which entries something that stands for histories may take in.
use Rattle.std.specs.Prelude.{◌<◌, ◌∷◌, length}
use Rattle.qc_event.specs.Base.{Setting}
use Rattle.qc_event.specs.declared.event.Entry.{Entry}
use Rattle.qc_event.specs.History.{Past, limit}
use Rattle.qc_event.specs.Legal.{Legal}

-- it stands for a history that has room, and that the entry may follow
abbrev pub CanFollow : (Past → Type 0) → Entry → Type 0
CanFollow is_of e = (setting : Setting) × (past : Past) × is_of past × Legal setting (e ∷ past) × (length past < limit)
