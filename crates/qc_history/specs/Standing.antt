-- What stands for histories: it may be known of which, and is asked of the legal ones among them.
use Rattle.std.specs.Prelude.{◌∷◌}
use Rattle.qc_event.specs.declared.event.Entry.{Entry}
use Rattle.qc_event.specs.Base.{Setting}
use Rattle.qc_event.specs.History.{Past}
use Rattle.qc_event.specs.Legal.{Legal}

-- a fact holds of each legal history for which it stands
abbrev pub OfEach : (Past → Type 0) → (Past → Type 0) → Type 0
OfEach is_of fact = (setting : Setting) (past : Past) → is_of past → Legal setting past → fact past

-- what stood for a history stands for it with one entry more, where that is legal
abbrev pub Grows : (Past → Type 0) → (Past → Type 0) → Entry → Type 0
Grows old new e = (setting : Setting) (past : Past) → old past → Legal setting (e ∷ past) → new (e ∷ past)
