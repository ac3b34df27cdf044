-- What is known between two calls: of a pass, and of the history of its desk.
use Rattle.std.specs.Prelude.{◌≡◌, ◌≤◌, true, length}
use Rattle.qc_event.specs.Base.{Setting}
use Rattle.qc_event.specs.History.{Past, limit}
use Rattle.qc_event.specs.Legal.{Legal}
use Rattle.qc_desk.specs.declared.view.View.{View}
use Rattle.qc_desk.specs.Entries.{AreCounted, entries_of}
use Rattle.qc_desk.specs.Rules.{AreApart, AreKin}

-- What a pass knows: what it has seen is legal, its own entries are those seen under its number, and so are those of each
-- that was joined into it. All these numbers are different.
pub record IsKnown (setting : Setting) (v : View) : Type 0 where
  pub legal : Legal setting v.seen
  pub mine : v.live ≡ true → v.mine ≡ entries_of v.number v.seen
  pub kin : AreKin v.kin v.seen
  pub apart : AreApart v

-- two passes know this
abbrev pub AreKnown : Setting → View → View → Type 0
AreKnown setting v w = IsKnown setting v × IsKnown setting w

-- The history of a desk is legal, its tops are counted, and it has no more entries than it takes.
pub record IsDeskHistory (setting : Setting) (past : Past) : Type 0 where
  pub legal : Legal setting past
  pub counted : AreCounted past
  pub bounded : length past ≤ limit
