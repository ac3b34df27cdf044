-- Boards and their seats, as contracts see them.
use Rattle.std.specs.Prelude.{ℕ, List, []}
use Rattle.atomic_table.specs.Seated.{TableId}

-- a mark: the session, and up to which top it is marked
abbrev pub Mark : Type 0
Mark = ℕ × ℕ

-- which board it is, and how many sessions it has
pub record Shown : Type 0 where
  pub board : TableId
  pub sessions : ℕ

-- of which board a seat is, which sessions may be marked there, and the marks that it knows
pub record Seated : Type 0 where
  pub board : TableId
  pub may : ℕ
  pub marks : List Mark

-- the name of no board
abbrev pub no_board : TableId
no_board = record { words = 0; slots = 0; views_name = 0; atom = 0; block = 0; offset = 0; slot_names = [] }
