-- Which words a seat of a board reaches.
use Rattle.std.proofs.Common.{◌≡◌, ℕ, ◌<◌, ◌≤◌, sym, ap, ◌∙◌, arith}
use Rattle.atomic_table.specs.Seated.{TableId}
use Rattle.qc_board.specs.Boards.{Shown, Seated}

-- a seat is at the table of the board that it is told to be of
pub same_table : (table seat : TableId) (sessions : ℕ) (shown : Shown) (s seated : Seated) → record { board = table; sessions = sessions } ≡ shown → s ≡ seated → s.board ≡ seat → seated.board ≡ shown.board → seat ≡ table
same_table table seat sessions shown s seated shows is at of = sym at ∙ ap (λ (x : Seated). x.board) is ∙ of ∙ sym (ap (λ (b : Shown). b.board) shows)

-- a session of the board has a word
pub is_low : (sessions session word : ℕ) (shown : Shown) (table : TableId) → record { board = table; sessions = sessions } ≡ shown → sessions ≤ 16 → word ≡ session → session < shown.sessions → word < 16
is_low sessions session word shown table shows few same below = let e : sessions ≡ shown.sessions = ap (λ (b : Shown). b.sessions) shows in omega (arith, e, few, same, below)
