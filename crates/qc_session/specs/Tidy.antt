-- What a client keeps of its own entries.
use Rattle.std.specs.Prelude.{ℕ, ◌≡◌, true, List, None, is_some}
use Rattle.std.specs.List.{AllByRecursion}
use Rattle.qc_event.specs.History.{Past, Name, end}
use Rattle.qc_event.specs.Standing.{open_child}
use Rattle.qc_desk.specs.Own.{IsMine}

-- Each manager that was started under a seat and has ended has no open access.
pub record IsTidy (seat : ℕ) (past : Past) : Type 0 where
  pub closed : (m : Name) → IsMine past seat m → is_some (end past m) ≡ true → open_child past m ≡ None

-- so it is under each of these
abbrev pub AreTidy : List ℕ → Past → Type 0
AreTidy seats past = AllByRecursion (λ seat. IsTidy seat past) seats
