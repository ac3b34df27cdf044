-- Counts that stop at the end of their range.
use Rattle.std.specs.Prelude.{ℕ, ◌≤◌, ◌+◌, ◌-◌, ◌^◌, min}

-- one more, up to the end of a count's range
abbrev pub next : ℕ → ℕ
next n = min (n + 1) (2 ^ 64 - 1)

-- the count rose; one that stands at the end of its range counts as risen
abbrev pub Rose : ℕ → ℕ → Type 0
Rose before now = next before ≤ now
