-- How far a run has come.

-- A run came to its end, or want of memory or room cut it off.
pub data Reach : Type 0 where
  to_the_end : Reach
  cut_off : Reach

-- it is so where the run came to its end
abbrev pub AtTheEnd : Reach → Type 0 → Type 0
AtTheEnd Reach.to_the_end fact = fact
AtTheEnd Reach.cut_off fact = Unit {0}
