-- Weighted voting: who has how many votes, and how many a reader and a writer need.
use Rattle.std.specs.Prelude.{ℕ, ◌≡◌, ◌+◌, ◌<◌, ◌≤◌, Bool, if◌then◌else◌, ◌==◌, ◌||◌, nat_lt, nat_le, List, [], ◌∷◌, length, sum, slice_index_or, Option, None, Some}
use Rattle.qc_config.specs.declared.config.BadConfig.{BadConfig}
use Rattle.qc_config.specs.declared.config.BadConfig.TheVariants.{Empty, Votes, Read, Write, NoOverlap}

-- Who has how many votes, one number a copy, and how many votes a reader and a writer need.
pub record Voting : Type 0 where
  pub votes : List ℕ
  pub read : ℕ
  pub write : ℕ

abbrev pub no_config : Voting
no_config = record { votes = []; read = 0; write = 0 }

-- the votes of a copy; none past the list
abbrev pub votes_of : Voting → ℕ → ℕ
votes_of config c = slice_index_or config.votes c 0

-- what a set of copies has in votes
abbrev pub weight : List ℕ → List Bool → ℕ
weight [] copies = 0
weight (v ∷ votes) [] = 0
weight (v ∷ votes) (here ∷ copies) = (if here then v else 0) + weight votes copies

abbrev pub holds_read : Voting → List Bool → Bool
holds_read config copies = nat_le config.read (weight config.votes copies)

abbrev pub holds_write : Voting → List Bool → Bool
holds_write config copies = nat_le config.write (weight config.votes copies)

-- A configuration is legal where its thresholds can be reached and pass the total together: then each
-- read quorum shares a copy with each write quorum (Gifford).
pub record IsLegal (config : Voting) : Type 0 where
  pub some_votes : 0 < sum config.votes
  pub some_read : 0 < config.read
  pub read_possible : config.read ≤ sum config.votes
  pub some_write : 0 < config.write
  pub write_possible : config.write ≤ sum config.votes
  pub overlap : sum config.votes < config.read + config.write

-- the first fault of a configuration
abbrev pub fault : List ℕ → ℕ → ℕ → Option BadConfig
fault votes read write =
    if length votes == 0 then Some Empty else
    if sum votes == 0 then Some Votes else
    if (read == 0) || nat_lt (sum votes) read then Some Read else
    if (write == 0) || nat_lt (sum votes) write then Some Write else
    if nat_le (read + write) (sum votes) then Some NoOverlap else
    None

-- a configuration of no votes at all, or one without a fault
abbrev pub IsEmptyOrFaultless : Voting → Type 0
IsEmptyOrFaultless c = 0 < length c.votes → fault c.votes c.read c.write ≡ None
