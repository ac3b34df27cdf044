-- When pairs of disks were folded: what a copy then begins with is what it held.
use Rattle.std.specs.Prelude.{ℕ, ◌≡◌, ◌<◌, ◌⊎◌, List, [], length, map, slice_index_or}
use Rattle.std.specs.List.{range_with_len}
use Rattle.qc_config.specs.declared.tuple.Tuple.{Tuple}
use Rattle.qc_event.specs.Base.{Setting}
use Rattle.qc_event.specs.History.{Past}
use Rattle.qc_event.specs.Seen.{seen}
use Rattle.qc_event.specs.Standing.{HasEnded}
use Rattle.qc_refine.specs.Restored.{Kept, granted_at}

-- what a copy holds at the end of a history, by record
abbrev pub seen_row : Setting → Past → ℕ → List Tuple
seen_row setting past copy = map (seen setting.base past copy) (range_with_len 0 (length setting.firsts))

-- the tuples with which a copy's journal begins
abbrev pub begins : List (List Tuple) → ℕ → List Tuple
begins first copy = slice_index_or first copy []

module _ (setting : Setting) (past : Past) (first first' : List (List Tuple)) (now now' : Kept) where
  -- a copy's pair is as it was
  pub record IsOpenPair (copy : ℕ) : Type 0 where
    pub same_begin : begins first' copy ≡ begins first copy
    pub same_grants : granted_at now' copy ≡ granted_at now copy

  -- or it was folded once each top had its end: it begins with what the copy holds, and has granted nothing since
  pub record IsFoldedPair (copy : ℕ) : Type 0 where
    pub ended : HasEnded past
    pub held : begins first' copy ≡ seen_row setting past copy
    pub no_grants : granted_at now' copy ≡ []

  -- the ledger's pair is as it was, or it tells no top and each copy's pair was folded
  abbrev pub IsLedgerPair : Type 0
  IsLedgerPair = (now'.tops ≡ now.tops) ⊎ ((copy : ℕ) → copy < length first → IsFoldedPair copy)

  -- Pairs are as they were or were folded, the ledger's only where all copies' were.
  pub record AreFoldedPairs : Type 0 where
    pub many : length first' ≡ length first
    pub copies : (copy : ℕ) → copy < length first → IsOpenPair copy ⊎ IsFoldedPair copy
    pub ledger : IsLedgerPair
