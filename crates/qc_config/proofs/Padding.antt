-- Votes with zeros behind them, as a configuration keeps them.
use Rattle.std.proofs.Common.{◌≡◌, ℕ, ◌-◌, ◌<◌, ◌≤◌, List, ◌++◌, length, take, drop, refl, ◌∙◌, arith}
use Rattle.std.specs.Prelude.{None, replicate}
use Rattle.std.proofs.lemmas.List.{take_at, drop_at, drop-replicate, length-append, length-drop}
use Rattle.qc_config.specs.Config.{fault}

-- votes and thresholds without a fault are kept as a configuration is
pub kept_faultless : (votes kept : List ℕ) (read write : ℕ) → kept ≡ votes → length votes ≤ 16 → fault votes read write ≡ None
    → (length votes ≤ 16)
    × (length (kept ++ drop (length votes) (replicate 16 0)) ≡ 16)
    × (drop (length votes) (kept ++ drop (length votes) (replicate 16 0)) ≡ replicate (16 - length votes) 0)
    × (0 < length (take (length votes) (kept ++ drop (length votes) (replicate 16 0))) → fault (take (length votes) (kept ++ drop (length votes) (replicate 16 0))) read write ≡ None)
kept_faultless votes kept read write same short none =
    rw same (
      short,
      omega (arith, length-append votes (drop (length votes) (replicate 16 0)), length-drop {A = ℕ} (length votes) (replicate 16 0)),
      drop_at votes (drop (length votes) (replicate 16 0)) (length votes) refl ∙ drop-replicate {X = ℕ} (length votes) 16 0,
      λ some. rw (take_at votes (drop (length votes) (replicate 16 0)) (length votes) refl) none,
    )
