-- Where the logged top of each number stands.
use Rattle.std.specs.Prelude.{ℕ, ◌≡◌, ◌<◌, List, [], ◌∷◌, length, All, Some, slice_index_or}
use Rattle.std.specs.BTreeMap.{BTreeMap, get}
use Rattle.std.specs.Ordering.{nat_cmp}
use Rattle.qc_codec.specs.declared.past.Logged.{Logged}

-- Each logged top is one number, and they differ. The places are those of their numbers.
pub record ArePlaces (places : BTreeMap ℕ ℕ) (tops : List Logged) : Type 0 where
  pub single : All (λ (l : Logged). length l.top ≡ 1) tops
  pub within : (n p : ℕ) → get nat_cmp places n ≡ Some p → p < length tops
  pub here : (n p : ℕ) (d : Logged) → get nat_cmp places n ≡ Some p → (slice_index_or tops p d).top ≡ n ∷ []
  pub each : (n p : ℕ) (d : Logged) → p < length tops → (slice_index_or tops p d).top ≡ n ∷ [] → get nat_cmp places n ≡ Some p
