-- Lists that go on.
use Rattle.std.specs.Prelude.{ℕ, List, ◌++◌, Option}
use Rattle.std.specs.Option.{option_map}

-- these with those that were taken behind them
abbrev pub continued : {A : Type 0} → List A → Option (List A × List ℕ) → Option (List A × List ℕ)
continued {A} first taken = option_map (λ (x : List A × List ℕ). (first ++ x.0, x.1)) taken
