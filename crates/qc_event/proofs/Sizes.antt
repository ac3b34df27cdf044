-- The configurations that a manager hears of are for as many copies, where those of the tuples are.
use Rattle.std.proofs.Common.{◌≡◌, ℕ, Bool, true, false, List, [], ◌∷◌, length}
use Rattle.std.specs.Prelude.{if◌then◌else◌, nat_lt, fold}
use Rattle.std.specs.List.{AllByRecursion}
use Rattle.qc_config.specs.declared.tuple.Tuple.{Tuple}
use Rattle.qc_event.specs.Manager.{Newest, newer}

-- the configurations of tuples are for this many copies
abbrev pub AllSized : ℕ → List Tuple → Type 0
AllSized size tuples = AllByRecursion (λ (t : Tuple). length t.config.votes ≡ size) tuples

pub newest_sized : (size : ℕ) (best : Newest) (tuples : List Tuple) → length best.config.votes ≡ size → AllSized size tuples → length (fold newer best tuples).config.votes ≡ size
newest_sized size best [] here all = here
newest_sized size best (t ∷ tuples) here all = newest_sized size (newer best t) tuples (next (nat_lt best.generation t.generation)) all.1
  where
    next : (b : Bool) → length (if b then record { generation = t.generation; config = t.config } else best).config.votes ≡ size
    next true = all.0
    next false = here
