-- The order that completion gives the grants, the last first.
use Rattle.std.specs.Prelude.{◌≡◌, ◌++◌, true, cond, List, [], ◌∷◌}
use Rattle.qc_config.specs.declared.tuple.Tuple.{Tuple}
use Rattle.qc_config.specs.Tuple.{after}
use Rattle.qc_event.specs.History.{Given, same}
use Rattle.qc_serial.proofs.MossNames.{Line}
use Rattle.qc_serial.proofs.MossMoves.{Place, place_of, access_of, Move, Granted, Commit, Abort, left_by}

-- the grants at or below n that are committed up to n, newest first: each child's at its commit
abbrev pub walk : List Move → Line → List Given
walk [] n = []
walk (Granted g ∷ h) n = cond (same (access_of g) n) (g ∷ walk h n) (walk h n)
walk (Commit k p ∷ h) n = cond (same p n) (walk h (k ∷ p) ++ walk h n) (walk h n)
walk (Abort k p ∷ h) n = walk h n

-- the walks of the ancestors of n, the deepest last, as the list is read from its end
abbrev pub serial : List Move → Line → List Given
serial h [] = walk h []
serial h (k ∷ p) = walk h (k ∷ p) ++ serial h p

-- what these grants leave at a place
abbrev pub state : (Place → Tuple) → List Given → Place → Tuple
state base gs place = left_by base (λ n. true) gs place

-- each grant finds what the earlier ones leave
abbrev pub Chain : (Place → Tuple) → List Given → Type 0
Chain base [] = Unit {0}
Chain base (g ∷ gs) = (g.grant.tuple ≡ after (state base gs (place_of g)) g.grant.op) × Chain base gs
