-- What Moss's rules allow.
use Rattle.std.specs.Prelude.{◌≡◌, ◌⊎◌, true, List, [], ◌∷◌}
use Rattle.qc_config.specs.declared.tuple.Tuple.{Tuple}
use Rattle.qc_config.specs.Tuple.{after}
use Rattle.qc_event.specs.declared.event.Outcome.TheVariants.{Live}
use Rattle.qc_event.specs.History.{Given}
use Rattle.qc_serial.proofs.MossNames.{Line, IsAbove}
use Rattle.qc_serial.proofs.MossMoves.{Place, place_of, access_of, is_put, Move, Granted, Commit, Abort, outcome, is_dead, is_shown, grants, seen}

abbrev pub In : Given → List Given → Type 0
In g [] = ⊥
In g (x ∷ xs) = (g ≡ x) ⊎ In g xs

abbrev pub AllLive : List Move → Line → Type 0
AllLive h n = (m : Line) → IsAbove m n → outcome h m ≡ Live

pub record Conflict (b g : Given) : Type 0 where
  pub place : place_of b ≡ place_of g
  pub put : (is_put b.grant.op ≡ true) ⊎ (is_put g.grant.op ≡ true)

pub record Free (base : Place → Tuple) (h : List Move) (g : Given) : Type 0 where
  pub live : AllLive h (access_of g)
  pub clear : (b : Given) → In b (grants h) → Conflict b g → (is_dead h (access_of b) ≡ true) ⊎ (is_shown h (access_of b) (access_of g) ≡ true)
  pub finds : g.grant.tuple ≡ after (seen base h (place_of g)) g.grant.op

abbrev pub MayMove : (Place → Tuple) → List Move → Move → Type 0
MayMove base h (Granted g) = (is_dead h (access_of g) ≡ true) ⊎ Free base h g
MayMove base h (Commit k p) = AllLive h (k ∷ p)
MayMove base h (Abort k p) = outcome h (k ∷ p) ≡ Live

abbrev pub MovesFollow : (Place → Tuple) → List Move → Type 0
MovesFollow base [] = Unit {0}
MovesFollow base (e ∷ h) = MayMove base h e × MovesFollow base h
