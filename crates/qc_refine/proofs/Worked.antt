-- The laws say something: one copy with one vote carries a value, and a read, a write and a reconfiguration there
-- are complete and find what is there.
use Rattle.std.proofs.Common.{◌≡◌, ℕ, List, [], ◌∷◌, refl, arith}
use Rattle.std.specs.Prelude.{All, slice_get, Some}
use Rattle.std.proofs.lemmas.List.Elements.{All-nil, All-cons}
use Rattle.qc_config.specs.Config.{Voting, IsLegal}
use Rattle.qc_config.specs.Val.{Number}
use Rattle.qc_config.specs.declared.tuple.Op.{Op}
use Rattle.qc_config.specs.declared.tuple.Op.TheVariants.{Get, PutData, PutConfig}
use Rattle.qc_config.specs.declared.tuple.Tuple.{Tuple}
use Rattle.qc_event.specs.History.{Given}
use Rattle.qc_event.specs.Sound.{Carries, HasValue}
use Rattle.qc_refine.specs.Completed.{FindsThere, ReadDone, WriteDone, MoveDone, Collected}

one : Voting
one = record { votes = 1 ∷ []; read = 1; write = 1 }

two : Voting
two = record { votes = 2 ∷ []; read = 1; write = 2 }

tuple : ℕ → ℕ → ℕ → Voting → Tuple
tuple version value generation config = record { version = version; value = Number value; generation = generation; config = config }

given : Op → Tuple → Given
given op t = record { copy = 0; grant = record { access = []; rec = 0; op = op; tuple = t } }

alone : {X : Type 0} (P : X → Type 0) (x : X) → P x → All P (x ∷ [])
alone P x h = All-cons P x [] h (All-nil P)

start : List Tuple
start = tuple 0 7 0 one ∷ []

legal_one : IsLegal one
unfolding one
legal_one = record {
  some_votes = omega arith;
  some_read = omega arith;
  read_possible = omega arith;
  some_write = omega arith;
  write_possible = omega arith;
  overlap = omega arith;
}

legal_two : IsLegal two
unfolding two
legal_two = record {
  some_votes = omega arith;
  some_read = omega arith;
  read_possible = omega arith;
  some_write = omega arith;
  write_possible = omega arith;
  overlap = omega arith;
}

carries : Carries one start (Number 7)
unfolding one start tuple
carries = record {
  configs = one ∷ [];
  newest = one;
  begins = refl;
  ends = refl;
  legal = alone IsLegal one legal_one;
  each_listed = alone (λ (t : Tuple). slice_get (one ∷ []) t.generation ≡ Some t.config) (tuple 0 7 0 one) refl;
  passed_on = λ g earlier. absurd (omega arith);
  version_held = refl;
  values = alone (HasValue 0 (Number 7)) (tuple 0 7 0 one) (λ is. refl);
}

get : Given
get = given Get (tuple 0 7 0 one)

collected : Collected one (get ∷ [])
unfolding one get given tuple
collected = record { reads = alone (λ (g : Given). g.grant.op ≡ Get) get refl; enough = refl }

reads : ReadDone one (Number 7) (get ∷ [])
unfolding get given tuple
reads = record { collected = collected; answered = refl }

put : Given
put = given (PutData 1 (Number 8)) (tuple 1 8 0 one)

writes : WriteDone one (Number 8) (get ∷ put ∷ [])
unfolding one get put given tuple
writes = record {
  gets = get ∷ [];
  puts = put ∷ [];
  parts = refl;
  collected = collected;
  stored = record { stores = alone (λ (g : Given). g.grant.op ≡ PutData 1 (Number 8)) put refl; enough = refl };
}

copy : Given
copy = given (PutData 0 (Number 7)) (tuple 0 7 0 one)

move : Given
move = given (PutConfig 1 two) (tuple 0 7 1 two)

moves : MoveDone one two 1 (get ∷ copy ∷ move ∷ [])
unfolding one two get copy move given tuple
moves = record {
  gets = get ∷ [];
  puts = copy ∷ [];
  moves = move ∷ [];
  parts = refl;
  legal = legal_two;
  collected = collected;
  stored = record { stores = alone (λ (g : Given). g.grant.op ≡ PutData 0 (Number 7)) copy refl; enough = refl };
  moved = record { stores = alone (λ (g : Given). g.grant.op ≡ PutConfig 1 two) move refl; enough = refl };
  answered = refl;
}

finds : FindsThere start (get ∷ copy ∷ move ∷ [])
unfolding one two start get copy move given tuple
finds = (refl, (refl, (refl, tt)))

finds_write : FindsThere start (get ∷ put ∷ [])
unfolding one start get put given tuple
finds_write = (refl, (refl, tt))
