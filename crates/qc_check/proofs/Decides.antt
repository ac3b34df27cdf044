-- What a test of something found decides.
use Rattle.std.proofs.Common.{◌≡◌, Bool, false, subst}
use Rattle.std.specs.Prelude.{IsTrue, ◌↔◌, Option, None, Some, MatchOption}

-- a test of what was found decides whether it was found to be so
pub decides_found : {X : Type 0} (P : X → Type 0) (found : Option X) (x : X) (r : Bool) → Some x ≡ found → (IsTrue r ↔ P x) → (IsTrue r ↔ MatchOption found ⊥ P)
decides_found P found x r is h = subst (λ o. IsTrue r ↔ MatchOption o ⊥ P) is h

-- where nothing was found, it is not so
pub decides_none : {X : Type 0} (P : X → Type 0) (found : Option X) → None ≡ found → (IsTrue false ↔ MatchOption found ⊥ P)
decides_none P found is = subst (λ o. IsTrue false ↔ MatchOption o ⊥ P) is (λ e. absurd cc, λ e. absurd e)
