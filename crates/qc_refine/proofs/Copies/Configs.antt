-- Lists of configurations from the first to the newest, and one with one more at its end.
use Rattle.std.proofs.Common.{◌≡◌, ℕ, zero, suc, ◌+◌, List, [], ◌∷◌, length, refl, subst, arith, get_or}
use Rattle.std.specs.Prelude.{All, slice_get, Option, Some}
use Rattle.std.specs.List.{last_or}
use Rattle.std.proofs.lemmas.Option.{slice_get_within, get_or_from_slice_get}
use Rattle.std.proofs.lemmas.List.Elements.{All-get_or}
use Rattle.qc_config.specs.Config.{Voting, IsLegal, no_config}

-- the last of a list stands at its last place
pub last_at : {A : Type 0} (other : Option A) (xs : List A) (i : ℕ) → i + 1 ≡ length xs → last_or other xs ≡ slice_get xs i
last_at other [] i end = absurd (omega arith)
last_at other (x ∷ []) zero end = refl
last_at other (x ∷ []) (suc i) end = absurd (omega arith)
last_at other (x ∷ y ∷ xs) zero end = absurd (omega arith)
last_at other (x ∷ y ∷ xs) (suc i) end = last_at (Some x) (y ∷ xs) i (omega arith)

pub config_at : (configs : List Voting) (g : ℕ) (config : Voting) → slice_get configs g ≡ Some config → get_or configs g no_config ≡ config
config_at configs g config at = get_or_from_slice_get configs g config no_config at

pub legal_at : (configs : List Voting) (g : ℕ) (config : Voting) → All IsLegal configs → slice_get configs g ≡ Some config → IsLegal config
legal_at configs g config legal at =
    subst IsLegal (config_at configs g config at) (All-get_or IsLegal configs g no_config (slice_get_within configs g config at) legal)
