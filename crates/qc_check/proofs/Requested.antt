-- What an access asked.
use Rattle.std.proofs.Common.{◌≡◌, refl, subst, sym}
use Rattle.std.specs.Prelude.{Some, MatchOption}
use Rattle.qc_event.specs.History.{Past, Name, Asked, asked}
use Rattle.qc_event.proofs.AskedAccess.{asked_access}
use Rattle.qc_check.specs.Parts.{WasAskedFor}

-- the request of a name was asked for by its own access
pub was_asked_for : (past : Past) (n : Name) (a : Asked) → Some a ≡ asked past n → WasAskedFor past a.ask
was_asked_for past n a is =
    subst (λ m. MatchOption (asked past m) ⊥ (λ b. b.ask ≡ a.ask)) (sym (asked_access past n a (sym is)))
    (subst (λ o. MatchOption o ⊥ (λ (b : Asked). b.ask ≡ a.ask)) is refl)
