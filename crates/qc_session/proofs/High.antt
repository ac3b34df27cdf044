-- Numbers above those of the ledger and the copies.
use Rattle.std.proofs.Common.{◌≡◌, ℕ, suc, ◌<◌, inl, inr, true, List, [], ◌∷◌, ◌++◌, refl, ap, ◌∙◌, subst}
use Rattle.std.specs.Prelude.{◌&&◌}
use Rattle.std.specs.List.{list_all}
use Rattle.qc_event.specs.Seats.{is_client}
use Rattle.qc_desk.proofs.Having.{has_both, has_cons, has_none}
use Rattle.qc_session.specs.Session.{AreHigh}
use Rattle.qc_session.proofs.Settled.{client_above}

pub one_high : (n : ℕ) → 17 < n → AreHigh (n ∷ [])
one_high n high k h = elim (has_cons n k [] h.0 h.1) [
  | inl same ↦ subst (λ m. 17 < m) same high
  | inr none ↦ absurd (has_none k none)
]

pub high_both : (xs ys : List ℕ) → AreHigh xs → AreHigh ys → AreHigh (xs ++ ys)
high_both xs ys first second k h = elim (has_both xs ys k h.0 h.1) [
  | inl here ↦ first k here
  | inr there ↦ second k there
]

-- who is above them is a client
pub all_clients : (seats : List ℕ) → AreHigh seats → list_all is_client seats ≡ true
all_clients [] high = refl
all_clients (k ∷ seats) high = ap (λ b. b && list_all is_client seats) (client_above k (high k (0, refl))) ∙ all_clients seats (λ j h. high j (suc h.0, h.1))
