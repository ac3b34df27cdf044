-- A copy that is down says so, and then it stands.
use Rattle.std.proofs.Common.{◌≡◌, ℕ, inl, refl, sym, subst}
use Rattle.std.specs.Prelude.{MatchOption}
use Rattle.qc_event.specs.declared.event.Ask.{Ask}
use Rattle.qc_event.specs.declared.event.Why.TheVariants.{Down}
use Rattle.qc_event.specs.History.{Past, Asked, asked}
use Rattle.qc_event.specs.Requests.{MayBeUnable}
use Rattle.qc_event.specs.Seats.{copy_seat}
use Rattle.qc_desk.specs.Consulting.{HasAsked}
use Rattle.qc_desk.proofs.Consulting.{stands}

pub may_be_down : (past : Past) (seat : ℕ) (ask : Ask) → seat ≡ copy_seat ask.copy → HasAsked past ask → MayBeUnable past seat ask.access Down
may_be_down past seat ask own has =
    let there = stands (asked past ask.access) ask has in
    inl (record { asked_there = subst (λ o. MatchOption o ⊥ (λ (a : Asked). seat ≡ copy_seat a.ask.copy)) (sym there.1) own; fault = refl })
