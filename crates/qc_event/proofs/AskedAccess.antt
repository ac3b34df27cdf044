-- The request that a history tells of a name, and the entry that made it.
use Rattle.std.proofs.Common.{◌≡◌, ℕ, [], ◌∷◌, sym, ap, ◌∙◌, inl, inr}
use Rattle.std.specs.Prelude.{Some}
use Rattle.qc_event.specs.declared.event.Event.{Event}
use Rattle.qc_event.specs.declared.event.Event.TheVariants as event
use Rattle.qc_event.specs.History.{Past, Name, Asked, same, asked, ask_in}
use Rattle.qc_event.proofs.Absent.{same_is}
use Rattle.qc_event.proofs.OneEntry.{if_is, first_is}

-- An entry is this request, of this name.
pub record IsAsk (n : Name) (seat : ℕ) (ev : Event) (a : Asked) : Type 0 where
  pub same_seat : seat ≡ a.seat
  pub asks : ev ≡ event.Ask a.ask
  pub of_name : a.ask.access ≡ n

pub asking : (n : Name) (seat : ℕ) (ev : Event) (a : Asked) → ask_in n seat ev ≡ Some a → IsAsk n seat ev a
asking n seat (event.Ask ask) a is =
    let parts = if_is (same ask.access n) (record { seat = seat; ask = ask }) a is in
    record {
      same_seat = ap (λ (x : Asked). x.seat) parts.1;
      asks = ap (λ (x : Asked). event.Ask x.ask) parts.1;
      of_name = sym (ap (λ (x : Asked). x.ask.access) parts.1) ∙ same_is ask.access n parts.0;
    }
asking n seat _ a is = absurd cc

-- the request of a name is of its access
pub asked_access : (past : Past) (n : Name) (a : Asked) → asked past n ≡ Some a → a.ask.access ≡ n
asked_access [] n a is = absurd cc
asked_access (e ∷ past) n a is = elim (first_is (asked past n) (ask_in n e.seat e.event) a is) [
  | inl old ↦ asked_access past n a old
  | inr new ↦ (asking n e.seat e.event a new.1).of_name
]
