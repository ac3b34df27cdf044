-- The requests that a client made, by its own entries alone.
use Rattle.std.proofs.Common.{◌≡◌, ℕ, ◌==◌, Bool, true, false, cond, [], ◌∷◌, ◌++◌, refl, sym, ap, ◌∙◌, append-nil, append_assoc}
use Rattle.std.specs.Prelude.{None, if◌then◌else◌, option_to_list}
use Rattle.std.proofs.lemmas.Bool.{eq-eqb}
use Rattle.qc_event.specs.declared.event.Ask.{Ask}
use Rattle.qc_event.specs.declared.event.Event.{Event}
use Rattle.qc_event.specs.declared.event.Event.TheVariants as event
use Rattle.qc_event.specs.declared.event.Kind.TheVariants as kind
use Rattle.qc_event.specs.History.{Past}
use Rattle.qc_managers.specs.Carrying.{entry, began, made_by}
use Rattle.qc_net.specs.Messages.{ask_of, asked_under}

pub own_request : (seat : ℕ) (ev : Event) (past : Past) → asked_under seat (entry seat ev ∷ past) ≡ asked_under seat past ++ option_to_list (ask_of ev)
own_request seat ev past = ap (λ (b : Bool). asked_under seat past ++ option_to_list (if b then ask_of ev else None)) (eq-eqb seat seat refl)

pub no_request : (seat : ℕ) (ev : Event) (past : Past) → ask_of ev ≡ None → asked_under seat (entry seat ev ∷ past) ≡ asked_under seat past
no_request seat ev past none = own_request seat ev past ∙ ap (λ o. asked_under seat past ++ option_to_list o) none ∙ append-nil (asked_under seat past)

pub began_request : (seat : ℕ) (ask : Ask) → asked_under seat (began seat ask) ≡ ask ∷ []
began_request seat ask =
    own_request seat (event.Ask ask) (entry seat (event.Start ask.access kind.Access) ∷ [])
    ∙ ap (λ asks. asks ++ ask ∷ []) (no_request seat (event.Start ask.access kind.Access) [] refl)

-- others' entries add none
pub requests_more : (seat : ℕ) (newer past : Past) → asked_under seat (newer ++ past) ≡ asked_under seat past ++ asked_under seat (made_by seat newer)
requests_more seat [] past = sym (append-nil (asked_under seat past))
requests_more seat (e ∷ newer) past = by_test (e.seat == seat) refl (requests_more seat newer past)
  where
    by_test : (b : Bool) → (e.seat == seat) ≡ b → asked_under seat (newer ++ past) ≡ asked_under seat past ++ asked_under seat (made_by seat newer)
        → asked_under seat (newer ++ past) ++ option_to_list (if b then ask_of e.event else None) ≡ asked_under seat past ++ asked_under seat (cond b (e ∷ made_by seat newer) (made_by seat newer))
    by_test true is h =
        ap (λ asks. asks ++ option_to_list (ask_of e.event)) h
        ∙ append_assoc (asked_under seat past) (asked_under seat (made_by seat newer)) (option_to_list (ask_of e.event))
        ∙ sym (ap (λ (b : Bool). asked_under seat past ++ (asked_under seat (made_by seat newer) ++ option_to_list (if b then ask_of e.event else None))) is)
    by_test false is h = append-nil (asked_under seat (newer ++ past)) ∙ h
