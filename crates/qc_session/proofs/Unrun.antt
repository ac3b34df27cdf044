-- Where no client acts, nothing happens.
use Rattle.std.proofs.Common.{◌≡◌, ℕ, ⊎_elim, true, [], ◌∷◌, refl, sym, subst}
use mathlib.Core.Bool.{true≢false}
use Rattle.qc_event.specs.declared.event.Event.{Event}
use Rattle.qc_event.specs.declared.event.Event.TheVariants as event
use Rattle.qc_event.specs.Base.{Setting}
use Rattle.qc_event.specs.History.{Past}
use Rattle.qc_event.specs.Legal.{Legal, MayHappen}
use Rattle.qc_event.specs.Requests.{IsUnableCopy, IsUnableLedger}
use Rattle.qc_event.specs.Seats.{is_client}
use Rattle.qc_interp.proofs.Sessions.Owners.{starts_client}
use Rattle.qc_desk.specs.declared.view.View.{View}
use Rattle.qc_desk.specs.Rules.{Has, IsSettled}
use Rattle.qc_desk.proofs.Having.{has_none}
use Rattle.qc_system.specs.Parts.{IsOpening}
use Rattle.qc_session.proofs.Settled.{AreTheirs, all_theirs}

-- who may act first is a client
first_client : (setting : Setting) (seat : ℕ) (ev : Event) → MayHappen setting [] seat ev → is_client seat ≡ true
first_client setting seat (event.Start n k) may = starts_client setting [] seat n k may
first_client setting seat (event.Ask ask) may = may.by_client
first_client setting seat (event.Gone n why) may = may.by_client
first_client setting seat (event.Granted copy grant) may = absurd may.request
first_client setting seat (event.Refused n copy refusal) may = absurd may.request
first_client setting seat (event.Unable n why) may =
    absurd (⊎_elim (λ (u : IsUnableCopy [] seat n why). u.asked_there) (λ (u : IsUnableLedger [] seat n why). true≢false (sym u.ready)) may)
first_client setting seat (event.Mark by session) may = may.by_client
first_client setting seat (event.Ready n) may = may.by_client
first_client setting seat (event.End n how) may = absurd may

nothing : (setting : Setting) (past : Past) → Legal setting past → AreTheirs [] past → past ≡ []
nothing setting [] legal none = refl
nothing setting (e ∷ past) legal none =
    let before = nothing setting past legal.0 none.1 in
    absurd (true≢false (sym (none.0 (first_client setting e.seat e.event (subst (λ p. MayHappen setting p e.seat e.event) before legal.1)))))

-- where the first pass gave no client a pass, nothing has happened
pub none_acted : (setting : Setting) (past : Past) (first : View) → IsOpening first 17 → Legal setting past → IsSettled past first → past ≡ []
none_acted setting past first opening legal settled =
    nothing setting past legal (all_theirs [] past first opening.mine settled (λ k m h. absurd (has_none (k, m) (subst (λ ks. Has ks (k, m)) opening.kin h))))
