-- A client of a session at its start.
use Rattle.std.proofs.Common.{◌≡◌, ℕ, List, [], ap, ◌∙◌}
use Rattle.std.specs.Prelude.{Some}
use Rattle.qc_event.specs.Base.{Setting}
use Rattle.qc_event.specs.History.{Name}
use Rattle.qc_net.specs.Plan.{Plan, starting}
use Rattle.qc_net.specs.Messages.{Net}
use Rattle.qc_net.specs.declared.link.Fate.{Fate}
use Rattle.qc_desk.specs.declared.view.View.{View}
use Rattle.qc_session.specs.Clients.{client_of, link_told}

abbrev pub net_with : List Fate → ℕ → ℕ → Net
net_with fates hold patience = record { fates = fates; hold = hold; patience = patience }

-- the client is the session's, by what its parts are
pub client_is : (setting : Setting) (root : Name) (session first_session epoch first_epoch patience first_patience hold : ℕ) (told : Plan) (fates first_fates : List Fate) (v first : View)
    → root ≡ [] → session ≡ first_session → epoch ≡ first_epoch → told ≡ starting fates hold → fates ≡ first_fates → patience ≡ first_patience → v ≡ first
    → client_of setting root session epoch (link_told (Some told) patience) v ≡ client_of setting [] first_session first_epoch (Some (net_with first_fates hold first_patience)) first
client_is setting root session first_session epoch first_epoch patience first_patience hold told fates first_fates v first r s e t f p w =
    let net : link_told (Some told) patience ≡ Some (net_with first_fates hold first_patience) = ap (λ x. link_told (Some x) patience) t ∙ ap (λ x. Some (net_with x hold patience)) f ∙ ap (λ x. Some (net_with first_fates hold x)) p in
    λ i. client_of setting (r i) (s i) (e i) (net i) (w i)
