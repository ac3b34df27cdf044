-- Requests of a client, as others enter: they meet the fates of its link still, and so do none.
use Rattle.std.proofs.Common.{◌≡◌, ℕ, true, false, List, [], ◌++◌, refl}
use mathlib.Core.Bool.{true≢false}
use Rattle.std.specs.Prelude.{Some, IsTrue}
use Rattle.qc_carry.specs.Kept.{IsKept}
use Rattle.qc_carry.specs.Walk.{Walk}
use Rattle.qc_carry.proofs.KeepsStill.{keeps_at_start, keeps_met, keeps_still}
use Rattle.qc_carry.proofs.Walking.{none_own}
use Rattle.qc_event.specs.Base.{Setting}
use Rattle.qc_event.specs.History.{Past}
use Rattle.qc_event.specs.Legal.{Legal}
use Rattle.qc_managers.specs.Carrying.{made_by}
use Rattle.qc_net.specs.declared.link.Fate.{Fate}
use Rattle.qc_net.specs.Messages.{meets_fates}
use Rattle.qc_net.specs.Plan.{starting}
use Rattle.qc_desk.specs.declared.view.View.{View}
use Rattle.qc_desk.specs.Entries.{AreOthers}
use Rattle.qc_desk.specs.Rules.{sees}

-- who has entered nothing has asked nothing
pub met_none : (seat : ℕ) (fates : List Fate) (hold patience : ℕ) (past : Past) → made_by seat past ≡ [] → IsTrue (meets_fates seat (record { fates = fates; hold = hold; patience = patience }) past)
met_none seat fates hold patience past none = keeps_met seat (Some (starting fates hold)) [] patience past false (keeps_at_start seat (Some (starting fates hold)) [] patience past none refl refl)

-- requests that met their fates still do
pub met_later : (setting : Setting) (v : View) (newer : Past) (fates : List Fate) (hold patience : ℕ) → Legal setting (newer ++ v.seen) → AreOthers v.number newer
    → IsTrue (meets_fates v.number (record { fates = fates; hold = hold; patience = patience }) v.seen) → IsTrue (meets_fates v.number (record { fates = fates; hold = hold; patience = patience }) (newer ++ v.seen))
met_later setting v newer fates hold patience legal others met =
    keeps_met v.number (Some (starting fates hold)) [] patience (newer ++ v.seen) true
    (keeps_still setting v (sees (newer ++ v.seen) v) [] legal walk refl (λ n access. (refl, refl)) (Some (starting fates hold)) [] patience true ∣ kept ∣₁)
  where
    walk : Walk v (sees (newer ++ v.seen) v) []
    walk = record { newer = newer; grown = refl; own = none_own v.number newer others; number = refl; live = refl; out = refl; kin = refl }

    kept : IsKept v.number (starting fates hold) [] patience v.seen true
    kept = record { met = met; in_step = λ whole. absurd (true≢false whole) }
