-- Branches that began, or ran, meet their links; where some are merged the client's numbers are apart.
use Rattle.std.proofs.Common.{◌<◌, List, [], ◌∷◌, length, arith}
use Rattle.std.specs.List.{AllByRecursion}
use Rattle.qc_event.specs.History.{Name}
use Rattle.qc_script.specs.Calls.{MeetsLink}
use Rattle.qc_script.specs.Client.{ClientView}
use Rattle.qc_interp.specs.AtOnce.{StandingBranch, BeganInTurn, InPairs, HasRun, MergedInTurn}
use Rattle.qc_interp.proofs.Rows.Ran.{MergedSome, merged_some}

-- each that began has a link that is met
pub all_met : (v w : ClientView) (of : Name) (bs : List StandingBranch) → BeganInTurn v of bs w → AllByRecursion (λ (b : StandingBranch). MeetsLink b.view) bs
all_met v w of [] h = tt
all_met v w of (b ∷ bs) h = (h.1.met, all_met h.0 w of bs h.2)

pub ran_met : (bs1 bs2 : List StandingBranch) → InPairs HasRun bs1 bs2 → AllByRecursion (λ (b : StandingBranch). MeetsLink b.view) bs2
ran_met [] [] h = tt
ran_met [] (b ∷ bs2) h = absurd h
ran_met (b ∷ bs1) [] h = absurd h
ran_met (b ∷ bs1) (b2 ∷ bs2) h = (h.0.met, ran_met bs1 bs2 h.1)

-- some were merged
pub merged_any : (w x : ClientView) (bs : List StandingBranch) → 0 < length bs → MergedInTurn w bs x → MergedSome x
merged_any w x [] some h = absurd (omega (arith, some))
merged_any w x (b ∷ bs) some h = merged_some w x b bs h
