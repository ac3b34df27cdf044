-- What the courier of a line has to do with its history.
use Rattle.std.specs.Prelude.{ℕ, ◌≡◌, Bool, true, false, not, ◌&&◌, IsTrue, List, [], ◌∷◌, Option, None, Some, IfSome, Result, Ok, Err}
use Rattle.std.specs.Option.{option_map_or}
use Rattle.qc_event.specs.declared.event.Ask.{Ask}
use Rattle.qc_event.specs.declared.event.Why.{Why}
use Rattle.qc_event.specs.declared.event.Why.TheVariants as why
use Rattle.qc_event.specs.History.{Past}
use Rattle.qc_event.specs.Requests.{is_why}
use Rattle.qc_managers.specs.declared.carrier.Carried.{Carried}
use Rattle.qc_managers.specs.declared.carrier.Carried.TheVariants as carried
use Rattle.qc_managers.specs.declared.carrier.CarryNo.{CarryNo}
use Rattle.qc_managers.specs.declared.carrier.CarryNo.TheVariants as no
use Rattle.qc_net.specs.Messages.{Net, asked_under, meets_fates}
use Rattle.qc_net.specs.Plan.{Plan, starting}
use Rattle.qc_net.specs.Sending.{Way, sending}
use Rattle.qc_net.specs.declared.courier.Sent.{Sent}
use Rattle.qc_net.specs.declared.courier.Sent.TheVariants as sent

-- what the link of a plan is, with this patience
abbrev pub net_of : Plan → ℕ → Net
net_of plan patience = record { fates = plan.first; hold = plan.hold; patience = patience }

-- a link at its start, which holds nothing
abbrev pub at_start : Net → Way
at_start net = record { plan = starting net.fates net.hold; held = []; delivered = [] }

-- how far the link is once these requests were sent, one after another
abbrev pub sendings : ℕ → Way → List Ask → Way
sendings patience way [] = way
sendings patience way (ask ∷ asks) = sendings patience (sending way.plan way.held ask patience).way asks

-- how far the link is once the requests of the client under a seat were sent
abbrev pub way_of : ℕ → Net → Past → Way
way_of seat net past = sendings net.patience (at_start net) (asked_under seat past)

-- The courier stands where the requests of the history leave it.
pub record IsInStep (seat : ℕ) (net : Net) (past : Past) (plan : Plan) (held : List Ask) : Type 0 where
  pub same_plan : plan ≡ (way_of seat net past).plan
  pub same_held : held ≡ (way_of seat net past).held

-- The requests of the client under a seat meet the fates of its link, and unless the line is torn, its courier is in step.
pub record IsKept (seat : ℕ) (plan : Plan) (held : List Ask) (patience : ℕ) (past : Past) (torn : Bool) : Type 0 where
  pub met : IsTrue (meets_fates seat (net_of plan patience) past)
  pub in_step : torn ≡ false → IsInStep seat (net_of plan patience) past plan held

-- what a line keeps of its link, where that tells its plan
abbrev pub Keeps : ℕ → Option Plan → List Ask → ℕ → Past → Bool → Type 0
Keeps seat plan held patience past torn = ∥ IfSome plan (λ p. IsKept seat p held patience past torn) ∥₁

-- whether an access was given up as lost, or as late
abbrev pub is_loss : Why → Option Why → Bool
is_loss kind reason = option_map_or (is_why kind) reason false

-- an access was given up neither as lost nor as late
abbrev pub IsNoLoss : Option Why → Type 0
IsNoLoss reason = IsTrue (not (is_loss why.Lost reason) && not (is_loss why.Late reason))

-- an access is given up as what became of its request says: as lost, as late, or as neither
abbrev pub TellsLoss : Sent → Option Why → Type 0
TellsLoss (sent.Answer answer) reason = IsNoLoss reason
TellsLoss sent.Lost reason = reason ≡ Some why.Lost
TellsLoss sent.Late reason = reason ≡ Some why.Late

-- why an access is given up, where it is
abbrev pub reason_of : Carried → Option Why
reason_of (carried.Gone reason) = Some reason
reason_of _ = None

-- an access that has ended was given up as its sending says
abbrev pub TellsSent : Sent → Result Carried CarryNo → Type 0
TellsSent what (Ok told) = TellsLoss what (reason_of told)
TellsSent what (Err (no.Orphan a)) = TellsLoss what None
TellsSent what (Err e) = Unit {0}

-- what is told of an access is no loss
abbrev pub ToldNoLoss : Result Carried CarryNo → Type 0
ToldNoLoss (Ok told) = IsNoLoss (reason_of told)
ToldNoLoss (Err e) = Unit {0}

-- an access that has ended was given up for this reason
abbrev pub WasGivenUp : Why → Result Carried CarryNo → Type 0
WasGivenUp reason (Ok told) = reason_of told ≡ Some reason
WasGivenUp reason (Err (no.Orphan a)) = ⊥
WasGivenUp reason (Err e) = Unit {0}

-- whether an access was cut off, so that what was sent and the history may part
abbrev pub is_cut_off : Result Carried CarryNo → Bool
is_cut_off (Err (no.Short short)) = true
is_cut_off _ = false
