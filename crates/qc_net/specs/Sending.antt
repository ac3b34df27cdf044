-- What becomes of a request, by the link's plan and what is held.
use Rattle.std.specs.Prelude.{◌≡◌, ℕ, suc, zero, ◌==◌, if◌then◌else◌, List, [], ◌∷◌, ◌++◌, take, drop, length, map, All, Option, Some, option_map, slice_get}
use Rattle.qc_event.specs.declared.event.Ask.{Ask}
use Rattle.qc_event.specs.declared.event.Answered.{Answered}
use Rattle.qc_net.specs.Plan.{Plan, next_fate, asked, is_due, passed}
use Rattle.qc_net.specs.Given.{Given}
use Rattle.qc_net.specs.declared.link.Fate.{Fate}
use Rattle.qc_net.specs.declared.link.Fate.TheVariants.{Deliver, LoseAsk, LoseReply, Hold, Twice}
use Rattle.qc_net.specs.declared.courier.Sent.{Sent}
use Rattle.qc_net.specs.declared.courier.Sent.TheVariants as sent

-- How far a call has come: the link's plan, the requests that are held, and those that the call delivered, the
-- latest first.
pub record Way : Type 0 where
  pub plan : Plan
  pub held : List Ask
  pub delivered : List Ask

-- a request is delivered
abbrev pub delivering : Ask → Way → Way
delivering ask way = record way { delivered = ask ∷ way.delivered }

-- A due step: where the plan says so, the request that was held first, if there is one, is delivered and no longer held.
abbrev pub due_step : Way → Way
due_step way =
    let now : ℕ = if is_due way.plan then 1 else 0 in
    record { plan = passed way.plan; held = drop now way.held; delivered = take now way.held ++ way.delivered }

-- What the sender is told: the answer of a delivery, of which that many came later in the call, or that there is none.
pub data Outcome : Type 0 where
  answered : ℕ → Outcome
  lost : Outcome
  late : Outcome

-- what the sender is told, and how far the call has come
pub record Sending : Type 0 where
  pub outcome : Outcome
  pub way : Way

-- A request that is held last waits for at most so many due steps. It is delivered where none is held any more.
abbrev pub waiting : ℕ → Way → Sending
waiting zero way = record { outcome = late; way = way }
waiting (suc patience) way =
    if length (due_step way).held == 0
    then record { outcome = answered 0; way = due_step way }
    else waiting patience (due_step way)

-- a request meets its fate
abbrev pub meeting : Fate → Ask → ℕ → Way → Sending
meeting Deliver ask patience way = record { outcome = answered 0; way = delivering ask way }
meeting LoseAsk ask patience way = record { outcome = lost; way = way }
meeting LoseReply ask patience way = record { outcome = lost; way = delivering ask way }
meeting Hold ask patience way = waiting patience (record way { held = way.held ++ ask ∷ [] })
meeting Twice ask patience way = record { outcome = answered 1; way = delivering ask (delivering ask way) }

-- one due step, and then the request meets the next fate
abbrev pub sending_from : Way → Ask → ℕ → Sending
sending_from way ask patience = meeting (next_fate way.plan.coming) ask patience (record way { plan = asked way.plan })

-- the sending of a request by a link of a plan, where these are held
abbrev pub sending : Plan → List Ask → Ask → ℕ → Sending
sending plan held ask patience = sending_from (due_step (record { plan = plan; held = held; delivered = [] })) ask patience

-- what the sender is told is this, where these are the deliveries of the call, the latest first
abbrev pub Tells : Outcome → List Given → Sent → Type 0
Tells (answered later) made told = (g : Given) × (slice_get made later ≡ Some g) × (told ≡ sent.Answer g.answer)
Tells lost made told = told ≡ sent.Lost
Tells late made told = told ≡ sent.Late

-- The deliveries of a call, the latest first: the port has given the answers, and tells them where it tells any.
pub record Made (Gave : Ask → Answered → Type 0) (before now : Option (List Given)) (made : List Given) : Type 0 where
  pub gave : All (λ (g : Given). Gave g.ask g.answer) made
  pub told : now ≡ option_map (λ earlier. made ++ earlier) before

-- A call was that sending: of the link's plan, what is held, the deliveries and what the sender is told.
pub record IsSending (s : Sending) (plan : Option Plan) (held : List Ask) (Gave : Ask → Answered → Type 0) (before now : Option (List Given)) (told : Sent) : Type 0 where
  pub plan_after : plan ≡ Some s.way.plan
  pub held_after : held ≡ s.way.held
  pub made : List Given
  pub is_made : Made Gave before now made
  pub delivered : map (λ (g : Given). g.ask) made ≡ s.way.delivered
  pub tells : Tells s.outcome made told
