-- What a link does, by its plan, and how it counts its troubles.
use Rattle.std.specs.Prelude.{◌≡◌, ◌≤◌, ℕ, ◌+◌, ◌==◌, nat_lt, Bool, true, false, ◌&&◌, MatchBool, if◌then◌else◌, List, [], ◌∷◌, ◌++◌, Option, Some, None}
use Rattle.qc_event.specs.Counts.{Rose}
use Rattle.qc_net.specs.declared.link.Fate.{Fate}
use Rattle.qc_net.specs.declared.link.Fate.TheVariants.{Deliver, LoseAsk, LoseReply, Hold, Twice}

-- whether a fate is a trouble of the link
abbrev pub is_trouble : Fate → Bool
is_trouble Deliver = false
is_trouble LoseAsk = true
is_trouble LoseReply = true
is_trouble Hold = true
is_trouble Twice = false

-- The count of troubles never falls. It rose where the fate is a trouble, and else it is as before.
pub record Counts (fate : Fate) (before now : ℕ) : Type 0 where
  pub later : before ≤ now
  pub by_fate : MatchBool (is_trouble fate) (Rose before now) (now ≡ before)

-- A plan: the fates of requests, over and over, as they come from the start on, and as they come from here on.
-- Of every `hold` due steps the last one delivers; `waited` is how many passed since.
pub record Plan : Type 0 where
  pub first : List Fate
  pub coming : List Fate
  pub hold : ℕ
  pub waited : ℕ

-- A link at a moment.
pub record LinkView : Type 0 where
  -- how often it gave trouble, up to `2^64 - 1`; the count never falls
  pub troubles : ℕ
  -- its fates and its hold, from here on, where it tells them
  pub plan : Option Plan

-- a plan at its start
abbrev pub starting : List Fate → ℕ → Plan
starting fates hold = record { first = fates; coming = fates; hold = hold; waited = 0 }

-- a plan, taken back to its start
abbrev pub anew : Plan → Plan
anew plan = starting plan.first plan.hold

-- the first of the fates that come; with none every request is delivered
abbrev pub next_fate : List Fate → Fate
next_fate [] = Deliver
next_fate (fate ∷ fates) = fate

-- a list that goes round: its first is last now
abbrev pub turned : List Fate → List Fate
turned [] = []
turned (fate ∷ fates) = fates ++ fate ∷ []

-- a plan after one more request
abbrev pub asked : Plan → Plan
asked plan = record plan { coming = turned plan.coming }

-- whether the next due step delivers
abbrev pub is_due : Plan → Bool
is_due plan = plan.waited + 1 == plan.hold

-- the place of the request that the next due step delivers, of so many: the first
abbrev pub due_in : Plan → ℕ → Option ℕ
due_in plan held = if is_due plan && nat_lt 0 held then Some 0 else None

-- a plan after one more due step
abbrev pub passed : Plan → Plan
passed plan = record plan { waited = if is_due plan then 0 else plan.waited + 1 }
