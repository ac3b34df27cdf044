-- Deliveries: requests, each with the answer that was given to it.
use Rattle.std.specs.Prelude.{◌≡◌, List, ◌∷◌, Option, option_map}
use Rattle.qc_event.specs.declared.event.Ask.{Ask}
use Rattle.qc_event.specs.declared.event.Answered.{Answered}
use Rattle.qc_event.specs.declared.short.Short.{Short}
use Rattle.qc_event.specs.declared.short.Short.TheVariants.{Memory, Room}

-- a request, and the answer that was given to it
pub record Given : Type 0 where
  pub ask : Ask
  pub answer : Answered

abbrev pub given : Ask → Answered → Given
given ask answer = record { ask = ask; answer = answer }

-- A port at a moment.
pub record PortView : Type 1 where
  -- which requests it may be given
  pub may : Ask → Type 0
  -- whether it has given an answer to a request
  pub gave : Ask → Answered → Type 0
  -- its deliveries, the latest first, where it tells them
  pub made : Option (List Given)
  -- whether its history takes no more entries, as far as it knows
  pub full : Type 0

-- why a port did not answer: for want of room exactly where its history is full
abbrev pub IsWant : Type 0 → Short → Type 0
IsWant Full Memory = Full → ⊥
IsWant Full Room = Full

-- a request was delivered two times, and this is the first answer
abbrev pub GaveTwice : (Ask → Answered → Type 0) → Option (List Given) → Option (List Given) → Ask → Answered → Type 0
GaveTwice Gave before now ask first =
    (second : Answered) × Gave ask second × (now ≡ option_map (λ earlier. given ask second ∷ given ask first ∷ earlier) before)
