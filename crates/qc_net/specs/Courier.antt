-- The parts of a courier, and what is left of what it holds.
use Rattle.std.specs.Prelude.{◌≡◌, ◌<◌, ◌⊎◌, ℕ, List, [], ◌∷◌, ◌++◌, Option, Some, None, Result, Ok, Err, slice_get, remove, option_map, vec_len, vec_capacity}
use Rattle.qc_event.specs.declared.event.Ask.{Ask}
use Rattle.qc_event.specs.declared.event.Answered.{Answered}
use Rattle.qc_event.specs.declared.short.Short.{Short}
use Rattle.qc_net.specs.Given.{Given, given}
use Rattle.qc_net.specs.declared.courier.Courier.{Courier}
use Rattle.qc_net.specs.declared.courier.Sent.{Sent}
use Rattle.qc_net.specs.declared.courier.Sent.TheVariants.{Answer, Lost, Late}

-- its link
abbrev pub link_of : {L : Type 0} → Courier L → L
link_of courier = courier.link

-- the requests that it holds, the first held first
abbrev pub held_of : {L : Type 0} → Courier L → List Ask
held_of courier = courier.held.items

-- it has room to hold one more request
abbrev pub CourierHasRoom : {L : Type 0} → Courier L → Type 0
CourierHasRoom courier = vec_len courier.held < vec_capacity courier.held

-- some answer was given to a request
abbrev pub WasAnswered : (Ask → Answered → Type 0) → Ask → Type 0
WasAnswered Gave ask = (answer : Answered) × Gave ask answer

-- What is left of a list of requests, in order: each that is gone was answered.
abbrev pub IsLeft : (Ask → Answered → Type 0) → List Ask → List Ask → Type 0
IsLeft Gave [] now = now ≡ []
IsLeft Gave (ask ∷ before) now =
    ((rest : List Ask) × (now ≡ ask ∷ rest) × IsLeft Gave before rest) ⊎ (WasAnswered Gave ask × IsLeft Gave before now)

-- this request is held last, behind what is left of others
abbrev pub IsHeldBehind : (Ask → Answered → Type 0) → List Ask → Ask → List Ask → Type 0
IsHeldBehind Gave before ask now = (rest : List Ask) × (now ≡ rest ++ ask ∷ []) × IsLeft Gave before rest

-- what is held after a call, by its answer
abbrev pub HeldAfter : (Ask → Answered → Type 0) → List Ask → Ask → List Ask → Result Sent Short → Type 0
HeldAfter Gave before ask now (Ok (Answer answer)) = IsLeft Gave before now
HeldAfter Gave before ask now (Ok Lost) = IsLeft Gave before now
HeldAfter Gave before ask now (Ok Late) = IsHeldBehind Gave before ask now
HeldAfter Gave before ask now (Err e) = IsLeft Gave before now ⊎ IsHeldBehind Gave before ask now

-- An answer that the sender is told was given to its request.
abbrev pub IsAnswered : (Ask → Answered → Type 0) → Ask → Sent → Type 0
IsAnswered Gave ask (Answer answer) = Gave ask answer
IsAnswered Gave ask _ = Unit {0}

-- that there is no answer has a cause
abbrev pub SentHasCause : Type 0 → Sent → Type 0
SentHasCause Trouble (Answer answer) = Unit {0}
SentHasCause Trouble _ = Trouble

-- what a due step leaves of what is held, by its answer: the request of the place told is gone, and was answered
abbrev pub Stepped : (Ask → Answered → Type 0) → List Ask → List Ask → Option (List Given) → Option (List Given) → Option (ℕ × Answered) → Type 0
Stepped Gave held now before after None = (now ≡ held) × (after ≡ before)
Stepped Gave held now before after (Some (place, answer)) =
    (ask : Ask) × (slice_get held place ≡ Some ask) × (now ≡ remove held place) × Gave ask answer × (after ≡ option_map (λ earlier. given ask answer ∷ earlier) before)
