-- What an answer to a request rests on, told in one way at most.
use Rattle.std.specs.Prelude.{ℕ, Contains}
use Rattle.qc_event.specs.declared.event.Answered.{Answered}
use Rattle.qc_event.specs.declared.event.Ask.{Ask}
use Rattle.qc_event.specs.declared.event.Entry.{Entry}
use Rattle.qc_event.specs.History.{Past}
use Rattle.qc_desk.specs.Answers.{IsAnswered}

-- the entry stands in the history, at whichever place
abbrev pub StandsIn : Past → Entry → Type 0
StandsIn past e = ∥ Contains past e ∥₁

-- a request was answered so
abbrev pub HasAnswered : ℕ → Past → Ask → Answered → Type 0
HasAnswered = IsAnswered StandsIn
