-- What a manager was told by its accesses, as the history has it.
use Rattle.std.specs.Prelude.{List, filter_map, Option, IsSome, All}
use Rattle.std.specs.Option.{option_map}
use Rattle.qc_event.specs.declared.event.Ask.{Ask}
use Rattle.qc_event.specs.declared.event.Phase.{Phase}
use Rattle.qc_event.specs.History.{Past, Name, asks}
use Rattle.qc_event.specs.Manager.{Result, result, asks_in}
use Rattle.qc_managers.specs.Told.{Told}

-- what the manager was told of a request, where there is a result
abbrev pub told_of : (Name → Option Result) → Ask → Option Told
told_of result_of ask = option_map (λ (r : Result). record { copy = ask.copy; result = r }) (result_of ask.access)

-- what a manager was told in a phase, in the order of its requests
unfoldable pub told_in : Past → Name → Phase → List Told
told_in past m phase = filter_map (told_of (result past)) (asks_in past m phase)

-- Each request of a manager has a result.
unfoldable pub EachTold : Past → Name → Type 0
EachTold past m = All (λ (ask : Ask). IsSome (result past ask.access)) (asks past m)
