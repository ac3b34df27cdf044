-- What a ledger writes of a history.
use Rattle.std.specs.Prelude.{List, [], ◌∷◌, ◌++◌, option_to_list}
use Rattle.std.specs.Option.{option_map}
use Rattle.qc_codec.specs.Ledger.{top_in}
use Rattle.qc_codec.specs.declared.past.Logged.{Logged}
use Rattle.qc_event.specs.History.{Past, Name}
use Rattle.qc_event.specs.Listed.{listed}

-- a top with what is listed of it
abbrev pub logged_as : Past → Name → Logged
logged_as past top = record { top = top; aborted = listed past top }

-- the committed tops with what is listed of them, in the order of their commits
abbrev pub logged : Past → List Logged
logged [] = []
logged (e ∷ past) = logged past ++ option_to_list (option_map (logged_as past) (top_in e.event))
