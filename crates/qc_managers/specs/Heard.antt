-- What is kept of each copy asked in a phase, what is done next by it, and why the phase fails.
use Rattle.std.specs.Prelude.{ℕ, Bool, if◌then◌else◌, List, map, unwrap_or, Option}
use Rattle.std.specs.Option.{option_and_then, option_map}
use Rattle.qc_config.specs.Config.{Voting}
use Rattle.qc_event.specs.declared.event.Phase.{Phase}
use Rattle.qc_event.specs.History.{Name}
use Rattle.qc_event.specs.Manager.{all_copies}
use Rattle.qc_managers.specs.declared.heard.Heard.{Heard}
use Rattle.qc_managers.specs.declared.next.Next.{Next}
use Rattle.qc_managers.specs.declared.next.Next.TheVariants.{Enough, Copy, Short}
use Rattle.qc_managers.specs.declared.shortage.Shortage.{Shortage}
use Rattle.qc_managers.specs.declared.shortage.Shortage.TheVariants.{Conflict, NoQuorum}
use Rattle.qc_managers.specs.Told.{Told, holder_in, was_asked, replied_in, missing_in, blocked_in, next_in, lack_in}

-- a copy that is blocked, with the holder there
abbrev pub block_in : Told → Option (ℕ × Name)
block_in t = option_map (λ holder. (t.copy, holder)) (holder_in t)

-- the first copy that is blocked, with the holder there
abbrev pub first_block_in : List Told → Option (ℕ × Name)
first_block_in told = option_and_then block_in (blocked_in told)

-- what is kept: who was asked, who replied, why others are missing, and the first that is blocked
abbrev pub heard : List Told → Heard
heard told =
    record { asked = map (was_asked told) all_copies; replied = replied_in told; missing = map (missing_in told) all_copies; blocked = first_block_in told }

-- what is done next, where the quorum replied or not
abbrev pub next_of : Bool → Voting → List Told → Next
next_of enough config told = if enough then Enough else unwrap_or (option_map Copy (next_in config told)) Short

-- a copy and the holder there, as a conflict
abbrev pub conflict : ℕ × Name → Shortage
conflict block = Conflict block.0 block.1

-- why a phase fails: by the first copy that is blocked, else for want of a quorum
abbrev pub shortage_in : Phase → List Told → Shortage
shortage_in phase told = unwrap_or (option_map conflict (first_block_in told)) (NoQuorum (lack_in phase told))
