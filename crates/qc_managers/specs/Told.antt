-- What a manager knows of a phase: what it was told of each copy that it asked, in order.
use Rattle.std.specs.Prelude.{ℕ, ◌==◌, Bool, ◌&&◌, not, is_some, nat_lt, List, map, find, fold, filter_map, Option, Some}
use Rattle.std.specs.List.{list_any}
use Rattle.std.specs.Option.{option_and_then}
use Rattle.qc_config.specs.Config.{Voting, votes_of}
use Rattle.qc_config.specs.declared.tuple.Tuple.{Tuple}
use Rattle.qc_event.specs.declared.event.Lack.{Lack}
use Rattle.qc_event.specs.declared.event.Phase.{Phase}
use Rattle.qc_event.specs.declared.event.Why.{Why}
use Rattle.qc_event.specs.History.{Name}
use Rattle.qc_event.specs.Manager.{Result, reply_of, why_of, holder_of, all_copies, Newest, newer, Greatest, greatest_among}

-- what became of the request to a copy
pub record Told : Type 0 where
  pub copy : ℕ
  pub result : Result

-- the tuple that was replied, the reason for no answer, and the holder in the way, where it was that
abbrev pub reply_in : Told → Option Tuple
reply_in t = reply_of (Some t.result)

abbrev pub why_in : Told → Option Why
why_in t = why_of (Some t.result)

abbrev pub holder_in : Told → Option Name
holder_in t = holder_of (Some t.result)

-- the tuples replied, in order
abbrev pub replies_in : List Told → List Tuple
replies_in told = filter_map reply_in told

-- the newest configuration among a first one, of generation 0, and those replied; the earliest of equals
abbrev pub newest_in : Voting → List Told → Newest
newest_in first told = fold newer (record { generation = 0; config = first }) (replies_in told)

-- the value of the greatest version among those replied; the earliest of equals
abbrev pub greatest_in : List Told → Greatest
greatest_in told = greatest_among (replies_in told)

-- whether a copy was asked, and whether it replied
abbrev pub was_asked : List Told → ℕ → Bool
was_asked told copy = list_any (λ (t : Told). t.copy == copy) told

abbrev pub replied_by : List Told → ℕ → Bool
replied_by told copy = list_any (λ (t : Told). (t.copy == copy) && is_some (reply_in t)) told

-- the copies that replied
abbrev pub replied_in : List Told → List Bool
replied_in told = map (replied_by told) all_copies

-- why a copy is missing
abbrev pub missing_in : List Told → ℕ → Option Why
missing_in told copy = option_and_then why_in (find (λ (t : Told). t.copy == copy) told)

-- the first that is blocked
abbrev pub blocked_in : List Told → Option Told
blocked_in told = find (λ (t : Told). is_some (holder_in t)) told

-- the copy that is asked next: the least with votes that was not asked
abbrev pub next_in : Voting → List Told → Option ℕ
next_in config told = find (λ copy. nat_lt 0 (votes_of config copy) && not (was_asked told copy)) all_copies

-- who replied in a phase, and why others are missing
abbrev pub lack_in : Phase → List Told → Lack
lack_in phase told = record { phase = phase; replied = replied_in told; missing = map (missing_in told) all_copies }
