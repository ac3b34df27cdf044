-- What is printed of a run: a line for each end of a user transaction or a manager, then a line for each top
-- in doubt, then the value of each record, then how many tops there were. What accesses and copies do prints
-- nothing.
use Rattle.std.specs.Prelude.{ℕ, ◌+◌, ◌/◌, ◌%◌, ◌==◌, ◌||◌, nat_lt, Bool, true, false, if◌then◌else◌, List, [], ◌∷◌, ◌++◌, length, map, filter, filter_map, reverse, count_by, codes, slice_get, slice_index_or, Option, None}
use Rattle.std.specs.Fmt.{decimal}
use Rattle.std.specs.List.{flat_map, list_any, zip}
use Rattle.std.specs.Option.{option_map, option_map_or}
use Rattle.qc_names.specs.Name as name
use Rattle.qc_config.specs.Val as val
use Rattle.qc_config.specs.Val.{Datum}
use Rattle.qc_config.specs.Copies.{has}
use Rattle.qc_event.specs.declared.event.Answer.{Answer}
use Rattle.qc_event.specs.declared.event.Answer.TheVariants.{Value, Generation}
use Rattle.qc_event.specs.declared.event.Cause.{Cause}
use Rattle.qc_event.specs.declared.event.Cause.TheVariants as cause
use Rattle.qc_event.specs.declared.event.Entry.{Entry}
use Rattle.qc_event.specs.declared.event.Event.{Event}
use Rattle.qc_event.specs.declared.event.Event.TheVariants.{Start, Ready, End}
use Rattle.qc_event.specs.declared.event.How.{How}
use Rattle.qc_event.specs.declared.event.How.TheVariants.{Commit, Abort}
use Rattle.qc_event.specs.declared.event.Kind.{Kind}
use Rattle.qc_event.specs.declared.event.Kind.TheVariants as kind
use Rattle.qc_event.specs.declared.event.Lack.{Lack}
use Rattle.qc_event.specs.declared.event.Outcome.{Outcome}
use Rattle.qc_event.specs.declared.event.Outcome.TheVariants as outcome
use Rattle.qc_event.specs.declared.event.Phase.{Phase}
use Rattle.qc_event.specs.declared.event.Phase.TheVariants.{Collect, Values, Configs}
use Rattle.qc_event.specs.declared.event.Why.{Why}
use Rattle.qc_event.specs.declared.event.Why.TheVariants.{Lost, Late, Down, Full, Strange}
use Rattle.qc_event.specs.declared.table.Row.{Row}
use Rattle.qc_event.specs.declared.table.Table.{Table}
use Rattle.qc_event.specs.History.{Name, kind_of}
use Rattle.qc_event.specs.Dead as dead
use Rattle.qc_event.specs.Manager.{all_copies}

-- A text, as its bytes.
abbrev pub Text : Type 0
Text = List ℕ

-- the name of a record, and nothing beyond the table
abbrev pub record_name : Table → ℕ → Text
record_name table rec = option_map_or (λ (r : Row). r.name) (slice_get table.records rec) []

-- a digit to the base 16
abbrev pub digit : ℕ → ℕ
digit n = if nat_lt n 10 then 48 + n else 87 + n

-- a byte of a text between its quotes: behind a backslash where it is a quote or a backslash, by its number where it is
-- a control, and else as it is
abbrev pub quoted_byte : ℕ → Text
quoted_byte b =
    if b == 34 || b == 92 then 92 ∷ b ∷ []
    else (if nat_lt b 32 then 92 ∷ codes "u00" ++ (digit (b / 16) ∷ digit (b % 16) ∷ []) else b ∷ [])

-- a value, as a report has it: a number in digits, and a text between quotes
abbrev pub value_text : Datum → Text
value_text (val.Number n) = decimal n
value_text (val.Text bytes) = codes "\"" ++ (flat_map quoted_byte bytes ++ codes "\"")

-- a read manager has committed with a value
abbrev pub read_line : Table → Name → ℕ → Answer → Text
read_line table n rec (Value v) = codes "read " ++ name.text n ++ codes " " ++ record_name table rec ++ codes " " ++ value_text v ++ codes "\n"
read_line table n rec _ = []

-- a write manager of a value has committed
abbrev pub set_line : Table → Name → ℕ → Datum → Text
set_line table n rec v = codes "set " ++ name.text n ++ codes " " ++ record_name table rec ++ codes " " ++ value_text v ++ codes "\n"

-- a reconfigure manager has committed with a generation
abbrev pub reconf_line : Table → Name → ℕ → Answer → Text
reconf_line table n rec (Generation g) = codes "reconf " ++ name.text n ++ codes " " ++ record_name table rec ++ codes " " ++ decimal g ++ codes "\n"
reconf_line table n rec _ = []

-- a user transaction has committed
abbrev pub commit_line : Name → Text
commit_line n = codes "commit " ++ name.text n ++ codes "\n"

-- why a transaction was aborted
abbrev pub cause_text : Cause → Text
cause_text (cause.Asked by) = codes "asked " ++ name.text by
cause_text (cause.Conflict copy holder) = codes "conflict"
cause_text (cause.NoQuorum lack) = codes "noquorum"
cause_text cause.Last = codes "last"
cause_text (cause.Orphan ancestor) = codes "orphan " ++ name.text ancestor
cause_text cause.Killed = codes "killed"
cause_text (cause.Child child) = codes "child " ++ name.text child
cause_text cause.Missed = codes "missed"

-- a user transaction has been aborted
abbrev pub abort_line : Name → Cause → Text
abort_line n why = codes "abort " ++ name.text n ++ codes " " ++ cause_text why ++ codes "\n"

-- LACK OF A QUORUM

-- texts with commas between them, and `-` where there are none
abbrev pub listed : List Text → Text
listed [] = codes "-"
listed (first ∷ texts) = first ++ flat_map (λ t. codes "," ++ t) texts

abbrev pub phase_word : Phase → Text
phase_word Collect = codes "collect"
phase_word Values = codes "values"
phase_word Configs = codes "configs"

abbrev pub why_word : Why → Text
why_word Lost = codes "lost"
why_word Late = codes "late"
why_word Down = codes "down"
why_word Full = codes "full"
why_word Strange = codes "strange"

-- the numbers of the copies that replied, rising
abbrev pub replied_list : List Bool → Text
replied_list marks = listed (map decimal (filter (has marks) all_copies))

-- a copy with the reason why it is missing, where it is
abbrev pub missing_item : List (Option Why) → ℕ → Option Text
missing_item missing copy = option_map (λ why. decimal copy ++ codes ":" ++ why_word why) (slice_index_or missing copy None)

-- the copies that are missing, rising
abbrev pub missing_list : List (Option Why) → Text
missing_list missing = listed (filter_map (missing_item missing) all_copies)

-- the phase in which a quorum is lacking, who replied and who did not
abbrev pub lack_text : Lack → Text
lack_text lack = phase_word lack.phase ++ codes " replied " ++ replied_list lack.replied ++ codes " missing " ++ missing_list lack.missing

-- ABORTED MANAGERS

-- a lock of another access stood in a manager's way at a copy
abbrev pub conflict_line : Table → Name → ℕ → ℕ → Name → Text
conflict_line table n rec copy holder = codes "conflict " ++ name.text n ++ codes " " ++ record_name table rec ++ codes " copy " ++ decimal copy ++ codes " holder " ++ name.text holder ++ codes "\n"

-- too few copies replied to a manager in a phase
abbrev pub no_quorum_line : Table → Name → ℕ → Lack → Text
no_quorum_line table n rec lack = codes "noquorum " ++ name.text n ++ codes " " ++ record_name table rec ++ codes " " ++ lack_text lack ++ codes "\n"

-- a manager would have passed the last number
abbrev pub last_line : Table → Name → ℕ → Text
last_line table n rec = codes "last " ++ name.text n ++ codes " " ++ record_name table rec ++ codes "\n"

-- a manager was an orphan of an ancestor
abbrev pub orphan_line : Table → Name → ℕ → Name → Text
orphan_line table n rec ancestor = codes "orphan " ++ name.text n ++ codes " " ++ record_name table rec ++ codes " " ++ name.text ancestor ++ codes "\n"

-- a manager of a record has been aborted
abbrev pub failed_line : Table → Name → ℕ → Cause → Text
failed_line table n rec (cause.Conflict copy holder) = conflict_line table n rec copy holder
failed_line table n rec (cause.NoQuorum lack) = no_quorum_line table n rec lack
failed_line table n rec cause.Last = last_line table n rec
failed_line table n rec (cause.Orphan ancestor) = orphan_line table n rec ancestor
failed_line table n rec _ = []

-- ENDS

-- a transaction that was started for this has committed
abbrev pub committed_line : Table → Name → Answer → Kind → Text
committed_line table n answer (kind.User session body) = commit_line n
committed_line table n answer (kind.Read rec) = read_line table n rec answer
committed_line table n answer (kind.Write rec value) = set_line table n rec value
committed_line table n answer (kind.Reconf rec config) = reconf_line table n rec answer
committed_line table n answer kind.Access = []

-- a transaction that was started for this has been aborted
abbrev pub aborted_line : Table → Name → Cause → Kind → Text
aborted_line table n why (kind.User session body) = abort_line n why
aborted_line table n why (kind.Read rec) = failed_line table n rec why
aborted_line table n why (kind.Write rec value) = failed_line table n rec why
aborted_line table n why (kind.Reconf rec config) = failed_line table n rec why
aborted_line table n why kind.Access = []

-- a transaction that was started for this has ended
abbrev pub end_line : Table → Name → How → Kind → Text
end_line table n (Commit answer) kind = committed_line table n answer kind
end_line table n (Abort why) kind = aborted_line table n why kind

-- the line of an entry, where it is the end of a name that was started
abbrev pub event_line : Table → List Entry → Event → Text
event_line table trail (End n how) = option_map_or (end_line table n how) (kind_of (reverse trail) n) []
event_line table trail _ = []

-- a transaction has not ended
abbrev pub is_live : Outcome → Bool
is_live outcome.Live = true
is_live _ = false

-- the top was ready, and has not ended
abbrev pub in_doubt : List Entry → Event → Bool
in_doubt trail (Ready top) = is_live (dead.outcome (reverse trail) top)
in_doubt trail _ = false

-- the line of a top in doubt
abbrev pub top_line : Name → Text
top_line top = codes "doubt " ++ name.text top ++ codes "\n"

-- the line of a top that was ready and has not ended
abbrev pub doubt_line : List Entry → Event → Text
doubt_line trail (Ready top) = if is_live (dead.outcome (reverse trail) top) then top_line top else []
doubt_line trail _ = []

-- a record, and its value at the end
abbrev pub final_line : Row → Datum → Text
final_line row v = codes "final " ++ row.name ++ codes " " ++ value_text v ++ codes "\n"

-- the name of a top has one number
abbrev pub is_top : Name → Bool
is_top n = length n == 1

-- a top starts
abbrev pub starts_top : Event → Bool
starts_top (Start n kind) = is_top n
starts_top _ = false

-- a top commits
abbrev pub commits_top : Event → Bool
commits_top (End n (Commit answer)) = is_top n
commits_top _ = false

-- a top is aborted
abbrev pub aborts_top : Event → Bool
aborts_top (End n (Abort why)) = is_top n
aborts_top _ = false

-- how many entries pass a test
abbrev pub entries_of : (Event → Bool) → List Entry → ℕ
entries_of test trail = count_by (λ (e : Entry). test e.event) trail

-- so many tops were started, committed and aborted, and so many are in doubt
abbrev pub tally_line : ℕ → ℕ → ℕ → ℕ → Text
tally_line started committed aborted doubt = codes "tops " ++ decimal started ++ codes " committed " ++ decimal committed ++ codes " aborted " ++ decimal aborted ++ codes " doubt " ++ decimal doubt ++ codes "\n"

-- how many tops a history started, committed and aborted, and how many it left in doubt
abbrev pub tally : List Entry → Text
tally trail = tally_line (entries_of starts_top trail) (entries_of commits_top trail) (entries_of aborts_top trail) (entries_of (in_doubt trail) trail)

-- whether any top was ready and has not ended
abbrev pub has_doubt : List Entry → Bool
has_doubt trail = list_any (λ (e : Entry). in_doubt trail e.event) trail

-- the lines of a history, entry by entry
abbrev pub event_lines : Table → List Entry → List Entry → Text
event_lines table trail entries = flat_map (λ (e : Entry). event_line table trail e.event) entries

-- the lines of the tops in doubt, entry by entry
abbrev pub doubt_lines : List Entry → List Entry → Text
doubt_lines trail entries = flat_map (λ (e : Entry). doubt_line trail e.event) entries

-- the lines of records with their values
abbrev pub final_lines : List (Row × Datum) → Text
final_lines records = flat_map (λ (p : Row × Datum). final_line p.0 p.1) records

-- the values of records, and how many tops there were
abbrev pub summary : Table → List Datum → List Entry → Text
summary table finals trail = final_lines (zip table.records finals) ++ tally trail

-- what is printed of a run of these records, which left these values and this history, the oldest entry first
abbrev pub report : Table → List Datum → List Entry → Text
report table finals trail = event_lines table trail trail ++ doubt_lines trail trail ++ summary table finals trail
