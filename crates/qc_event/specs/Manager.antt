-- What a manager has learnt from its accesses, and what it does next (Gifford's votes and versions).
use Rattle.std.specs.Prelude.{ℕ, ◌≡◌, ◌+◌, ◌-◌, ◌^◌, ◌==◌, Bool, true, false, ◌&&◌, not, if◌then◌else◌, nat_lt, List, [], ◌∷◌, fold, filter, filter_map, map, find, is_some, is_none, Option, None, Some, MatchOption}
use Rattle.std.specs.List.{list_any, list_all, range_with_len}
use Rattle.std.specs.Option.{option_and_then}
use Rattle.qc_config.specs.Config.{Voting, votes_of, holds_read, holds_write}
use Rattle.qc_config.specs.Val.{Datum, Number}
use Rattle.qc_config.specs.declared.tuple.Tuple.{Tuple}
use Rattle.qc_config.specs.declared.tuple.Op.{Op}
use Rattle.qc_config.specs.declared.tuple.Op.TheVariants.{Get, PutData, PutConfig}
use Rattle.qc_event.specs.declared.event.Ask.{Ask}
use Rattle.qc_event.specs.declared.event.Answer.TheVariants.{Reply}
use Rattle.qc_event.specs.declared.event.How.{How}
use Rattle.qc_event.specs.declared.event.How.TheVariants.{Commit, Abort}
use Rattle.qc_event.specs.declared.event.Kind.{Kind}
use Rattle.qc_event.specs.declared.event.Kind.TheVariants as kind
use Rattle.qc_event.specs.declared.event.Phase.{Phase}
use Rattle.qc_event.specs.declared.event.Phase.TheVariants.{Collect, Values, Configs}
use Rattle.qc_event.specs.declared.event.Refusal.{Refusal}
use Rattle.qc_event.specs.declared.event.Refusal.TheVariants.{Blocked}
use Rattle.qc_event.specs.declared.event.Why.{Why}
use Rattle.qc_event.specs.Base.{Setting, first_of}
use Rattle.qc_event.specs.History.{Past, Name, end, gone, refused, asks}
use Rattle.qc_event.specs.Clear.{is_get}

-- RESULTS

-- What became of an access that was asked and has ended: it replied, it got no answer, or a holder
-- stood in its way.
pub data Result : Type 0 where
  Replied : Tuple → Result
  Missing : Why → Result
  BlockedBy : Name → Result

-- the result by an access's end, its first reason for no answer, and its first refusal
abbrev pub result_by : Option How → Option Why → Option Refusal → Option Result
result_by (Some (Commit (Reply tuple))) why refusal = Some (Replied tuple)
result_by (Some (Abort cause)) (Some why) refusal = Some (Missing why)
result_by (Some (Abort cause)) None (Some (Blocked holder)) = Some (BlockedBy holder)
result_by how why refusal = None

-- The result of an access, where it has one: it replied where it is committed, is missing where it is
-- aborted and was given up, and is blocked where it is aborted, was not given up and was first refused so.
abbrev pub result : Past → Name → Option Result
result past access = result_by (end past access) (gone past access) (refused past access)

-- the tuple of a result that is a reply
abbrev pub reply_of : Option Result → Option Tuple
reply_of (Some (Replied tuple)) = Some tuple
reply_of _ = None

-- the reason of a result that is missing
abbrev pub why_of : Option Result → Option Why
why_of (Some (Missing why)) = Some why
why_of _ = None

-- the holder of a result that is blocked
abbrev pub holder_of : Option Result → Option Name
holder_of (Some (BlockedBy holder)) = Some holder
holder_of _ = None

-- the tuple that an access replied
abbrev pub reply : Past → Name → Option Tuple
reply past access = reply_of (result past access)

-- why an access is missing
abbrev pub missing : Past → Name → Option Why
missing past access = why_of (result past access)

-- the holder by which an access is blocked
abbrev pub blocked_by : Past → Name → Option Name
blocked_by past access = holder_of (result past access)

-- PHASES

-- the phase in which an operation is asked for
abbrev pub phase_of : Op → Phase
phase_of Get = Collect
phase_of (PutData version value) = Values
phase_of (PutConfig generation config) = Configs

-- whether two phases are the same
abbrev pub is_phase : Phase → Phase → Bool
is_phase Collect Collect = true
is_phase Values Values = true
is_phase Configs Configs = true
is_phase _ _ = false

-- what a manager asked in a phase, in order
abbrev pub asks_in : Past → Name → Phase → List Ask
asks_in past m phase = filter (λ (ask : Ask). is_phase phase (phase_of ask.op)) (asks past m)

-- a manager's request to a copy in a phase
abbrev pub ask_at : Past → Name → Phase → ℕ → Option Ask
ask_at past m phase copy = find (λ (ask : Ask). ask.copy == copy) (asks_in past m phase)

-- whether a copy replied to a manager in a phase
abbrev pub has_replied : Past → Name → Phase → ℕ → Bool
has_replied past m phase copy = list_any (λ (ask : Ask). (ask.copy == copy) && is_some (reply past ask.access)) (asks_in past m phase)

-- the numbers that a copy may have
abbrev pub all_copies : List ℕ
all_copies = range_with_len 0 16

-- the copies that replied to a manager in a phase
abbrev pub replied : Past → Name → Phase → List Bool
replied past m phase = map (has_replied past m phase) all_copies

-- why a copy is missing in a phase
abbrev pub missing_at : Past → Name → Phase → ℕ → Option Why
missing_at past m phase copy = option_and_then (λ (ask : Ask). missing past ask.access) (ask_at past m phase copy)

-- the first request of a phase whose access is blocked
abbrev pub first_blocked : Past → Name → Phase → Option Ask
first_blocked past m phase = find (λ (ask : Ask). is_some (blocked_by past ask.access)) (asks_in past m phase)

-- WHAT WAS COLLECTED

-- the tuples that a manager's reads gave, in order
abbrev pub replies : Past → Name → List Tuple
replies past m = filter_map (λ (ask : Ask). reply past ask.access) (filter (λ (ask : Ask). is_get ask.op) (asks past m))

-- a configuration and its generation
pub record Newest : Type 0 where
  pub generation : ℕ
  pub config : Voting

-- the newer of two, the one before where their generations are equal
abbrev pub newer : Newest → Tuple → Newest
newer best t = if nat_lt best.generation t.generation then record { generation = t.generation; config = t.config } else best

-- A manager's newest configuration: that of the greatest generation among the record's first one, of
-- generation 0, and those replied; the earliest of equals.
abbrev pub newest : Past → Voting → Name → Newest
newest past first m = fold newer (record { generation = 0; config = first }) (replies past m)

-- a value and its version
pub record Greatest : Type 0 where
  pub version : ℕ
  pub value : Datum

-- the greater of two, the one before where their versions are equal
abbrev pub greater : Greatest → Tuple → Greatest
greater best t = if nat_lt best.version t.version then record { version = t.version; value = t.value } else best

-- the value of the greatest version among tuples; where there are none, no rule asks for it
abbrev pub greatest_among : List Tuple → Greatest
greatest_among [] = record { version = 0; value = Number 0 }
greatest_among (first ∷ tuples) = fold greater (record { version = first.version; value = first.value }) tuples

-- a manager's value of the greatest version among those replied; the earliest of equals
abbrev pub greatest : Past → Name → Greatest
greatest past m = greatest_among (replies past m)

-- STAGES

-- A stage of a manager: its phase, the configuration that counts there, what is asked, and whether a
-- write quorum is needed and not a read quorum.
pub record Stage : Type 0 where
  pub phase : Phase
  pub config : Voting
  pub op : Op
  pub writes : Bool

-- the stage of the collection, by the newest configuration
abbrev pub collecting : Newest → Stage
collecting now = record { phase = Collect; config = now.config; op = Get; writes = false }

-- what a kind of manager does, stage by stage, by what it has collected
abbrev pub stages_by : Kind → Newest → Greatest → List Stage
stages_by (kind.Read rec) now found = collecting now ∷ []
stages_by (kind.Write rec value) now found =
    collecting now
    ∷ record { phase = Values; config = now.config; op = PutData (found.version + 1) value; writes = true }
    ∷ []
stages_by (kind.Reconf rec config) now found =
    collecting now
    ∷ record { phase = Values; config = config; op = PutData found.version found.value; writes = true }
    ∷ record { phase = Configs; config = now.config; op = PutConfig (now.generation + 1) config; writes = true }
    ∷ []
stages_by _ now found = []

-- whether the number that a kind of manager would raise is the last one
abbrev pub is_last : Kind → Newest → Greatest → Bool
is_last (kind.Write rec value) now found = found.version == 2 ^ 64 - 1
is_last (kind.Reconf rec config) now found = now.generation == 2 ^ 64 - 1
is_last _ now found = false

-- whether the copies that replied in a stage hold its quorum
abbrev pub is_enough : Past → Name → Stage → Bool
is_enough past m stage =
    if stage.writes then holds_write stage.config (replied past m stage.phase) else holds_read stage.config (replied past m stage.phase)

-- THE MANAGER

-- A manager is at its last number where it has collected enough, and the number to raise is the last.
abbrev pub at_last_number : Past → Voting → Name → Kind → Bool
at_last_number past first m k = is_enough past m (collecting (newest past first m)) && is_last k (newest past first m) (greatest past m)

-- the stages of a manager, in order
abbrev pub stages : Past → Voting → Name → Kind → List Stage
stages past first m k = stages_by k (newest past first m) (greatest past m)

-- the stage at which a manager is: the first that is not enough, and none at its last number
abbrev pub stage : Past → Voting → Name → Kind → Option Stage
stage past first m k = if at_last_number past first m k then None else find (λ s. not (is_enough past m s)) (stages past first m k)

-- A manager is complete where each of its stages is enough, and it is not at its last number.
abbrev pub is_complete : Past → Voting → Name → Kind → Bool
is_complete past first m k = not (at_last_number past first m k) && list_all (is_enough past m) (stages past first m k)

-- the copy that is asked next: the least with votes that was not asked in the stage
abbrev pub next_copy : Past → Name → Stage → Option ℕ
next_copy past m s = find (λ copy. nat_lt 0 (votes_of s.config copy) && is_none (ask_at past m s.phase copy)) all_copies

-- the first request of a manager whose access is open
abbrev pub waiting : Past → Name → Option Ask
waiting past m = find (λ (ask : Ask). is_none (end past ask.access)) (asks past m)

-- A manager has failed at its stage where no copy is left to ask, and no access that was asked is open.
pub record HasFailed (past : Past) (m : Name) (s : Stage) : Type 0 where
  pub no_copy : next_copy past m s ≡ None
  pub nothing_open : waiting past m ≡ None

-- the record that a manager serves
abbrev pub record_of : Kind → ℕ
record_of (kind.Read rec) = rec
record_of (kind.Write rec value) = rec
record_of (kind.Reconf rec config) = rec
record_of _ = 0

-- the first configuration of the record that a manager serves
abbrev pub first_for : Setting → Kind → Voting
first_for setting k = first_of setting (record_of k)

-- a manager of a kind that is at a stage
abbrev pub AtStage : Setting → Past → Name → Kind → (Stage → Type 0) → Type 0
AtStage setting past m k P = MatchOption (stage past (first_for setting k) m k) ⊥ P
