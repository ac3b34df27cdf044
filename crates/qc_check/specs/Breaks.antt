-- Which rule of a legal history an entry breaks that is not allowed: the first of its event's rules. The last
-- rule of each kind of event stands for all that is left.
use Rattle.std.specs.Prelude.{ℕ, ◌≡◌, ◌+◌, ◌⊎◌, IsTrue, None, IfNone, MatchOption}
use Rattle.qc_names.specs.Name as name
use Rattle.qc_check.specs.declared.rule.Rule.{Rule}
use Rattle.qc_check.specs.declared.rule.Rule.TheVariants as rule
use Rattle.qc_check.specs.Parts.{WasAskedFor, ask_for}
use Rattle.qc_event.specs.Aborts.{Licensed}
use Rattle.qc_event.specs.Base.{Setting}
use Rattle.qc_event.specs.Dead.{dead}
use Rattle.qc_event.specs.History.{Past, Name, granted}
use Rattle.qc_event.specs.Manager.{first_for, is_complete, waiting}
use Rattle.qc_event.specs.Seen.{holder}
use Rattle.qc_event.specs.Seats.{ledger_seat, is_client}
use Rattle.qc_event.specs.Standing.{open_child, IsManager, Started}
use Rattle.qc_event.specs.declared.event.Ask.{Ask}
use Rattle.qc_event.specs.declared.event.Cause.{Cause}
use Rattle.qc_event.specs.declared.event.Entry.{Entry}
use Rattle.qc_event.specs.declared.event.Event.{Event}
use Rattle.qc_event.specs.declared.event.Event.TheVariants as event
use Rattle.qc_event.specs.declared.event.Grant.{Grant}
use Rattle.qc_event.specs.declared.event.How.{How}
use Rattle.qc_event.specs.declared.event.How.TheVariants.{Commit, Abort}
use Rattle.qc_event.specs.declared.event.Kind.{Kind}

-- the seat is one under which such an event may be
abbrev pub SeatFits : ℕ → Event → Type 0
SeatFits seat (event.Granted copy grant) = seat ≡ copy + 2
SeatFits seat (event.Refused access copy refusal) = seat ≡ copy + 2
SeatFits seat (event.Unable n why) = Unit {0}
SeatFits seat (event.End n (Commit given)) = (seat ≡ ledger_seat) ⊎ IsTrue (is_client seat)
SeatFits seat _ = IsTrue (is_client seat)

-- what a request breaks
abbrev pub AskBreaks : Past → Ask → Rule → Type 0
AskBreaks past ask rule.Waiting = waiting past (name.front ask.access) ≡ None → ⊥
AskBreaks past ask rule.Ask = waiting past (name.front ask.access) ≡ None
AskBreaks past ask _ = ⊥

-- the copy was asked for what it grants
abbrev pub WasAsked : Past → ℕ → Grant → Type 0
WasAsked past copy g = WasAskedFor past (ask_for copy g)

-- a live access finds no grant in its way
abbrev pub IsFree : Past → ℕ → Grant → Type 0
IsFree past copy g = IfNone (dead past g.access) (holder past copy g.rec g.op g.access ≡ None)

-- what a grant breaks
abbrev pub GrantBreaks : Past → ℕ → Grant → Rule → Type 0
GrantBreaks past copy g rule.Wanted = WasAsked past copy g → ⊥
GrantBreaks past copy g rule.Once = WasAsked past copy g × (granted past g.access ≡ None → ⊥)
GrantBreaks past copy g rule.Clear = WasAsked past copy g × (granted past g.access ≡ None) × (IsFree past copy g → ⊥)
GrantBreaks past copy g rule.Tuple = WasAsked past copy g × (granted past g.access ≡ None) × IsFree past copy g
GrantBreaks past copy g _ = ⊥

-- what a transaction breaks that is said to be ready
abbrev pub ReadyBreaks : Past → Name → Rule → Type 0
ReadyBreaks past top rule.OpenChild = open_child past top ≡ None → ⊥
ReadyBreaks past top rule.Ready = open_child past top ≡ None
ReadyBreaks past top _ = ⊥

-- what is a manager is not complete
abbrev pub FallsShort : Setting → Past → Name → Kind → Type 0
FallsShort setting past m k = IsManager k × (IsTrue (is_complete past (first_for setting k) m k) → ⊥)

-- a started manager that is not complete
abbrev pub IsIncomplete : Setting → Past → Name → Type 0
IsIncomplete setting past n = Started past n (λ b. FallsShort setting past n b.kind)

-- what a commit breaks
abbrev pub CommitBreaks : Setting → Past → Name → Rule → Type 0
CommitBreaks setting past n rule.OpenChild = open_child past n ≡ None → ⊥
CommitBreaks setting past n rule.Complete = (open_child past n ≡ None) × IsIncomplete setting past n
CommitBreaks setting past n rule.Commit = (open_child past n ≡ None) × (IsIncomplete setting past n → ⊥)
CommitBreaks setting past n _ = ⊥

-- a started name's abort has its licence
abbrev pub HasLicence : Setting → Past → ℕ → Name → Cause → Type 0
HasLicence setting past seat n c = Started past n (λ b. Licensed setting past seat n b b.kind c)

-- what an abort breaks
abbrev pub AbortBreaks : Setting → Past → ℕ → Name → Cause → Rule → Type 0
AbortBreaks setting past seat n c rule.Licence = HasLicence setting past seat n c → ⊥
AbortBreaks setting past seat n c rule.Abort = HasLicence setting past seat n c
AbortBreaks setting past seat n c _ = ⊥

-- what an end breaks
abbrev pub EndBreaks : Setting → Past → ℕ → Name → How → Rule → Type 0
EndBreaks setting past seat n (Commit given) r = CommitBreaks setting past n r
EndBreaks setting past seat n (Abort c) r = AbortBreaks setting past seat n c r

-- what an event breaks under a seat that fits
abbrev pub EventBreaks : Setting → Past → ℕ → Event → Rule → Type 0
EventBreaks setting past seat (event.Start n k) r = r ≡ rule.Start
EventBreaks setting past seat (event.Ask ask) r = AskBreaks past ask r
EventBreaks setting past seat (event.Gone access why) r = r ≡ rule.Gone
EventBreaks setting past seat (event.Granted copy grant) r = GrantBreaks past copy grant r
EventBreaks setting past seat (event.Refused access copy refusal) r = r ≡ rule.Refused
EventBreaks setting past seat (event.Unable n why) r = r ≡ rule.Unable
EventBreaks setting past seat (event.Mark by session) r = r ≡ rule.Mark
EventBreaks setting past seat (event.Ready top) r = ReadyBreaks past top r
EventBreaks setting past seat (event.End n how) r = EndBreaks setting past seat n how r

-- what an entry breaks
abbrev pub Breaks : Setting → Past → Entry → Rule → Type 0
Breaks setting past e rule.Seat = SeatFits e.seat e.event → ⊥
Breaks setting past e r = SeatFits e.seat e.event × EventBreaks setting past e.seat e.event r
