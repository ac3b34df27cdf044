-- Which entry may follow which history.
use Rattle.std.specs.Prelude.{ℕ, [], ◌∷◌}
use Rattle.qc_event.specs.Base.{Setting}
use Rattle.qc_event.specs.declared.event.Entry.{Entry}
use Rattle.qc_event.specs.declared.event.Event.{Event}
use Rattle.qc_event.specs.declared.event.Event.TheVariants as event
use Rattle.qc_event.specs.declared.event.How.{How}
use Rattle.qc_event.specs.declared.event.How.TheVariants.{Commit, Abort}
use Rattle.qc_event.specs.History.{Past, Name, Begun}
use Rattle.qc_event.specs.Standing.{Started}
use Rattle.qc_event.specs.Users.{MayMark, MayReady, MayAbort}
use Rattle.qc_event.specs.Starts.{Starts}
use Rattle.qc_event.specs.Requests.{MayAsk, MayGiveUp, MayBeUnable}
use Rattle.qc_event.specs.Grants.{MayGrant, MayRefuse}
use Rattle.qc_event.specs.Commits.{MayCommit}
use Rattle.qc_event.specs.Aborts.{Licensed}

-- how a started name may end
abbrev pub MayEnd : Setting → Past → ℕ → Name → How → Begun → Type 0
MayEnd setting past seat n (Commit given) b = MayCommit setting past seat n b given b.kind
MayEnd setting past seat n (Abort c) b = MayAbort (Licensed setting past seat n b b.kind c) past seat n

-- the event may come next, under this seat
abbrev pub MayHappen : Setting → Past → ℕ → Event → Type 0
MayHappen setting past seat (event.Start n k) = Starts setting past seat n k
MayHappen setting past seat (event.Ask ask) = MayAsk setting past seat ask
MayHappen setting past seat (event.Gone access why) = MayGiveUp past seat access why
MayHappen setting past seat (event.Granted copy grant) = MayGrant setting past seat copy grant
MayHappen setting past seat (event.Refused access copy refusal) = MayRefuse past seat access copy refusal
MayHappen setting past seat (event.Unable n why) = MayBeUnable past seat n why
MayHappen setting past seat (event.Mark by session) = MayMark past seat by session
MayHappen setting past seat (event.Ready top) = MayReady past seat top
MayHappen setting past seat (event.End n how) = Started past n (MayEnd setting past seat n how)

-- the entry may come next
abbrev pub Allowed : Setting → Past → Entry → Type 0
Allowed setting past e = MayHappen setting past e.seat e.event

-- A history is legal where each entry is allowed by those before it.
abbrev pub Legal : Setting → Past → Type 0
Legal setting [] = Unit {0}
Legal setting (e ∷ past) = Legal setting past × Allowed setting past e
