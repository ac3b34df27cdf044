-- The bodies of events.
use Rattle.std.specs.Prelude.{ℕ, Bool, nat_le, Option, None, Some}
use Rattle.qc_config.specs.Config.{Voting}
use Rattle.qc_config.specs.Val.{Datum}
use Rattle.qc_config.specs.declared.tuple.Op.{Op}
use Rattle.qc_config.specs.declared.tuple.Op.TheVariants.{Get, PutData, PutConfig}
use Rattle.qc_config.specs.declared.tuple.Tuple.{Tuple}
use Rattle.qc_event.specs.declared.event.Answer.{Answer}
use Rattle.qc_event.specs.declared.event.Answer.TheVariants.{Nothing, Value, Generation, Reply}
use Rattle.qc_event.specs.declared.event.Ask.{Ask}
use Rattle.qc_event.specs.declared.event.Cause.{Cause}
use Rattle.qc_event.specs.declared.event.Cause.TheVariants as cause_is
use Rattle.qc_event.specs.declared.event.Entry.{Entry}
use Rattle.qc_event.specs.declared.event.Event.{Event}
use Rattle.qc_event.specs.declared.event.Event.TheVariants as event_is
use Rattle.qc_event.specs.declared.event.Grant.{Grant}
use Rattle.qc_event.specs.declared.event.How.{How}
use Rattle.qc_event.specs.declared.event.How.TheVariants.{Commit, Abort}
use Rattle.qc_event.specs.declared.event.Kind.{Kind}
use Rattle.qc_event.specs.declared.event.Kind.TheVariants.{User, Read, Write, Reconf, Access}
use Rattle.qc_event.specs.declared.event.Lack.{Lack}
use Rattle.qc_event.specs.declared.event.Refusal.{Refusal}
use Rattle.qc_event.specs.declared.event.Refusal.TheVariants.{Blocked, Dead}
use Rattle.qc_event.specs.declared.event.Why.{Why}
use Rattle.qc_event.specs.History.{Name}
use Rattle.qc_codec.specs.Form.{Form, Any, byte, pair, as_another, only, just, variant, under, nothing, choose}
use Rattle.qc_codec.specs.Fields.{Layout, word, long, name, datum, config, tuple}
use Rattle.qc_codec.specs.Bodies.{code_of, granted}
use Rattle.qc_trail_codec.specs.Reasons.{why, inability, lack}

-- OPERATIONS

abbrev pub data_of : Op → Option (ℕ × Datum)
data_of (PutData version value) = Some (version, value)
data_of _ = None

abbrev pub config_of : Op → Option (ℕ × Voting)
config_of (PutConfig generation c) = Some (generation, c)
config_of _ = None

abbrev pub put_data : ℕ × Datum → Op
put_data p = PutData p.0 p.1

abbrev pub put_config : ℕ × Voting → Op
put_config p = PutConfig p.0 p.1

unfoldable pub op : Layout → Form Op
op layout = choose code_of
    (under 0 (just Get)
    (under 1 (variant put_data data_of (pair long (λ version. datum layout.format)))
    (under 2 (variant put_config config_of (pair long (λ generation. config layout)))
    nothing)))

-- KINDS

abbrev pub kind_tag : Kind → ℕ
kind_tag (User n body) = 0
kind_tag (Read rec) = 1
kind_tag (Write rec value) = 2
kind_tag (Reconf rec c) = 3
kind_tag Access = 4

abbrev pub user_of : Kind → Option (ℕ × ℕ)
user_of (User n body) = Some (n, body)
user_of _ = None

abbrev pub read_of : Kind → Option ℕ
read_of (Read rec) = Some rec
read_of _ = None

abbrev pub write_of : Kind → Option (ℕ × Datum)
write_of (Write rec value) = Some (rec, value)
write_of _ = None

abbrev pub reconf_of : Kind → Option (ℕ × Voting)
reconf_of (Reconf rec c) = Some (rec, c)
reconf_of _ = None

abbrev pub user : ℕ × ℕ → Kind
user p = User p.0 p.1

abbrev pub write : ℕ × Datum → Kind
write p = Write p.0 p.1

abbrev pub reconf : ℕ × Voting → Kind
reconf p = Reconf p.0 p.1

unfoldable pub kind : Layout → Form Kind
kind layout = choose kind_tag
    (under 0 (variant user user_of (pair byte (λ n. word)))
    (under 1 (variant Read read_of byte)
    (under 2 (variant write write_of (pair byte (λ rec. datum layout.format)))
    (under 3 (variant reconf reconf_of (pair byte (λ rec. config layout)))
    (under 4 (just Access)
    nothing)))))

-- ENDS

abbrev pub answer_tag : Answer → ℕ
answer_tag Nothing = 0
answer_tag (Value value) = 1
answer_tag (Generation generation) = 2
answer_tag (Reply t) = 3

abbrev pub value_of : Answer → Option Datum
value_of (Value value) = Some value
value_of _ = None

abbrev pub generation_of : Answer → Option ℕ
generation_of (Generation generation) = Some generation
generation_of _ = None

abbrev pub reply_of : Answer → Option Tuple
reply_of (Reply t) = Some t
reply_of _ = None

unfoldable pub answer : Layout → Form Answer
answer layout = choose answer_tag
    (under 0 (just Nothing)
    (under 1 (variant Value value_of (datum layout.format))
    (under 2 (variant Generation generation_of long)
    (under 3 (variant Reply reply_of (tuple layout))
    nothing))))

abbrev pub cause_tag : Cause → ℕ
cause_tag (cause_is.Asked by) = 0
cause_tag (cause_is.Conflict copy holder) = 1
cause_tag (cause_is.NoQuorum l) = 2
cause_tag cause_is.Last = 3
cause_tag (cause_is.Orphan ancestor) = 4
cause_tag cause_is.Killed = 5
cause_tag (cause_is.Child child) = 6
cause_tag cause_is.Missed = 7

abbrev pub asked_of : Cause → Option Name
asked_of (cause_is.Asked by) = Some by
asked_of _ = None

abbrev pub conflict_of : Cause → Option (ℕ × Name)
conflict_of (cause_is.Conflict copy holder) = Some (copy, holder)
conflict_of _ = None

abbrev pub lack_of : Cause → Option Lack
lack_of (cause_is.NoQuorum l) = Some l
lack_of _ = None

abbrev pub orphan_of : Cause → Option Name
orphan_of (cause_is.Orphan ancestor) = Some ancestor
orphan_of _ = None

abbrev pub child_of : Cause → Option Name
child_of (cause_is.Child child) = Some child
child_of _ = None

abbrev pub conflict : ℕ × Name → Cause
conflict p = cause_is.Conflict p.0 p.1

unfoldable pub cause : Form Cause
cause = choose cause_tag
    (under 0 (variant cause_is.Asked asked_of (name 1))
    (under 1 (variant conflict conflict_of (pair byte (λ copy. name 1)))
    (under 2 (variant cause_is.NoQuorum lack_of lack)
    (under 3 (just cause_is.Last)
    (under 4 (variant cause_is.Orphan orphan_of (name 1))
    (under 5 (just cause_is.Killed)
    (under 6 (variant cause_is.Child child_of (name 1))
    (under 7 (just cause_is.Missed)
    nothing))))))))

abbrev pub how_tag : How → ℕ
how_tag (Commit a) = 0
how_tag (Abort c) = 1

abbrev pub commit_of : How → Option Answer
commit_of (Commit a) = Some a
commit_of _ = None

abbrev pub abort_of : How → Option Cause
abort_of (Abort c) = Some c
abort_of _ = None

unfoldable pub how : Layout → Form How
how layout = choose how_tag
    (under 0 (variant Commit commit_of (answer layout))
    (under 1 (variant Abort abort_of cause)
    nothing))

-- REQUESTS AND REFUSALS

unfoldable pub ask : Layout → Form Ask
ask layout = as_another (λ p. record { access = p.0; copy = p.1.0; rec = p.1.1.0; op = p.1.1.1 }) (λ (a : Ask). (a.access, (a.copy, (a.rec, a.op)))) Any
    (pair (name 1) (λ access. pair byte (λ copy. pair byte (λ rec. op layout))))

abbrev pub refusal_tag : Refusal → ℕ
refusal_tag (Blocked holder) = 0
refusal_tag (Dead ancestor) = 1

abbrev pub blocked_of : Refusal → Option Name
blocked_of (Blocked holder) = Some holder
blocked_of _ = None

abbrev pub dead_of : Refusal → Option Name
dead_of (Dead ancestor) = Some ancestor
dead_of _ = None

unfoldable pub refusal : Form Refusal
refusal = choose refusal_tag
    (under 0 (variant Blocked blocked_of (name 1))
    (under 1 (variant Dead dead_of (name 1))
    nothing))

-- EVENTS

abbrev pub event_tag : Event → ℕ
event_tag (event_is.Start n k) = 1
event_tag (event_is.Ask a) = 2
event_tag (event_is.Gone access w) = 3
event_tag (event_is.Granted copy grant) = 4
event_tag (event_is.Refused access copy r) = 5
event_tag (event_is.Ready top) = 6
event_tag (event_is.End n h) = 7
event_tag (event_is.Unable n w) = 8
event_tag (event_is.Mark by n) = 9

abbrev pub start_of : Event → Option (Name × Kind)
start_of (event_is.Start n k) = Some (n, k)
start_of _ = None

abbrev pub ask_of : Event → Option Ask
ask_of (event_is.Ask a) = Some a
ask_of _ = None

abbrev pub gone_of : Event → Option (Name × Why)
gone_of (event_is.Gone access w) = Some (access, w)
gone_of _ = None

abbrev pub granted_of : Event → Option (ℕ × Grant)
granted_of (event_is.Granted copy grant) = Some (copy, grant)
granted_of _ = None

abbrev pub refused_of : Event → Option (Name × (ℕ × Refusal))
refused_of (event_is.Refused access copy r) = Some (access, (copy, r))
refused_of _ = None

abbrev pub ready_of : Event → Option Name
ready_of (event_is.Ready top) = Some top
ready_of _ = None

abbrev pub end_of : Event → Option (Name × How)
end_of (event_is.End n h) = Some (n, h)
end_of _ = None

abbrev pub unable_of : Event → Option (Name × Why)
unable_of (event_is.Unable n w) = Some (n, w)
unable_of _ = None

abbrev pub mark_of : Event → Option (Name × ℕ)
mark_of (event_is.Mark by n) = Some (by, n)
mark_of _ = None

abbrev pub start : Name × Kind → Event
start p = event_is.Start p.0 p.1

abbrev pub gone : Name × Why → Event
gone p = event_is.Gone p.0 p.1

abbrev pub grant_of_copy : ℕ × Grant → Event
grant_of_copy p = event_is.Granted p.0 p.1

abbrev pub refused : Name × (ℕ × Refusal) → Event
refused p = event_is.Refused p.0 p.1.0 p.1.1

abbrev pub end : Name × How → Event
end p = event_is.End p.0 p.1

abbrev pub unable : Name × Why → Event
unable p = event_is.Unable p.0 p.1

abbrev pub mark : Name × ℕ → Event
mark p = event_is.Mark p.0 p.1

-- the sessions that may be marked are sixteen
abbrev pub is_session : ℕ → Bool
is_session n = nat_le n 15

-- the session of a mark
abbrev pub session : Form ℕ
session = only is_session byte

unfoldable pub event : Layout → Form Event
event layout = choose event_tag
    (under 1 (variant start start_of (pair (name 1) (λ n. kind layout)))
    (under 2 (variant event_is.Ask ask_of (ask layout))
    (under 3 (variant gone gone_of (pair (name 1) (λ access. why)))
    (under 4 (variant grant_of_copy granted_of (pair byte (λ copy. granted 1 layout)))
    (under 5 (variant refused refused_of (pair (name 1) (λ access. pair byte (λ copy. refusal))))
    (under 6 (variant event_is.Ready ready_of (name 1))
    (under 7 (variant end end_of (pair (name 1) (λ n. how layout)))
    (under 8 (variant unable unable_of (pair (name 1) (λ n. inability)))
    (under 9 (variant mark mark_of (pair (name 1) (λ by. session)))
    nothing)))))))))

-- a step, and the seat under which it was made
unfoldable pub entry : Layout → Form Entry
entry layout = as_another (λ p. record { seat = p.0; event = p.1 }) (λ (e : Entry). (e.seat, e.event)) Any (pair word (λ seat. event layout))
