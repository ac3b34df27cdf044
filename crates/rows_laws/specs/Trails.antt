-- Trails of small scripts: some follow them, and some only seem to.
use Rattle.std.specs.Prelude.{◌==◌, if◌then◌else◌, ℕ, List, [], ◌∷◌, ◌++◌, None, Some, replicate, take, false, ◌+◌}
use Rattle.qc_config.specs.Config.{Voting}
use Rattle.qc_config.specs.Val.{Number}
use Rattle.qc_config.specs.declared.tuple.Tuple.{Tuple}
use Rattle.qc_config.specs.declared.tuple.Op.{Op}
use Rattle.qc_config.specs.declared.tuple.Op.TheVariants.{Get, PutData}
use Rattle.qc_event.specs.declared.event.Answer.TheVariants as answer
use Rattle.qc_event.specs.declared.event.Cause.{Cause}
use Rattle.qc_event.specs.declared.event.Cause.TheVariants as cause
use Rattle.qc_event.specs.declared.event.Entry.{Entry}
use Rattle.qc_event.specs.declared.event.Event.{Event}
use Rattle.qc_event.specs.declared.event.Event.TheVariants as event
use Rattle.qc_event.specs.declared.event.How.TheVariants.{Commit, Abort}
use Rattle.qc_event.specs.declared.event.Kind.TheVariants as kind
use Rattle.qc_event.specs.declared.event.Phase.TheVariants.{Collect}
use Rattle.qc_event.specs.declared.event.Why.{Why}
use Rattle.qc_event.specs.declared.event.Why.TheVariants.{Lost, Down}
use Rattle.qc_event.specs.declared.event.Refusal.TheVariants.{Blocked}
use Rattle.qc_event.specs.History.{Name}
use Rattle.qc_event.specs.Seats.{ledger_seat, copy_seat, client_seat, number_in}
use Rattle.qc_script.specs.Plan.{Plan, Numbered, manage_then}
use Rattle.qc_net.specs.declared.link.Fate.TheVariants.{LoseAsk, Deliver}
use Rattle.qc_net.specs.Messages.{Net}

-- the seat of the client
abbrev pub client : ℕ
client = client_seat

-- the seat of another client
abbrev pub other_client : ℕ
other_client = client_seat + 1

-- the seat of a third client
abbrev pub third_client : ℕ
third_client = client_seat + 2

-- the only copy
abbrev pub only_copy : ℕ
only_copy = 0

-- the seat of the only copy
abbrev pub site : ℕ
site = copy_seat only_copy

-- the only record
abbrev pub x : ℕ
x = 0

abbrev pub top : Name
top = number_in 1 1 ∷ []

abbrev pub top2 : Name
top2 = number_in 1 2 ∷ []

abbrev pub first_child : Name
first_child = number_in 1 1 ∷ 1 ∷ []

abbrev pub second_child : Name
second_child = number_in 1 1 ∷ 2 ∷ []

abbrev pub grandchild : Name
grandchild = number_in 1 1 ∷ 1 ∷ 1 ∷ []

abbrev pub reader2 : Name
reader2 = number_in 1 2 ∷ 1 ∷ []

abbrev pub access : Name → ℕ → Name
access (t ∷ m ∷ []) k = t ∷ m ∷ k ∷ []
access n k = n

abbrev pub one : Voting
one = record { votes = 1 ∷ []; read = 1; write = 1 }

abbrev pub old : Tuple
old = record { version = 0; value = Number 0; generation = 0; config = one }

abbrev pub new : Tuple
new = record { version = 1; value = Number 5; generation = 0; config = one }

abbrev pub by : ℕ → Event → Entry
by seat event = record { seat = seat; event = event }

abbrev pub user : ℕ → Name → Entry
user seat n = by seat (event.Start n (kind.User 0 0))

abbrev pub put : Op
put = PutData 1 (Number 5)

-- an access starts and asks the copy
abbrev pub begun : ℕ → Name → Op → List Entry → List Entry
begun seat n op rest =
    by seat (event.Start n kind.Access) ∷ by seat (event.Ask (record { access = n; copy = only_copy; rec = x; op = op })) ∷ rest

-- it is granted, and replies
abbrev pub served : Name → Op → Tuple → List Entry → List Entry
served n op t rest =
    begun client n op (by site (event.Granted only_copy (record { access = n; rec = x; op = op; tuple = t })) ∷ by client (event.End n (Commit (answer.Reply t))) ∷ rest)

-- set x 5, read x: the read runs before the set that stands before it
abbrev pub read_before_set : List Entry
read_before_set =
    user client top
    ∷ by client (event.Start first_child (kind.Write x (Number 5)))
    ∷ by client (event.Start second_child (kind.Read x))
    ∷ served (access second_child 1) Get old
    (by client (event.End second_child (Commit (answer.Value (Number 0))))
    ∷ served (access first_child 1) Get old
    (served (access first_child 2) put new
    (by client (event.End first_child (Commit answer.Nothing))
    ∷ by client (event.Ready top)
    ∷ by ledger_seat (event.End top (Commit answer.Nothing))
    ∷ [])))

abbrev pub conflict : Cause
conflict = cause.Conflict only_copy (access first_child 2)

-- set x 5, read x: the read starts before the set has ended, and conflicts with it
abbrev pub own_conflict : List Entry
own_conflict =
    user client top
    ∷ by client (event.Start first_child (kind.Write x (Number 5)))
    ∷ served (access first_child 1) Get old
    (served (access first_child 2) put new
    (by client (event.Start second_child (kind.Read x))
    ∷ begun client (access second_child 1) Get
    (by site (event.Refused (access second_child 1) only_copy (Blocked (access first_child 2)))
    ∷ by client (event.End (access second_child 1) (Abort cause.Missed))
    ∷ by client (event.End second_child (Abort conflict))
    ∷ by client (event.End first_child (Commit answer.Nothing))
    ∷ by client (event.End top (Abort conflict))
    ∷ [])))

abbrev pub lacking : Why → Cause
lacking why = cause.NoQuorum (record { phase = Collect; replied = replicate 16 false; missing = Some why ∷ replicate 15 None })

-- read x: under another seat of a client, the request is lost though no fate says so
abbrev pub lost_elsewhere : List Entry
lost_elsewhere =
    user other_client top
    ∷ by other_client (event.Start first_child (kind.Read x))
    ∷ begun other_client (access first_child 1) Get
    (by other_client (event.Gone (access first_child 1) Lost)
    ∷ by other_client (event.End (access first_child 1) (Abort cause.Missed))
    ∷ by other_client (event.End first_child (Abort (lacking Lost)))
    ∷ by other_client (event.End top (Abort (lacking Lost)))
    ∷ [])

-- no step: the top marks session 3
abbrev pub marked : List Entry
marked =
    user client top ∷ by client (event.Mark top 3) ∷ by client (event.Ready top) ∷ by ledger_seat (event.End top (Commit answer.Nothing)) ∷ []

abbrev pub far : Name
far = number_in 7 99 ∷ []

-- no step: the top has another number, and marks session 3
abbrev pub marked_elsewhere : List Entry
marked_elsewhere =
    user client far ∷ by client (event.Mark far 3) ∷ by client (event.Ready far) ∷ by ledger_seat (event.End far (Commit answer.Nothing)) ∷ []

abbrev pub body_of : Plan → List Numbered
body_of plan = record { number = 0; tries = 1; must = false; plan = plan } ∷ []

abbrev pub set_then_read : List Numbered
set_then_read = body_of (manage_then (kind.Write x (Number 5)) (manage_then (kind.Read x) Plan.done))

abbrev pub read_alone : List Numbered
read_alone = body_of (manage_then (kind.Read x) Plan.done)

abbrev pub no_step : List Numbered
no_step = body_of Plan.done

-- without fates every request is delivered
abbrev pub net : Net
net = record { fates = []; hold = 1; patience = 4 }

-- set x 5 in one top, read x in the next: the first is ready and commits late, the second conflicts with it
abbrev pub late_commit : List Entry
late_commit =
    user client top
    ∷ by client (event.Start first_child (kind.Write x (Number 5)))
    ∷ served (access first_child 1) Get old
    (served (access first_child 2) put new
    (by client (event.End first_child (Commit answer.Nothing))
    ∷ by client (event.Ready top)
    ∷ by client (event.Start top2 (kind.User 0 1))
    ∷ by client (event.Start reader2 (kind.Read x))
    ∷ begun client (access reader2 1) Get
    (by site (event.Refused (access reader2 1) only_copy (Blocked (access first_child 2)))
    ∷ by client (event.End (access reader2 1) (Abort cause.Missed))
    ∷ by client (event.End reader2 (Abort conflict))
    ∷ by client (event.End top2 (Abort conflict))
    ∷ by ledger_seat (event.End top (Commit answer.Nothing))
    ∷ [])))

abbrev pub set_and_read : List Numbered
set_and_read =
    record { number = 0; tries = 1; must = false; plan = manage_then (kind.Write x (Number 5)) Plan.done }
    ∷ record { number = 1; tries = 1; must = false; plan = manage_then (kind.Read x) Plan.done }
    ∷ []

-- child with set x 5 and read x, then abort 0: the child is begun, and none of its steps is run
abbrev pub dropped_steps : List Entry
dropped_steps =
    user client top
    ∷ by client (event.Start first_child (kind.User 0 1))
    ∷ by client (event.End top (Abort (cause.Asked top)))
    ∷ by client (event.End first_child (Abort (cause.Orphan top)))
    ∷ []

abbrev pub child_and_abort : List Numbered
child_and_abort = body_of (Plan.child_then 1 1 false (manage_then (kind.Write x (Number 5)) (manage_then (kind.Read x) Plan.done)) (Plan.abort_then 0 Plan.done))

-- the first run under another seat, by a network that loses every request
abbrev pub moved : Entry → Entry
moved e = if e.seat == client then record e { seat = other_client } else e

abbrev pub lossy : Net
lossy = record { fates = LoseAsk ∷ []; hold = 1; patience = 4 }

-- FOLLOWED

-- the first run: set x 5, read x
abbrev pub first_run : List Entry
first_run =
    user client top
    ∷ by client (event.Start first_child (kind.Write x (Number 5)))
    ∷ served (access first_child 1) Get old
    (served (access first_child 2) put new
    (by client (event.End first_child (Commit answer.Nothing))
    ∷ by client (event.Start second_child (kind.Read x))
    ∷ served (access second_child 1) Get new
    (by client (event.End second_child (Commit (answer.Value (Number 5))))
    ∷ by client (event.Ready top)
    ∷ by ledger_seat (event.End top (Commit answer.Nothing))
    ∷ [])))

-- read x: the copy says that it is down
abbrev pub copy_down : List Entry
copy_down =
    user client top
    ∷ by client (event.Start first_child (kind.Read x))
    ∷ begun client (access first_child 1) Get
    (by site (event.Unable (access first_child 1) Down)
    ∷ by client (event.Gone (access first_child 1) Down)
    ∷ by client (event.End (access first_child 1) (Abort cause.Missed))
    ∷ by client (event.End first_child (Abort (lacking Down)))
    ∷ by client (event.End top (Abort (lacking Down)))
    ∷ [])

-- example orphans: a grandchild aborts the top, and all between end as orphans
abbrev pub far_abort : List Entry
far_abort =
    user client top
    ∷ by client (event.Start first_child (kind.User 0 1))
    ∷ by client (event.Start grandchild (kind.User 0 2))
    ∷ by client (event.End top (Abort (cause.Asked grandchild)))
    ∷ by client (event.End grandchild (Abort (cause.Orphan top)))
    ∷ by client (event.End first_child (Abort (cause.Orphan top)))
    ∷ []

-- a grandchild that is to abort its parent aborts the top too
abbrev pub aborts_two : List Entry
aborts_two =
    user client top
    ∷ by client (event.Start first_child (kind.User 0 1))
    ∷ by client (event.Start grandchild (kind.User 0 2))
    ∷ by client (event.End top (Abort (cause.Asked grandchild)))
    ∷ by client (event.End first_child (Abort (cause.Asked grandchild)))
    ∷ by client (event.End grandchild (Abort (cause.Orphan first_child)))
    ∷ []

-- a body whose grandchild has a step `abort` so many levels up
abbrev pub abort_body : ℕ → Numbered
abort_body levels = record { number = 0; tries = 1; must = false; plan = Plan.child_then 1 1 false (Plan.child_then 2 1 false (Plan.abort_then levels Plan.done) Plan.done) Plan.done }

-- the body of the first run
abbrev pub first_body : Numbered
first_body = record { number = 0; tries = 1; must = false; plan = manage_then (kind.Write x (Number 5)) (manage_then (kind.Read x) Plan.done) }

-- two tops of a session, each under a seat of its own
abbrev pub two_seats : List Entry
two_seats =
    user client top
    ∷ by client (event.Ready top)
    ∷ by ledger_seat (event.End top (Commit answer.Nothing))
    ∷ user other_client top2
    ∷ by other_client (event.Ready top2)
    ∷ by ledger_seat (event.End top2 (Commit answer.Nothing))
    ∷ []

-- read x, tried twice: the first request is lost
abbrev pub tried_again : List Entry
tried_again =
    user client top
    ∷ by client (event.Start first_child (kind.Read x))
    ∷ begun client (access first_child 1) Get
    (by client (event.Gone (access first_child 1) Lost)
    ∷ by client (event.End (access first_child 1) (Abort cause.Missed))
    ∷ by client (event.End first_child (Abort (lacking Lost)))
    ∷ by client (event.End top (Abort (lacking Lost)))
    ∷ user client top2
    ∷ by client (event.Start reader2 (kind.Read x))
    ∷ served (access reader2 1) Get old
    (by client (event.End reader2 (Commit (answer.Value (Number 0))))
    ∷ by client (event.Ready top2)
    ∷ by ledger_seat (event.End top2 (Commit answer.Nothing))
    ∷ []))

abbrev pub read_twice : List Numbered
read_twice = record { number = 0; tries = 2; must = false; plan = manage_then (kind.Read x) Plan.done } ∷ []

abbrev pub first_lost : Net
first_lost = record { fates = LoseAsk ∷ Deliver ∷ []; hold = 1; patience = 4 }

-- x gets another configuration
abbrev pub reconfigured : List Entry
reconfigured =
    user client top
    ∷ by client (event.Start first_child (kind.Reconf x one))
    ∷ by client (event.End first_child (Commit (answer.Generation 1)))
    ∷ by client (event.Ready top)
    ∷ by ledger_seat (event.End top (Commit answer.Nothing))
    ∷ []

abbrev pub reconfigure : List Numbered
reconfigure = body_of (manage_then (kind.Reconf x one) Plan.done)

abbrev pub two_steps : List Numbered
two_steps = record { number = 0; tries = 1; must = false; plan = Plan.done } ∷ record { number = 0; tries = 1; must = false; plan = Plan.done } ∷ []

-- CUT OFF

-- how many entries of the first run there are once its set has ended
abbrev pub set_ended : ℕ
set_ended = 11

-- once an access of its read has asked
abbrev pub read_asked : ℕ
read_asked = 14

-- once its top is ready
abbrev pub top_ready : ℕ
top_ready = 18

-- the first run, cut off after so many entries
abbrev pub first_cut : ℕ → List Entry
first_cut many = take many first_run

-- the first run, whose top stays ready, since the ledger says that it is down
abbrev pub not_logged : List Entry
not_logged = first_cut top_ready ++ by ledger_seat (event.Unable top Down) ∷ []

-- the read before the set, cut off once both have started
abbrev pub both_started : List Entry
both_started = take 3 read_before_set

-- the first run, whose top is ready without its read
abbrev pub ready_too_soon : List Entry
ready_too_soon = first_cut set_ended ++ by client (event.Ready top) ∷ []

-- the first run, cut off as the read runs that stands behind the set, which is not run
abbrev pub set_skipped : List Entry
set_skipped = user client top ∷ by client (event.Start first_child (kind.Read x)) ∷ []
