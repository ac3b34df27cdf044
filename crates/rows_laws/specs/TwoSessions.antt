-- Trails of two sessions, each of a client of its own.
use Rattle.std.specs.Prelude.{ℕ, List, [], ◌∷◌}
use Rattle.qc_config.specs.Val.{Number}
use Rattle.qc_config.specs.declared.tuple.Op.TheVariants.{Get}
use Rattle.qc_event.specs.declared.event.Answer.TheVariants as answer
use Rattle.qc_event.specs.declared.event.Cause.TheVariants as cause
use Rattle.qc_event.specs.declared.event.Entry.{Entry}
use Rattle.qc_event.specs.declared.event.Event.TheVariants as event
use Rattle.qc_event.specs.declared.event.How.TheVariants.{Commit, Abort}
use Rattle.qc_event.specs.declared.event.Kind.TheVariants as kind
use Rattle.qc_event.specs.History.{Past}
use Rattle.qc_event.specs.Seats.{ledger_seat}
use Rattle.qc_script.specs.Plan.{SessionPlan}
use Rattle.qc_interp.specs.FollowsScript.{FollowsScript}
use Rattle.rows_laws.specs.Scripts.{session_of}
use Rattle.rows_laws.specs.Trails.{client, other_client, only_copy, site, x, top, top2, first_child, access, old, by, begun, net, read_alone, no_step}

-- one session reads x, and the other has no step
abbrev pub reader_and_idler : List SessionPlan
reader_and_idler = session_of net read_alone ∷ session_of net no_step ∷ []

-- it follows the script of these sessions, in epoch 1
abbrev pub FollowsBoth : List SessionPlan → Past → Type 0
FollowsBoth sessions past = FollowsScript 1 net.patience sessions past

-- the first top of a session reads x; between its entries the top of a session runs, under a seat
abbrev pub between : ℕ → ℕ → List Entry
between session seat =
    by client (event.Start top (kind.User 0 0))
    ∷ by client (event.Start first_child (kind.Read x))
    ∷ by seat (event.Start top2 (kind.User session 0))
    ∷ begun client (access first_child 1) Get
    (by seat (event.Ready top2)
    ∷ by site (event.Granted only_copy (record { access = access first_child 1; rec = x; op = Get; tuple = old }))
    ∷ by ledger_seat (event.End top2 (Commit answer.Nothing))
    ∷ by client (event.End (access first_child 1) (Commit (answer.Reply old)))
    ∷ by client (event.End first_child (Commit (answer.Value (Number 0))))
    ∷ by client (event.Ready top)
    ∷ by ledger_seat (event.End top (Commit answer.Nothing))
    ∷ [])

-- both sessions run, each under its seat
abbrev pub interleaved : List Entry
interleaved = between 1 other_client

-- one session runs both tops
abbrev pub of_one_session : List Entry
of_one_session = between 0 client

-- the first session's top is aborted as the second session's asked
abbrev pub aborts_the_other : List Entry
aborts_the_other =
    by client (event.Start top (kind.User 0 0))
    ∷ by other_client (event.Start top2 (kind.User 1 0))
    ∷ by other_client (event.End top (Abort (cause.Asked top2)))
    ∷ by other_client (event.Ready top2)
    ∷ by ledger_seat (event.End top2 (Commit answer.Nothing))
    ∷ []
