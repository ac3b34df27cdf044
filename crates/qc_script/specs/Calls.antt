-- What each call of a client makes, or why it makes nothing.
use Rattle.std.specs.Prelude.{ℕ, ◌≡◌, ◌==◌, ◌≤◌, ◌⊎◌, Bool, true, false, not, ◌||◌, IsTrue, [], ◌∷◌, ◌++◌, length, filter, None, Some, MatchOption, is_some}
use Rattle.std.specs.List.{AllByRecursion, IsDistinct, list_all, list_any}
use Rattle.qc_event.specs.declared.event.Answer.{Answer}
use Rattle.qc_event.specs.declared.event.Answer.TheVariants as answer
use Rattle.qc_event.specs.declared.event.Cause.{Cause}
use Rattle.qc_event.specs.declared.event.Cause.TheVariants as cause
use Rattle.qc_event.specs.declared.event.Entry.{Entry}
use Rattle.qc_event.specs.declared.event.Event.{Event}
use Rattle.qc_event.specs.declared.event.Event.TheVariants as event
use Rattle.qc_event.specs.declared.event.How.{How}
use Rattle.qc_event.specs.declared.event.How.TheVariants.{Commit, Abort}
use Rattle.qc_event.specs.declared.event.Kind.{Kind}
use Rattle.qc_event.specs.declared.event.Kind.TheVariants as kind
use Rattle.qc_event.specs.declared.short.Short.{Short}
use Rattle.qc_event.specs.declared.event.Why.TheVariants as reason
use Rattle.qc_event.specs.Dead.{dead, outcome, is_committed, is_aborted, is_live, WasDead}
use Rattle.qc_event.specs.History.{Past, Name, limit, same, start, end, is_ready, is_child}
use Rattle.qc_event.specs.Seats.{is_client}
use Rattle.qc_event.specs.Requests.{was_unable}
use Rattle.qc_event.specs.Standing.{Started, IsAbort, IsUser, open_child}
use Rattle.qc_event.specs.Users.{UserCause}
use Rattle.qc_event.specs.Wants.{IsWant}
use Rattle.qc_names.specs.Name as name
use Rattle.qc_net.specs.Messages.{meets_fates}
use Rattle.qc_script.specs.declared.tx.TxNo.{TxNo}
use Rattle.qc_script.specs.declared.tx.TxNo.TheVariants as tx_no
use Rattle.qc_script.specs.Client.{Client, ClientView, Made, branch_of, is_own}

abbrev pub by_client : Client → Event → Entry
by_client c event = record { seat = c.number; event = event }

abbrev pub is_access : Kind → Bool
is_access kind.Access = true
is_access _ = false

-- whether it was aborted as it or another asked
abbrev pub is_asked : How → Bool
is_asked (Abort (cause.Asked by)) = true
is_asked _ = false

-- whether an event tells that a name was unable
abbrev pub unable_in : Name → Event → Bool
unable_in n (event.Unable m why) = same m n
unable_in n _ = false

-- a top has ended, or was unable to be logged
abbrev pub is_over : Past → Name → Bool
is_over past t = is_some (end past t) || list_any (λ (e : Entry). unable_in t e.event) past

-- MANAGERS

-- an access of a manager does this
abbrev pub IsOfAccess : Name → Event → Type 0
IsOfAccess m (event.Start n k) = IsTrue (is_child m n) × IsTrue (is_access k)
IsOfAccess m (event.End n how) = IsTrue (is_child m n) × IsTrue (not (is_asked how))
IsOfAccess m (event.Ready n) = ⊥
IsOfAccess m (event.Mark n session) = ⊥
IsOfAccess m _ = Unit {0}

abbrev pub AreOfAccesses : Name → Past → Type 0
AreOfAccesses m entries = AllByRecursion (λ (e : Entry). IsOfAccess m e.event) entries

-- The client made a manager of a kind, the next child of a transaction, which ended so; between its start and its end
-- stand entries of its accesses alone.
pub record Ran (c : Client) (of : Name) (k : Kind) (how : How) (before now : Past) : Type 0 where
  pub manager : Name
  pub is_one : IsTrue (is_child of manager)
  pub not_asked : IsTrue (not (is_asked how))
  pub inner : Past
  pub of_accesses : AreOfAccesses manager inner
  pub made : Made c (by_client c (event.End manager how) ∷ inner ++ by_client c (event.Start manager k) ∷ []) before now

-- The client started a manager, and want of memory or room cut it off.
pub record WasCut (c : Client) (of : Name) (k : Kind) (before now : Past) : Type 0 where
  pub manager : Name
  pub is_one : IsTrue (is_child of manager)
  pub inner : Past
  pub of_accesses : AreOfAccesses manager inner
  pub made : Made c (inner ++ by_client c (event.Start manager k) ∷ []) before now

-- REFUSALS

-- Why a call about a transaction was refused, by what was then seen: an ancestor, itself among them, is aborted; it has
-- ended; a child is open; it is ready; the history is full.
abbrev pub Refuses : Past → Name → TxNo → Type 0
Refuses seen of (tx_no.Orphan a) = IsTrue (name.is_ancestor a of) × MatchOption (end seen a) ⊥ IsAbort
Refuses seen of tx_no.Ended = is_some (end seen of) ≡ true
Refuses seen of (tx_no.ChildrenOpen child) = IsTrue (is_child of child) × (is_some (start seen child) ≡ true) × (end seen child ≡ None)
Refuses seen of tx_no.Ready = is_ready seen of ≡ true
Refuses seen of (tx_no.Short short) = IsWant seen short
Refuses seen of _ = ⊥

-- nothing is against a child of a name
abbrev pub TakesChildren : Past → Name → Type 0
TakesChildren seen of = (is_committed (outcome seen of) ≡ false) × (dead seen of ≡ None) × (is_ready seen of ≡ false)

-- Why a child does not begin, the first of these that holds: its parent has committed; an ancestor, the parent among them,
-- is aborted, of which this is the shortest; the parent is ready; memory or room is wanting.
abbrev pub RefusesChild : Past → Name → TxNo → Type 0
RefusesChild seen of tx_no.Ended = is_committed (outcome seen of) ≡ true
RefusesChild seen of (tx_no.Orphan a) = (is_committed (outcome seen of) ≡ false) × (dead seen of ≡ Some a)
RefusesChild seen of tx_no.Ready = (is_committed (outcome seen of) ≡ false) × (dead seen of ≡ None) × (is_ready seen of ≡ true)
RefusesChild seen of (tx_no.Short short) = ((of ≡ []) ⊎ TakesChildren seen of) × IsWant seen short
RefusesChild seen of _ = ⊥

-- nothing but want of memory or room is against a commit
abbrev pub CanCommit : Past → Name → Type 0
CanCommit seen of = (is_live (outcome seen of) ≡ true) × (dead seen of ≡ None) × (open_child seen of ≡ None)

-- Why a transaction does not commit, the first of these that holds: it has ended; an ancestor is aborted, of which this is
-- the shortest; it is ready; a child is open, of which this is the first; the ledger told that it was unable to log the top;
-- memory or room is wanting, before a top is ready or after.
abbrev pub RefusesCommit : Past → Name → TxNo → Type 0
RefusesCommit seen of tx_no.Ended = is_live (outcome seen of) ≡ false
RefusesCommit seen of (tx_no.Orphan a) = (is_live (outcome seen of) ≡ true) × (dead seen of ≡ Some a)
RefusesCommit seen of tx_no.Ready = (is_live (outcome seen of) ≡ true) × (dead seen of ≡ None) × (is_ready seen of ≡ true)
RefusesCommit seen of (tx_no.ChildrenOpen child) = (is_live (outcome seen of) ≡ true) × (dead seen of ≡ None) × (open_child seen of ≡ Some child)
RefusesCommit seen of tx_no.Ledger = IsTrue (was_unable seen of reason.Down) ⊎ IsTrue (was_unable seen of reason.Full)
RefusesCommit seen of (tx_no.Short short) = ((is_ready seen of ≡ true) ⊎ CanCommit seen of) × IsWant seen short
RefusesCommit seen of _ = ⊥

-- A call to begin a child, or a manager, was refused: nothing was made.
abbrev pub WasRefused : Client → Name → Past → Past → TxNo → Type 0
WasRefused c of before now (tx_no.ChildrenOpen child) = ⊥
WasRefused c of before now why = Made c [] before now × Refuses now of why

-- a mark of the session to which a transaction belongs licenses its abort
abbrev pub IsMarkedFor : Past → Name → Kind → Type 0
IsMarkedFor seen n (kind.User session body) = UserCause seen n session cause.Killed
IsMarkedFor seen n _ = ⊥

-- What a cause to abort a user transaction for stands on, in what was seen: its licence, for an orphan that the ancestor
-- has ended, and for a child that it is a user transaction. Only marks go by sessions.
abbrev pub IsGrounded : Past → Name → Cause → Type 0
IsGrounded seen n (cause.Orphan a) = IsTrue (name.is_ancestor a n) × IsTrue (not (same a n)) × (is_some (end seen a) ≡ true)
IsGrounded seen n cause.Killed = Started seen n (λ b. IsMarkedFor seen n b.kind)
IsGrounded seen n (cause.Child child) = IsTrue (is_child n child) × Started seen child (λ b. IsUser b.kind)
IsGrounded seen n c = (session : ℕ) → UserCause seen n session c

-- the ancestor of which it would be an orphan has committed, or the child for which it would be aborted is not aborted
abbrev pub IsNone : Past → Cause → Type 0
IsNone seen (cause.Orphan a) = is_committed (outcome seen a) ≡ true
IsNone seen (cause.Child child) = is_aborted (outcome seen child) ≡ false
IsNone seen c = ⊥

-- a transaction is aborted for a child of it
abbrev pub IsForChild : Cause → Type 0
IsForChild (cause.Child child) = Unit {0}
IsForChild c = ⊥

-- An abort was refused: nothing was made, and it had ended, or was ready and had not, or the cause does not hold, or it was
-- want of memory or room. No transaction with an aborted ancestor, of which the shortest is told, is aborted for a child.
abbrev pub NotAborted : Client → Name → Cause → Past → Past → TxNo → Type 0
NotAborted c of why before now (tx_no.Short short) = Made c [] before now × IsWant now short
NotAborted c of why before now tx_no.Ended = Made c [] before now × ((is_some (end now of) ≡ true) ⊎ IsNone now why)
NotAborted c of why before now tx_no.Ready = Made c [] before now × (is_ready now of ≡ true) × (is_live (outcome now of) ≡ true)
NotAborted c of why before now (tx_no.Orphan a) = Made c [] before now × IsForChild why × Refuses now of (tx_no.Orphan a) × (dead now of ≡ Some a)
NotAborted c of why before now _ = ⊥

-- A manager did not start: nothing was made, and this was exactly against it.
abbrev pub WasNotStarted : Client → Name → Past → Past → TxNo → Type 0
WasNotStarted c of before now why = Made c [] before now × Refuses now of why × RefusesChild now of why

-- A manager gave no answer: it did not start, ended for the cause that the call tells, or was cut off. The ancestor of
-- which it is an orphan was the shortest aborted one at some time.
abbrev pub GaveNone : Client → Name → Kind → Past → Past → TxNo → Type 0
GaveNone c of k before now (tx_no.Orphan a) =
    Refuses now of (tx_no.Orphan a) × WasDead now of a × (WasNotStarted c of before now (tx_no.Orphan a) ⊎ Ran c of k (Abort (cause.Orphan a)) before now)
GaveNone c of k before now (tx_no.Conflict copy holder) = Ran c of k (Abort (cause.Conflict copy holder)) before now
GaveNone c of k before now (tx_no.NoQuorum lack) = Ran c of k (Abort (cause.NoQuorum lack)) before now
GaveNone c of k before now tx_no.Last = Ran c of k (Abort cause.Last) before now
GaveNone c of k before now (tx_no.Short short) = (WasNotStarted c of before now (tx_no.Short short) ⊎ WasCut c of k before now) × IsWant now short
GaveNone c of k before now why = WasNotStarted c of before now why

-- COMMITS

-- a top was made ready
abbrev pub MadeReady : Client → Name → Past → Past → Type 0
MadeReady c of before now = (length of ≡ 1) × Made c (by_client c (event.Ready of) ∷ []) before now

-- A commit: of a top it makes it ready, and the ledger has then committed it.
abbrev pub Committed : Client → Name → Past → Past → Type 0
Committed c (number ∷ []) before now =
    Made c (by_client c (event.Ready (number ∷ [])) ∷ []) before now × (end now (number ∷ []) ≡ Some (Commit answer.Nothing))
Committed c of before now = Made c (by_client c (event.End of (Commit answer.Nothing)) ∷ []) before now

-- A commit was refused. Where the ledger failed, the top stays ready, and was told unable. Want of memory or room may
-- come before a top is ready or after.
abbrev pub NotCommitted : Client → Name → Past → Past → TxNo → Type 0
NotCommitted c of before now tx_no.Ledger = (length of ≡ 1) × Made c (by_client c (event.Ready of) ∷ []) before now × (is_over now of ≡ true)
NotCommitted c of before now (tx_no.Short short) = (Made c [] before now ⊎ MadeReady c of before now) × IsWant now short
NotCommitted c of before now why = Made c [] before now × Refuses now of why

-- WHAT A CALL DOES TO A VIEW

-- where the link is told, the requests under the client's seat, and under each of its merged branches', meet its fates
abbrev pub MeetsLink : ClientView → Type 0
MeetsLink view = MatchOption view.client.net (Unit {0}) (λ net. IsTrue (list_all (λ seat. meets_fates seat net view.seen) (view.client.number ∷ view.client.kin)))

-- a user transaction of the client's session and of a body was started
abbrev pub Began : ClientView → ClientView → ℕ → Name → Type 0
Began old new body n = Made old.client (by_client old.client (event.Start n (kind.User old.client.session body)) ∷ []) old.seen new.seen

-- a manager ran for a transaction and committed with this answer
abbrev pub Answers : ClientView → ClientView → Name → Kind → Answer → Type 0
Answers old new of k given = Ran old.client of k (Commit given) old.seen new.seen

-- a manager gave no answer
abbrev pub Fails : ClientView → ClientView → Name → Kind → TxNo → Type 0
Fails old new of k why = GaveNone old.client of k old.seen new.seen why

-- a user transaction is of a session
abbrev pub IsOfSession : ℕ → Kind → Type 0
IsOfSession session (kind.User s body) = s ≡ session
IsOfSession session _ = ⊥

-- a transaction marked a session
abbrev pub Marks : ClientView → ClientView → Name → ℕ → Type 0
Marks old new by session = Made old.client (by_client old.client (event.Mark by session) ∷ []) old.seen new.seen

-- A mark was not made, for want of memory or room.
abbrev pub MarksNone : ClientView → ClientView → Short → Type 0
MarksNone old new why = Made old.client [] old.seen new.seen × IsWant new.seen why

-- a transaction was aborted for a cause
abbrev pub Aborts : ClientView → ClientView → Name → Cause → Type 0
Aborts old new n why = Made old.client (by_client old.client (event.End n (Abort why)) ∷ []) old.seen new.seen

-- BRANCHES

-- nothing was entered under a seat
abbrev pub NoneUnder : ℕ → Past → Type 0
NoneUnder seat past = AllByRecursion (λ (e : Entry). e.seat ≡ seat → ⊥) past

-- A branch of a client was made, which stands below a transaction. It has seen the same, and has a client's number that no
-- other branch has, under which nothing was entered.
pub record Branched (old new : ClientView) (of : Name) (b : ClientView) : Type 0 where
  pub number : ℕ
  pub is_one : IsTrue (is_client number)
  pub other : is_own old.client number ≡ false
  pub not_out : list_any (λ k. k == number) old.client.out ≡ false
  pub none : NoneUnder number old.seen
  pub branch : b ≡ record { client = branch_of old.client number of; seen = old.seen }
  pub left : new ≡ record { client = record old.client { out = number ∷ old.client.out }; seen = old.seen }

-- A client and a branch have then seen the same, and made nothing meanwhile.
pub record Showed (old new branch shown : ClientView) : Type 0 where
  pub client : new.client ≡ old.client
  pub branch_client : shown.client ≡ branch.client
  pub seen : shown.seen ≡ new.seen
  pub made : Made old.client [] old.seen new.seen
  pub branch_made : Made branch.client [] branch.seen new.seen

-- A branch was merged: its number and its kin are then the client's kin, which has seen what both had. Neither made anything
-- meanwhile, no two of these numbers are the same, and the history is within its limit.
pub record Merged (old branch new : ClientView) : Type 0 where
  pub client : new.client ≡ record old.client { kin = old.client.kin ++ branch.client.number ∷ branch.client.kin; out = filter (λ k. not (k == branch.client.number)) old.client.out }
  pub apart : IsDistinct (λ a b. a == b) (new.client.number ∷ new.client.kin)
  pub bounded : length new.seen ≤ limit
  pub made : Made old.client [] old.seen new.seen
  pub branch_made : Made branch.client [] branch.seen new.seen
