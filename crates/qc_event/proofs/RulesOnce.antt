-- Of each rule on the next entry, but for one cause of aborts, there is one proof at most.
use Rattle.std.proofs.Common.{◌≡◌, ℕ, ◌+◌, [], ◌∷◌, length, arith, inl, inr, ap}
use Rattle.std.proofs.Props.{props}
use Rattle.std.specs.Prelude.{Option, None, Some, MatchOption, IfNone}
use Rattle.qc_config.specs.declared.tuple.Op.{Op}
use Rattle.qc_config.specs.declared.tuple.Op.TheVariants.{Get, PutData, PutConfig}
use Rattle.qc_config.specs.declared.tuple.Tuple.{Tuple}
use Rattle.qc_event.specs.declared.event.Answer.{Answer}
use Rattle.qc_event.specs.declared.event.Ask.{Ask}
use Rattle.qc_event.specs.declared.event.Cause.{Cause}
use Rattle.qc_event.specs.declared.event.Cause.TheVariants as cause
use Rattle.qc_event.specs.declared.event.Grant.{Grant}
use Rattle.qc_event.specs.declared.event.How.{How}
use Rattle.qc_event.specs.declared.event.How.TheVariants.{Commit, Abort}
use Rattle.qc_event.specs.declared.event.Kind.{Kind}
use Rattle.qc_event.specs.declared.event.Kind.TheVariants as kind
use Rattle.qc_event.specs.declared.event.Refusal.{Refusal}
use Rattle.qc_event.specs.declared.event.Refusal.TheVariants.{Blocked, Dead}
use Rattle.qc_event.specs.declared.event.Why.{Why}
use Rattle.qc_event.specs.Aborts.{ManagerCause, AccessCause}
use Rattle.qc_event.specs.Base.{Setting}
use Rattle.qc_event.specs.Commits.{MayCommit, MayCommitManager}
use Rattle.qc_event.specs.Grants.{Sets, MayGrant, IsRefusal, MayRefuse}
use Rattle.qc_event.specs.History.{Past, Name, Asked, Begun, asked}
use Rattle.qc_event.specs.Manager.{Stage, AtStage}
use Rattle.qc_event.specs.Requests.{IsNextAsk, MayAsk, MayGiveUp, IsUnableCopy, IsUnableLedger, MayBeUnable}
use Rattle.qc_event.specs.Standing.{IsUser, IsManager, IsAbort}
use Rattle.qc_event.specs.Starts.{Stands, Starts}
use Rattle.qc_event.specs.Users.{MayStartTop, StandsUnder, MayStartNext, MayMark, MayReady, MayCommitUserOrTop}

-- PARTS

pub user_once : (k : Kind) → IsProp (IsUser k)
user_once (kind.User session body) = hlevel
user_once _ = hlevel

pub manager_once : (k : Kind) → IsProp (IsManager k)
manager_once (kind.Read rec) = hlevel
manager_once (kind.Write rec value) = hlevel
manager_once (kind.Reconf rec config) = hlevel
manager_once _ = hlevel

pub abort_once : (how : How) → IsProp (IsAbort how)
abort_once (Commit given) = hlevel
abort_once (Abort c) = hlevel

pub match_once : {A : Type 0} (o : Option A) (P : A → Type 0) → ((x : A) → IsProp (P x)) → IsProp (MatchOption o ⊥ P)
match_once None P h = hlevel
match_once (Some x) P h = h x

none_once : {A : Type 0} (o : Option A) (P : Type 0) → IsProp P → IsProp (IfNone o P)
none_once None P h = h
none_once (Some x) P h = hlevel

-- STARTS

under_once : (setting : Setting) (parent : Begun) (depth : ℕ) (k : Kind) → IsProp (StandsUnder setting parent depth k)
under_once setting parent depth (kind.User session body) = hlevel (props, user_once)
under_once setting parent depth (kind.Read rec) = hlevel (props, user_once)
under_once setting parent depth (kind.Write rec value) = hlevel (props, user_once)
under_once setting parent depth (kind.Reconf rec config) = hlevel (props, user_once)
under_once setting parent depth kind.Access = hlevel

stands_once : (setting : Setting) (seat : ℕ) (parent : Begun) (depth : ℕ) (k : Kind) → IsProp (Stands setting seat parent depth k)
stands_once setting seat parent depth kind.Access = hlevel (props, manager_once)
stands_once setting seat parent depth (kind.User session body) = under_once setting parent depth (kind.User session body)
stands_once setting seat parent depth (kind.Read rec) = under_once setting parent depth (kind.Read rec)
stands_once setting seat parent depth (kind.Write rec value) = under_once setting parent depth (kind.Write rec value)
stands_once setting seat parent depth (kind.Reconf rec config) = under_once setting parent depth (kind.Reconf rec config)

top_once : (past : Past) (seat number : ℕ) (k : Kind) → IsProp (MayStartTop past seat number k)
top_once past seat number k = hlevel (props, user_once)

next_once : (setting : Setting) (past : Past) (seat : ℕ) (n : Name) (k : Kind) → IsProp (MayStartNext (λ p. Stands setting seat p (length n) k) past seat n)
next_once setting past seat n k = hlevel (props, match_once, λ (p : Begun). stands_once setting seat p (length n) k)

pub starts_once : (setting : Setting) (past : Past) (seat : ℕ) (n : Name) (k : Kind) → IsProp (Starts setting past seat n k)
starts_once setting past seat [] k = hlevel
starts_once setting past seat (x ∷ []) k = top_once past seat x k
starts_once setting past seat (x ∷ y ∷ r) k = next_once setting past seat (x ∷ y ∷ r) k

-- REQUESTS AND GRANTS

next_ask_once : (past : Past) (m : Name) (k : Kind) (ask : Ask) (s : Stage) → IsProp (IsNextAsk past m k ask s)
next_ask_once past m k ask s = hlevel props

at_stage_once : (setting : Setting) (past : Past) (m : Name) (k : Kind) (P : Stage → Type 0) → ((s : Stage) → IsProp (P s)) → IsProp (AtStage setting past m k P)
at_stage_once setting past m k P h = match_once _ P h

pub ask_once : (setting : Setting) (past : Past) (seat : ℕ) (ask : Ask) → IsProp (MayAsk setting past seat ask)
ask_once setting past seat ask = hlevel (props, match_once, next_ask_once)

pub give_up_once : (past : Past) (seat : ℕ) (n : Name) (why : Why) → IsProp (MayGiveUp past seat n why)
give_up_once past seat n why = hlevel (props, match_once)

sets_once : (op : Op) (t : Tuple) → IsProp (Sets op t)
sets_once Get t = hlevel
sets_once (PutData version value) t = hlevel props
sets_once (PutConfig generation config) t = hlevel props

pub grant_once : (setting : Setting) (past : Past) (seat copy : ℕ) (g : Grant) → IsProp (MayGrant setting past seat copy g)
grant_once setting past seat copy g = hlevel (props, match_once, none_once, sets_once)

refusal_once : (past : Past) (ask : Ask) (refusal : Refusal) → IsProp (IsRefusal past ask refusal)
refusal_once past ask (Dead a) = hlevel props
refusal_once past ask (Blocked h) = hlevel props

pub refuse_once : (past : Past) (seat : ℕ) (n : Name) (copy : ℕ) (refusal : Refusal) → IsProp (MayRefuse past seat n copy refusal)
refuse_once past seat n copy refusal = hlevel (props, match_once, refusal_once)

pub mark_once : (past : Past) (seat : ℕ) (by : Name) (session : ℕ) → IsProp (MayMark past seat by session)
mark_once past seat by session = hlevel (props, match_once, user_once)

pub ready_once : (past : Past) (seat : ℕ) (top : Name) → IsProp (MayReady past seat top)
ready_once past seat top = hlevel props

-- ENDS

user_or_top_once : (past : Past) (seat : ℕ) (n : Name) (given : Answer) → IsProp (MayCommitUserOrTop past seat n given)
user_or_top_once past seat [] given = hlevel props
user_or_top_once past seat (x ∷ []) given = hlevel props
user_or_top_once past seat (x ∷ y ∷ r) given = hlevel props

manager_commit_once : (setting : Setting) (past : Past) (seat : ℕ) (n : Name) (b : Begun) (given : Answer) → IsProp (MayCommitManager setting past seat n b given)
manager_commit_once setting past seat n b given = hlevel props

pub commit_once : (setting : Setting) (past : Past) (seat : ℕ) (n : Name) (b : Begun) (given : Answer) (k : Kind) → IsProp (MayCommit setting past seat n b given k)
commit_once setting past seat n b given (kind.User session body) = user_or_top_once past seat n given
commit_once setting past seat n b given kind.Access = hlevel (props, match_once)
commit_once setting past seat n b given (kind.Read rec) = manager_commit_once setting past seat n b given
commit_once setting past seat n b given (kind.Write rec value) = manager_commit_once setting past seat n b given
commit_once setting past seat n b given (kind.Reconf rec config) = manager_commit_once setting past seat n b given

pub access_cause_once : (past : Past) (n : Name) (c : Cause) → IsProp (AccessCause past n c)
access_cause_once past n cause.Missed = hlevel props
access_cause_once past n (cause.Orphan a) = hlevel (props, match_once, abort_once)
access_cause_once past n _ = hlevel

pub manager_cause_once : (setting : Setting) (past : Past) (n : Name) (k : Kind) (c : Cause) → IsProp (ManagerCause setting past n k c)
manager_cause_once setting past n k (cause.Conflict copy h) = hlevel (props, match_once)
manager_cause_once setting past n k (cause.NoQuorum lack) = hlevel (props, match_once)
manager_cause_once setting past n k cause.Last = hlevel props
manager_cause_once setting past n k (cause.Orphan a) = hlevel (props, match_once, abort_once)
manager_cause_once setting past n k _ = hlevel

unable_copy_once : (past : Past) (seat : ℕ) (n : Name) (why : Why) → IsProp (IsUnableCopy past seat n why)
unable_copy_once past seat n why = hlevel (props, match_once)

unable_ledger_once : (past : Past) (seat : ℕ) (n : Name) (why : Why) → IsProp (IsUnableLedger past seat n why)
unable_ledger_once past seat n why = hlevel props

-- no seat is both a copy's and the ledger's
one_seat : (seat : ℕ) (o : Option Asked) → MatchOption o ⊥ (λ a. seat ≡ a.ask.copy + 2) → seat ≡ 1 → ⊥
one_seat seat None there ledger = there
one_seat seat (Some a) there ledger = omega arith

pub unable_once : (past : Past) (seat : ℕ) (n : Name) (why : Why) → IsProp (MayBeUnable past seat n why)
unable_once past seat n why (inl a) (inl b) = ap inl (unable_copy_once past seat n why a b)
unable_once past seat n why (inl a) (inr b) = absurd (one_seat seat (asked past n) a.asked_there b.ledger)
unable_once past seat n why (inr a) (inl b) = absurd (one_seat seat (asked past n) b.asked_there a.ledger)
unable_once past seat n why (inr a) (inr b) = ap inr (unable_ledger_once past seat n why a b)
