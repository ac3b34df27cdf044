-- That a user transaction may be aborted for a grounded cause, and what an abort makes.
use Rattle.std.proofs.Common.{◌≡◌, ℕ, inl, true, false, [], ◌∷◌, ◌++◌, refl, sym, ap, ◌∙◌, subst}
use mathlib.Core.Bool.{true≢false}
use Rattle.std.specs.Prelude.{Option, None, Some, MatchOption, Result, Ok, Err, OnOk, IfErr, is_some}
use Rattle.std.specs.Option.{option_map}
use Rattle.qc_event.specs.Aborts.{Licensed}
use Rattle.qc_event.specs.Base.{Setting}
use Rattle.qc_event.specs.declared.event.Cause.{Cause}
use Rattle.qc_event.specs.declared.event.Cause.TheVariants as cause
use Rattle.qc_event.specs.declared.event.Event.{Event}
use Rattle.qc_event.specs.declared.event.Event.TheVariants as event
use Rattle.qc_event.specs.declared.event.How.{How}
use Rattle.qc_event.specs.declared.event.How.TheVariants.{Commit, Abort}
use Rattle.qc_event.specs.declared.event.Kind.{Kind}
use Rattle.qc_event.specs.declared.event.Kind.TheVariants as kind
use Rattle.qc_event.specs.Dead.{dead, outcome, outcome_of, is_aborted, is_committed}
use Rattle.qc_event.specs.History.{Past, Name, Begun, start, end, kind_of}
use Rattle.qc_event.specs.Legal.{Legal}
use Rattle.qc_event.specs.Standing.{IsUser, IsAbort, Started}
use Rattle.qc_event.specs.Users.{UserCause}
use Rattle.qc_carry.specs.Acting.{IsNoAccess}
use Rattle.qc_carry.specs.Walk.{Walk}
use Rattle.qc_carry.proofs.Walking as walking
use Rattle.qc_event.proofs.Lawful.{started_wider}
use Rattle.qc_event.proofs.Later.{started_still}
use Rattle.qc_event.proofs.Outcomes.{aborted_is_abort}
use Rattle.qc_managers.specs.Carrying.{entry}
use Rattle.qc_desk.specs.declared.refusal.DeskNo.{DeskNo}
use Rattle.qc_desk.specs.declared.view.View.{View}
use Rattle.qc_desk.specs.Calling.{Refused}
use Rattle.qc_desk.specs.Refusing.{against_abort}
use Rattle.qc_script.specs.Calls.{IsGrounded, IsMarkedFor, NotAborted, by_client}
use Rattle.qc_script.specs.Client.{Client, Made}
use Rattle.qc_script.specs.declared.tx.TxNo.{TxNo}
use Rattle.qc_script.specs.declared.tx.TxNo.TheVariants as tx_no
use Rattle.qc_session.specs.Acting.{IsUnaborted, IsUnfounded, no_of}
use Rattle.qc_session.specs.Clients.{IsFor}
use Rattle.qc_session.proofs.Own.{made_one, made_so}
use Rattle.qc_session.proofs.Refused.{abort_says}

-- KINDS

pub user_no_access : (past : Past) (n : Name) → Started past n (λ b. IsUser b.kind) → Started past n (λ b. IsNoAccess b.kind)
user_no_access past n user = started_wider (λ b. IsUser b.kind) (λ b. IsNoAccess b.kind) (start past n) (λ b is. by_kind b.kind is) user
  where
    by_kind : (k : Kind) → IsUser k → IsNoAccess k
    by_kind (kind.User session body) is = tt
    by_kind (kind.Read rec) is = tt
    by_kind (kind.Write rec value) is = tt
    by_kind (kind.Reconf rec config) is = tt
    by_kind kind.Access is = absurd is

user_licensed : (setting : Setting) (past : Past) (seat : ℕ) (n : Name) (b : Begun) (k : Kind) (why : Cause) → IsUser k → ((s body : ℕ) → k ≡ kind.User s body → UserCause past n s why) → Licensed setting past seat n b k why
user_licensed setting past seat n b (kind.User session body) why is license = license session body refl
user_licensed setting past seat n b (kind.Read rec) why is license = absurd is
user_licensed setting past seat n b (kind.Write rec value) why is license = absurd is
user_licensed setting past seat n b (kind.Reconf rec config) why is license = absurd is
user_licensed setting past seat n b kind.Access why is license = absurd is

pub all_licensed : (setting : Setting) (past : Past) (seat : ℕ) (n : Name) (why : Cause) → Started past n (λ b. IsUser b.kind) → ((s body : ℕ) → kind_of past n ≡ Some (kind.User s body) → UserCause past n s why) → Started past n (λ b. Licensed setting past seat n b b.kind why)
all_licensed setting past seat n why user license = by_start (start past n) refl user
  where
    by_start : (o : Option Begun) → start past n ≡ o → MatchOption o ⊥ (λ b. IsUser b.kind) → MatchOption o ⊥ (λ b. Licensed setting past seat n b b.kind why)
    by_start None is h = absurd h
    by_start (Some b) is h = user_licensed setting past seat n b b.kind why h (λ s body k. license s body (ap (option_map (λ (x : Begun). x.kind)) is ∙ ap Some k))

-- CAUSES

not_committed : (o : Option How) → is_some o ≡ true → is_committed (outcome_of o) ≡ false → MatchOption o ⊥ IsAbort
not_committed None some t = absurd (true≢false (sym some))
not_committed (Some (Commit given)) some t = absurd (true≢false t)
not_committed (Some (Abort why)) some t = tt

marked : (past : Past) (n : Name) (session body : ℕ) → kind_of past n ≡ Some (kind.User session body) → Started past n (λ b. IsMarkedFor past n b.kind) → UserCause past n session cause.Killed
marked past n session body is began = by_start (start past n) is began
  where
    by_start : (o : Option Begun) → option_map (λ (b : Begun). b.kind) o ≡ Some (kind.User session body) → MatchOption o ⊥ (λ b. IsMarkedFor past n b.kind) → UserCause past n session cause.Killed
    by_start None is h = absurd h
    by_start (Some b) is h = let same : b.kind ≡ kind.User session body = cc in subst (IsMarkedFor past n) same h

-- a cause that names neither an ancestor of which it makes an orphan, nor a child
abbrev pub IsOther : Cause → Type 0
IsOther (cause.Orphan a) = ⊥
IsOther (cause.Child child) = ⊥
IsOther c = Unit {0}

-- such a cause, where it is grounded, is licensed
pub grounded : (past : Past) (n : Name) (why : Cause) → IsOther why → IsGrounded past n why → (session body : ℕ) → kind_of past n ≡ Some (kind.User session body) → UserCause past n session why
grounded past n (cause.Orphan a) other g session body is = absurd other
grounded past n cause.Killed other g session body is = marked past n session body is g
grounded past n (cause.Asked by) other g session body is = g session
grounded past n (cause.Conflict copy holder) other g session body is = g session
grounded past n (cause.NoQuorum lack) other g session body is = g session
grounded past n cause.Last other g session body is = g session
grounded past n (cause.Child child) other g session body is = absurd other
grounded past n cause.Missed other g session body is = g session

-- so is that of an orphan of one that has ended, and not committed
pub orphan_grounded : (past now : Past) (n a : Name) → IsGrounded past n (cause.Orphan a) → is_some (end now a) ≡ true → is_committed (outcome now a) ≡ false → (session body : ℕ) → UserCause now n session (cause.Orphan a)
orphan_grounded past now n a g some none session body = record { above = g.0; not_itself = g.1; aborted = not_committed (end now a) some none }

-- so is that of a child that is aborted
pub child_grounded : (newer past now : Past) (n child : Name) → now ≡ newer ++ past → IsGrounded past n (cause.Child child) → is_aborted (outcome now child) ≡ true → (session body : ℕ) → UserCause now n session (cause.Child child)
child_grounded newer past now n child grown g aborted session body = (g.0, subst (λ p. Started p child (λ b. IsUser b.kind)) (sym grown) (started_still newer past child (λ b. IsUser b.kind) g.1), aborted_is_abort (end now child) aborted)

-- WHAT IS MADE

pub unaborted : (n : Name) (v w : View) (why : DeskNo) → Refused (against_abort n) v w why → IsUnaborted v w n (no_of why)
unaborted n v w why r = abort_says n v w why (walking.of_looked v w r.0) r.1

module _ (setting : Setting) (v w : View) (c : Client) (for : IsFor setting v w c) (legal : Legal setting w.seen) (n : Name) where
  pub aborted_made : (why : Cause) (r : Result (Unit {0}) TxNo) → OnOk r (Walk v w (entry v.number (event.End n (Abort why)) ∷ [])) → OnOk r (Made c (by_client c (event.End n (Abort why)) ∷ []) v.seen w.seen)
  aborted_made why (Ok x) walk = made_one setting v w c for legal (event.End n (Abort why)) walk
  aborted_made why (Err e) walk = tt

  none : Walk v w [] → Made c [] v.seen w.seen
  none walk = made_so setting v w c for legal [] walk

  not_aborted : (why : Cause) (no : TxNo) → IsUnaborted v w n no → NotAborted c n why v.seen w.seen no
  not_aborted why (tx_no.Short s) h = (none h.0, h.1)
  not_aborted why tx_no.Ended h = (none h.0, inl h.1)
  not_aborted why tx_no.Ready h = (none h.0, h.1, h.2)
  not_aborted why (tx_no.Orphan a) h = absurd h
  not_aborted why (tx_no.Conflict copy holder) h = absurd h
  not_aborted why (tx_no.NoQuorum lack) h = absurd h
  not_aborted why tx_no.Last h = absurd h
  not_aborted why (tx_no.ChildrenOpen child) h = absurd h
  not_aborted why tx_no.Ledger h = absurd h

  pub none_aborted : (why : Cause) (r : Result (Unit {0}) TxNo) → IfErr r (IsUnaborted v w n) → IfErr r (NotAborted c n why v.seen w.seen)
  none_aborted why (Ok x) h = tt
  none_aborted why (Err e) h = not_aborted why e h

  unfounded : (why : Cause) (no : TxNo) → IsUnfounded v w n why no → NotAborted c n why v.seen w.seen no
  unfounded why tx_no.Ended h = (none h.0, h.1)
  unfounded why (tx_no.Short s) h = (none h.0, h.1)
  unfounded why tx_no.Ready h = (none h.0, h.1, h.2)
  unfounded why (tx_no.Orphan a) h = (none h.0, h.1, h.2, h.3)
  unfounded why (tx_no.Conflict copy holder) h = absurd h
  unfounded why (tx_no.NoQuorum lack) h = absurd h
  unfounded why tx_no.Last h = absurd h
  unfounded why (tx_no.ChildrenOpen child) h = absurd h
  unfounded why tx_no.Ledger h = absurd h

  pub all_unfounded : (why : Cause) (r : Result (Unit {0}) TxNo) → IfErr r (IsUnfounded v w n why) → IfErr r (NotAborted c n why v.seen w.seen)
  all_unfounded why (Ok x) h = tt
  all_unfounded why (Err e) h = unfounded why e h

-- what was not aborted as it was seen later, was not from the first
unaborted_on : (v u w : View) (n : Name) (why : Cause) (no : TxNo) → Walk v u [] → IsUnaborted u w n no → IsUnfounded v w n why no
unaborted_on v u w n why tx_no.Ended first h = (walking.walk_on v u w [] [] first h.0, inl h.1)
unaborted_on v u w n why tx_no.Ready first h = (walking.walk_on v u w [] [] first h.0, h.1, h.2)
unaborted_on v u w n why (tx_no.Short s) first h = (walking.walk_on v u w [] [] first h.0, h.1)
unaborted_on v u w n why (tx_no.Orphan x) first h = absurd h
unaborted_on v u w n why (tx_no.Conflict copy holder) first h = absurd h
unaborted_on v u w n why (tx_no.NoQuorum lack) first h = absurd h
unaborted_on v u w n why tx_no.Last first h = absurd h
unaborted_on v u w n why (tx_no.ChildrenOpen child) first h = absurd h
unaborted_on v u w n why tx_no.Ledger first h = absurd h

pub all_unaborted_on : (v u w : View) (n : Name) (why : Cause) (r : Result (Unit {0}) TxNo) → Walk v u [] → IfErr r (IsUnaborted u w n) → IfErr r (IsUnfounded v w n why)
all_unaborted_on v u w n why (Ok x) first h = tt
all_unaborted_on v u w n why (Err e) first h = unaborted_on v u w n why e first h

unfounded_on : (v u w : View) (n : Name) (why : Cause) (no : TxNo) → Walk v u [] → IsUnfounded u w n why no → IsUnfounded v w n why no
unfounded_on v u w n why tx_no.Ended first h = (walking.walk_on v u w [] [] first h.0, h.1)
unfounded_on v u w n why tx_no.Ready first h = (walking.walk_on v u w [] [] first h.0, h.1, h.2)
unfounded_on v u w n why (tx_no.Short s) first h = (walking.walk_on v u w [] [] first h.0, h.1)
unfounded_on v u w n why (tx_no.Orphan x) first h = (walking.walk_on v u w [] [] first h.0, h.1, h.2, h.3)
unfounded_on v u w n why (tx_no.Conflict copy holder) first h = absurd h
unfounded_on v u w n why (tx_no.NoQuorum lack) first h = absurd h
unfounded_on v u w n why tx_no.Last first h = absurd h
unfounded_on v u w n why (tx_no.ChildrenOpen child) first h = absurd h
unfounded_on v u w n why tx_no.Ledger first h = absurd h

pub all_unfounded_on : (v u w : View) (n : Name) (why : Cause) (r : Result (Unit {0}) TxNo) → Walk v u [] → IfErr r (IsUnfounded u w n why) → IfErr r (IsUnfounded v w n why)
all_unfounded_on v u w n why (Ok x) first h = tt
all_unfounded_on v u w n why (Err e) first h = unfounded_on v u w n why e first h

-- what was entered behind what others had, was from the first
pub all_ended_on : (v u w : View) (ev : Event) (r : Result (Unit {0}) TxNo) → Walk v u [] → OnOk r (Walk u w (entry u.number ev ∷ [])) → OnOk r (Walk v w (entry v.number ev ∷ []))
all_ended_on v u w ev (Ok x) first walk = subst (λ s. Walk v w (entry s ev ∷ [])) first.number (walking.walk_on v u w [] _ first walk)
all_ended_on v u w ev (Err e) first walk = tt

pub on_any : (r : Result (Unit {0}) TxNo) (fact : Type 0) → fact → OnOk r fact
on_any (Ok x) fact is = is
on_any (Err e) fact is = tt

-- OTHER CAUSES

pub is_other : (c : Cause) → ((a : Name) → c ≡ cause.Orphan a → ⊥) → ((child : Name) → c ≡ cause.Child child → ⊥) → IsOther c
is_other (cause.Orphan a) orphan child = orphan a refl
is_other (cause.Child c) orphan child = child c refl
is_other (cause.Asked by) orphan child = tt
is_other (cause.Conflict copy holder) orphan child = tt
is_other (cause.NoQuorum lack) orphan child = tt
is_other cause.Last orphan child = tt
is_other cause.Killed orphan child = tt
is_other cause.Missed orphan child = tt
