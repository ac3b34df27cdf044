-- A manager from its start to its end.
use Rattle.std.proofs.Common.{◌≡◌, ℕ, ◌+◌, ◌==◌, ◌<◌, inl, inr, false, [], ◌∷◌, ◌++◌, length, refl, sym, ap, ◌∙◌, subst, arith}
use Rattle.std.specs.Prelude.{None, Some, MatchOption, Result, Ok, Err, IfOk, IfErr, not, IsTrue}
use Rattle.std.specs.List.{AllByRecursion}
use Rattle.std.specs.Option.{option_or}
use Rattle.std.proofs.lemmas.Option.{same_Some}
use Rattle.qc_names.specs.Name as name
use Rattle.qc_event.specs.Aborts.{ManagerCause, Licensed}
use Rattle.qc_event.specs.Base.{Setting}
use Rattle.qc_event.specs.declared.event.Answer.{Answer}
use Rattle.qc_event.specs.declared.event.Cause.{Cause}
use Rattle.qc_event.specs.declared.event.Cause.TheVariants as cause
use Rattle.qc_event.specs.declared.event.Entry.{Entry}
use Rattle.qc_event.specs.declared.event.Event.TheVariants as event
use Rattle.qc_event.specs.declared.event.How.{How}
use Rattle.qc_event.specs.declared.event.How.TheVariants.{Commit, Abort}
use Rattle.qc_event.specs.declared.event.Kind.{Kind}
use Rattle.qc_event.specs.declared.event.Kind.TheVariants as kind
use Rattle.qc_event.specs.declared.short.Short.{Short}
use Rattle.qc_event.specs.declared.short.Short.TheVariants as short
use Rattle.qc_event.specs.History.{Past, Name, Begun, same, start, end, is_child, children}
use Rattle.qc_event.specs.Legal.{Legal}
use Rattle.qc_event.specs.Standing.{IsManager, IsNamedOrphan, Started, open_child}
use Rattle.qc_event.proofs.LastNumber.{is_child-last, length_last}
use Rattle.qc_event.proofs.Later.{start_still}
use Rattle.qc_event.proofs.NamedOrphans.{is_dead}
use Rattle.qc_carry.specs.Acting.{IsNoAccess}
use Rattle.qc_carry.specs.Walk.{Walk}
use Rattle.qc_carry.proofs.Orphans.{above_parent, dead_parent_of, named_stays, orphan_of}
use Rattle.qc_carry.proofs.Walking as walking
use Rattle.qc_carry.proofs.Walks as walks
use Rattle.qc_managers.specs.Carrying.{HasGrown, IsRunning, entry, made_by}
use Rattle.qc_desk.specs.declared.refusal.DeskNo.{DeskNo}
use Rattle.qc_desk.specs.declared.refusal.DeskNo.TheVariants as desk
use Rattle.qc_desk.specs.declared.view.View.{View}
use Rattle.qc_desk.specs.Calling.{Refused}
use Rattle.qc_desk.specs.Entries.{IsSince}
use Rattle.qc_desk.specs.Own.{CommitsOwn, IsMine}
use Rattle.qc_desk.specs.Refusing.{against_abort, against_commit}
use Rattle.qc_managers.specs.Managed.{IsAnswered, ManagerIsRefused, IsShort, MayEndFor, NamesShortest, cause_of}
use Rattle.qc_managers.specs.declared.no.MgrNo.{MgrNo}
use Rattle.qc_managers.specs.declared.no.MgrNo.TheVariants as no
use Rattle.qc_script.specs.Calls.{GaveNone, IsOfAccess, Ran, RefusesChild, WasCut, WasRefused, is_asked}
use Rattle.qc_script.specs.Client.{Client, Made}
use Rattle.qc_script.specs.declared.tx.TxNo.{TxNo}
use Rattle.qc_script.specs.declared.tx.TxNo.TheVariants as tx_no
use Rattle.qc_session.specs.Acting.{IsUnaborted, IsWanting, no_of, orphan_told, short_of}
use Rattle.qc_session.specs.Clients.{IsFor}
use Rattle.qc_session.specs.Managing.{Closed, Ends, HasStarted, NotClosed, told}
use Rattle.qc_session.specs.Tidy.{IsTidy}
use Rattle.qc_session.proofs.Accesses.{accesses_do}
use Rattle.qc_session.proofs.Own.{made_so}
use Rattle.qc_session.proofs.Refused.{abort_says, commit_dead, commit_want}
use Rattle.qc_session.proofs.Tidy.{accesses_tidy, others_closed}
use Rattle.qc_session.proofs.Walks.{started_walk}

-- KINDS

pub manager_no_access : (setting : Setting) (seat : ℕ) (past : Past) (n : Name) (k : Kind) → IsManager k → IsRunning seat past n k → Started past n (λ b. IsNoAccess b.kind)
manager_no_access setting seat past n k manages runs = subst (λ o. MatchOption o ⊥ (λ (b : Begun). IsNoAccess b.kind)) (sym runs.started) (by_kind k manages)
  where
    by_kind : (x : Kind) → IsManager x → IsNoAccess x
    by_kind kind.Access is = absurd is
    by_kind (kind.User session body) is = tt
    by_kind (kind.Read rec) is = tt
    by_kind (kind.Write rec value) is = tt
    by_kind (kind.Reconf rec config) is = tt

-- it is the client's
pub manager_mine : (seat : ℕ) (past : Past) (n : Name) (k : Kind) → IsManager k → IsRunning seat past n k → IsMine past seat n
manager_mine seat past n k manages runs = subst (λ o. MatchOption o ⊥ (λ (b : Begun). IsManager b.kind × (b.seat ≡ seat))) (sym runs.started) (manages, refl)

licensed : (setting : Setting) (seat : ℕ) (past : Past) (n : Name) (b : Begun) (k : Kind) (c : Cause) → IsManager k → ManagerCause setting past n k c → seat ≡ b.seat → Licensed setting past seat n b k c
licensed setting seat past n b (kind.User session body) c is why own = absurd is
licensed setting seat past n b (kind.Read rec) c is why own = (why, own)
licensed setting seat past n b (kind.Write rec value) c is why own = (why, own)
licensed setting seat past n b (kind.Reconf rec config) c is why own = (why, own)
licensed setting seat past n b kind.Access c is why own = absurd is

-- it may be aborted for its cause
pub manager_licensed : (setting : Setting) (seat : ℕ) (past : Past) (n : Name) (k : Kind) (c : Cause) → IsManager k → MayEndFor setting seat past n k c → Started past n (λ b. Licensed setting past seat n b b.kind c)
manager_licensed setting seat past n k c manages may =
    subst (λ o. MatchOption o ⊥ (λ (b : Begun). Licensed setting past seat n b b.kind c)) (sym may.running.started)
    (licensed setting seat past n (record { seat = seat; kind = k }) k c manages may.licensed refl)

commits : (setting : Setting) (seat : ℕ) (past : Past) (n : Name) (given : Answer) (k : Kind) → IsManager k → IsAnswered setting seat past n k given → CommitsOwn setting past seat n given (record { seat = seat; kind = k }) k
commits setting seat past n given (kind.User session body) is came = absurd is
commits setting seat past n given (kind.Read rec) is came = record { own_seat = refl; complete = came.complete; answers = came.answers }
commits setting seat past n given (kind.Write rec value) is came = record { own_seat = refl; complete = came.complete; answers = came.answers }
commits setting seat past n given (kind.Reconf rec config) is came = record { own_seat = refl; complete = came.complete; answers = came.answers }
commits setting seat past n given kind.Access is came = absurd is

-- it may commit with its answer
pub manager_commits : (setting : Setting) (seat : ℕ) (past : Past) (n : Name) (k : Kind) (given : Answer) → IsManager k → IsAnswered setting seat past n k given → Started past n (λ b. CommitsOwn setting past seat n given b b.kind)
manager_commits setting seat past n k given manages came =
    subst (λ o. MatchOption o ⊥ (λ (b : Begun). CommitsOwn setting past seat n given b b.kind)) (sym came.running.started)
    (commits setting seat past n given k manages came)

-- WHERE IT IS REFUSED

-- a desk refused for this ancestor
pub is_told : (why : DeskNo) (a : Name) → orphan_told why ≡ Some a → why ≡ desk.Orphan a
is_told (desk.Orphan x) a is = ap desk.Orphan (same_Some x a is)
is_told desk.Ended a is = absurd cc
is_told (desk.ChildrenOpen x) a is = absurd cc
is_told desk.Ready a is = absurd cc
is_told (desk.Short s) a is = absurd cc

pub wanting : (n : Name) (v w : View) (why : DeskNo) → Refused (against_abort n) v w why → IsWanting v w (short_of why)
wanting n v w why r = by_why why (walking.of_looked v w r.0) (abort_says n v w why (walking.of_looked v w r.0) r.1)
  where
    by_why : (x : DeskNo) → Walk v w [] → IsUnaborted v w n (no_of x) → IsWanting v w (short_of x)
    by_why (desk.Short s) walk h = (walk, h.1)
    by_why desk.Ended walk h = (walk, tt)
    by_why desk.Ready walk h = (walk, tt)
    by_why (desk.Orphan a) walk h = (walk, tt)
    by_why (desk.ChildrenOpen c) walk h = (walk, tt)

pub commit_wanting : (n : Name) (v w : View) (why : DeskNo) → Refused (against_commit n) v w why → IsWanting v w (short_of why)
commit_wanting n v w (desk.Short s) r = (walking.of_looked v w r.0, commit_want w.seen n s r.1)
commit_wanting n v w desk.Ended r = (walking.of_looked v w r.0, tt)
commit_wanting n v w desk.Ready r = (walking.of_looked v w r.0, tt)
commit_wanting n v w (desk.Orphan a) r = (walking.of_looked v w r.0, tt)
commit_wanting n v w (desk.ChildrenOpen c) r = (walking.of_looked v w r.0, tt)

-- WHILE OTHERS ACT

module _ (setting : Setting) (v w : View) (n : Name) (k : Kind) (manages : IsManager k) (runs : IsRunning v.number v.seen n k) (legal : Legal setting w.seen) (walk : Walk v w []) where
  abbrev past : Past
  past = walk.newer ++ v.seen

  mine : IsMine v.seen v.number n
  mine = manager_mine v.number v.seen n k manages runs

  legal_now : Legal setting past
  legal_now = subst (Legal setting) walk.grown legal

  pub still_open : end w.seen n ≡ None
  still_open =
      ap (λ p. end p n) walk.grown ∙ walks.end_m setting v.seen v.number n mine walk.newer legal_now
      ∙ ap (λ p. option_or (end v.seen n) (end p n)) walk.own ∙ ap (λ o. option_or o None) runs.not_ended

  -- it is an orphan where it is dead
  pub dead_orphan : (a : Name) → Refused (against_commit n) v w (desk.Orphan a) → IsNamedOrphan w.seen n a
  dead_orphan a r = orphan_of w.seen n a (commit_dead w.seen n a r.1) still_open

  -- it runs still
  pub running_on : IsSince v.number v.seen w.seen → IsRunning w.number w.seen n k
  running_on since = subst (λ s. IsRunning s w.seen n k) (sym walk.number) (record {
    started = subst (λ p. start p n ≡ Some (record { seat = v.number; kind = k })) (sym walk.grown) (start_still walk.newer v.seen n (record { seat = v.number; kind = k }) runs.started);
    not_ended = still_open;
    children_ended = subst (λ p. open_child p n ≡ None) (sym since.1) (others_closed setting v.number since.0 v.seen n (subst (Legal setting) since.1 legal) since.2 mine runs.children_ended);
  })

-- HOW IT CLOSES

-- who ends as an orphan was one before, and is one still
pub orphan_at_end : (v w : View) (n a : Name) → Ends v w n (Abort (cause.Orphan a)) → IsNamedOrphan v.seen n a → IsNamedOrphan w.seen n a
orphan_at_end v w n a ends orphan = subst (λ p. IsNamedOrphan p n a) (sym ends.grown) (named_stays ends.newer v.seen n a orphan)

module _ (setting : Setting) (v w : View) (n : Name) (k : Kind) where
  -- it was aborted for its cause
  pub closed_for : (reason : MgrNo) (x : Cause) → cause_of reason ≡ Some x → MayEndFor setting v.number v.seen n k x → Ends v w n (Abort x) → NotClosed v w n (told reason)
  closed_for (no.Orphan a) x is may ends =
      let same : x ≡ cause.Orphan a = cc in
      let orphan : IsNamedOrphan v.seen n a = record {
        orphan = subst (ManagerCause setting v.seen n k) same may.licensed;
        shortest = subst (NamesShortest v.seen n) same may.shortest;
      } in
      let ended = subst (λ y. Ends v w n (Abort y)) same ends in
      (ended, orphan_at_end v w n a ended orphan)
  closed_for (no.Conflict copy holder) x is may ends = let same : x ≡ cause.Conflict copy holder = cc in subst (λ y. Ends v w n (Abort y)) same ends
  closed_for (no.NoQuorum lack) x is may ends = let same : x ≡ cause.NoQuorum lack = cc in subst (λ y. Ends v w n (Abort y)) same ends
  closed_for no.Last x is may ends = let same : x ≡ cause.Last = cc in subst (λ y. Ends v w n (Abort y)) same ends
  closed_for (no.Short s) x is may ends = absurd cc

  -- it may end for its cause
  pub refused_may : (reason : MgrNo) (x : Cause) → cause_of reason ≡ Some x → ManagerIsRefused setting v.number v.seen n k reason → MayEndFor setting v.number v.seen n k x
  refused_may reason x is refused = subst (λ o. MatchOption o (IsShort v.seen reason) (MayEndFor setting v.number v.seen n k)) is refused

  -- it has no cause, and stays open
  pub unended : (reason : MgrNo) → cause_of reason ≡ None → ManagerIsRefused setting v.number v.seen n k reason → NotClosed v v n (told reason)
  unended (no.Short s) is refused = (walking.nothing v, refused)
  unended (no.Orphan a) is refused = absurd cc
  unended (no.Conflict copy holder) is refused = absurd cc
  unended (no.NoQuorum lack) is refused = absurd cc
  unended no.Last is refused = absurd cc

-- it did not close as it was seen later, and not from the first
pub not_closed_on : (v u w : View) (n : Name) (a : Name) → Walk v u [] → Ends u w n (Abort (cause.Orphan a)) → Ends v w n (Abort (cause.Orphan a))
not_closed_on v u w n a first ends = subst (λ s. Walk v w (entry s (event.End n (Abort (cause.Orphan a))) ∷ [])) first.number (walking.walk_on v u w [] _ first ends)

pub wanting_on : (v u w : View) (n : Name) (s : Short) → Walk v u [] → IsWanting u w s → IsWanting v w s
wanting_on v u w n s first h = (walking.walk_on v u w [] [] first h.0, h.1)

-- THE WHOLE OF IT

-- A manager started, its accesses did what its client made since, and maybe it ended.
module _ (setting : Setting) (v w x y : View) (c : Client) (for : IsFor setting v y c) (of n : Name) (k : Kind) (manages : IsManager k) (nonroot : 0 < length of) (h : HasStarted v w of n k) (runs : IsRunning w.number w.seen n k) (g : HasGrown (λ e. not (e.seat == w.number)) (λ m. IsTrue (is_child n m)) w.seen x.seen)
    (carried : Walk w x (made_by w.number g.newer)) (legal : Legal setting y.seen) (legal_carried : Legal setting x.seen) where
  abbrev inner : Past
  inner = made_by w.number g.newer

  abbrev j : ℕ
  j = length (children h.before of) + 1

  is_one : IsTrue (is_child of n)
  is_one = ap (is_child of) h.named ∙ is_child-last of j

  pos : 0 < length n
  pos = omega (arith, ap (λ m. length m) h.named, length_last of j)

  manager : Started w.seen n (λ b. IsManager b.kind)
  manager = subst (λ o. MatchOption o ⊥ (λ (b : Begun). IsManager b.kind)) (sym runs.started) manages

  does : AllByRecursion (λ (e : Entry). IsOfAccess n e.event) inner
  does = accesses_do setting w.number n g.newer w.seen (subst (Legal setting) g.grown legal_carried) pos manager g.each

  so_far : Walk v x (inner ++ (entry v.number (event.Start n k) ∷ []))
  so_far = walking.walk_on v w x _ inner (started_walk v w of n k h) carried

  x_number : x.number ≡ c.number
  x_number = carried.number ∙ (started_walk v w of n k h).number ∙ sym for.number

  pub ran : (how : How) → is_asked how ≡ false → Ends x y n how → Ran c of k how v.seen y.seen
  ran how not_asked ends = record {
    manager = n;
    is_one = is_one;
    not_asked = ap not not_asked;
    inner = inner;
    of_accesses = does;
    made =
        subst (λ s. Made c (entry c.number (event.End n how) ∷ (inner ++ (entry s (event.Start n k) ∷ []))) v.seen y.seen) (sym for.number)
        (subst (λ s. Made c (entry s (event.End n how) ∷ (inner ++ (entry v.number (event.Start n k) ∷ []))) v.seen y.seen) x_number
        (made_so setting v y c for legal _ (walking.walk_on v x y _ _ so_far ends)));
  }

  was_cut : Walk x y [] → WasCut c of k v.seen y.seen
  was_cut walk = record {
    manager = n;
    is_one = is_one;
    inner = inner;
    of_accesses = does;
    made = subst (λ s. Made c (inner ++ (entry s (event.Start n k) ∷ [])) v.seen y.seen) (sym for.number) (made_so setting v y c for legal _ (walking.walk_on v x y _ [] so_far walk));
  }

  -- its ancestor is one of the transaction for which it ran
  below : (a : Name) → IsNamedOrphan y.seen n a → IsNamedOrphan y.seen (of ++ j ∷ []) a
  below a orphan = subst (λ m. IsNamedOrphan y.seen m a) h.named orphan

  gave_orphan : (a : Name) → Ran c of k (Abort (cause.Orphan a)) v.seen y.seen → IsNamedOrphan y.seen (of ++ j ∷ []) a → GaveNone c of k v.seen y.seen (tx_no.Orphan a)
  gave_orphan a ran o = ((above_parent of a j o.orphan.above o.orphan.not_itself, o.orphan.aborted), dead_parent_of y.seen of a j o, inr ran)

  gave_none : (why : TxNo) → NotClosed x y n why → GaveNone c of k v.seen y.seen why
  gave_none (tx_no.Orphan a) not = gave_orphan a (ran (Abort (cause.Orphan a)) refl not.0) (below a not.1)
  gave_none (tx_no.Conflict copy holder) not = ran (Abort (cause.Conflict copy holder)) refl not
  gave_none (tx_no.NoQuorum lack) not = ran (Abort (cause.NoQuorum lack)) refl not
  gave_none tx_no.Last not = ran (Abort cause.Last) refl not
  gave_none (tx_no.Short s) not = (inr (was_cut not.0), not.1)
  gave_none tx_no.Ended not = absurd not
  gave_none (tx_no.ChildrenOpen m) not = absurd not
  gave_none tx_no.Ready not = absurd not
  gave_none tx_no.Ledger not = absurd not

  pub all_answers : (came_to : Result Answer MgrNo) (r : Result Answer TxNo) → IfOk r (Closed x y n came_to) → IfOk r (λ given. Ran c of k (Commit given) v.seen y.seen)
  all_answers came_to (Ok given) closed = ran (Commit given) refl closed.1
  all_answers came_to (Err why) closed = tt

  pub all_fail : (r : Result Answer TxNo) → IfErr r (NotClosed x y n) → IfErr r (GaveNone c of k v.seen y.seen)
  all_fail (Ok given) not = tt
  all_fail (Err why) not = gave_none why not

-- its accesses leave all tidy
pub carried_tidy : (setting : Setting) (v w x : View) (of n : Name) (k : Kind) (manages : IsManager k) (h : HasStarted v w of n k) (runs : IsRunning w.number w.seen n k) (g : HasGrown (λ e. not (e.seat == w.number)) (λ m. IsTrue (is_child n m)) w.seen x.seen)
    (carried : Walk w x (made_by w.number g.newer)) → Legal setting x.seen → IsTidy w.number w.seen → IsTidy x.number x.seen
carried_tidy setting v w x of n k manages h runs g carried legal was = subst (λ s. IsTidy s x.seen) (sym carried.number)
    (subst (IsTidy w.number) (sym g.grown) (accesses_tidy setting w.number n w.seen pos manager g.newer (subst (Legal setting) g.grown legal) g.each was))
  where
    pos : 0 < length n
    pos = omega (arith, ap (λ m. length m) h.named, length_last of (length (children h.before of) + 1))

    manager : Started w.seen n (λ b. IsManager b.kind)
    manager = subst (λ o. MatchOption o ⊥ (λ (b : Begun). IsManager b.kind)) (sym runs.started) manages

-- it did not start
pub refused_gave : (c : Client) (of : Name) (k : Kind) (before now : Past) (why : TxNo) → WasRefused c of before now why → RefusesChild now of why → GaveNone c of k before now why
refused_gave c of k before now (tx_no.Orphan a) h exact = (h.1, is_dead now of a exact.1, inl (h.0, h.1, exact))
refused_gave c of k before now (tx_no.Conflict copy holder) h exact = absurd h.1
refused_gave c of k before now (tx_no.NoQuorum lack) h exact = absurd h.1
refused_gave c of k before now tx_no.Last h exact = absurd h.1
refused_gave c of k before now (tx_no.Short s) h exact = (inl (h.0, h.1, exact), h.1)
refused_gave c of k before now tx_no.Ended h exact = (h.0, h.1, exact)
refused_gave c of k before now (tx_no.ChildrenOpen child) h exact = absurd h
refused_gave c of k before now tx_no.Ready h exact = (h.0, h.1, exact)
refused_gave c of k before now tx_no.Ledger h exact = absurd h.1
