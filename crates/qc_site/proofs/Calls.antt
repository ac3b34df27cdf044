-- What one call of a site leaves, and what that and the next leave together.
use Rattle.std.proofs.Common.{◌≡◌, ◌⊎◌, inl, inr, ℕ, [], List, ◌++◌, length, refl, sym, ap, ◌∙◌, subst}
use Rattle.std.specs.Prelude.{Option, None, Some, Result, Ok, Err, IfErr, IfOk, IsErrOf, OnErr, OnOk, option_to_list, true}
use Rattle.qc_config.specs.declared.tuple.Tuple.{Tuple}
use Rattle.qc_event.specs.Grants.{grant_with, MayGrant}
use Rattle.qc_disk.specs.Disk.{IsImage}
use Rattle.qc_disk.specs.declared.disk.Disk.{Ghosts}
use Rattle.qc_event.specs.declared.event.Answered.{Answered}
use Rattle.qc_event.specs.declared.event.Answered.TheVariants as answer
use Rattle.qc_event.specs.declared.event.Ask.{Ask}
use Rattle.qc_event.specs.declared.event.Entry.{Entry}
use Rattle.qc_event.specs.declared.event.Grant.{Grant}
use Rattle.qc_event.specs.Base.{Setting, no_tuple}
use Rattle.qc_event.specs.History.{Past, grants}
use Rattle.qc_event.specs.Seats.{copy_seat}
use Rattle.qc_journal.specs.Journal.{disk_of, limit_of, IsUp, Keeps}
use Rattle.qc_journal.specs.declared.journal.Journal.{Journal}
use Rattle.qc_journal.proofs.Moments.{falls_none, started, weakened}
use Rattle.qc_ledger.specs.Entered.{AtMost, GrowsBy}
use Rattle.qc_ledger.specs.Runs.{Falls, HasOrMore, Leaves, LosesNone}
use Rattle.qc_ledger.proofs.Logging.{LeavesNow, falls_grow, grew_by, loses_none_on, same_moments, then_grew, then_none}
use Rattle.qc_desk.specs.declared.view.View.{View}
use Rattle.qc_desk.specs.Entries.{IsOlder}
use Rattle.qc_desk.proofs.Seers.{older_trans}
use Rattle.qc_site.specs.AtDesk.{hand_entries}
use Rattle.qc_site.specs.Back.{grant_body}
use Rattle.qc_site.specs.Calls.{empty_handed, SiteBecame, CanServe, HasServed, GrantMoments, IsUnwrittenNo, SiteState, SiteWroteNone}
use Rattle.qc_site.specs.Log.{log_journal}
use Rattle.qc_site.specs.Replica.{Standing}
use Rattle.qc_site.specs.Since.{GrantsGrow}
use Rattle.qc_site.specs.Sites.{AnswerEnters, EntersHand, EntersThen, IsByLocks, IsLeftBy, IsUnwritten, KeepsGranted, WritesNone}
use Rattle.qc_site.specs.declared.serve.ServeNo.{ServeNo}
use Rattle.qc_site.specs.declared.serve.ServeNo.TheVariants as no_serve
use Rattle.qc_site.specs.declared.log.GrantLog.{GrantLog}
use Rattle.qc_site.proofs.Logs.{entered_over, same_over}
use Rattle.qc_site.proofs.Since.{grants_on, grants_risen, grants_written}

-- WHAT IS ENTERED

module _ (copy : ℕ) where
  none_entered : (hand : Option Grant) (old new : Past) → hand ≡ None → AtMost (hand_entries copy hand) old new → new ≡ old
  none_entered hand old new none at = elim (subst (λ h. AtMost (hand_entries copy h) old new) none at) [ inl is ↦ is | inr is ↦ is ]

  module _ (ask : Ask) (old mid new : Standing) (hand : EntersHand copy old mid) (none : mid.hand ≡ None) where
    then_entered : (e : Entry) → EntersThen copy mid new e → EntersThen copy old new e
    then_entered e then = record {
      mid = then.mid;
      first_of_all = subst (AtMost (hand_entries copy old.hand) old.pass.mine) (sym (none_entered mid.hand mid.pass.mine then.mid none then.first_of_all)) hand;
      all = then.all;
    }

    enters_on : (said : Answered) → AnswerEnters copy ask said mid new → AnswerEnters copy ask said old new
    enters_on (answer.Granted tuple) (inl h) = inl (subst (AtMost (hand_entries copy old.hand) old.pass.mine) (sym (none_entered mid.hand mid.pass.mine new.pass.mine none h)) hand)
    enters_on (answer.Granted tuple) (inr h) = inr (then_entered _ h)
    enters_on (answer.Blocked holder) h = then_entered _ h
    enters_on (answer.Dead ancestor) h = then_entered _ h
    enters_on answer.Down h = then_entered _ h
    enters_on answer.Full h = then_entered _ h
    enters_on answer.Strange h = then_entered _ h

-- at most the grant in hand is entered, and then a request is served
pub serves_on : {D : Type 0} {g : Ghosts D} (copy : ℕ) (ask : Ask) (seer : View) (old mid new : SiteState g) (said : Answered) → EntersHand copy old.replica mid.replica → mid.replica.hand ≡ None
    → HasServed copy ask seer mid new said → HasServed copy ask seer old new said
serves_on copy ask seer old mid new said hand none served = record {
  enters = enters_on copy ask old.replica mid.replica new.replica hand none said served.enters;
  rests = served.rests;
  shown = served.shown;
}

pub served_on : {D E : Type 0} {g : Ghosts D} (copy : ℕ) (ask : Ask) (seer : View) (old mid new : SiteState g) (r : Result Answered E) → EntersHand copy old.replica mid.replica → mid.replica.hand ≡ None
    → IfOk r (HasServed copy ask seer mid new) → IfOk r (HasServed copy ask seer old new)
served_on copy ask seer old mid new (Err why) hand none served = tt
served_on copy ask seer old mid new (Ok said) hand none served = serves_on copy ask seer old mid new said hand none served

pub served_enters : {D E : Type 0} {g : Ghosts D} (copy : ℕ) (ask : Ask) (seer : View) (old new : SiteState g) (r : Result Answered E) → IfOk r (HasServed copy ask seer old new)
    → IfOk r (λ said. AnswerEnters copy ask said old.replica new.replica)
served_enters copy ask seer old new (Err why) served = tt
served_enters copy ask seer old new (Ok said) served = served.enters

pub ready_by : {T E : Type 0} (r : Result T E) (s : Standing) → s.up ≡ true → OnOk r (s.hand ≡ None) → OnOk r (CanServe s)
ready_by (Ok x) s up none = record { up = up; none = none }
ready_by (Err e) s up none = tt

-- the grant in hand was entered, or is in hand still
pub entered_or_kept : {T E : Type 0} (r : Result T E) (old new : Option Grant) → OnOk r (new ≡ None) → OnErr r (new ≡ old) → (new ≡ None) ⊎ (new ≡ old)
entered_or_kept (Ok x) old new none kept = inl none
entered_or_kept (Err e) old new none kept = inr kept

-- A call that may write finds nothing in hand.
pub left_on : (ask : Ask) (old new : Option Grant) → IsLeftBy ask None new → IsLeftBy ask old new
left_on ask old new (inl none) = inl none
left_on ask old new (inr (inl none)) = inl none
left_on ask old new (inr (inr grant)) = inr (inr grant)

pub left_by_look : (ask : Ask) (old new : Option Grant) → (new ≡ None) ⊎ (new ≡ old) → IsLeftBy ask old new
left_by_look ask old new (inl none) = inl none
left_by_look ask old new (inr same) = inr (inl same)

-- an answer by the locks that wrote nothing
pub by_locks_none : (said : Answered) → IsByLocks said → WritesNone said → IsUnwritten said
by_locks_none (answer.Granted tuple) by none = none
by_locks_none (answer.Blocked holder) by none = none
by_locks_none (answer.Dead ancestor) by none = none
by_locks_none answer.Down by none = none
by_locks_none answer.Full by none = none
by_locks_none answer.Strange by none = absurd by

-- ONE CALL

module _ {D : Type 0} {g : Ghosts D} where
  abbrev left_by : GrantLog D g → List ℕ → Type 0
  left_by log = (g.view (disk_of (log_journal log))).may_leave

  abbrev disk_in : GrantLog D g → D
  disk_in log = disk_of (log_journal log)

module _ (setting : Setting) (copy : ℕ) {D : Type 0} {g : Ghosts D} where
  -- over the same journal
  over_same : (old new : SiteState g) → LeavesNow (log_journal old.log) → log_journal new.log ≡ log_journal old.log → new.strange ≡ old.strange → IsOlder old.replica.pass.seen new.replica.pass.seen
      → ((before : List (List ℕ)) → KeepsGranted copy before old.log old.replica → KeepsGranted copy before new.log new.replica) → SiteBecame setting copy None old new
  over_same old new law same strange older kept = record {
    kept = kept;
    plain = λ before k. strange;
    moments = λ before k. subst (λ (j : Journal D g). Leaves (log_journal old.log) j (left_by old.log)) (sym same) (started g.view (disk_in old.log) (left_by old.log) (λ c at. (law c).0 at));
    grows = λ before k. subst (λ (j : Journal D g). LosesNone (log_journal old.log) j) (sym same) (falls_grow (log_journal old.log) (log_journal old.log) (falls_none g.view (disk_in old.log)));
    grown = λ before since k grown. grants_on setting copy before since old.log new.log old.replica.pass.seen new.replica.pass.seen same older grown;
    seen = older;
    limit = ap (λ (j : Journal D g). limit_of j) same;
  }

  -- no more was granted, and the same grant is in hand
  pub looked : (old new : SiteState g) → LeavesNow (log_journal old.log) → new.log ≡ old.log → new.strange ≡ old.strange → new.replica.hand ≡ old.replica.hand
      → grants new.replica.pass.seen copy ≡ grants old.replica.pass.seen copy → IsOlder old.replica.pass.seen new.replica.pass.seen → SiteBecame setting copy None old new
  looked old new law same strange hand given older = over_same old new law (ap (λ (l : GrantLog D g). log_journal l) same) strange older
      (λ before k. subst (λ (l : GrantLog D g). KeepsGranted copy before l new.replica) (sym same) (same_over before old.log _ _ _ _ given hand k))

  -- the grant in hand was entered, whose record stands
  pub entered : (old new : SiteState g) → LeavesNow (log_journal old.log) → IsUp (log_journal old.log) → new.log ≡ old.log → new.strange ≡ old.strange → new.replica.hand ≡ None
      → grants new.replica.pass.seen copy ≡ grants old.replica.pass.seen copy ++ option_to_list old.replica.hand → IsOlder old.replica.pass.seen new.replica.pass.seen → SiteBecame setting copy None old new
  entered old new law up same strange none given older = over_same old new law (ap (λ (l : GrantLog D g). log_journal l) same) strange older
      (λ before k. subst (λ (l : GrantLog D g). KeepsGranted copy before l new.replica) (sym same)
      (same_over before old.log _ _ None _ given none (entered_over before old.log (grants old.replica.pass.seen copy) old.replica.hand up k)))

  -- nothing was written
  pub wrote_none : (old new : SiteState g) → LeavesNow (log_journal old.log) → (g.view (disk_in new.log)).content ≡ (g.view (disk_in old.log)).content → Leaves (log_journal old.log) (log_journal new.log) (left_by old.log)
      → Falls (log_journal old.log) (log_journal new.log) → IsOlder old.replica.pass.seen new.replica.pass.seen → SiteWroteNone setting copy old new
  wrote_none old new law content leaves falls older = record {
    content = content;
    moments = leaves;
    falls = falls;
    grown = λ before since grown. grants_risen setting copy before since old.log new.log new.log old.replica.pass.seen new.replica.pass.seen law leaves falls refl older grown;
  }

  pub fell : (old new : SiteState g) → SiteWroteNone setting copy old new → IsOlder old.replica.pass.seen new.replica.pass.seen → limit_of (log_journal new.log) ≡ limit_of (log_journal old.log)
      → ((before : List (List ℕ)) → KeepsGranted copy before old.log old.replica → KeepsGranted copy before new.log new.replica)
      → ((before : List (List ℕ)) → KeepsGranted copy before old.log old.replica → new.strange ≡ old.strange) → SiteBecame setting copy None old new
  fell old new none older limit kept plain = record {
    kept = kept;
    plain = plain;
    moments = λ before k. none.moments;
    grows = λ before k. falls_grow (log_journal old.log) (log_journal new.log) none.falls;
    grown = λ before since k grown. none.grown before since grown;
    seen = older;
    limit = limit;
  }

  -- a grant of what was asked was written, with nothing in hand before
  module _ (ask : Ask) (tuple : Tuple) (grant : Grant) (is : grant ≡ grant_with ask tuple) (old new : SiteState g) where
    abbrev past : Past
    past = old.replica.pass.seen

    pub wrote : IsImage (g.view (disk_in old.log)).content (left_by old.log) → IsUp (log_journal old.log) → old.log.copies ≡ length setting.base → MayGrant setting past (copy_seat copy) copy grant
        → ((found : List (List ℕ)) → Keeps (log_journal old.log) found → Leaves (log_journal old.log) (log_journal new.log) (HasOrMore found (grant_body old.log.copies grant)))
        → ((found : List (List ℕ)) → Keeps (log_journal old.log) found → LosesNone (log_journal old.log) (log_journal new.log))
        → new.strange ≡ old.strange → new.replica.pass ≡ old.replica.pass → limit_of (log_journal new.log) ≡ limit_of (log_journal old.log)
        → ((before : List (List ℕ)) → KeepsGranted copy before old.log (empty_handed old).replica → KeepsGranted copy before new.log new.replica) → SiteBecame setting copy (Some ask) (empty_handed old) new
    wrote image up copies may leaves grows strange pass limit kept = record {
      kept = kept;
      plain = λ before k. strange;
      moments = λ before k. (tuple, subst (λ (x : Grant). Leaves (log_journal old.log) (log_journal new.log) (GrowsBy (grant_body (length setting.base) x) (left_by old.log))) is (grew k.keeps));
      grows = λ before k. grows _ k.keeps;
      grown = λ before since k grown. subst (λ (v : View). GrantsGrow setting copy before since new.log v.seen) (sym pass) (grants_written setting copy before past grant may since old.log new.log copies leaves grows k grown);
      seen = subst (λ (v : View). IsOlder past v.seen) (sym pass) ([], refl);
      limit = limit;
    }
      where
        grew : {found : List (List ℕ)} → Keeps (log_journal old.log) found → Leaves (log_journal old.log) (log_journal new.log) (GrowsBy (grant_body (length setting.base) grant) (left_by old.log))
        grew {found} k = subst (λ n. Leaves (log_journal old.log) (log_journal new.log) (GrowsBy (grant_body n grant) (left_by old.log))) copies
            (grew_by (log_journal old.log) (log_journal new.log) (grant_body old.log.copies grant) found k up image (leaves found k))

  -- and then its journal stayed
  pub none_on : (old mid new : SiteState g) → SiteWroteNone setting copy old mid → log_journal new.log ≡ log_journal mid.log → IsOlder mid.replica.pass.seen new.replica.pass.seen → SiteWroteNone setting copy old new
  none_on old mid new one same older = record {
    content = ap (λ (j : Journal D g). (g.view (disk_of j)).content) same ∙ one.content;
    moments = subst (λ (j : Journal D g). Leaves (log_journal old.log) j (left_by old.log)) (sym same) one.moments;
    falls = subst (λ (j : Journal D g). Falls (log_journal old.log) j) (sym same) one.falls;
    grown = λ before since grown. grants_on setting copy before since mid.log new.log mid.replica.pass.seen new.replica.pass.seen same older (one.grown before since grown);
  }

  pub unwritten_on : {E : Type 0} (old mid new : SiteState g) (r : Result Answered E) → SiteWroteNone setting copy old mid → IsOlder mid.replica.pass.seen new.replica.pass.seen
      → IfOk r (λ said. IsUnwritten said → log_journal new.log ≡ log_journal mid.log) → IfOk r (λ said. IsUnwritten said → SiteWroteNone setting copy old new)
  unwritten_on old mid new (Ok said) one older same = λ none. none_on old mid new one (same none) older
  unwritten_on old mid new (Err refusal) one older same = tt

  pub refused_on : {T : Type 0} (old mid new : SiteState g) (r : Result T ServeNo) → SiteWroteNone setting copy old mid → IsOlder mid.replica.pass.seen new.replica.pass.seen
      → (IsErrOf r no_serve.Full → log_journal new.log ≡ log_journal mid.log) → (IsErrOf r no_serve.Strange → ⊥) → IfErr r (λ refusal. IsUnwrittenNo refusal → SiteWroteNone setting copy old new)
  refused_on old mid new (Ok x) one older full never = tt
  refused_on old mid new (Err no_serve.Down) one older full never = λ none. absurd none
  refused_on old mid new (Err no_serve.Full) one older full never = λ none. none_on old mid new one (full refl) older
  refused_on old mid new (Err no_serve.Strange) one older full never = absurd (never refl)
  refused_on old mid new (Err (no_serve.Short want)) one older full never = λ none. absurd none

  -- the same pass, and the same grant in hand
  pub same_pass : (old new : SiteState g) → LeavesNow (log_journal old.log) → new.log ≡ old.log → new.strange ≡ old.strange → new.replica.hand ≡ old.replica.hand → new.replica.pass ≡ old.replica.pass → SiteBecame setting copy None old new
  same_pass old new law same strange hand pass =
      looked old new law same strange hand (ap (λ (v : View). grants v.seen copy) pass) (subst (λ (v : View). IsOlder old.replica.pass.seen v.seen) (sym pass) ([], refl))

  pub nothing_done : (old : SiteState g) → LeavesNow (log_journal old.log) → SiteBecame setting copy None old old
  nothing_done old law = same_pass old old law refl refl refl refl

  pub nothing_written : (old new : SiteState g) → LeavesNow (log_journal old.log) → new.log ≡ old.log → IsOlder old.replica.pass.seen new.replica.pass.seen → SiteWroteNone setting copy old new
  nothing_written old new law same older =
      none_on old old new
      (wrote_none old old law refl (started g.view (disk_in old.log) (left_by old.log) (λ c at. (law c).0 at)) (falls_none g.view (disk_in old.log)) ([], refl)) (ap (λ (l : GrantLog D g). log_journal l) same) older

  -- a call that wrote nothing was one that might have
  pub asks : (ask : Ask) (old new : SiteState g) → SiteBecame setting copy None old new → SiteBecame setting copy (Some ask) old new
  asks ask old new one = record {
    kept = one.kept;
    plain = one.plain;
    moments = λ before k. (no_tuple, same_moments (log_journal old.log) (log_journal new.log) (grant_body (length setting.base) (grant_with ask no_tuple)) _ k.keeps (one.moments before k));
    grows = one.grows;
    grown = one.grown;
    seen = one.seen;
    limit = one.limit;
  }

  -- TWO CALLS

  some_run : (asked : Option Ask) (old new : GrantLog D g) → GrantMoments setting copy asked old new → Leaves (log_journal old) (log_journal new) (λ c. Unit {0})
  some_run None old new run = weakened g.view (disk_in old) (disk_in new) (left_by old) (λ c. Unit {0}) run (λ c left. tt)
  some_run (Some ask) old new run = weakened g.view (disk_in old) (disk_in new) (GrowsBy (grant_body (length setting.base) (grant_with ask run.0)) (left_by old)) (λ c. Unit {0}) run.1 (λ c left. tt)

  first_none : (asked : Option Ask) (old mid new : GrantLog D g) (bodies : List (List ℕ)) → Keeps (log_journal old) bodies → LeavesNow (log_journal mid) → GrantMoments setting copy None old mid → GrantMoments setting copy asked mid new
      → GrantMoments setting copy asked old new
  first_none None old mid new bodies k law first run = then_none (log_journal old) (log_journal mid) (log_journal new) (left_by old) law first run
  first_none (Some ask) old mid new bodies k law first run = (run.0, then_grew (log_journal old) (log_journal mid) (log_journal new) (grant_body (length setting.base) (grant_with ask run.0)) bodies k law first run.1)

  last_none : (asked : Option Ask) (old mid new : GrantLog D g) → LeavesNow (log_journal mid) → GrantMoments setting copy asked old mid → GrantMoments setting copy None mid new → GrantMoments setting copy asked old new
  last_none None old mid new law run last = then_none (log_journal old) (log_journal mid) (log_journal new) (left_by old) law run last
  last_none (Some ask) old mid new law run last = (run.0, then_none (log_journal old) (log_journal mid) (log_journal new) (GrowsBy (grant_body (length setting.base) (grant_with ask run.0)) (left_by old)) law run.1 last)

  -- the first wrote nothing
  pub became_on : (asked : Option Ask) (old mid new : SiteState g) → LeavesNow (log_journal mid.log) → SiteBecame setting copy None old mid → SiteBecame setting copy asked mid new → SiteBecame setting copy asked old new
  became_on asked old mid new law one two = record {
    kept = λ before k. two.kept before (one.kept before k);
    plain = λ before k. two.plain before (one.kept before k) ∙ one.plain before k;
    moments = λ before k. first_none asked old.log mid.log new.log _ k.keeps law (one.moments before k) (two.moments before (one.kept before k));
    grows = λ before k.
        loses_none_on (log_journal old.log) (log_journal mid.log) (log_journal new.log) (left_by old.log) (λ c. Unit {0}) (one.moments before k)
        (some_run asked mid.log new.log (two.moments before (one.kept before k))) (one.grows before k) (two.grows before (one.kept before k));
    grown = λ before since k grown. two.grown before since (one.kept before k) (one.grown before since k grown);
    seen = older_trans old.replica.pass.seen mid.replica.pass.seen new.replica.pass.seen one.seen two.seen;
    limit = two.limit ∙ one.limit;
  }

  -- the last wrote nothing
  pub became_last : (asked : Option Ask) (old mid new : SiteState g) → LeavesNow (log_journal mid.log) → SiteBecame setting copy asked old mid → SiteBecame setting copy None mid new → SiteBecame setting copy asked old new
  became_last asked old mid new law one two = record {
    kept = λ before k. two.kept before (one.kept before k);
    plain = λ before k. two.plain before (one.kept before k) ∙ one.plain before k;
    moments = λ before k. last_none asked old.log mid.log new.log law (one.moments before k) (two.moments before (one.kept before k));
    grows = λ before k.
        loses_none_on (log_journal old.log) (log_journal mid.log) (log_journal new.log) (λ c. Unit {0}) (left_by mid.log) (some_run asked old.log mid.log (one.moments before k))
        (two.moments before (one.kept before k)) (one.grows before k) (two.grows before (one.kept before k));
    grown = λ before since k grown. two.grown before since (one.kept before k) (one.grown before since k grown);
    seen = older_trans old.replica.pass.seen mid.replica.pass.seen new.replica.pass.seen one.seen two.seen;
    limit = two.limit ∙ one.limit;
  }

  -- the copy looked, and its disk was read
  pub compared : (old new : SiteState g) (now : Standing) → LeavesNow (log_journal old.log) → now.hand ≡ old.replica.hand → grants now.pass.seen copy ≡ grants old.replica.pass.seen copy → IsOlder old.replica.pass.seen now.pass.seen
      → (g.view (disk_in new.log)).content ≡ (g.view (disk_in old.log)).content → Leaves (log_journal old.log) (log_journal new.log) (left_by old.log) → Falls (log_journal old.log) (log_journal new.log) → limit_of (log_journal new.log) ≡ limit_of (log_journal old.log)
      → new.replica.pass ≡ now.pass → ((before : List (List ℕ)) → KeepsGranted copy before old.log now → KeepsGranted copy before new.log new.replica)
      → ((before : List (List ℕ)) → KeepsGranted copy before old.log now → new.strange ≡ old.strange) → SiteBecame setting copy None old new × SiteWroteNone setting copy old new
  compared old new now law hand given older content leaves falls limit pass kept plain =
      let mid : SiteState g = record old { replica = now } in
      let more : IsOlder now.pass.seen new.replica.pass.seen = subst (λ (v : View). IsOlder now.pass.seen v.seen) (sym pass) ([], refl) in (
        became_on None old mid new law (looked old mid law refl refl hand given older) (fell mid new (wrote_none mid new law content leaves falls more) more limit kept plain),
        wrote_none old new law content leaves falls (older_trans old.replica.pass.seen now.pass.seen new.replica.pass.seen older more),
      )
