-- What is logged of a legal history: its committed tops, each with what is listed of it.
use Rattle.std.proofs.Common.{◌≡◌, ℕ, inl, inr, Bool, true, false, [], ◌∷◌, refl, sym, ap, ◌∙◌, subst, arith}
use mathlib.Core.Bool.{true≢false}
use Rattle.std.specs.Prelude.{All, Option, None, Some, is_some, MatchOption, if◌then◌else◌, option_to_list}
use Rattle.std.specs.Option.{option_map, option_or}
use Rattle.std.specs.List.{list_any}
use Rattle.std.proofs.lemmas.Bool.{or_left, or_right}
use Rattle.std.proofs.lemmas.List.Elements.{All-nil, All-cons, All-append, All-weaker}
use Rattle.std.proofs.lemmas.List.Folds.{list_any-append}
use Rattle.qc_event.specs.declared.event.Answer.{Answer}
use Rattle.qc_event.specs.declared.event.Cause.{Cause}
use Rattle.qc_event.specs.declared.event.Entry.{Entry}
use Rattle.qc_event.specs.declared.event.Event.{Event}
use Rattle.qc_event.specs.declared.event.Event.TheVariants as event
use Rattle.qc_event.specs.declared.event.How.TheVariants.{Commit, Abort}
use Rattle.qc_event.specs.declared.event.Kind.{Kind}
use Rattle.qc_event.specs.declared.event.Kind.TheVariants as kind
use Rattle.qc_event.specs.Base.{Setting}
use Rattle.qc_event.specs.Commits.{MayCommit}
use Rattle.qc_event.specs.Dead.{outcome, outcome_of, is_committed, is_aborted}
use Rattle.qc_event.specs.History.{Past, Name, Begun, start, end, end_in, is_ready, ready_in, every}
use Rattle.qc_event.specs.Legal.{Legal, MayHappen, MayEnd}
use Rattle.qc_event.specs.Standing.{IsUser, Started}
use Rattle.qc_event.specs.Users.{MayStartTop}
use Rattle.qc_event.proofs.Later.{committed_stays}
use Rattle.qc_event.proofs.OneEntry.{if_is, start_step, start_is, started_stays, end_step, stays_some, end_now}
use Rattle.qc_event.proofs.Options.{some_match}
use Rattle.qc_event.proofs.Orderly.{Orderly}
use Rattle.qc_event.proofs.Lawful.{lawful, committed_is, ends_open}
use Rattle.qc_event.proofs.LegalOrderly.{legal_orderly}
use Rattle.qc_codec.specs.declared.past.Logged.{Logged}
use Rattle.qc_codec.specs.Ledger.{top_in}
use Rattle.qc_event.specs.Listed.{aborted_in, aborted_below, listed}
use Rattle.qc_refine.specs.Listed.{logged, logged_as}
use Rattle.qc_refine.proofs.Restoring.BelowReady.{still_aborted, not_again}

-- TOPS

-- a started top is a user transaction
pub top_user : (setting : Setting) (past : Past) (x : ℕ) → Legal setting past → is_some (start past (x ∷ [])) ≡ true → Started past (x ∷ []) (λ b. IsUser b.kind)
top_user setting [] x legal h = absurd (true≢false (sym h))
top_user setting (e ∷ past) x legal h = elim (start_step e past (x ∷ []) h) [
  | inl old ↦ started_stays e past (x ∷ []) (λ b. IsUser b.kind) (top_user setting past x legal.0 old)
  | inr new ↦
      let may : MayStartTop past e.seat x new.1.0 = subst (MayHappen setting past e.seat) new.1.1 legal.1 in
      subst (λ o. MatchOption o ⊥ (λ (b : Begun). IsUser b.kind)) (sym (start_is e past (x ∷ []) new.1.0 new.0 new.1.1)) may.user
]

ready_stays : (e : Entry) (past : Past) (n : Name) → is_ready past n ≡ true → is_ready (e ∷ past) n ≡ true
ready_stays e past n h = stays_some _ (ready_in n e.event) h

commit_ready : (setting : Setting) (past : Past) (seat x : ℕ) (b : Begun) (given : Answer) (k : Kind) → IsUser k → MayCommit setting past seat (x ∷ []) b given k → is_ready past (x ∷ []) ≡ true
commit_ready setting past seat x b given (kind.User session body) user may = may.ready
commit_ready setting past seat x b given _ user may = absurd user

end_ready : (setting : Setting) (past : Past) (seat x : ℕ) (given : Answer) (o : Option Begun) → MatchOption o ⊥ (λ b. IsUser b.kind) → MatchOption o ⊥ (MayEnd setting past seat (x ∷ []) (Commit given)) → is_ready past (x ∷ []) ≡ true
end_ready setting past seat x given None user may = absurd may
end_ready setting past seat x given (Some b) user may = commit_ready setting past seat x b given b.kind user may

-- the commit of a top was ready before
ready_before : (setting : Setting) (past : Past) (e : Entry) (x : ℕ) (given : Answer) → Legal setting (e ∷ past) → e.event ≡ event.End (x ∷ []) (Commit given) → is_ready past (x ∷ []) ≡ true
ready_before setting past e x given legal is =
    let may : MayHappen setting past e.seat (event.End (x ∷ []) (Commit given)) = subst (MayHappen setting past e.seat) is legal.1 in
    end_ready setting past e.seat x given (start past (x ∷ [])) (top_user setting past x legal.0 (some_match (start past (x ∷ [])) (MayEnd setting past e.seat (x ∷ []) (Commit given)) may)) may

pub committed_ready : (setting : Setting) (past : Past) (x : ℕ) → Legal setting past → is_committed (outcome past (x ∷ [])) ≡ true → is_ready past (x ∷ []) ≡ true
committed_ready setting [] x legal done = absurd (true≢false (sym done))
committed_ready setting (e ∷ past) x legal done =
    let is = committed_is (end (e ∷ past) (x ∷ [])) done in
    ready_stays e past (x ∷ []) (elim (end_step e past (x ∷ []) (Commit is.0) is.1) [
      | inl old ↦ committed_ready setting past x legal.0 (ap (λ o. is_committed (outcome_of o)) old)
      | inr new ↦ ready_before setting past e x is.0 legal new.1
    ])

-- WHAT IS LISTED

aborted_event : (whole : Past) (t n : Name) (ev : Event) → aborted_in whole t ev ≡ Some n → (c : Cause) × (ev ≡ event.End n (Abort c))
aborted_event whole t n (event.End m (Abort c)) is = let parts = if_is _ m n is in (c, ap (λ x. event.End x (Abort c)) parts.1)
aborted_event whole t n (event.End m (Commit given)) is = absurd cc
aborted_event whole t n _ is = absurd cc

end_first : (e : Entry) (past : Past) (n : Name) (c : Cause) → end past n ≡ None → e.event ≡ event.End n (Abort c) → is_aborted (outcome (e ∷ past) n) ≡ true
end_first e past n c none is = ap (λ o. is_aborted (outcome_of (option_or o (end_in n e.event)))) none ∙ ap (λ o. is_aborted (outcome_of o)) (end_now n e.event (Abort c) is)

-- it was aborted
abbrev pub WasAborted : Past → Name → Type 0
WasAborted past n = is_aborted (outcome past n) ≡ true

-- each that is aborted below is aborted
each_aborted : (setting : Setting) (whole past : Past) (t : Name) → Legal setting past → All (WasAborted past) (every (λ e. aborted_in whole t e.event) past)
each_aborted setting whole [] t legal = All-nil (WasAborted [])
each_aborted setting whole (e ∷ past) t legal =
    All-append (WasAborted (e ∷ past)) (every (λ x. aborted_in whole t x.event) past) (option_to_list (aborted_in whole t e.event))
    (All-weaker (WasAborted past) (WasAborted (e ∷ past)) (still_aborted e past) (every (λ x. aborted_in whole t x.event) past) (each_aborted setting whole past t legal.0))
    (here (aborted_in whole t e.event) refl)
  where
    was_open : (n : Name) (c : Cause) → e.event ≡ event.End n (Abort c) → end past n ≡ None
    was_open n c is = (ends_open past e n (Abort c) is (legal_orderly setting (e ∷ past) legal).1).not_ended

    here : (o : Option Name) → aborted_in whole t e.event ≡ o → All (WasAborted (e ∷ past)) (option_to_list o)
    here None is = All-nil (WasAborted (e ∷ past))
    here (Some n) is =
        let ending = aborted_event whole t n e.event is in
        All-cons (WasAborted (e ∷ past)) n [] (end_first e past n ending.0 (was_open n ending.0 ending.1) ending.1) (All-nil (WasAborted (e ∷ past)))

pub listed_aborted : (setting : Setting) (past : Past) (t : Name) → Legal setting past → All (WasAborted past) (listed past t)
listed_aborted setting [] t legal = All-nil (WasAborted [])
listed_aborted setting (e ∷ past) t legal = by_test (is_some (ready_in t e.event))
    (All-weaker (WasAborted past) (WasAborted (e ∷ past)) (still_aborted e past) (aborted_below past t) (each_aborted setting past past t legal.0))
    (All-weaker (WasAborted past) (WasAborted (e ∷ past)) (still_aborted e past) (listed past t) (listed_aborted setting past t legal.0))
  where
    by_test : (b : Bool) → All (WasAborted (e ∷ past)) (aborted_below past t) → All (WasAborted (e ∷ past)) (listed past t) → All (WasAborted (e ∷ past)) (if b then aborted_below past t else listed past t)
    by_test true now before = now
    by_test false now before = before

-- WHAT IS LOGGED

-- a record of a committed top, with what is listed of it
pub record IsLogged (past : Past) (l : Logged) : Type 0 where
  pub number : ℕ
  pub is_top : l.top ≡ number ∷ []
  pub committed : is_committed (outcome past (number ∷ [])) ≡ true
  pub same_list : l.aborted ≡ listed past (number ∷ [])

top_event : (ev : Event) (t : Name) → top_in ev ≡ Some t → (x : ℕ) × (given : Answer) × (t ≡ x ∷ []) × (ev ≡ event.End (x ∷ []) (Commit given))
top_event (event.End (x ∷ []) (Commit given)) t is = (x, given, cc, refl)
top_event (event.End (x ∷ []) (Abort c)) t is = absurd cc
top_event (event.End (x ∷ y ∷ n) how) t is = absurd cc
top_event (event.End [] how) t is = absurd cc
top_event _ t is = absurd cc

commit_first : (e : Entry) (past : Past) (n : Name) (given : Answer) → end past n ≡ None → e.event ≡ event.End n (Commit given) → is_committed (outcome (e ∷ past) n) ≡ true
commit_first e past n given none is = ap (λ o. is_committed (outcome_of (option_or o (end_in n e.event)))) none ∙ ap (λ o. is_committed (outcome_of o)) (end_now n e.event (Commit given) is)

pub logged_are : (setting : Setting) (past : Past) → Legal setting past → All (IsLogged past) (logged past)
logged_are setting [] legal = All-nil (IsLogged [])
logged_are setting (e ∷ past) legal =
    All-append (IsLogged (e ∷ past)) (logged past) (option_to_list (option_map (logged_as past) (top_in e.event)))
    (All-weaker (IsLogged past) (IsLogged (e ∷ past)) onward (logged past) (logged_are setting past legal.0))
    (here (top_in e.event) refl)
  where
    orderly : Orderly (e ∷ past)
    orderly = legal_orderly setting (e ∷ past) legal

    same_listed : (x : ℕ) → is_ready past (x ∷ []) ≡ true → listed (e ∷ past) (x ∷ []) ≡ listed past (x ∷ [])
    same_listed x ready = not_again e past (x ∷ []) (lawful past orderly.0) orderly.1 (omega arith) ready

    onward : (l : Logged) → IsLogged past l → IsLogged (e ∷ past) l
    onward l is = record {
      number = is.number;
      is_top = is.is_top;
      committed = committed_stays e past (is.number ∷ []) is.committed;
      same_list = is.same_list ∙ sym (same_listed is.number (committed_ready setting past is.number legal.0 is.committed));
    }

    this : (t : Name) (x : ℕ) (given : Answer) → t ≡ x ∷ [] → e.event ≡ event.End (x ∷ []) (Commit given) → IsLogged (e ∷ past) (logged_as past t)
    this t x given is_top ending = record {
      number = x;
      is_top = is_top;
      committed = commit_first e past (x ∷ []) given (ends_open past e (x ∷ []) (Commit given) ending orderly.1).not_ended ending;
      same_list = ap (listed past) is_top ∙ sym (same_listed x (ready_before setting past e x given legal ending));
    }

    here : (o : Option Name) → top_in e.event ≡ o → All (IsLogged (e ∷ past)) (option_to_list (option_map (logged_as past) o))
    here None is = All-nil (IsLogged (e ∷ past))
    here (Some t) is =
        let ending = top_event e.event t is in
        All-cons (IsLogged (e ∷ past)) (logged_as past t) [] (this t ending.0 ending.1 ending.2 ending.3) (All-nil (IsLogged (e ∷ past)))

-- what is asked of a committed top's record is found
pub logged_any : (setting : Setting) (past : Past) (test : Logged → Bool) (x : ℕ) → Legal setting past → is_committed (outcome past (x ∷ [])) ≡ true
    → test (logged_as past (x ∷ [])) ≡ true → list_any test (logged past) ≡ true
logged_any setting [] test x legal done passes = absurd (true≢false (sym done))
logged_any setting (e ∷ past) test x legal done passes =
    let is = committed_is (end (e ∷ past) (x ∷ [])) done in
    list_any-append test (logged past) (option_to_list (option_map (logged_as past) (top_in e.event)))
    ∙ elim (end_step e past (x ∷ []) (Commit is.0) is.1) [
      | inl old ↦
          let was : is_committed (outcome past (x ∷ [])) ≡ true = ap (λ o. is_committed (outcome_of o)) old in
          or_left _ _ (logged_any setting past test x legal.0 was (sym (same_test (committed_ready setting past x legal.0 was)) ∙ passes))
      | inr new ↦ or_right _ _
          (ap (λ ev. list_any test (option_to_list (option_map (logged_as past) (top_in ev)))) new.1 ∙ once (sym (same_test (ready_before setting past e x is.0 legal new.1)) ∙ passes))
    ]
  where
    orderly : Orderly (e ∷ past)
    orderly = legal_orderly setting (e ∷ past) legal

    same_test : is_ready past (x ∷ []) ≡ true → test (logged_as (e ∷ past) (x ∷ [])) ≡ test (logged_as past (x ∷ []))
    same_test ready = ap (λ names. test (record { top = x ∷ []; aborted = names })) (not_again e past (x ∷ []) (lawful past orderly.0) orderly.1 (omega arith) ready)

    once : test (logged_as past (x ∷ [])) ≡ true → list_any test (logged_as past (x ∷ []) ∷ []) ≡ true
    once h = or_left _ _ h
