-- A ready top is not aborted: the ledger may commit it, unless it has done so.
use Rattle.std.proofs.Common.{◌≡◌, ℕ, Bool, true, false, cond, ◌==◌, [], ◌∷◌, length, refl, sym, ap, ◌∙◌, subst, arith, eq-eqb, inl, inr}
use mathlib.Core.Bool.{true≢false}
use Rattle.std.specs.Prelude.{Option, None, Some, MatchOption, is_some}
use Rattle.std.specs.Option.{option_or}
use Rattle.qc_event.specs.declared.event.Answer.{Answer}
use Rattle.qc_event.specs.declared.event.Answer.TheVariants as answer
use Rattle.qc_event.specs.declared.event.Event.TheVariants as event
use Rattle.qc_event.specs.declared.event.How.{How}
use Rattle.qc_event.specs.declared.event.How.TheVariants.{Commit, Abort}
use Rattle.qc_event.specs.declared.event.Kind.{Kind}
use Rattle.qc_event.specs.declared.event.Kind.TheVariants as kind
use Rattle.qc_event.specs.Base.{Setting}
use Rattle.qc_event.specs.Commits.{MayCommit}
use Rattle.qc_event.specs.History.{Past, Name, Begun, start, end, end_in, is_ready, ready_in}
use Rattle.qc_event.specs.Legal.{Legal, Allowed, MayHappen, MayEnd}
use Rattle.qc_event.specs.Seats.{ledger_seat}
use Rattle.qc_event.specs.Standing.{IsUser, Started}
use Rattle.qc_event.specs.Starts.{Starts}
use Rattle.qc_event.specs.Users.{MayReady, MayCommitTop, MayCommitUserOrTop}
use Rattle.qc_event.proofs.Booleans.{not_both}
use Rattle.qc_event.proofs.Lawful.{some_how}
use Rattle.qc_event.proofs.LegalOrderly.{ready_top}
use Rattle.qc_event.proofs.OneEntry.{first_some, here_some, some_or_none, not_some, end_stays, ending, ready_step}
use Rattle.qc_event.proofs.Options.{some_there}
use Rattle.qc_event.proofs.RootAndTops.{ready_started}
use Rattle.qc_event.proofs.StillTold.{some_stays}
use Rattle.qc_desk.specs.Entries.{IsOlder, entries_of, entry}
use Rattle.qc_event.proofs.Starting.{was_begun}

-- READY TOPS

-- a top is a user transaction
top_user : (setting : Setting) (past : Past) (n : Name) (b : Begun) → Legal setting past → start past n ≡ Some b → length n ≡ 1 → IsUser b.kind
top_user setting past n b legal is one = let was = was_begun setting past n b legal is in by_name n was.before was.may one
  where
    by_name : (m : Name) (older : Past) → Starts setting older b.seat m b.kind → length m ≡ 1 → IsUser b.kind
    by_name [] older may one = absurd may
    by_name (x ∷ []) older may one = may.user
    by_name (x ∷ y ∷ r) older may one = absurd (omega arith)

-- WHO ENDS THEM

by_ledger : (past : Past) (seat : ℕ) (n : Name) (given : Answer) → length n ≡ 1 → MayCommitUserOrTop past seat n given → seat ≡ ledger_seat
by_ledger past seat [] given one may = absurd (omega arith)
by_ledger past seat (x ∷ []) given one may = may.ledger
by_ledger past seat (x ∷ y ∷ r) given one may = absurd (omega arith)

user_commit : (setting : Setting) (past : Past) (seat : ℕ) (n : Name) (b : Begun) (given : Answer) (k : Kind) → IsUser k → MayCommit setting past seat n b given k → MayCommitUserOrTop past seat n given
user_commit setting past seat n b given (kind.User session body) user may = may
user_commit setting past seat n b given (kind.Read rec) user may = absurd user
user_commit setting past seat n b given (kind.Write rec value) user may = absurd user
user_commit setting past seat n b given (kind.Reconf rec config) user may = absurd user
user_commit setting past seat n b given kind.Access user may = absurd user

-- a ready top is ended under the ledger's seat
ender : (setting : Setting) (past : Past) (seat : ℕ) (top : Name) (how : How) → Legal setting past → is_ready past top ≡ true → Started past top (MayEnd setting past seat top how) → seat ≡ ledger_seat
ender setting past seat top (Commit given) legal ready may =
    let there = some_there (start past top) (MayEnd setting past seat top (Commit given)) may in
    let one = ready_top setting past top legal ready in
    by_ledger past seat top given one (user_commit setting past seat top there.0 given there.0.kind (top_user setting past top there.0 legal there.1 one) there.2)
ender setting past seat top (Abort c) legal ready may =
    let there = some_there (start past top) (MayEnd setting past seat top (Abort c)) may in
    absurd (not_both (is_ready past top) there.2.not_ready ready)

-- a top that commits was ready
pub commit_ready : (setting : Setting) (past : Past) (seat number : ℕ) (given : Answer) → Legal setting past → MayHappen setting past seat (event.End (number ∷ []) (Commit given)) → is_ready past (number ∷ []) ≡ true
commit_ready setting past seat number given legal may =
    let there = some_there (start past (number ∷ [])) (MayEnd setting past seat (number ∷ []) (Commit given)) may in
    (user_commit setting past seat (number ∷ []) there.0 given there.0.kind (top_user setting past (number ∷ []) there.0 legal there.1 refl) there.2).ready

-- where a ready top has ended, its end stands under the ledger's seat
pub ended_by_ledger : (setting : Setting) (past : Past) (top : Name) → Legal setting past → is_ready past top ≡ true → is_some (end past top) ≡ true → is_some (end (entries_of ledger_seat past) top) ≡ true
ended_by_ledger setting [] top legal ready ended = absurd (true≢false (sym ended))
ended_by_ledger setting (e ∷ past) top legal ready ended = elim (ready_step e past top ready) [
  | inr now ↦
      let may : MayReady past e.seat top = subst (MayHappen setting past e.seat) now legal.1 in
      absurd (some_or_none (end (e ∷ past) top) ended (ap (λ o. option_or o (end_in top e.event)) may.is_open.not_ended ∙ ap (end_in top) now))
  | inl was ↦ elim (first_some (end past top) (end_in top e.event) ended) [
    | inl old ↦ kept (e.seat == ledger_seat) (ended_by_ledger setting past top legal.0 was old)
    | inr new ↦
        let how = some_how (end_in top e.event) new.1 in
        let ends = ending top e.event how.0 how.1 in
        let seat = ender setting past e.seat top how.0 legal.0 was (subst (MayHappen setting past e.seat) ends legal.1) in
        ap (λ (b : Bool). is_some (end (cond b (e ∷ entries_of ledger_seat past) (entries_of ledger_seat past)) top)) (eq-eqb e.seat ledger_seat seat)
        ∙ here_some (end (entries_of ledger_seat past) top) (end_in top e.event) new.1
  ]
]
  where
    kept : (b : Bool) → is_some (end (entries_of ledger_seat past) top) ≡ true → is_some (end (cond b (e ∷ entries_of ledger_seat past) (entries_of ledger_seat past)) top) ≡ true
    kept true h = end_stays e (entries_of ledger_seat past) top h
    kept false h = h

-- THE COMMIT

commits_top : (past : Past) (seat : ℕ) (n : Name) (given : Answer) → length n ≡ 1 → MayCommitTop past seat n given → MayCommitUserOrTop past seat n given
commits_top past seat [] given one may = absurd (omega arith)
commits_top past seat (x ∷ []) given one may = may
commits_top past seat (x ∷ y ∷ r) given one may = absurd (omega arith)

commits_user : (setting : Setting) (past : Past) (seat : ℕ) (n : Name) (b : Begun) (given : Answer) (k : Kind) → IsUser k → MayCommitUserOrTop past seat n given → MayCommit setting past seat n b given k
commits_user setting past seat n b given (kind.User session body) user may = may
commits_user setting past seat n b given (kind.Read rec) user may = absurd user
commits_user setting past seat n b given (kind.Write rec value) user may = absurd user
commits_user setting past seat n b given (kind.Reconf rec config) user may = absurd user
commits_user setting past seat n b given kind.Access user may = absurd user

-- a top that was seen to be ready may commit, where the ledger's own entries have no end of it
pub finish_allowed : (setting : Setting) (seat : ℕ) (seen now mine : Past) (top : Name) → Legal setting now → IsOlder seen now → seat ≡ ledger_seat → entries_of seat now ≡ mine → is_ready seen top ≡ true → end mine top ≡ None
    → Allowed setting now (entry seat (event.End top (Commit answer.Nothing)))
finish_allowed setting seat seen now mine top legal older ledger own was first =
    subst (λ o. MatchOption o ⊥ (MayEnd setting now seat top (Commit answer.Nothing))) (sym begun.1)
    (commits_user setting now seat top begun.0 answer.Nothing begun.0.kind (top_user setting now top begun.0 legal begun.1 one) (commits_top now seat top answer.Nothing one may))
  where
    ready : is_ready now top ≡ true
    ready = subst (λ p. is_ready p top ≡ true) (sym older.1) (some_stays (λ e. ready_in top e.event) older.0 seen was)

    one : length top ≡ 1
    one = ready_top setting now top legal ready

    started : is_some (start now top) ≡ true
    started = ready_started setting now top legal ready

    begun : (b : Begun) × (start now top ≡ Some b)
    begun = there (start now top) started
      where
        there : (o : Option Begun) → is_some o ≡ true → (b : Begun) × (o ≡ Some b)
        there None h = absurd (true≢false (sym h))
        there (Some b) h = (b, refl)

    not_ended : end now top ≡ None
    not_ended = not_some (end now top) (λ ended.
        some_or_none (end mine top) (ap (λ p. is_some (end p top)) (sym own ∙ ap (λ s. entries_of s now) ledger) ∙ ended_by_ledger setting now top legal ready ended) first)

    may : MayCommitTop now seat top answer.Nothing
    may = record { ledger = ledger; is_open = record { started = started; not_ended = not_ended }; ready = ready; nothing = refl }
