-- That a desk's refusal tells what stands in the way of a name.
use Rattle.std.proofs.Common.{◌≡◌, inl, inr, Bool, true, false, [], ◌∷◌, refl, sym, ap, ◌∙◌, subst}
use mathlib.Core.Bool.{true≢false}
use Rattle.std.specs.Prelude.{Option, None, Some, is_some, is_none, find, cond, option_to_list, IsTrue, if◌then◌else◌}
use Rattle.std.specs.Option.{option_map, option_or}
use Rattle.std.proofs.lemmas.List.Folds.{find-append}
use Rattle.std.proofs.lemmas.Option.{none-some, same_Some}
use Rattle.qc_event.specs.declared.event.Entry.{Entry}
use Rattle.qc_event.specs.declared.event.Event.{Event}
use Rattle.qc_event.specs.declared.event.Event.TheVariants as event
use Rattle.qc_event.specs.declared.event.How.{How}
use Rattle.qc_event.specs.Dead.{dead, outcome, outcome_of, is_committed, is_live}
use Rattle.qc_event.specs.History.{Past, Name, start, end, is_child, is_ready, child_in, children}
use Rattle.qc_event.specs.Standing.{open_child}
use Rattle.qc_event.proofs.Lawful.{committed_is}
use Rattle.qc_event.proofs.OneEntry.{start_stays, start_now}
use Rattle.qc_event.proofs.Outcomes.{aborted_is_abort}
use Rattle.qc_event.proofs.Wanting.{want_of}
use Rattle.qc_event.specs.Wants.{IsWant}
use Rattle.qc_event.specs.declared.short.Short.{Short}
use Rattle.qc_desk.proofs.Entering.{not_ended}
use Rattle.qc_desk.specs.declared.refusal.DeskNo.{DeskNo}
use Rattle.qc_desk.specs.declared.refusal.DeskNo.TheVariants as desk
use Rattle.qc_desk.specs.Refusing.{Refuses as Against, IsShort, against_abort, against_child, against_commit, against_ready, if_committed, if_dead, if_ended, if_open, if_ready}
use Rattle.qc_desk.specs.declared.view.View.{View}
use Rattle.qc_carry.specs.Walk.{Walk}
use Rattle.qc_session.specs.Acting.{IsUnaborted, no_of}
use Rattle.qc_session.proofs.Fallen.{dead_is}
use Rattle.qc_session.proofs.Names.{begins_ancestor}
use Rattle.qc_script.specs.Calls.{NotCommitted, Refuses, WasRefused}
use Rattle.qc_script.specs.Client.{Client, Made}
use Rattle.qc_script.specs.declared.tx.TxNo.TheVariants as tx_no

pub dead_refuses : (past : Past) (n a : Name) → dead past n ≡ Some a → Refuses past n (tx_no.Orphan a)
dead_refuses past n a fallen = let found = dead_is past n a fallen in (begins_ancestor n a found.1.0 found.1.1, aborted_is_abort (end past a) found.0)

-- OPEN CHILDREN

-- who is found is a started child that passes
abbrev IsFound : (Name → Bool) → Past → Name → Name → Type 0
IsFound test past of c = IsTrue (is_child of c) × (is_some (start past c) ≡ true) × IsTrue (test c)

found_now : (test : Name → Bool) (e : Entry) (past : Past) (of c : Name) (ev : Event) → e.event ≡ ev → find test (option_to_list (child_in of ev)) ≡ Some c → IsFound test (e ∷ past) of c
found_now test e past of c (event.Start m k) is h = by_child (is_child of m) (test m) refl refl h
  where
    by_child : (b d : Bool) → is_child of m ≡ b → test m ≡ d → find test (option_to_list (if b then Some m else None)) ≡ Some c → IsFound test (e ∷ past) of c
    by_child true true child passes found =
        let here : m ≡ c = same_Some m c (sym (ap (λ x. cond x (Some m) None) passes) ∙ found) in
        (subst (λ x. IsTrue (is_child of x)) here child, start_now e past c (k, is ∙ ap (λ x. event.Start x k) here), subst (λ x. IsTrue (test x)) here passes)
    by_child true false child passes found = absurd (none-some c (sym (ap (λ x. cond x (Some m) None) passes) ∙ found))
    by_child false d child passes found = absurd (none-some c found)
found_now test e past of c _ is h = absurd (none-some c h)

open_found : (test : Name → Bool) (past : Past) (of c : Name) → find test (children past of) ≡ Some c → IsFound test past of c
open_found test [] of c found = absurd (none-some c found)
open_found test (e ∷ past) of c found = by_first (find test (children past of)) refl (λ is. open_found test past of c is) (sym (find-append test (children past of) (option_to_list (child_in of e.event))) ∙ found)
  where
    by_first : (o : Option Name) → find test (children past of) ≡ o → (find test (children past of) ≡ Some c → IsFound test past of c) → option_or o (find test (option_to_list (child_in of e.event))) ≡ Some c → IsFound test (e ∷ past) of c
    by_first None is before h = found_now test e past of c e.event refl h
    by_first (Some d) is before h = let old = before (is ∙ h) in (old.0, start_stays e past c old.1, old.2)

none_is : (o : Option How) → is_none o ≡ true → o ≡ None
none_is None t = refl
none_is (Some how) t = absurd (true≢false (sym t))

pub open_refuses : (past : Past) (of c : Name) → open_child past of ≡ Some c → Refuses past of (tx_no.ChildrenOpen c)
open_refuses past of c found = let h = open_found (λ x. is_none (end past x)) past of c found in (h.0, h.1, none_is (end past c) h.2)

-- THE TESTS

some_end : (o : Option How) → is_live (outcome_of o) ≡ false → is_some o ≡ true
some_end None h = absurd (true≢false h)
some_end (Some how) h = refl

-- what a refusal by a desk's test says of a name
abbrev Says : Past → Name → DeskNo → Type 0
Says past n why = Refuses past n (no_of why)

ended_says : (past : Past) (n : Name) (why : DeskNo) → if_ended past n ≡ Some why → (why ≡ desk.Ended) × (is_some (end past n) ≡ true)
ended_says past n why is = by_test (is_live (outcome past n)) refl is
  where
    by_test : (b : Bool) → is_live (outcome past n) ≡ b → (if b then None else Some desk.Ended) ≡ Some why → (why ≡ desk.Ended) × (is_some (end past n) ≡ true)
    by_test true live h = absurd (none-some why h)
    by_test false live h = (sym (same_Some desk.Ended why h), some_end (end past n) live)

committed_says : (past : Past) (n : Name) (why : DeskNo) → if_committed past n ≡ Some why → (why ≡ desk.Ended) × (is_some (end past n) ≡ true)
committed_says past n why is = by_test (is_committed (outcome past n)) refl is
  where
    by_test : (b : Bool) → is_committed (outcome past n) ≡ b → (if b then Some desk.Ended else None) ≡ Some why → (why ≡ desk.Ended) × (is_some (end past n) ≡ true)
    by_test true h is = (sym (same_Some desk.Ended why is), ap is_some (committed_is (end past n) h).1)
    by_test false h is = absurd (none-some why is)

pub dead_says : (past : Past) (n : Name) (why : DeskNo) → if_dead past n ≡ Some why → (a : Name) × (why ≡ desk.Orphan a) × (dead past n ≡ Some a)
dead_says past n why is = by_found (dead past n) refl is
  where
    by_found : (o : Option Name) → dead past n ≡ o → option_map (λ a. desk.Orphan a) o ≡ Some why → (a : Name) × (why ≡ desk.Orphan a) × (dead past n ≡ Some a)
    by_found None at h = absurd (none-some why h)
    by_found (Some a) at h = (a, sym (same_Some (desk.Orphan a) why h), at)

pub ready_says : (past : Past) (n : Name) (why : DeskNo) → if_ready past n ≡ Some why → (why ≡ desk.Ready) × (is_ready past n ≡ true)
ready_says past n why is = by_test (is_ready past n) refl is
  where
    by_test : (b : Bool) → is_ready past n ≡ b → (if b then Some desk.Ready else None) ≡ Some why → (why ≡ desk.Ready) × (is_ready past n ≡ true)
    by_test true at h = (sym (same_Some desk.Ready why h), at)
    by_test false at h = absurd (none-some why h)

pub open_says : (past : Past) (n : Name) (why : DeskNo) → if_open past n ≡ Some why → (c : Name) × (why ≡ desk.ChildrenOpen c) × (open_child past n ≡ Some c)
open_says past n why is = by_found (open_child past n) refl is
  where
    by_found : (o : Option Name) → open_child past n ≡ o → option_map (λ c. desk.ChildrenOpen c) o ≡ Some why → (c : Name) × (why ≡ desk.ChildrenOpen c) × (open_child past n ≡ Some c)
    by_found None at h = absurd (none-some why h)
    by_found (Some c) at h = (c, sym (same_Some (desk.ChildrenOpen c) why h), at)

-- the first that fails: this test, or where it does not fail one behind it
pub in_turn : (P : DeskNo → Type 0) (first rest : Option DeskNo) → ((why : DeskNo) → first ≡ Some why → P why) → (first ≡ None → (why : DeskNo) → rest ≡ Some why → P why) → (why : DeskNo) → option_or first rest ≡ Some why → P why
in_turn P None rest here behind why is = behind refl why is
in_turn P (Some x) rest here behind why is = here why is

either : (P : DeskNo → Type 0) (first rest : Option DeskNo) → ((why : DeskNo) → first ≡ Some why → P why) → ((why : DeskNo) → rest ≡ Some why → P why) → (why : DeskNo) → option_or first rest ≡ Some why → P why
either P first rest here behind why is = in_turn P first rest here (λ none. behind) why is

pub live : (past : Past) (n : Name) → if_ended past n ≡ None → is_live (outcome past n) ≡ true
live past n none = ap (λ o. is_live (outcome_of o)) (not_ended past n none)

-- THE CALLS

module _ (c : Client) (before now : Past) (none : Made c [] before now) where
  -- a call to begin a child
  pub child_refused : (of : Name) (why : DeskNo) → Against (against_child of) now why → WasRefused c of before now (no_of why)
  child_refused of why (inr (free, want)) = by_want why want
    where
      by_want : (w : DeskNo) → IsShort now w → WasRefused c of before now (no_of w)
      by_want (desk.Short s) h = (none, want_of now s h)
      by_want (desk.Orphan a) h = absurd h
      by_want desk.Ended h = absurd h
      by_want (desk.ChildrenOpen x) h = absurd h
      by_want desk.Ready h = absurd h
  child_refused of why (inl is) = either (λ w. WasRefused c of before now (no_of w)) (if_committed now of) _
      (λ w h. let s = committed_says now of w h in subst (λ x. WasRefused c of before now (no_of x)) (sym s.0) (none, s.1))
      (either (λ w. WasRefused c of before now (no_of w)) (if_dead now of) _
      (λ w h. let s = dead_says now of w h in subst (λ x. WasRefused c of before now (no_of x)) (sym s.1) (none, dead_refuses now of s.0 s.2))
      (λ w h. let s = ready_says now of w h in subst (λ x. WasRefused c of before now (no_of x)) (sym s.0) (none, s.1)))
      why is

  -- a call to commit
  want_refused : (of : Name) (w : DeskNo) → IsShort now w → NotCommitted c of before now (no_of w)
  want_refused of (desk.Short s) h = (inl none, want_of now s h)
  want_refused of (desk.Orphan a) h = absurd h
  want_refused of desk.Ended h = absurd h
  want_refused of (desk.ChildrenOpen x) h = absurd h
  want_refused of desk.Ready h = absurd h

  abbrev No : Name → DeskNo → Type 0
  No of w = NotCommitted c of before now (no_of w)

  by_ended : (of : Name) (w : DeskNo) → if_ended now of ≡ Some w → No of w
  by_ended of w h = let s = ended_says now of w h in subst (No of) (sym s.0) (none, s.1)

  by_dead : (of : Name) (w : DeskNo) → if_dead now of ≡ Some w → No of w
  by_dead of w h = let s = dead_says now of w h in subst (No of) (sym s.1) (none, dead_refuses now of s.0 s.2)

  by_ready : (of : Name) (w : DeskNo) → if_ready now of ≡ Some w → No of w
  by_ready of w h = let s = ready_says now of w h in subst (No of) (sym s.0) (none, s.1)

  by_open : (of : Name) (w : DeskNo) → if_open now of ≡ Some w → No of w
  by_open of w h = let s = open_says now of w h in subst (No of) (sym s.1) (none, open_refuses now of s.0 s.2)

  pub commit_refused : (of : Name) (why : DeskNo) → Against (against_commit of) now why → NotCommitted c of before now (no_of why)
  commit_refused of why (inr (free, want)) = want_refused of why want
  commit_refused of why (inl is) = either (No of) (if_ended now of) _ (by_ended of) (either (No of) (if_dead now of) _ (by_dead of) (by_open of)) why is

  pub ready_refused : (of : Name) (why : DeskNo) → Against (against_ready of) now why → NotCommitted c of before now (no_of why)
  ready_refused of why (inr (free, want)) = want_refused of why want
  ready_refused of why (inl is) = either (No of) (if_ended now of) _ (by_ended of) (either (No of) (if_dead now of) _ (by_dead of) (either (No of) (if_ready now of) _ (by_ready of) (by_open of))) why is

-- a call to abort
pub abort_says : (n : Name) (v w : View) (why : DeskNo) → Walk v w [] → Against (against_abort n) w.seen why → IsUnaborted v w n (no_of why)
abort_says n v w why walk (inr (free, want)) = by_want why want
  where
    by_want : (x : DeskNo) → IsShort w.seen x → IsUnaborted v w n (no_of x)
    by_want (desk.Short s) h = (walk, want_of w.seen s h)
    by_want (desk.Orphan a) h = absurd h
    by_want desk.Ended h = absurd h
    by_want (desk.ChildrenOpen x) h = absurd h
    by_want desk.Ready h = absurd h
abort_says n v w why walk (inl is) = in_turn (λ x. IsUnaborted v w n (no_of x)) (if_ended w.seen n) _
    (λ x h. let s = ended_says w.seen n x h in subst (λ y. IsUnaborted v w n (no_of y)) (sym s.0) (walk, s.1))
    (λ before x h. let s = ready_says w.seen n x h in subst (λ y. IsUnaborted v w n (no_of y)) (sym s.0) (walk, s.1, live w.seen n before))
    why is

-- a manager that is refused as an orphan is dead
pub commit_dead : (past : Past) (n a : Name) → Against (against_commit n) past (desk.Orphan a) → dead past n ≡ Some a
commit_dead past n a (inr (free, want)) = absurd want
commit_dead past n a (inl is) = either Is (if_ended past n) _
    (λ x h. let s = ended_says past n x h in subst Is (sym s.0) tt)
    (either Is (if_dead past n) _
    (λ x h. let s = dead_says past n x h in subst Is (sym s.1) s.2)
    (λ x h. let s = open_says past n x h in subst Is (sym s.1) tt))
    (desk.Orphan a) is
  where
    Is : DeskNo → Type 0
    Is (desk.Orphan x) = dead past n ≡ Some x
    Is _ = Unit {0}

-- and where it is refused for want of memory or of room, that is what was wanting
pub commit_want : (past : Past) (n : Name) (s : Short) → Against (against_commit n) past (desk.Short s) → IsWant past s
commit_want past n s (inr (free, want)) = want_of past s want
commit_want past n s (inl is) = either Is (if_ended past n) _
    (λ x h. let e = ended_says past n x h in subst Is (sym e.0) tt)
    (either Is (if_dead past n) _
    (λ x h. let e = dead_says past n x h in subst Is (sym e.1) tt)
    (λ x h. let e = open_says past n x h in subst Is (sym e.1) tt))
    (desk.Short s) is
  where
    Is : DeskNo → Type 0
    Is (desk.Short x) = IsWant past x
    Is _ = Unit {0}
