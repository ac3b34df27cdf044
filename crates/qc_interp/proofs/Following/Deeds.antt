-- What a transaction does, entry by entry.
use Rattle.std.proofs.Common.{◌≡◌, inl, inr, ℕ, Bool, true, false, List, [], ◌∷◌, ◌++◌, refl, sym, ap, ◌∙◌, subst, append-nil, filter}
use Rattle.std.specs.Prelude.{None, Some, MatchOption, is_some, not, ◌&&◌, ◌||◌, if◌then◌else◌, option_to_list}
use Rattle.std.specs.List.{AllByRecursion}
use Rattle.std.proofs.Math.Bool.{and-false}
use Rattle.qc_event.specs.declared.event.Entry.{Entry}
use Rattle.qc_event.specs.declared.event.Event.{Event}
use Rattle.qc_event.specs.declared.event.Event.TheVariants as event
use Rattle.qc_event.specs.declared.event.Kind.{Kind}
use Rattle.qc_event.specs.Base.{Setting}
use Rattle.qc_event.specs.History.{Past, Name, Begun, start, end, is_ready, children, child_in, is_child, same}
use Rattle.qc_event.specs.Legal.{Legal, MayHappen}
use Rattle.qc_event.specs.Standing.{Started}
use Rattle.qc_event.proofs.Absent.{if_not, same_is, same_itself}
use Rattle.qc_event.proofs.OneEntry.{both_empty, none_before}
use Rattle.qc_interp.specs.Deeds.{Deed, deed_in, deeds}
use Rattle.qc_interp.specs.Turns.{is_done}
use Rattle.qc_interp.proofs.Scopes.Mine.{Closed, closed_still, no_child}

-- THE CHILDREN AMONG THEM

abbrev pub begun : List Deed → List Name
begun [] = []
begun (Deed.child c ∷ ds) = c ∷ begun ds
begun (Deed.mark session ∷ ds) = begun ds

pub begun-append : (xs ys : List Deed) → begun (xs ++ ys) ≡ begun xs ++ begun ys
begun-append [] ys = refl
begun-append (Deed.child c ∷ xs) ys = ap (λ l. c ∷ l) (begun-append xs ys)
begun-append (Deed.mark session ∷ xs) ys = begun-append xs ys

pub children_are : (past : Past) (n : Name) → children past n ≡ begun (deeds past n)
children_are [] n = refl
children_are (e ∷ past) n =
    ap (λ l. l ++ option_to_list (child_in n e.event)) (children_are past n)
    ∙ ap (λ l. begun (deeds past n) ++ l) (by_event e.event)
    ∙ sym (begun-append (deeds past n) (option_to_list (deed_in past n e.event)))
  where
    by_event : (ev : Event) → option_to_list (child_in n ev) ≡ begun (option_to_list (deed_in past n ev))
    by_event (event.Start m k) = by_test (is_child n m)
      where
        by_test : (b : Bool) → option_to_list (if b then Some m else None) ≡ begun (option_to_list (if b then Some (Deed.child m) else None))
        by_test true = refl
        by_test false = refl
    by_event (event.Mark by session) = by_test (same by n && not (is_done past n))
      where
        by_test : (b : Bool) → [] ≡ begun (option_to_list (if b then Some (Deed.mark session) else None))
        by_test true = refl
        by_test false = refl
    by_event (event.Ask ask) = refl
    by_event (event.Gone m why) = refl
    by_event (event.Granted copy grant) = refl
    by_event (event.Refused m copy refusal) = refl
    by_event (event.Unable m why) = refl
    by_event (event.Ready m) = refl
    by_event (event.End m how) = refl

-- where the same was done the children are the same
pub same_children : (a b : Past) (n : Name) → deeds a n ≡ deeds b n → children a n ≡ children b n
same_children a b n same_deeds = children_are a n ∙ ap begun same_deeds ∙ sym (children_are b n)

pub one_child_more : (a b : Past) (n m : Name) → deeds a n ≡ deeds b n ++ Deed.child m ∷ [] → children a n ≡ children b n ++ m ∷ []
one_child_more a b n m more = children_are a n ∙ ap begun more ∙ begun-append (deeds b n) (Deed.child m ∷ []) ∙ ap (λ l. l ++ m ∷ []) (sym (children_are b n))

-- ENTRIES BY WHICH IT DOES NOTHING

abbrev pub Silent : Name → Event → Type 0
Silent n ev = (past : Past) → deed_in past n ev ≡ None

pub start_silent : (n m : Name) (k : Kind) → is_child n m ≡ false → Silent n (event.Start m k)
start_silent n m k not_one past = if_not (is_child n m) (Some (Deed.child m)) not_one

pub mark_silent : (n by : Name) (session : ℕ) → same by n ≡ false → Silent n (event.Mark by session)
mark_silent n by session other past = ap (λ b. if b && not (is_done past n) then Some (Deed.mark session) else None) other

pub deeds_quiet : (n : Name) (es h : Past) → AllByRecursion (λ (e : Entry). Silent n e.event) es → deeds (es ++ h) n ≡ deeds h n
deeds_quiet n [] h quiet = refl
deeds_quiet n (e ∷ es) h quiet = ap (λ o. deeds (es ++ h) n ++ option_to_list o) (quiet.0 (es ++ h)) ∙ append-nil _ ∙ deeds_quiet n es h quiet.1

-- ENTRIES BY WHICH IT DOES SOMETHING

pub child_deed : (e : Entry) (h : Past) (n m : Name) (k : Kind) → e.event ≡ event.Start m k → is_child n m ≡ true → deeds (e ∷ h) n ≡ deeds h n ++ Deed.child m ∷ []
child_deed e h n m k is child =
    ap (λ ev. deeds h n ++ option_to_list (deed_in h n ev)) is
    ∙ ap (λ b. deeds h n ++ option_to_list (if b then Some (Deed.child m) else None)) child

pub mark_deed : (e : Entry) (h : Past) (n : Name) (session : ℕ) → e.event ≡ event.Mark n session → is_done h n ≡ false → deeds (e ∷ h) n ≡ deeds h n ++ Deed.mark session ∷ []
mark_deed e h n session is going =
    ap (λ ev. deeds h n ++ option_to_list (deed_in h n ev)) is
    ∙ ap (λ b. deeds h n ++ option_to_list (if b && not (is_done h n) then Some (Deed.mark session) else None)) (same_itself n)
    ∙ ap (λ b. deeds h n ++ option_to_list (if not b then Some (Deed.mark session) else None)) going

-- what it marks once it is done counts for nothing
pub late_deed : (e : Entry) (h : Past) (n : Name) (session : ℕ) → e.event ≡ event.Mark n session → is_done h n ≡ true → deeds (e ∷ h) n ≡ deeds h n
late_deed e h n session is done =
    ap (λ ev. deeds h n ++ option_to_list (deed_in h n ev)) is
    ∙ ap (λ b. deeds h n ++ option_to_list (if b then Some (Deed.mark session) else None)) (ap (λ b. same n n && not b) done ∙ and-false (same n n))
    ∙ append-nil _

-- WHO HAS NOT STARTED DID NOTHING

started_some : (past : Past) (n : Name) (P : Begun → Type 0) → Started past n P → start past n ≡ None → ⊥
started_some past n P h none = subst (λ o. MatchOption o ⊥ P) none h

pub no_deeds : (p : Entry → Bool) (setting : Setting) (past : Past) (n : Name) → Legal setting past → start past n ≡ None → children past n ≡ [] → deeds (filter p past) n ≡ []
no_deeds p setting [] n legal none childless = refl
no_deeds p setting (e ∷ past) n legal none childless =
    by_test (p e) (no_deeds p setting past n legal.0 before parts.0)
  where
    before : start past n ≡ None
    before = (none_before (start past n) _ none).0

    parts : (children past n ≡ []) × (option_to_list (child_in n e.event) ≡ [])
    parts = both_empty (children past n) _ childless

    by_event : (ev : Event) → e.event ≡ ev → option_to_list (child_in n ev) ≡ [] → Silent n ev
    by_event (event.Start m k) is no_one = by_child (is_child n m) refl no_one
      where
        by_child : (b : Bool) → is_child n m ≡ b → option_to_list (if b then Some m else None) ≡ [] → Silent n (event.Start m k)
        by_child true so no_one = absurd cc
        by_child false so no_one = start_silent n m k so
    by_event (event.Mark by session) is no_one = by_name (same by n) refl
      where
        by_name : (b : Bool) → same by n ≡ b → Silent n (event.Mark by session)
        by_name false so = mark_silent n by session so
        by_name true so =
            let may : MayHappen setting past e.seat (event.Mark by session) = subst (MayHappen setting past e.seat) is legal.1 in
            absurd (started_some past by _ may.by_user (ap (start past) (same_is by n so) ∙ before))
    by_event (event.Ask ask) is no_one = λ before. refl
    by_event (event.Gone m why) is no_one = λ before. refl
    by_event (event.Granted copy grant) is no_one = λ before. refl
    by_event (event.Refused m copy refusal) is no_one = λ before. refl
    by_event (event.Unable m why) is no_one = λ before. refl
    by_event (event.Ready m) is no_one = λ before. refl
    by_event (event.End m how) is no_one = λ before. refl

    by_test : (b : Bool) → deeds (filter p past) n ≡ [] → deeds (if b then e ∷ filter p past else filter p past) n ≡ []
    by_test false was = was
    by_test true was = ap (λ o. deeds (filter p past) n ++ option_to_list o) (by_event e.event refl parts.1 (filter p past)) ∙ append-nil _ ∙ was

-- WHO HAS ENDED OR IS READY DOES NOTHING MORE

pub closed_done : (h : Past) (n : Name) → Closed h n → is_done h n ≡ true
closed_done h n (inl ended) = ap (λ b. b || is_ready h n) ended
closed_done h n (inr ready) = by_end (is_some (end h n))
  where
    by_end : (b : Bool) → (b || is_ready h n) ≡ true
    by_end true = refl
    by_end false = ready

pub deeds_still : (p : Entry → Bool) (setting : Setting) (newer past : Past) (n : Name) → Legal setting (newer ++ past) → Closed (filter p past) n → deeds (filter p (newer ++ past)) n ≡ deeds (filter p past) n
deeds_still p setting [] past n legal closed = refl
deeds_still p setting (e ∷ newer) past n legal closed = by_test (p e) ∙ deeds_still p setting newer past n legal.0 closed
  where
    still_closed : Closed (filter p (newer ++ past)) n
    still_closed = closed_still p setting newer past n closed

    by_event : (ev : Event) → child_in n ev ≡ None → deed_in (filter p (newer ++ past)) n ev ≡ None
    by_event (event.Start m k) none = by_child (is_child n m) none
      where
        by_child : (b : Bool) → (if b then Some m else None) ≡ None → (if b then Some (Deed.child m) else None) ≡ None
        by_child true none = absurd cc
        by_child false none = refl
    by_event (event.Mark by session) none =
        ap (λ b. if b then Some (Deed.mark session) else None) (ap (λ b. same by n && not b) (closed_done (filter p (newer ++ past)) n still_closed) ∙ and-false (same by n))
    by_event (event.Ask ask) none = refl
    by_event (event.Gone m why) none = refl
    by_event (event.Granted copy grant) none = refl
    by_event (event.Refused m copy refusal) none = refl
    by_event (event.Unable m why) none = refl
    by_event (event.Ready m) none = refl
    by_event (event.End m how) none = refl

    by_test : (b : Bool) → deeds (if b then e ∷ filter p (newer ++ past) else filter p (newer ++ past)) n ≡ deeds (filter p (newer ++ past)) n
    by_test false = refl
    by_test true =
        ap (λ o. deeds (filter p (newer ++ past)) n ++ option_to_list o) (by_event e.event (no_child p setting e (newer ++ past) n legal still_closed)) ∙ append-nil _
