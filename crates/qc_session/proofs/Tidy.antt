-- That a client's own entries stay tidy, entry by entry.
use Rattle.std.proofs.Common.{◌≡◌, ℕ, suc, map, ◌==◌, ◌<◌, inl, inr, Bool, true, false, cond, [], ◌∷◌, ◌++◌, length, refl, sym, ap, ◌∙◌, subst, append-nil, List}
use mathlib.Core.Bool.{true≢false}
use Rattle.std.specs.Prelude.{None, Some, MatchOption, is_some, is_none, find, option_to_list, All, if◌then◌else◌}
use Rattle.std.proofs.lemmas.Bool.{eq-eqb, eqb-true, not-true}
use Rattle.std.proofs.lemmas.Option.{none-some}
use Rattle.std.proofs.lemmas.List.Elements.{All-head, All-tail}
use Rattle.qc_carry.specs.Walk.{Walk}
use Rattle.qc_event.specs.declared.event.Entry.{Entry}
use Rattle.qc_event.specs.declared.event.Event.{Event}
use Rattle.qc_event.specs.declared.event.Event.TheVariants as event
use Rattle.qc_event.specs.declared.event.How.{How}
use Rattle.qc_event.specs.declared.event.Kind.{Kind}
use Rattle.qc_event.specs.Base.{Setting}
use Rattle.qc_event.specs.History.{Past, Name, Begun, start, end, children, child_in, is_child}
use Rattle.qc_event.specs.Legal.{Legal}
use Rattle.qc_event.specs.Standing.{IsManager, IsUser, Started, open_child}
use Rattle.qc_event.proofs.LastNumber.{child_last}
use Rattle.qc_event.proofs.Lawful.{lawful, child_starts, ends_open, nonroot, some_how, started_some, started_wider}
use Rattle.qc_event.proofs.LegalOrderly.{legal_orderly}
use Rattle.qc_event.proofs.SameEvents.{same_end}
use Rattle.qc_event.proofs.OneEntry.{Ending, end_now, end_step, end_stays, some_if_not_none, some_not_none, some_or_none, start_or_end}
use Rattle.qc_event.proofs.Later.{started_still}
use Rattle.qc_managers.specs.Carrying.{entry, name_of}
use Rattle.qc_desk.specs.declared.view.View.{View}
use Rattle.qc_desk.specs.Entries.{AreOthers, IsOlder, IsSince, entries_of}
use Rattle.qc_desk.specs.Rules.{Has, numbers}
use Rattle.qc_desk.specs.Own.{IsMine}
use Rattle.qc_desk.proofs.Others as others
use Rattle.qc_desk.proofs.Since.{others_where_none, since}
use Rattle.qc_session.specs.Clients.{kin_of}
use Rattle.qc_session.specs.Tidy.{AreTidy, IsTidy}
use Rattle.qc_session.proofs.Accesses.{OfManager}
use Rattle.qc_session.proofs.Standing.{access_of, not_access_too, not_both, start_same}

-- an own entry ends no manager with an open access
abbrev pub Calm : ℕ → Past → Entry → Type 0
Calm seat past e = e.seat ≡ seat → ((m : Name) (how : How) → e.event ≡ event.End m how → IsMine past seat m → open_child past m ≡ None)

-- CHILDREN OF WHO HAS ENDED

-- where each child of a list has ended, each still has
ends_more : (e : Entry) (past : Past) (cs : List Name) → find (λ c. is_none (end past c)) cs ≡ None → find (λ c. is_none (end (e ∷ past) c)) cs ≡ None
ends_more e past [] none = refl
ends_more e past (c ∷ cs) none = by_end (is_none (end past c)) refl (λ h. ends_more e past cs h) none
  where
    by_end : (b : Bool) → is_none (end past c) ≡ b → (find (λ x. is_none (end past x)) cs ≡ None → find (λ x. is_none (end (e ∷ past) x)) cs ≡ None) → cond b (Some c) (find (λ x. is_none (end past x)) cs) ≡ None → find (λ x. is_none (end (e ∷ past) x)) (c ∷ cs) ≡ None
    by_end true is rest h = absurd cc
    by_end false is rest h = ap (λ b. cond b (Some c) (find (λ x. is_none (end (e ∷ past) x)) cs)) (some_not_none (end (e ∷ past) c) (end_stays e past c (some_if_not_none (end past c) is))) ∙ rest h

closed_more : (e : Entry) (past : Past) (m : Name) → open_child past m ≡ None → child_in m e.event ≡ None → open_child (e ∷ past) m ≡ None
closed_more e past m closed none =
    ap (find (λ c. is_none (end (e ∷ past) c))) (ap (λ o. children past m ++ option_to_list o) none ∙ append-nil (children past m))
    ∙ ends_more e past (children past m) closed

-- no child of who has ended starts
no_child_of_ended : (setting : Setting) (e : Entry) (past : Past) (m : Name) → Legal setting (e ∷ past) → 0 < length m → is_some (end past m) ≡ true → child_in m e.event ≡ None
no_child_of_ended setting e past m legal pos over = by_event e.event refl
  where
    by_child : (c : Name) (k : Kind) (b : Bool) → e.event ≡ event.Start c k → is_child m c ≡ b → (if b then Some c else None) ≡ None
    by_child c k true at is =
        let last = child_last m c is in
        absurd (some_or_none (end past m) over (child_starts past e m last.0 pos (k, at ∙ ap (λ x. event.Start x k) last.1) (legal_orderly setting (e ∷ past) legal).1).going.is_open.not_ended)
    by_child c k false at is = refl

    by_event : (ev : Event) → e.event ≡ ev → child_in m ev ≡ None
    by_event (event.Start c k) at = by_child c k (is_child m c) at refl
    by_event (event.Ask ask) at = refl
    by_event (event.Gone n why) at = refl
    by_event (event.Granted copy grant) at = refl
    by_event (event.Refused n copy refusal) at = refl
    by_event (event.Unable n why) at = refl
    by_event (event.Mark by session) at = refl
    by_event (event.Ready n) at = refl
    by_event (event.End n how) at = refl

-- ONE ENTRY

module _ (setting : Setting) (seat : ℕ) (past : Past) (e : Entry) (legal : Legal setting (e ∷ past)) (calm : Calm seat past e) (was : IsTidy seat past) where
  mine_before : (m : Name) → is_some (start past m) ≡ true → IsMine (e ∷ past) seat m → IsMine past seat m
  mine_before m began own = subst (λ o. MatchOption o ⊥ (λ (b : Begun). IsManager b.kind × (b.seat ≡ seat))) (start_same (e ∷ []) past m began) own

  pos : (m : Name) → is_some (start past m) ≡ true → 0 < length m
  pos m began = nonroot past m (lawful past (legal_orderly setting past legal.0)) began

  ends_now : (m : Name) (how : How) → (end past m ≡ None) × Ending m e.event how → IsMine (e ∷ past) seat m → open_child (e ∷ past) m ≡ None
  ends_now m how new own = by_seat (e.seat == seat) refl
    where
      own_before : IsMine past seat m
      own_before = mine_before m (ends_open past e m how new.1 (legal_orderly setting (e ∷ past) legal).1).started own

      by_seat : (b : Bool) → (e.seat == seat) ≡ b → open_child (e ∷ past) m ≡ None
      by_seat true is = closed_more e past m (calm (eqb-true e.seat seat is) m how new.1 own_before) (ap (child_in m) new.1)
      by_seat false is = absurd (none-some how (sym (others.no_end setting e past seat m (λ s. true≢false (sym (eq-eqb e.seat seat s) ∙ is)) legal.0 legal.1 own_before) ∙ end_now m e.event how new.1))

  closed_now : (m : Name) → IsMine (e ∷ past) seat m → is_some (end (e ∷ past) m) ≡ true → open_child (e ∷ past) m ≡ None
  closed_now m own over =
      let how = some_how (end (e ∷ past) m) over in
      elim (end_step e past m how.0 how.1) [
        | inl old ↦
            let began = (lawful past (legal_orderly setting past legal.0)).end_has_start m (ap is_some old) in
            closed_more e past m (was.closed m (mine_before m began own) (ap is_some old)) (no_child_of_ended setting e past m legal (pos m began) (ap is_some old))
        | inr new ↦ ends_now m how.0 new own
      ]

  pub one_tidy : IsTidy seat (e ∷ past)
  one_tidy = record { closed = closed_now }

-- OTHERS' ENTRIES

pub others_tidy : (setting : Setting) (seat : ℕ) (newer past : Past) → Legal setting (newer ++ past) → AreOthers seat newer → IsTidy seat past → IsTidy seat (newer ++ past)
others_tidy setting seat [] past legal apart was = was
others_tidy setting seat (e ∷ newer) past legal apart was = one_tidy setting seat (newer ++ past) e legal (λ own. absurd (apart.0 own)) (others_tidy setting seat newer past legal.0 apart.1 was)

-- OWN ENTRIES

starts_calm : (seat : ℕ) (past : Past) (e : Entry) (n : Name) (k : Kind) → e.event ≡ event.Start n k → Calm seat past e
starts_calm seat past e n k is own = λ m how at. absurd (start_or_end n m k how (sym is ∙ at))

ready_calm : (seat : ℕ) (past : Past) (e : Entry) (n : Name) → e.event ≡ event.Ready n → Calm seat past e
ready_calm seat past e n is own = λ m how at. absurd (differ m how (sym is ∙ at))
  where
    differ : (m : Name) (how : How) → event.Ready n ≡ event.End m how → ⊥
    differ m how same = cc

marks_calm : (seat : ℕ) (past : Past) (e : Entry) (by : Name) (session : ℕ) → e.event ≡ event.Mark by session → Calm seat past e
marks_calm seat past e by session is own = λ m how at. absurd (differ m how (sym is ∙ at))
  where
    differ : (m : Name) (how : How) → event.Mark by session ≡ event.End m how → ⊥
    differ m how same = cc

ends_calm : (seat : ℕ) (past : Past) (e : Entry) (n : Name) (how : How) → e.event ≡ event.End n how → (IsMine past seat n → open_child past n ≡ None) → Calm seat past e
ends_calm seat past e n how is closed own =
    λ m how' at mine. let same = same_end n m how how' (sym is ∙ at) in subst (λ x. open_child past x ≡ None) same (closed (subst (λ x. IsMine past seat x) (sym same) mine))

-- THE ENTRIES OF A MANAGER'S ACCESSES

module _ (setting : Setting) (seat : ℕ) (n : Name) (past : Past) (pos : 0 < length n) (manager : Started past n (λ b. IsManager b.kind)) where
  access_calm : (newer : Past) (e : Entry) → Legal setting (e ∷ newer ++ past) → OfManager seat n e → Calm seat (newer ++ past) e
  access_calm newer e legal (inr other) own = absurd (true≢false (sym (eq-eqb e.seat seat own) ∙ not-true (e.seat == seat) other))
  access_calm newer e legal (inl access) own =
      let still = started_still newer past n (λ b. IsManager b.kind) manager in
      λ m how at mine. absurd (not_access_too (newer ++ past) m
      (access_of setting (newer ++ past) n m legal.0 pos still (ap (λ ev. is_child n (name_of ev)) (sym at) ∙ access) (started_some (λ b. IsManager b.kind × (b.seat ≡ seat)) (start (newer ++ past) m) mine))
      (started_wider (λ b. IsManager b.kind × (b.seat ≡ seat)) (λ b. IsManager b.kind) (start (newer ++ past) m) (λ b h. h.0) mine))

  pub accesses_tidy : (newer : Past) → Legal setting (newer ++ past) → All (OfManager seat n) newer → IsTidy seat past → IsTidy seat (newer ++ past)
  accesses_tidy [] legal each was = was
  accesses_tidy (e ∷ newer) legal each was =
      one_tidy setting seat (newer ++ past) e legal (access_calm newer e legal (All-head (OfManager seat n) e newer each))
      (accesses_tidy newer legal.0 (All-tail (OfManager seat n) e newer each) was)

-- A STEP OF THE CLIENT

-- where nothing of a manager's is new, its accesses are all ended still
pub others_closed : (setting : Setting) (seat : ℕ) (newer past : Past) (m : Name) → Legal setting (newer ++ past) → AreOthers seat newer → IsMine past seat m → open_child past m ≡ None → open_child (newer ++ past) m ≡ None
others_closed setting seat [] past m legal apart mine closed = closed
others_closed setting seat (e ∷ newer) past m legal apart mine closed =
    closed_more e (newer ++ past) m (others_closed setting seat newer past m legal.0 apart.1 mine closed)
    (others.no_child setting e (newer ++ past) seat m apart.0 legal.0 legal.1 (started_still newer past m (λ b. IsManager b.kind × (b.seat ≡ seat)) mine))

module _ (setting : Setting) (v w : View) (legal : Legal setting w.seen) (number : w.number ≡ v.number) (was : IsTidy v.number v.seen) where
  at_number : IsTidy v.number w.seen → IsTidy w.number w.seen
  at_number tidy = subst (λ n. IsTidy n w.seen) (sym number) tidy

  -- it looked
  pub looked_tidy : IsSince v.number v.seen w.seen → IsTidy w.number w.seen
  looked_tidy s = at_number (subst (IsTidy v.number) (sym s.1) (others_tidy setting v.number s.0 v.seen (subst (Legal setting) s.1 legal) s.2 was))

  module _ (ev : Event) (before : Past) (since : IsSince v.number v.seen before) (is : w.seen ≡ entry v.number ev ∷ before) where
    legal_now : Legal setting (entry v.number ev ∷ before)
    legal_now = subst (Legal setting) is legal

    legal_before : Legal setting (since.0 ++ v.seen)
    legal_before = subst (Legal setting) since.1 legal_now.0

    tidy_before : IsTidy v.number before
    tidy_before = subst (IsTidy v.number) (sym since.1) (others_tidy setting v.number since.0 v.seen legal_before since.2 was)

    entered : Calm v.number before (entry v.number ev) → IsTidy w.number w.seen
    entered calm = at_number (subst (IsTidy v.number) (sym is) (one_tidy setting v.number before (entry v.number ev) legal_now calm tidy_before))

    pub start_tidy : (n : Name) (k : Kind) → ev ≡ event.Start n k → IsTidy w.number w.seen
    start_tidy n k at = entered (starts_calm v.number before (entry v.number ev) n k at)

    pub ready_tidy : (n : Name) → ev ≡ event.Ready n → IsTidy w.number w.seen
    ready_tidy n at = entered (ready_calm v.number before (entry v.number ev) n at)

    pub mark_tidy : (by : Name) (session : ℕ) → ev ≡ event.Mark by session → IsTidy w.number w.seen
    mark_tidy by session at = entered (marks_calm v.number before (entry v.number ev) by session at)

    -- a user transaction ended
    pub user_tidy : (n : Name) (how : How) → ev ≡ event.End n how → Started v.seen n (λ b. IsUser b.kind) → IsTidy w.number w.seen
    user_tidy n how at user = entered (ends_calm v.number before (entry v.number ev) n how at (λ mine.
        absurd (not_both before n (subst (λ p. Started p n (λ b. IsUser b.kind)) (sym since.1) (started_still since.0 v.seen n (λ b. IsUser b.kind) user))
        (started_wider (λ b. IsManager b.kind × (b.seat ≡ v.number)) (λ b. IsManager b.kind) (start before n) (λ b h. h.0) mine))))

    -- a manager ended whose accesses have
    pub manager_tidy : (n : Name) (how : How) → ev ≡ event.End n how → IsMine v.seen v.number n → open_child v.seen n ≡ None → IsTidy w.number w.seen
    manager_tidy n how at mine closed = entered (ends_calm v.number before (entry v.number ev) n how at (λ later.
        subst (λ p. open_child p n ≡ None) (sym since.1) (others_closed setting v.number since.0 v.seen n legal_before since.2 mine closed)))

-- it has seen what others entered
pub walked_tidy : (setting : Setting) (v w : View) → Legal setting w.seen → Walk v w [] → IsTidy v.number v.seen → IsTidy w.number w.seen
walked_tidy setting v w legal walk was = looked_tidy setting v w legal walk.number was (walk.newer, walk.grown, others_where_none v.number walk.newer walk.own)

-- a client that has entered nothing is tidy
pub fresh_tidy : (setting : Setting) (seat : ℕ) (past : Past) → Legal setting past → entries_of seat past ≡ [] → IsTidy seat past
fresh_tidy setting seat past legal none =
    subst (IsTidy seat) (append-nil past) (others_tidy setting seat past [] (subst (Legal setting) (sym (append-nil past)) legal) (others_where_none seat past none) (record { closed = λ m own over. absurd own }))

-- EACH OF SOME SEATS

-- where nothing is newer under any of these, they stay tidy
pub each_tidy : (setting : Setting) (before now : Past) (seats : List ℕ) → Legal setting now → IsOlder before now → ((k : ℕ) → Has seats k → entries_of k now ≡ entries_of k before) → AreTidy seats before → AreTidy seats now
each_tidy setting before now [] legal older same was = tt
each_tidy setting before now (k ∷ seats) legal older same was =
    let others = since k before now older (same k (0, refl)) in (
      subst (IsTidy k) (sym others.1) (others_tidy setting k others.0 before (subst (Legal setting) others.1 legal) others.2 was.0),
      each_tidy setting before now seats legal older (λ j h. same j (suc h.0, h.1)) was.1,
    )

-- so they do with a client's own, which stays tidy
pub tidy_still : (setting : Setting) (v w : View) → Legal setting w.seen → IsOlder v.seen w.seen → w.number ≡ v.number → w.kin ≡ v.kin → ((k : ℕ) → Has (kin_of v) k → entries_of k w.seen ≡ entries_of k v.seen) → (IsTidy v.number v.seen → IsTidy w.number w.seen) → AreTidy (numbers v) v.seen → AreTidy (numbers w) w.seen
tidy_still setting v w legal older number kin same own was =
    (own was.0, subst (λ (ks : List (ℕ × Past)). AreTidy (map (λ (p : ℕ × Past). p.0) ks) w.seen) (sym kin) (each_tidy setting v.seen w.seen (kin_of v) legal older same was.1))

pub tidy_both : (xs ys : List ℕ) (past : Past) → AreTidy xs past → AreTidy ys past → AreTidy (xs ++ ys) past
tidy_both [] ys past first second = second
tidy_both (x ∷ xs) ys past first second = (first.0, tidy_both xs ys past first.1 second)
