-- What may be entered where nothing was against it.
use Rattle.std.proofs.Common.{◌≡◌, ℕ, ◌+◌, ◌<◌, ◌≤◌, Bool, true, false, [], ◌∷◌, ◌++◌, length, refl, sym, ap, ◌∙◌, subst, arith}
use Rattle.std.specs.Prelude.{Option, None, Some, IsTrue, not, is_some, if◌then◌else◌}
use Rattle.std.specs.Option.{option_or, option_map}
use Rattle.qc_names.specs.Name as name
use Rattle.qc_event.specs.Base.{Setting}
use Rattle.qc_event.specs.declared.event.Event.TheVariants as event
use Rattle.qc_event.specs.declared.event.How.{How}
use Rattle.qc_event.specs.declared.event.How.TheVariants.{Commit, Abort}
use Rattle.qc_event.specs.declared.event.Kind.{Kind}
use Rattle.qc_event.specs.Dead.{dead, outcome_of, is_live, is_committed, is_aborted}
use Rattle.qc_event.specs.History.{Past, Name, Begun, start, end, is_ready, children}
use Rattle.qc_event.specs.Legal.{Legal, Allowed}
use Rattle.qc_event.specs.Seats.{is_client}
use Rattle.qc_event.specs.Standing.{Started, IsGoing, open_child}
use Rattle.qc_event.specs.Starts.{Stands}
use Rattle.qc_event.specs.Users.{MayStartNext, MayReady}
use Rattle.qc_event.proofs.BelowTops.{starts_below}
use Rattle.qc_event.proofs.FewerChildren.{children_fewer}
use Rattle.qc_event.proofs.LastNumber.{front_last, length_last}
use Rattle.qc_event.proofs.Later.{started_still}
use Rattle.qc_event.proofs.Lawful.{started_some}
use Rattle.qc_event.proofs.Lineage.{alive_not_aborted}
use Rattle.qc_event.proofs.OneEntry.{none_before}
use Rattle.qc_event.proofs.StillTold.{begun_still}
use Rattle.qc_desk.specs.declared.refusal.DeskNo.TheVariants as no
use Rattle.qc_desk.specs.Entries.{IsOlder, entry}
use Rattle.qc_desk.specs.Refusing.{if_ended, if_committed, if_dead, if_ready, if_open, against_child, against_ready}
use Rattle.qc_desk.proofs.Begun.{NameHasRoom, has_room}

-- WHERE A TEST DID NOT FAIL

unmapped : {X Y : Type 0} (f : X → Y) (o : Option X) → option_map f o ≡ None → o ≡ None
unmapped f None h = refl
unmapped f (Some x) h = absurd cc

pub not_ended : (past : Past) (n : Name) → if_ended past n ≡ None → end past n ≡ None
not_ended past n = by_end (end past n)
  where
    by_end : (o : Option How) → (if is_live (outcome_of o) then None else Some no.Ended) ≡ None → o ≡ None
    by_end None h = refl
    by_end (Some (Commit given)) h = absurd cc
    by_end (Some (Abort c)) h = absurd cc

pub alive : (past : Past) (n : Name) → if_dead past n ≡ None → dead past n ≡ None
alive past n h = unmapped (λ a. no.Orphan a) (dead past n) h

pub unready : (past : Past) (n : Name) → if_ready past n ≡ None → is_ready past n ≡ false
unready past n = by_test (is_ready past n)
  where
    by_test : (b : Bool) → (if b then Some no.Ready else None) ≡ None → b ≡ false
    by_test false h = refl
    by_test true h = absurd cc

pub closed : (past : Past) (n : Name) → if_open past n ≡ None → open_child past n ≡ None
closed past n h = unmapped (λ c. no.ChildrenOpen c) (open_child past n) h

-- who has not committed, and is not dead, is open
pub still_open : (past : Past) (n : Name) → if_committed past n ≡ None → dead past n ≡ None → end past n ≡ None
still_open past n h living = by_end (end past n) h (alive_not_aborted past n living)
  where
    by_end : (o : Option How) → (if is_committed (outcome_of o) then Some no.Ended else None) ≡ None → is_aborted (outcome_of o) ≡ false → o ≡ None
    by_end None h not = refl
    by_end (Some (Commit given)) h not = absurd cc
    by_end (Some (Abort c)) h not = absurd cc

-- WHAT WAS SEEN STAYS

pub started_later : (before now : Past) (n : Name) (P : Begun → Type 0) → IsOlder before now → Started before n P → Started now n P
started_later before now n P older h = subst (λ p. Started p n P) (sym older.1) (started_still older.0 before n P h)

pub begun_later : (before now : Past) (n : Name) → IsOlder before now → is_some (start before n) ≡ true → is_some (start now n) ≡ true
begun_later before now n older h = subst (λ p. is_some (start p n) ≡ true) (sym older.1) (begun_still older.0 before n h)

-- READY

pub ready_allowed : (setting : Setting) (seat : ℕ) (seen now : Past) (top : Name) → IsOlder seen now → IsTrue (is_client seat) → length top ≡ 1 → is_some (start seen top) ≡ true → against_ready top now ≡ None → Allowed setting now (entry seat (event.Ready top))
ready_allowed setting seat seen now top older client one started none = may
  where
    first : (if_ended now top ≡ None) × (option_or (if_dead now top) (option_or (if_ready now top) (if_open now top)) ≡ None)
    first = none_before (if_ended now top) (option_or (if_dead now top) (option_or (if_ready now top) (if_open now top))) none

    second : (if_dead now top ≡ None) × (option_or (if_ready now top) (if_open now top) ≡ None)
    second = none_before (if_dead now top) (option_or (if_ready now top) (if_open now top)) first.1

    third : (if_ready now top ≡ None) × (if_open now top ≡ None)
    third = none_before (if_ready now top) (if_open now top) second.1

    may : MayReady now seat top
    may = record {
      by_client = client;
      is_top = one;
      is_open = record { started = begun_later seen now top older started; not_ended = not_ended now top first.0 };
      not_ready = ap not (unready now top third.0);
      children_ended = closed now top third.1;
    }

-- THE NEXT CHILD

abbrev pub next_child : Past → Name → Name
next_child past parent = parent ++ (length (children past parent) + 1) ∷ []

pub child_allowed : (setting : Setting) (seat : ℕ) (seen now : Past) (parent : Name) (k : Kind) → IsOlder seen now → 0 < length parent → IsTrue (is_client seat)
    → Started seen parent (λ p. Stands setting seat p (length parent + 1) k) → against_child parent now ≡ None → Allowed setting now (entry seat (event.Start (next_child now parent) k))
child_allowed setting seat seen now parent k older long client stands none =
    starts_below setting now seat (next_child now parent) k (omega (arith, length_last parent (length (children now parent) + 1))) may
  where
    first : (if_committed now parent ≡ None) × (option_or (if_dead now parent) (if_ready now parent) ≡ None)
    first = none_before (if_committed now parent) (option_or (if_dead now parent) (if_ready now parent)) none

    second : (if_dead now parent ≡ None) × (if_ready now parent ≡ None)
    second = none_before (if_dead now parent) (if_ready now parent) first.1

    front : name.front (next_child now parent) ≡ parent
    front = front_last parent (length (children now parent) + 1)

    here : Started now parent (λ p. Stands setting seat p (length parent + 1) k)
    here = started_later seen now parent (λ p. Stands setting seat p (length parent + 1) k) older stands

    living : dead now parent ≡ None
    living = alive now parent second.0

    may : MayStartNext (λ p. Stands setting seat p (length (next_child now parent)) k) now seat (next_child now parent)
    may = record {
      by_client = client;
      parent_going = subst (IsGoing now) (sym front) (record {
        is_open = record { started = started_some (λ p. Stands setting seat p (length parent + 1) k) (start now parent) here; not_ended = still_open now parent first.0 living };
        alive = living;
      });
      parent_not_ready = ap (λ x. not (is_ready now x)) front ∙ ap not (unready now parent second.1);
      next_child = ap (λ x. x ++ (length (children now x) + 1) ∷ []) (sym front);
      stands = subst (λ (x : Name × ℕ). Started now x.0 (λ p. Stands setting seat p x.1 k)) (λ i. (sym front i, sym (length_last parent (length (children now parent) + 1)) i)) here;
    }

-- a name under which a child may stand: its numbers and its children leave room
pub record IsParent (past : Past) (n : Name) : Type 0 where
  pub below_a_top : 0 < length n
  pub room : length n ≤ 17
  pub few : length (children past n) < length past

pub is_parent : (setting : Setting) (seat : ℕ) (seen now : Past) (parent : Name) (k : Kind) → Legal setting now → IsOlder seen now → Started seen parent (λ p. Stands setting seat p (length parent + 1) k) → IsParent now parent
is_parent setting seat seen now parent k legal older stands =
    let here = started_later seen now parent (λ p. Stands setting seat p (length parent + 1) k) older stands in
    let room : NameHasRoom parent = has_room setting now seat parent k legal here in
    record { below_a_top = room.below_a_top; room = room.room; few = children_fewer now parent (started_some (λ p. Stands setting seat p (length parent + 1) k) (start now parent) here) }
