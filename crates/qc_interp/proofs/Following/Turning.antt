-- Who acts in turn as entries are made.
use Rattle.std.proofs.Common.{◌≡◌, ◌⊎◌, inl, inr, ◌<◌, arith, ℕ, Bool, true, false, [], ◌∷◌, ◌++◌, length, refl, sym, ap, ◌∙◌, append-nil, append_assoc}
use mathlib.Core.Bool.{true≢false}
use Rattle.std.specs.Prelude.{None, Some, is_some, ◌&&◌, ◌||◌, not, if◌then◌else◌, option_to_list, IsTrue}
use Rattle.std.specs.List.{AllByRecursion, list_all}
use Rattle.std.specs.Option.{option_map_or}
use Rattle.std.proofs.lemmas.List.Folds.{list_all-append}
use Rattle.std.proofs.lemmas.Bool.{or_right, and_from}
use Rattle.qc_event.specs.declared.event.Cause.TheVariants as cause
use Rattle.qc_event.specs.declared.event.Entry.{Entry}
use Rattle.qc_event.specs.declared.event.Event.{Event}
use Rattle.qc_event.specs.declared.event.Event.TheVariants as event
use Rattle.qc_event.specs.declared.event.How.{How}
use Rattle.qc_event.specs.declared.event.How.TheVariants.{Commit, Abort}
use Rattle.qc_event.specs.declared.event.Kind.{Kind}
use Rattle.qc_event.specs.History.{Past, Name, every, end, is_ready, is_child}
use Rattle.qc_event.proofs.LastNumber.{child_last, child_longer, rest_of, is_ancestor-append, ends_in, same_last, below_more}
use Rattle.qc_event.proofs.OneEntry.{stays_some}
use Rattle.qc_event.proofs.Booleans.{or_wider, all_wider}
use Rattle.qc_names.specs.Name as name
use Rattle.qc_script.specs.Calls.{IsOfAccess, is_access, is_asked}
use Rattle.qc_script.specs.Numbers.{each}
use Rattle.qc_interp.specs.Turns.{begun_in, acts, is_done, is_alone, are_apart, has_turn, seat_for, keeps_seat, takes_turn}

abbrev pub InTurn : Past → Type 0
InTurn h = each takes_turn h ≡ true

abbrev pub Alone : Past → Name → Type 0
Alone h n = is_alone h n ≡ true

pub some_done : (h : Past) (n : Name) → is_some (end h n) ≡ true → is_done h n ≡ true
some_done h n some = ap (λ b. b || is_ready h n) some

done_stays : (e : Entry) (h : Past) (m : Name) → is_done h m ≡ true → is_done (e ∷ h) m ≡ true
done_stays e h m = or_wider (is_some (end h m)) (is_ready h m) (is_some (end (e ∷ h) m)) (is_ready (e ∷ h) m) (λ x. stays_some _ _ x) (λ x. stays_some _ _ x)

pub itself : (n : Name) → name.is_ancestor n n ≡ true
itself n = ap (name.is_ancestor n) (sym (append-nil n)) ∙ is_ancestor-append n []

-- whoever is below one that is alone is
pub alone_below : (h : Past) (n m : Name) → name.is_ancestor n m ≡ true → Alone h n → Alone h m
alone_below h n m low alone =
    let r = rest_of n m low in
    all_wider _ _ (every (λ e. begun_in e.event) h) (λ x. or_wider (is_done h x) (name.is_ancestor x n) (is_done h x) (name.is_ancestor x m) (λ d. d) (λ a. ap (name.is_ancestor x) r.1 ∙ below_more x n r.0 a)) alone

-- an entry that starts no one
pub alone_still : (e : Entry) (h : Past) (n : Name) → begun_in e.event ≡ None → Alone h n → Alone (e ∷ h) n
alone_still e h n none alone =
    ap (list_all (λ m. is_done (e ∷ h) m || name.is_ancestor m n)) (ap (λ o. every (λ x. begun_in x.event) h ++ option_to_list o) none ∙ append-nil _)
    ∙ all_wider _ _ (every (λ x. begun_in x.event) h) (λ m. or_wider (is_done h m) (name.is_ancestor m n) (is_done (e ∷ h) m) (name.is_ancestor m n) (done_stays e h m) (λ a. a)) alone

alone_more : (e : Entry) (h : Past) (n m : Name) → begun_in e.event ≡ Some m → name.is_ancestor m n ≡ true → Alone h n → Alone (e ∷ h) n
alone_more e h n m some low alone =
    ap (λ o. list_all (λ x. is_done (e ∷ h) x || name.is_ancestor x n) (every (λ x. begun_in x.event) h ++ option_to_list o)) some
    ∙ list_all-append (λ x. is_done (e ∷ h) x || name.is_ancestor x n) (every (λ x. begun_in x.event) h) (m ∷ [])
    ∙ and_from _ _ (all_wider _ _ (every (λ x. begun_in x.event) h) (λ x. or_wider (is_done h x) (name.is_ancestor x n) (is_done (e ∷ h) x) (name.is_ancestor x n) (done_stays e h x) (λ a. a)) alone)
    (and_from (is_done (e ∷ h) m || name.is_ancestor m n) true (or_right (is_done (e ∷ h) m) (name.is_ancestor m n) low) refl)

-- a child that is done, and was alone, leaves its parent alone
pub alone_up : (h : Past) (of m : Name) → is_child of m ≡ true → is_done h m ≡ true → Alone h m → Alone h of
alone_up h of m child done alone = all_wider _ _ (every (λ e. begun_in e.event) h) (λ x passes. by_done x (is_done h x) refl passes) alone
  where
    l : (j : ℕ) × (m ≡ of ++ j ∷ [])
    l = child_last of m child

    above : (x : Name) → name.is_ancestor x m ≡ true → (x ≡ m) ⊎ (name.is_ancestor x of ≡ true)
    above x a =
        let r = rest_of x m a in
        elim (ends_in r.0) [
          | inl none ↦ inl (sym (r.1 ∙ ap (λ y. x ++ y) none ∙ append-nil x))
          | inr e ↦
              let up : of ≡ x ++ e.0 = (same_last of (x ++ e.0) l.0 e.1 (sym l.1 ∙ r.1 ∙ ap (λ y. x ++ y) e.2 ∙ sym (append_assoc x e.0 (e.1 ∷ [])))).0 in
              inr (ap (name.is_ancestor x) up ∙ is_ancestor-append x e.0)
        ]

    by_done : (x : Name) (b : Bool) → is_done h x ≡ b → (is_done h x || name.is_ancestor x m) ≡ true → (is_done h x || name.is_ancestor x of) ≡ true
    by_done x true is passes = ap (λ b. b || name.is_ancestor x of) is
    by_done x false is passes = elim (above x (ap (λ b. b || name.is_ancestor x m) (sym is) ∙ passes)) [
      | inl same ↦ absurd (true≢false (sym done ∙ ap (is_done h) (sym same) ∙ is))
      | inr a ↦ ap (λ b. b || name.is_ancestor x of) is ∙ a
    ]

-- SEATS

-- an entry keeps its seat
abbrev pub Keeps : Entry → Past → Type 0
Keeps e h = keeps_seat e h ≡ true

-- a name below another is no top, and starts under any seat
pub low_keeps : (e : Entry) (h : Past) (m : Name) (k : Kind) → 1 < length m → e.event ≡ event.Start m k → Keeps e h
low_keeps e h [] k low is = absurd (let z : ⊥ = omega (arith, low) in z)
low_keeps e h (x ∷ []) k low is = absurd (let z : ⊥ = omega (arith, low) in z)
low_keeps e h (x ∷ y ∷ m) k low is = ap (seat_for h e.seat) is

-- so does a child of a name that is not the root
pub child_keeps : (e : Entry) (h : Past) (of m : Name) (k : Kind) → 0 < length of → is_child of m ≡ true → e.event ≡ event.Start m k → Keeps e h
child_keeps e h of m k nonroot child is = let l = child_longer of m child in low_keeps e h m k (omega (arith, l)) is

-- TURNS

-- who is alone takes its turn, and so does an entry by which no one acts
alone_takes_turn : (e : Entry) (h : Past) (n : Name) → acts e.event ≡ Some n → Keeps e h → Alone h n → takes_turn e h ≡ true
alone_takes_turn e h n is keeps alone =
    ap (λ b. b && option_map_or (has_turn e h) (acts e.event) true) keeps
    ∙ ap (λ o. option_map_or (has_turn e h) o true) is
    ∙ all_wider _ _ (every (λ x. begun_in x.event) h) (λ m. or_wider (is_done h m) (name.is_ancestor m n) (is_done h m) (name.is_ancestor m n || are_apart (e ∷ h) m n) (λ d. d) (λ a. ap (λ b. b || are_apart (e ∷ h) m n) a)) alone

quiet_takes_turn : (e : Entry) (h : Past) → acts e.event ≡ None → Keeps e h → takes_turn e h ≡ true
quiet_takes_turn e h none keeps = ap (λ b. b && option_map_or (has_turn e h) (acts e.event) true) keeps ∙ ap (λ o. option_map_or (has_turn e h) o true) none

turn_more : (e : Entry) (h : Past) → InTurn h → takes_turn e h ≡ true → InTurn (e ∷ h)
turn_more e h turns takes = and_from (each takes_turn h) (takes_turn e h) turns takes

-- a child starts
pub start_turns : (e : Entry) (h : Past) (of m : Name) (k : Kind) → e.event ≡ event.Start m k → is_child of m ≡ true → Keeps e h → InTurn h → Alone h of → InTurn (e ∷ h) × Alone (e ∷ h) m
start_turns e h of m k is child keeps turns alone = by_kind (is_access k) refl
  where
    l : (j : ℕ) × (m ≡ of ++ j ∷ [])
    l = child_last of m child

    low : name.is_ancestor of m ≡ true
    low = ap (name.is_ancestor of) l.1 ∙ is_ancestor-append of (l.0 ∷ [])

    by_kind : (b : Bool) → is_access k ≡ b → InTurn (e ∷ h) × Alone (e ∷ h) m
    by_kind true so = (
      turn_more e h turns (quiet_takes_turn e h (ap acts is ∙ ap (λ b. if b then None else Some m) so) keeps),
      alone_still e h m (ap begun_in is ∙ ap (λ b. if b then None else Some m) so) (alone_below h of m low alone),
    )
    by_kind false so = (
      turn_more e h turns (alone_takes_turn e h m (ap acts is ∙ ap (λ b. if b then None else Some m) so) keeps (alone_below h of m low alone)),
      alone_more e h m m (ap begun_in is ∙ ap (λ b. if b then None else Some m) so) (itself m) (alone_below h of m low alone),
    )

-- who acts as a name ends
pub own_actor : (n : Name) (how : How) → IsTrue (not (is_asked how)) → acts (event.End n how) ≡ Some n
own_actor n (Commit given) h = refl
own_actor n (Abort (cause.Asked by)) h = absurd (true≢false (sym h))
own_actor n (Abort (cause.Orphan a)) h = refl
own_actor n (Abort (cause.Conflict copy holder)) h = refl
own_actor n (Abort (cause.NoQuorum lack)) h = refl
own_actor n (Abort cause.Last) h = refl
own_actor n (Abort cause.Killed) h = refl
own_actor n (Abort (cause.Child x)) h = refl
own_actor n (Abort cause.Missed) h = refl

-- one acts by an entry that starts no one, and another stays alone
pub act_turns : (e : Entry) (h : Past) (by n : Name) → acts e.event ≡ Some by → begun_in e.event ≡ None → Keeps e h → InTurn h → Alone h by → Alone h n → InTurn (e ∷ h) × Alone (e ∷ h) n
act_turns e h by n is none keeps turns alone other = (turn_more e h turns (alone_takes_turn e h by is keeps alone), alone_still e h n none other)

pub end_turns : (e : Entry) (h : Past) (by n : Name) (how : How) → e.event ≡ event.End n how → acts (event.End n how) ≡ Some by → InTurn h → Alone h by → Alone h n → InTurn (e ∷ h) × Alone (e ∷ h) n
end_turns e h by n how is actor turns alone other = act_turns e h by n (ap acts is ∙ actor) (ap begun_in is) (ap (seat_for h e.seat) is) turns alone other

-- a manager's accesses start and end
pub access_turns : (m : Name) (inner h : Past) → 0 < length m → AllByRecursion (λ (e : Entry). IsOfAccess m e.event) inner → InTurn h → Alone h m → InTurn (inner ++ h) × Alone (inner ++ h) m
access_turns m [] h nonroot all turns alone = (turns, alone)
access_turns m (e ∷ inner) h nonroot all turns alone = by_event e.event refl all.0 (access_turns m inner h nonroot all.1 turns alone)
  where
    quiet : acts e.event ≡ None → begun_in e.event ≡ None → Keeps e (inner ++ h) → InTurn (inner ++ h) × Alone (inner ++ h) m → InTurn (e ∷ inner ++ h) × Alone (e ∷ inner ++ h) m
    quiet none start keeps before = (turn_more e (inner ++ h) before.0 (quiet_takes_turn e (inner ++ h) none keeps), alone_still e (inner ++ h) m start before.1)

    by_event : (ev : Event) → e.event ≡ ev → IsOfAccess m ev → InTurn (inner ++ h) × Alone (inner ++ h) m → InTurn (e ∷ inner ++ h) × Alone (e ∷ inner ++ h) m
    by_event (event.Start n k) is of before = quiet (ap acts is ∙ ap (λ b. if b then None else Some n) of.1) (ap begun_in is ∙ ap (λ b. if b then None else Some n) of.1) (child_keeps e (inner ++ h) m n k nonroot of.0 is) before
    by_event (event.End n how) is of before =
        let l = child_last m n of.0 in
        act_turns e (inner ++ h) n m (ap acts is ∙ own_actor n how of.1) (ap begun_in is) (ap (seat_for (inner ++ h) e.seat) is) before.0 (alone_below (inner ++ h) m n (ap (name.is_ancestor m) l.1 ∙ is_ancestor-append m (l.0 ∷ [])) before.1) before.1
    by_event (event.Ready n) is of before = absurd of
    by_event (event.Mark n session) is of before = absurd of
    by_event (event.Ask ask) is of before = quiet (ap acts is) (ap begun_in is) (ap (seat_for (inner ++ h) e.seat) is) before
    by_event (event.Gone n why) is of before = quiet (ap acts is) (ap begun_in is) (ap (seat_for (inner ++ h) e.seat) is) before
    by_event (event.Granted copy grant) is of before = quiet (ap acts is) (ap begun_in is) (ap (seat_for (inner ++ h) e.seat) is) before
    by_event (event.Refused n copy refusal) is of before = quiet (ap acts is) (ap begun_in is) (ap (seat_for (inner ++ h) e.seat) is) before
    by_event (event.Unable n why) is of before = quiet (ap acts is) (ap begun_in is) (ap (seat_for (inner ++ h) e.seat) is) before
