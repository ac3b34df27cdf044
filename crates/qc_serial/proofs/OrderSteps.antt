-- How one entry changes the serial order of a name.
use Rattle.std.proofs.Common.{◌≡◌, ℕ, ◌+◌, ◌<◌, ◌≤◌, Bool, true, false, ◌&&◌, if◌then◌else◌, List, [], ◌∷◌, ◌++◌, length, refl, sym, subst, ap, ap₂, ◌∙◌, arith, append_assoc, append-nil, Option, None, Some, is_some, is_none}
use mathlib.Core.Bool.{true≢false}
use Rattle.std.specs.Option.{option_or, option_map}
use Rattle.std.proofs.lemmas.Option.{none-some}
use Rattle.std.proofs.lemmas.Bool.{false_from_ne_true}
use Rattle.std.proofs.lemmas.Bool.Decides.{nat_tests}
use Rattle.std.specs.Prelude.{filter, nat_lt}
use Rattle.std.specs.List.{flat_map}
use Rattle.qc_names.specs.Name.{is_ancestor}
use Rattle.qc_config.specs.Val.{Datum}
use Rattle.qc_config.specs.declared.config.Config.{Config}
use Rattle.qc_event.specs.declared.event.Answer.{Answer}
use Rattle.qc_event.specs.declared.event.Answer.TheVariants as answer
use Rattle.qc_event.specs.declared.event.Cause.{Cause}
use Rattle.qc_event.specs.declared.event.Entry.{Entry}
use Rattle.qc_event.specs.declared.event.Event.{Event}
use Rattle.qc_event.specs.declared.event.Event.TheVariants as event
use Rattle.qc_event.specs.declared.event.How.{How}
use Rattle.qc_event.specs.declared.event.How.TheVariants.{Commit, Abort}
use Rattle.qc_event.specs.declared.event.Kind.{Kind}
use Rattle.qc_event.specs.declared.event.Kind.TheVariants as kind
use Rattle.qc_event.specs.History.{Past, Name, Begun, same, start, start_in, end, end_in, is_child, kind_of}
use Rattle.qc_event.specs.Dead.{ancestors}
use Rattle.qc_event.specs.Standing.{IsUser}
use Rattle.qc_event.proofs.Absent.{AllNames, name_in, told_apart, same_is, same_itself, if_not, other_length}
use Rattle.qc_event.proofs.LastNumber.{length_last, is_child-last, ancestors-last, child_longer, no_child_length}
use Rattle.qc_serial.specs.declared.event.SerialEvent.{SerialEvent}
use Rattle.qc_serial.specs.declared.event.SerialEvent.TheVariants.{Start, Enter, Read, Write, Leave, Skip}
use Rattle.qc_serial.specs.Walk.{ended, added, walk, is_open_or_root, entering, visits, serialise}
use Rattle.qc_serial.proofs.Above.{Each, above, ancestors_are, each_ancestor, each_above, front_ancestor, ancestor_short, parent_is}
use Rattle.qc_serial.proofs.Ancestors.{visits_more}
use Rattle.qc_event.proofs.Options.{unless_new}

-- THE ORDER OF A NAME WITH ONE MORE NUMBER

-- what one ancestor gives
abbrev pub visit : Past → Name → List SerialEvent
visit past n = if is_open_or_root past n then entering n ++ walk past n else []

visits_one : (past : Past) (n : Name) → visits past (n ∷ []) ≡ visit past n
visits_one past n = by_test (is_open_or_root past n)
  where
    by_test : (b : Bool) → flat_map (λ a. entering a ++ walk past a) (if b then n ∷ [] else []) ≡ (if b then entering n ++ walk past n else [])
    by_test true = append-nil (entering n ++ walk past n)
    by_test false = refl

visits_first : (past : Past) (n : Name) (ns : List Name) → visits past (n ∷ ns) ≡ visit past n ++ visits past ns
visits_first past n ns = by_test (is_open_or_root past n)
  where
    rest : List Name
    rest = filter (is_open_or_root past) ns

    by_test : (b : Bool) → flat_map (λ a. entering a ++ walk past a) (if b then n ∷ rest else rest) ≡ (if b then entering n ++ walk past n else []) ++ flat_map (λ a. entering a ++ walk past a) rest
    by_test true = refl
    by_test false = refl

-- the last ancestor stands last
serialise_last : (past : Past) (p : Name) → serialise past p ≡ visits past (above p) ++ visit past p
serialise_last past p =
    ap (visits past) (ancestors_are p) ∙ visits_more past (above p) p ∙ ap (λ es. visits past (above p) ++ es) (visits_one past p)

pub serialise_root : (past : Past) → serialise past [] ≡ walk past []
serialise_root past = append-nil (walk past [])

pub open_next : (past : Past) (p : Name) (j : ℕ) → is_open_or_root past (p ++ j ∷ []) ≡ (is_some (start past (p ++ j ∷ [])) && is_none (end past (p ++ j ∷ [])))
open_next past [] j = refl
open_next past (x ∷ p) j = refl

pub entering_next : (p : Name) (j : ℕ) → entering (p ++ j ∷ []) ≡ Enter (p ++ j ∷ []) ∷ []
entering_next [] j = refl
entering_next (x ∷ p) j = refl

pub serialise_next : (past : Past) (p : Name) (j : ℕ) → serialise past (p ++ j ∷ []) ≡ serialise past p ++ (if is_open_or_root past (p ++ j ∷ []) then Enter (p ++ j ∷ []) ∷ walk past (p ++ j ∷ []) else [])
serialise_next past p j =
    ap (visits past) (ancestors-last p j) ∙ visits_more past (ancestors p) (p ++ j ∷ [])
    ∙ ap (λ es. serialise past p ++ es) (visits_one past (p ++ j ∷ [])
    ∙ ap (λ es. if is_open_or_root past (p ++ j ∷ []) then es ++ walk past (p ++ j ∷ []) else []) (entering_next p j))

-- an open name is entered after its parent's order
pub serialise_open : (past : Past) (p : Name) (j : ℕ) → is_open_or_root past (p ++ j ∷ []) ≡ true → serialise past (p ++ j ∷ []) ≡ serialise past p ++ Enter (p ++ j ∷ []) ∷ walk past (p ++ j ∷ [])
serialise_open past p j h = serialise_next past p j ∙ ap (λ b. serialise past p ++ (if b then Enter (p ++ j ∷ []) ∷ walk past (p ++ j ∷ []) else [])) h

-- whoever is not open has its parent's order
pub serialise_closed : (past : Past) (p : Name) (j : ℕ) → is_open_or_root past (p ++ j ∷ []) ≡ false → serialise past (p ++ j ∷ []) ≡ serialise past p
serialise_closed past p j h =
    serialise_next past p j ∙ ap (λ b. serialise past p ++ (if b then Enter (p ++ j ∷ []) ∷ walk past (p ++ j ∷ []) else [])) h ∙ append-nil (serialise past p)

pub serialise_ended : (past : Past) (p : Name) (j : ℕ) → is_some (end past (p ++ j ∷ [])) ≡ true → serialise past (p ++ j ∷ []) ≡ serialise past p
serialise_ended past p j h = serialise_closed past p j (open_next past p j ∙ shut (is_some (start past (p ++ j ∷ []))) (end past (p ++ j ∷ [])) h)
  where
    shut : (b : Bool) (o : Option How) → is_some o ≡ true → (b && is_none o) ≡ false
    shut b None h = absurd (true≢false (sym h))
    shut true (Some how) h = refl
    shut false (Some how) h = refl

-- WHAT AN ENTRY LEAVES AS IT IS

-- the event starts or ends neither the name nor a child of it
abbrev pub Apart : Name → Event → Type 0
Apart b (event.Start m k) = (same m b ≡ false) × (is_child b m ≡ false)
Apart b (event.End m how) = (same m b ≡ false) × (is_child b m ≡ false)
Apart b _ = Unit {0}

-- the event does not start or end the name
abbrev NotOf : Name → Event → Type 0
NotOf b (event.Start m k) = same m b ≡ false
NotOf b (event.End m how) = same m b ≡ false
NotOf b _ = Unit {0}

not_of : (b : Name) (ev : Event) → Apart b ev → NotOf b ev
not_of b (event.Start m k) h = h.0
not_of b (event.End m how) h = h.0
not_of b _ h = tt

start_in_kept : (b : Name) (seat : ℕ) (ev : Event) → NotOf b ev → start_in b seat ev ≡ None
start_in_kept b seat (event.Start m k) h = if_not (same m b) _ h
start_in_kept b seat _ h = refl

end_in_kept : (b : Name) (ev : Event) → NotOf b ev → end_in b ev ≡ None
end_in_kept b (event.End m how) h = if_not (same m b) _ h
end_in_kept b _ h = refl

open_of : (past : Past) (e : Entry) (b : Name) → NotOf b e.event → is_open_or_root (e ∷ past) b ≡ is_open_or_root past b
open_of past e [] h = refl
open_of past e (x ∷ b) h =
    ap₂ (λ s t. is_some s && is_none t)
    (unless_new (start past (x ∷ b)) (start_in (x ∷ b) e.seat e.event) (start_in_kept (x ∷ b) e.seat e.event h))
    (unless_new (end past (x ∷ b)) (end_in (x ∷ b) e.event) (end_in_kept (x ∷ b) e.event h))

added_none : (past : Past) (did : Name → List SerialEvent) (b : Name) (ev : Event) → Apart b ev → added past did b ev ≡ []
added_none past did b (event.Start c (kind.User session body)) h = ap (λ t. if t then Start c ∷ [] else []) h.1
added_none past did b (event.End c how) h = ap (λ t. if t then ended (kind_of past c) (did c) c how else []) h.1
added_none past did b _ h = refl

pub open_frame : (past : Past) (e : Entry) (b : Name) → Apart b e.event → is_open_or_root (e ∷ past) b ≡ is_open_or_root past b
open_frame past e b h = open_of past e b (not_of b e.event h)

pub walk_frame : (past : Past) (e : Entry) (b : Name) → Apart b e.event → walk (e ∷ past) b ≡ walk past b
walk_frame past e b h = ap (λ es. walk past b ++ es) (added_none past (walk past) b e.event h) ∙ append-nil (walk past b)

visits_frame : (past : Past) (e : Entry) (ns : List Name) → Each (λ b. Apart b e.event) ns → visits (e ∷ past) ns ≡ visits past ns
visits_frame past e [] h = refl
visits_frame past e (n ∷ ns) h =
    visits_first (e ∷ past) n ns
    ∙ ap₂ (λ es fs. es ++ fs) (ap₂ (λ t es. if t then entering n ++ es else []) (open_frame past e n h.0) (walk_frame past e n h.0)) (visits_frame past e ns h.1)
    ∙ sym (visits_first past n ns)

-- An entry apart from each ancestor leaves the order as it is.
pub serialise_frame : (past : Past) (e : Entry) (a : Name) → ((b : Name) → is_ancestor b a ≡ true → Apart b e.event) → serialise (e ∷ past) a ≡ serialise past a
serialise_frame past e a h = visits_frame past e (ancestors a) (each_ancestor (λ b. Apart b e.event) a h)

-- each entry of a list is apart from a name
abbrev pub AllApart : Name → Past → Type 0
AllApart b [] = Unit {0}
AllApart b (e ∷ later) = Apart b e.event × AllApart b later

pub open_frame_all : (later past : Past) (b : Name) → AllApart b later → is_open_or_root (later ++ past) b ≡ is_open_or_root past b
open_frame_all [] past b h = refl
open_frame_all (e ∷ later) past b h = open_frame (later ++ past) e b h.0 ∙ open_frame_all later past b h.1

pub walk_frame_all : (later past : Past) (b : Name) → AllApart b later → walk (later ++ past) b ≡ walk past b
walk_frame_all [] past b h = refl
walk_frame_all (e ∷ later) past b h = walk_frame (later ++ past) e b h.0 ∙ walk_frame_all later past b h.1

pub serialise_frame_all : (later past : Past) (a : Name) → ((b : Name) → is_ancestor b a ≡ true → AllApart b later) → serialise (later ++ past) a ≡ serialise past a
serialise_frame_all [] past a h = refl
serialise_frame_all (e ∷ later) past a h = serialise_frame (later ++ past) e a (λ b i. (h b i).0) ∙ serialise_frame_all later past a (λ b i. (h b i).1)

names_apart : (test : Name → Bool) (b : Name) (ev : Event) → test (name_in ev) ≡ true → test b ≡ false → ((c : Name) → is_child b c ≡ true → test c ≡ false) → Apart b ev
names_apart test b (event.Start m k) here out childless = (told_apart test m b here out, false_from_ne_true (is_child b m) (λ h. true≢false (sym here ∙ childless m h)))
names_apart test b (event.End m how) here out childless = (told_apart test m b here out, false_from_ne_true (is_child b m) (λ h. true≢false (sym here ∙ childless m h)))
names_apart test b _ here out childless = tt

-- entries that all speak of names that pass a test are apart from a name that fails it, as its children do
pub all_names_apart : (test : Name → Bool) (later : Past) (b : Name) → AllNames test later → test b ≡ false → ((c : Name) → is_child b c ≡ true → test c ≡ false) → AllApart b later
all_names_apart test [] b all out childless = tt
all_names_apart test (e ∷ later) b all out childless = (names_apart test b e.event all.0 out childless, all_names_apart test later b all.1 out childless)

-- Entries of names below the children of a name leave its order as it is.
pub serialise_deeper : (later past : Past) (p : Name) → AllNames (λ n. nat_lt (length p + 1) (length n)) later → serialise (later ++ past) p ≡ serialise past p
serialise_deeper later past p all = serialise_frame_all later past p (λ b i. all_names_apart (λ n. nat_lt (length p + 1) (length n)) later b all (shallow b (ancestor_short b p i)) (λ c h. shallow_child b c (ancestor_short b p i) (child_longer b c h)))
  where
    shallow : (b : Name) → length b ≤ length p → nat_lt (length p + 1) (length b) ≡ false
    shallow b h = grind (arith, nat_tests)

    shallow_child : (b c : Name) → length b ≤ length p → length c ≡ length b + 1 → nat_lt (length p + 1) (length c) ≡ false
    shallow_child b c h e = grind (arith, nat_tests)

-- the event is neither a start nor an end
abbrev pub IsOther : Event → Type 0
IsOther (event.Start m k) = ⊥
IsOther (event.End m how) = ⊥
IsOther _ = Unit {0}

other_apart : (b : Name) (ev : Event) → IsOther ev → Apart b ev
other_apart b (event.Start m k) h = absurd h
other_apart b (event.End m how) h = absurd h
other_apart b _ h = tt

pub serialise_other : (past : Past) (e : Entry) (a : Name) → IsOther e.event → serialise (e ∷ past) a ≡ serialise past a
serialise_other past e a h = serialise_frame past e a (λ b i. other_apart b e.event h)

-- the event starts or ends the name
abbrev pub Tells : Name → Event → Type 0
Tells c (event.Start m k) = m ≡ c
Tells c (event.End m how) = m ≡ c
Tells c _ = ⊥

tells_apart : (b c : Name) (ev : Event) → Tells c ev → same c b ≡ false → is_child b c ≡ false → Apart b ev
tells_apart b c (event.Start m k) h s i = (ap (λ n. same n b) h ∙ s, ap (is_child b) h ∙ i)
tells_apart b c (event.End m how) h s i = (ap (λ n. same n b) h ∙ s, ap (is_child b) h ∙ i)
tells_apart b c _ h s i = absurd h

tells_not_of : (b c : Name) (ev : Event) → Tells c ev → same c b ≡ false → NotOf b ev
tells_not_of b c (event.Start m k) h s = ap (λ n. same n b) h ∙ s
tells_not_of b c (event.End m how) h s = ap (λ n. same n b) h ∙ s
tells_not_of b c _ h s = absurd h

-- A start or an end below a name that is no ancestor leaves the order as it is.
pub serialise_elsewhere : (past : Past) (e : Entry) (a p : Name) (j : ℕ) → is_ancestor p a ≡ false → Tells (p ++ j ∷ []) e.event → serialise (e ∷ past) a ≡ serialise past a
serialise_elsewhere past e a p j out tells = serialise_frame past e a (λ b i. tells_apart b (p ++ j ∷ []) e.event tells (other b i) (childless b i))
  where
    other : (b : Name) → is_ancestor b a ≡ true → same (p ++ j ∷ []) b ≡ false
    other b i = false_from_ne_true (same (p ++ j ∷ []) b) (λ s. true≢false (sym (front_ancestor p (j ∷ []) a (ap (λ n. is_ancestor n a) (same_is (p ++ j ∷ []) b s) ∙ i)) ∙ out))

    childless : (b : Name) → is_ancestor b a ≡ true → is_child b (p ++ j ∷ []) ≡ false
    childless b i = false_from_ne_true (is_child b (p ++ j ∷ [])) (λ s. true≢false (sym i ∙ ap (λ n. is_ancestor n a) (parent_is b p j s) ∙ out))

-- WHAT A START OR AN END OF A CHILD CHANGES

-- the ancestors above the parent stay as they are
child_told : (past : Past) (e : Entry) (p : Name) (j : ℕ) → Tells (p ++ j ∷ []) e.event → serialise (e ∷ past) p ≡ visits past (above p) ++ (if is_open_or_root past p then entering p ++ (walk past p ++ added past (walk past) p e.event) else [])
child_told past e p j tells =
    serialise_last (e ∷ past) p
    ∙ ap₂ (λ es b. es ++ (if b then entering p ++ walk (e ∷ past) p else [])) (visits_frame past e (above p) (each_above (λ b. Apart b e.event) p apart)) (open_of past e p (tells_not_of p (p ++ j ∷ []) e.event tells (other_length (p ++ j ∷ []) p (λ s. omega (arith, length_last p j)))))
  where
    apart : (b : Name) → length b < length p → Apart b e.event
    apart b lt = tells_apart b (p ++ j ∷ []) e.event tells (other_length (p ++ j ∷ []) b (λ s. omega (arith, length_last p j))) (no_child_length b (p ++ j ∷ []) (λ s. omega (arith, length_last p j)))

-- an open parent's order goes on with what the entry adds to its walk
pub serialise_adds : (past : Past) (e : Entry) (p : Name) (j : ℕ) (more : List SerialEvent) → Tells (p ++ j ∷ []) e.event → is_open_or_root past p ≡ true → added past (walk past) p e.event ≡ more → serialise (e ∷ past) p ≡ serialise past p ++ more
serialise_adds past e p j more tells is_open adds =
    child_told past e p j tells
    ∙ ap₂ (λ b es. visits past (above p) ++ (if b then entering p ++ (walk past p ++ es) else [])) is_open adds
    ∙ sym (ap (λ es. es ++ more) (serialise_last past p ∙ ap (λ b. visits past (above p) ++ (if b then entering p ++ walk past p else [])) is_open)
    ∙ append_assoc (visits past (above p)) (entering p ++ walk past p) more
    ∙ ap (λ es. visits past (above p) ++ es) (append_assoc (entering p) (walk past p) more))

-- where it adds nothing, the order stays, whether the parent is open or not
pub serialise_adds_nothing : (past : Past) (e : Entry) (p : Name) (j : ℕ) → Tells (p ++ j ∷ []) e.event → added past (walk past) p e.event ≡ [] → serialise (e ∷ past) p ≡ serialise past p
serialise_adds_nothing past e p j tells adds =
    child_told past e p j tells
    ∙ ap (λ es. visits past (above p) ++ (if is_open_or_root past p then entering p ++ es else [])) (ap (λ es. walk past p ++ es) adds ∙ append-nil (walk past p))
    ∙ sym (serialise_last past p)

-- below a name that is not open, nothing changes
pub serialise_under_closed : (past : Past) (e : Entry) (p : Name) (j : ℕ) → Tells (p ++ j ∷ []) e.event → is_open_or_root past p ≡ false → serialise (e ∷ past) p ≡ serialise past p
serialise_under_closed past e p j tells closed =
    child_told past e p j tells
    ∙ ap (λ b. visits past (above p) ++ (if b then entering p ++ (walk past p ++ added past (walk past) p e.event) else [])) closed
    ∙ sym (serialise_last past p ∙ ap (λ b. visits past (above p) ++ (if b then entering p ++ walk past p else [])) closed)

-- how the parent stands stays, too
pub open_parent : (past : Past) (e : Entry) (p : Name) (j : ℕ) → Tells (p ++ j ∷ []) e.event → is_open_or_root (e ∷ past) p ≡ is_open_or_root past p
open_parent past e p j tells = open_of past e p (tells_not_of p (p ++ j ∷ []) e.event tells (other_length (p ++ j ∷ []) p (λ s. omega (arith, length_last p j))))

-- STARTS

pub starts : (past : Past) (e : Entry) (c : Name) (k : Kind) → e.event ≡ event.Start c k → Tells c e.event
starts past e c k is = subst (Tells c) (sym is) refl

-- the start of a manager
pub serialise_start_manager : (past : Past) (e : Entry) (p : Name) (j : ℕ) (k : Kind) → e.event ≡ event.Start (p ++ j ∷ []) k → (IsUser k → ⊥) → serialise (e ∷ past) p ≡ serialise past p
serialise_start_manager past e p j k is other =
    serialise_adds_nothing past e p j (starts past e (p ++ j ∷ []) k is) (ap (added past (walk past) p) is ∙ none k other)
  where
    none : (k : Kind) → (IsUser k → ⊥) → added past (walk past) p (event.Start (p ++ j ∷ []) k) ≡ []
    none (kind.User session body) h = absurd (h tt)
    none _ h = refl

-- the start of a user transaction, for its parent
pub serialise_start_user : (past : Past) (e : Entry) (p : Name) (j session body : ℕ) → e.event ≡ event.Start (p ++ j ∷ []) (kind.User session body) → is_open_or_root past p ≡ true → serialise (e ∷ past) p ≡ serialise past p ++ Start (p ++ j ∷ []) ∷ []
serialise_start_user past e p j session body is is_open =
    serialise_adds past e p j (Start (p ++ j ∷ []) ∷ []) (starts past e (p ++ j ∷ []) (kind.User session body) is) is_open
    (ap (added past (walk past) p) is ∙ ap (λ t. if t then Start (p ++ j ∷ []) ∷ [] else []) (is_child-last p j))

-- a name that starts and has no end is open
pub open_start : (past : Past) (e : Entry) (p : Name) (j : ℕ) (k : Kind) → e.event ≡ event.Start (p ++ j ∷ []) k → end past (p ++ j ∷ []) ≡ None → is_open_or_root (e ∷ past) (p ++ j ∷ []) ≡ true
open_start past e p j k is not_ended = open_next (e ∷ past) p j ∙ ap₂ (λ a b. a && is_none b) begun unended
  where
    some_or : (o : Option Begun) (b : Begun) → is_some (option_or o (Some b)) ≡ true
    some_or None b = refl
    some_or (Some a) b = refl

    begun : is_some (start (e ∷ past) (p ++ j ∷ [])) ≡ true
    begun =
        ap (λ ev. is_some (option_or (start past (p ++ j ∷ [])) (start_in (p ++ j ∷ []) e.seat ev))) is
        ∙ ap (λ t. is_some (option_or (start past (p ++ j ∷ [])) (if t then Some (record { seat = e.seat; kind = k }) else None))) (same_itself (p ++ j ∷ []))
        ∙ some_or (start past (p ++ j ∷ [])) (record { seat = e.seat; kind = k })

    unended : end (e ∷ past) (p ++ j ∷ []) ≡ None
    unended = ap₂ (λ o ev. option_or o (end_in (p ++ j ∷ []) ev)) not_ended is

-- the start of a user transaction, for itself
pub serialise_start_inside : (past : Past) (e : Entry) (p : Name) (j session body : ℕ) → e.event ≡ event.Start (p ++ j ∷ []) (kind.User session body) → end past (p ++ j ∷ []) ≡ None → walk past (p ++ j ∷ []) ≡ [] → is_open_or_root past p ≡ true → serialise (e ∷ past) (p ++ j ∷ []) ≡ serialise past p ++ Start (p ++ j ∷ []) ∷ Enter (p ++ j ∷ []) ∷ []
serialise_start_inside past e p j session body is not_ended empty is_open =
    serialise_open (e ∷ past) p j (open_start past e p j (kind.User session body) is not_ended)
    ∙ ap₂ (λ es fs. es ++ Enter (p ++ j ∷ []) ∷ fs) (serialise_start_user past e p j session body is is_open) still_empty
    ∙ append_assoc (serialise past p) (Start (p ++ j ∷ []) ∷ []) (Enter (p ++ j ∷ []) ∷ [])
  where
    own_start : added past (walk past) (p ++ j ∷ []) (event.Start (p ++ j ∷ []) (kind.User session body)) ≡ []
    own_start = ap (λ t. if t then Start (p ++ j ∷ []) ∷ [] else []) (no_child_length (p ++ j ∷ []) (p ++ j ∷ []) (λ s. omega arith))

    still_empty : walk (e ∷ past) (p ++ j ∷ []) ≡ []
    still_empty = ap₂ (λ es fs. es ++ fs) empty (ap (added past (walk past) (p ++ j ∷ [])) is ∙ own_start)

-- ENDS

pub ends : (past : Past) (e : Entry) (c : Name) (how : How) → e.event ≡ event.End c how → Tells c e.event
ends past e c how is = subst (Tells c) (sym is) refl

end_adds : (past : Past) (e : Entry) (p : Name) (j : ℕ) (k : Kind) (how : How) → e.event ≡ event.End (p ++ j ∷ []) how → kind_of past (p ++ j ∷ []) ≡ Some k → added past (walk past) p e.event ≡ ended (Some k) (walk past (p ++ j ∷ [])) (p ++ j ∷ []) how
end_adds past e p j k how is of_kind =
    ap (added past (walk past) p) is
    ∙ ap₂ (λ t o. if t then ended o (walk past (p ++ j ∷ [])) (p ++ j ∷ []) how else []) (is_child-last p j) of_kind

-- any end of a child, for its open parent
pub serialise_end : (past : Past) (e : Entry) (p : Name) (j : ℕ) (k : Kind) (how : How) → e.event ≡ event.End (p ++ j ∷ []) how → kind_of past (p ++ j ∷ []) ≡ Some k → is_open_or_root past p ≡ true → serialise (e ∷ past) p ≡ serialise past p ++ ended (Some k) (walk past (p ++ j ∷ [])) (p ++ j ∷ []) how
serialise_end past e p j k how is of_kind is_open =
    serialise_adds past e p j _ (ends past e (p ++ j ∷ []) how is) is_open (end_adds past e p j k how is of_kind)

pub serialise_commit_read : (past : Past) (e : Entry) (p : Name) (j rec : ℕ) (value : Datum) → e.event ≡ event.End (p ++ j ∷ []) (Commit (answer.Value value)) → kind_of past (p ++ j ∷ []) ≡ Some (kind.Read rec) → is_open_or_root past p ≡ true → serialise (e ∷ past) p ≡ serialise past p ++ Read (p ++ j ∷ []) rec value ∷ []
serialise_commit_read past e p j rec value = serialise_end past e p j (kind.Read rec) (Commit (answer.Value value))

pub serialise_commit_write : (past : Past) (e : Entry) (p : Name) (j rec : ℕ) (value : Datum) (given : Answer) → e.event ≡ event.End (p ++ j ∷ []) (Commit given) → kind_of past (p ++ j ∷ []) ≡ Some (kind.Write rec value) → is_open_or_root past p ≡ true → serialise (e ∷ past) p ≡ serialise past p ++ Write (p ++ j ∷ []) rec value ∷ []
serialise_commit_write past e p j rec value given = serialise_end past e p j (kind.Write rec value) (Commit given)

pub serialise_abort_user : (past : Past) (e : Entry) (p : Name) (j session body : ℕ) (cause : Cause) → e.event ≡ event.End (p ++ j ∷ []) (Abort cause) → kind_of past (p ++ j ∷ []) ≡ Some (kind.User session body) → is_open_or_root past p ≡ true → serialise (e ∷ past) p ≡ serialise past p ++ Skip (p ++ j ∷ []) ∷ []
serialise_abort_user past e p j session body cause = serialise_end past e p j (kind.User session body) (Abort cause)

-- a reconfiguration writes no value
pub serialise_commit_reconf : (past : Past) (e : Entry) (p : Name) (j rec : ℕ) (config : Config) (given : Answer) → e.event ≡ event.End (p ++ j ∷ []) (Commit given) → kind_of past (p ++ j ∷ []) ≡ Some (kind.Reconf rec config) → serialise (e ∷ past) p ≡ serialise past p
serialise_commit_reconf past e p j rec config given is of_kind =
    serialise_adds_nothing past e p j (ends past e (p ++ j ∷ []) (Commit given) is) (end_adds past e p j (kind.Reconf rec config) (Commit given) is of_kind)

-- the abort of a manager
pub serialise_abort_manager : (past : Past) (e : Entry) (p : Name) (j : ℕ) (k : Kind) (cause : Cause) → e.event ≡ event.End (p ++ j ∷ []) (Abort cause) → kind_of past (p ++ j ∷ []) ≡ Some k → (IsUser k → ⊥) → serialise (e ∷ past) p ≡ serialise past p
serialise_abort_manager past e p j k cause is of_kind other =
    serialise_adds_nothing past e p j (ends past e (p ++ j ∷ []) (Abort cause) is) (end_adds past e p j k (Abort cause) is of_kind ∙ none k other)
  where
    none : (k : Kind) → (IsUser k → ⊥) → ended (Some k) (walk past (p ++ j ∷ [])) (p ++ j ∷ []) (Abort cause) ≡ []
    none (kind.User session body) h = absurd (h tt)
    none _ h = refl

-- a name that has a kind and no end is open
pub open_kind : (past : Past) (p : Name) (j : ℕ) (k : Kind) → kind_of past (p ++ j ∷ []) ≡ Some k → end past (p ++ j ∷ []) ≡ None → is_open_or_root past (p ++ j ∷ []) ≡ true
open_kind past p j k of_kind not_ended = open_next past p j ∙ ap₂ (λ a b. a && is_none b) (has (start past (p ++ j ∷ [])) of_kind) not_ended
  where
    has : (o : Option Begun) → option_map (λ (b : Begun). b.kind) o ≡ Some k → is_some o ≡ true
    has None h = absurd (none-some k h)
    has (Some b) h = refl

-- the commit of a user transaction goes on from its own order
pub serialise_commit_user : (past : Past) (e : Entry) (p : Name) (j session body : ℕ) (given : Answer) → e.event ≡ event.End (p ++ j ∷ []) (Commit given) → kind_of past (p ++ j ∷ []) ≡ Some (kind.User session body) → end past (p ++ j ∷ []) ≡ None → is_open_or_root past p ≡ true → serialise (e ∷ past) p ≡ serialise past (p ++ j ∷ []) ++ Leave (p ++ j ∷ []) ∷ []
serialise_commit_user past e p j session body given is of_kind not_ended is_open =
    serialise_end past e p j (kind.User session body) (Commit given) is of_kind is_open
    ∙ sym (ap (λ es. es ++ Leave (p ++ j ∷ []) ∷ []) (serialise_open past p j (open_kind past p j (kind.User session body) of_kind not_ended))
    ∙ append_assoc (serialise past p) (Enter (p ++ j ∷ []) ∷ walk past (p ++ j ∷ [])) (Leave (p ++ j ∷ []) ∷ []))

-- whoever ends has its parent's order from then on
pub serialise_end_inside : (past : Past) (e : Entry) (p : Name) (j : ℕ) (how : How) → e.event ≡ event.End (p ++ j ∷ []) how → serialise (e ∷ past) (p ++ j ∷ []) ≡ serialise (e ∷ past) p
serialise_end_inside past e p j how is =
    serialise_ended (e ∷ past) p j
    (ap (λ ev. is_some (option_or (end past (p ++ j ∷ [])) (end_in (p ++ j ∷ []) ev))) is
    ∙ ap (λ t. is_some (option_or (end past (p ++ j ∷ [])) (if t then Some how else None))) (same_itself (p ++ j ∷ []))
    ∙ some_or (end past (p ++ j ∷ [])))
  where
    some_or : (o : Option How) → is_some (option_or o (Some how)) ≡ true
    some_or None = refl
    some_or (Some h) = refl
