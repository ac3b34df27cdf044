-- Children at once: which deeds are the tries of a row of branches, and how these stand.
use Rattle.std.specs.Prelude.{ℕ, ◌==◌, ◌⊎◌, Bool, true, false, not, ◌&&◌, ◌||◌, if◌then◌else◌, IsTrue, List, [], ◌∷◌, length, Option, None, Some}
use Rattle.std.proofs.Common.{zero, suc}
use Rattle.std.specs.List.{list_all, list_any, filter, last_or}
use Rattle.std.specs.Option.{option_or, option_map_or}
use Rattle.qc_event.specs.declared.event.Entry.{Entry}
use Rattle.qc_event.specs.declared.event.Event.{Event}
use Rattle.qc_event.specs.declared.event.Event.TheVariants as event
use Rattle.qc_event.specs.declared.event.How.{How}
use Rattle.qc_event.specs.declared.event.Kind.{Kind}
use Rattle.qc_event.specs.declared.event.Kind.TheVariants as kind
use Rattle.qc_event.specs.History.{Past, Name, earliest, same, kind_of}
use Rattle.qc_script.specs.Client.{is_commit}
use Rattle.qc_script.specs.Numbers.{each}
use Rattle.qc_script.specs.Plan.{Plan}
use Rattle.qc_interp.specs.Deeds.{Deed, deeds, deed_end}
use Rattle.qc_interp.specs.Tries.{is_tried_again}
use Rattle.qc_interp.specs.Turns.{is_done, seat_of, is_beside}

-- ONE BRANCH

-- whether a kind is of a user transaction of the body of this number
abbrev pub is_of_body : ℕ → Kind → Bool
is_of_body number (kind.User s body) = body == number
is_of_body number _ = false

-- Whether a deed is a try of the body of this number. Branches are told apart by the numbers of their bodies, which are
-- different through a whole script.
abbrev pub is_try : Past → ℕ → Deed → Bool
is_try past number (Deed.child c) = option_map_or (is_of_body number) (kind_of past c) false
is_try past number (Deed.mark m) = false

abbrev pub tries_among : Past → ℕ → List Deed → List Deed
tries_among past number ds = filter (is_try past number) ds

-- Whether a body that has so many tries left was tried in a row: a further try stands exactly where the one before ended
-- so that it is tried again, or where it may have stopped, no further one.
abbrev pub was_tried : Past → Bool → ℕ → List Deed → Bool
was_tried past stopped zero [] = true
was_tried past stopped zero (d ∷ ds) = false
was_tried past stopped (suc left) [] = stopped
was_tried past stopped (suc left) (d ∷ ds) = was_tried past stopped (if is_tried_again (deed_end past d) then left else zero) ds

-- whether what was done committed
abbrev pub has_committed : Option How → Bool
has_committed how = option_map_or is_commit how false

-- the last try of a branch that must commit, where it did not
abbrev pub failed_last : Past → Bool → Option Deed → Option Deed
failed_last past true (Some d) = if has_committed (deed_end past d) then None else Some d
failed_last past must last = None

-- A ROW OF BRANCHES

-- whether a deed is a try of one of the branches
abbrev pub is_try_in : Past → Plan → Deed → Bool
is_try_in past (Plan.child_then number tries must inner others) d = is_try past number d || is_try_in past others d
is_try_in past _ d = false

-- whether the first deeds begin one branch after another, as far as they go
abbrev pub begin_each : Past → Plan → List Deed → Bool
begin_each past (Plan.child_then number tries must inner others) (d ∷ ds) = is_try past number d && begin_each past others ds
begin_each past _ _ = true

-- whether each branch was tried in a row
abbrev pub each_tried : Past → Bool → Plan → List Deed → Bool
each_tried past stopped (Plan.child_then number tries must inner others) ds =
    was_tried past stopped tries (tries_among past number ds) && each_tried past stopped others ds
each_tried past stopped _ ds = true

-- the last try of the first branch that must commit and did not
abbrev pub first_failed : Past → Plan → List Deed → Option Deed
first_failed past (Plan.child_then number tries must inner others) ds =
    option_or (failed_last past must (last_or None (tries_among past number ds))) (first_failed past others ds)
first_failed past _ ds = None

-- Whether deeds are tries of branches at once, that begin in order. A further try of one may stand among the others'.
abbrev pub are_tries_at_once : Past → Plan → List Deed → Bool
are_tries_at_once past branches ds = list_all (is_try_in past branches) ds && begin_each past branches ds && each_tried past true branches ds

-- whether each branch was begun
abbrev pub each_begun : Past → Plan → List Deed → Bool
each_begun past (Plan.child_then number tries must inner others) ds = list_any (is_try past number) ds && each_begun past others ds
each_begun past _ ds = true

-- SEATS OF BRANCHES

-- the first event under a seat
abbrev pub first_under : ℕ → Past → Option Event
first_under seat past = earliest (λ e. if e.seat == seat then Some e.event else None) past

abbrev pub starts : Name → Event → Bool
starts n (event.Start m k) = same m n
starts n _ = false

-- whether the start of a name is the first entry under its seat
abbrev pub opens_seat : Past → Name → Bool
opens_seat past n = option_map_or (λ seat. option_map_or (starts n) (first_under seat past) false) (seat_of past n) false

-- whether a deed is a child that was started under the same seat as a name
abbrev pub is_child_beside : Past → Name → Deed → Bool
is_child_beside past n (Deed.child c) = is_beside past n c
is_child_beside past n (Deed.mark m) = false

-- whether tries of a branch all stand under one seat, which the first of them opens
abbrev pub keeps_own_seat : Past → List Deed → Bool
keeps_own_seat past [] = true
keeps_own_seat past (Deed.child t ∷ ds) = opens_seat past t && list_all (is_child_beside past t) ds
keeps_own_seat past (Deed.mark m ∷ ds) = false

-- whether each branch has a seat of its own
abbrev pub each_own_seat : Past → Plan → List Deed → Bool
each_own_seat past (Plan.child_then number tries must inner others) ds = keeps_own_seat past (tries_among past number ds) && each_own_seat past others ds
each_own_seat past _ ds = true

-- WHAT STARTS WHEN

-- whether what a transaction did is done
abbrev pub deed_done : Past → Deed → Bool
deed_done past (Deed.child c) = is_done past c
deed_done past (Deed.mark m) = true

-- whether a child has done nothing so far, and is not done
abbrev pub deed_idle : Past → Deed → Bool
deed_idle past (Deed.child c) = length (deeds past c) == 0 && not (is_done past c)
deed_idle past (Deed.mark m) = true

-- whether an entry starts a name only where some deeds pass a test
abbrev pub starts_where : (Past → Deed → Bool) → List Deed → Name → Entry → Past → Bool
starts_where passes ds n e past = not (starts n e.event) || list_all (passes past) ds

-- whether the next child starts only where some deeds pass a test
abbrev pub next_starts : (Past → Deed → Bool) → Past → List Deed → List Deed → Bool
next_starts passes past ds (Deed.child c ∷ further) = each (starts_where passes ds c) past
next_starts passes past ds further = true

-- whether the first try of each branch starts before one of some deeds has done anything
abbrev pub begin_first : Past → Plan → List Deed → Bool
begin_first past (Plan.child_then number tries must inner others) ds = next_starts deed_idle past ds (tries_among past number ds) && begin_first past others ds
begin_first past _ ds = true

-- whether the next child starts once all of some deeds are done
abbrev pub is_behind : Past → List Deed → List Deed → Bool
is_behind past here further = next_starts deed_done past here further

-- Deeds are tries of branches at once, each under a seat of its own. All branches have begun before one of them does
-- anything, and what the transaction does further starts once all of them are done.
abbrev pub AreAtOnce : Past → Plan → List Deed → List Deed → Type 0
AreAtOnce past branches here further =
    IsTrue (are_tries_at_once past branches here) × IsTrue (each_own_seat past branches here) × IsTrue (begin_first past branches here) × IsTrue (is_behind past here further)

-- some of the things is so
abbrev pub OneOf : {A : Type 0} → (A → Type 0) → List A → Type 0
OneOf P [] = ⊥
OneOf P (x ∷ xs) = P x ⊎ OneOf P xs
