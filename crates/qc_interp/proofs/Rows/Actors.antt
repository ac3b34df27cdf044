-- Who acts by an entry that stays in a scope, and what is told by more entries.
use Rattle.std.proofs.Common.{◌≡◌, ◌⊎◌, inl, inr, ℕ, Bool, true, false, [], ◌∷◌, ◌++◌, refl, sym, ap, ◌∙◌, filter}
use mathlib.Core.Bool.{true≢false}
use Rattle.std.specs.Prelude.{Option, None, Some, is_some, is_none, ◌==◌, if◌then◌else◌}
use Rattle.std.specs.Option.{option_map_or}
use Rattle.std.proofs.lemmas.Bool.{and_parts}
use Rattle.qc_event.specs.Base.{Setting}
use Rattle.qc_event.specs.declared.event.Cause.TheVariants as cause
use Rattle.qc_event.specs.declared.event.Entry.{Entry}
use Rattle.qc_event.specs.declared.event.Event.{Event}
use Rattle.qc_event.specs.declared.event.Event.TheVariants as event
use Rattle.qc_event.specs.declared.event.How.{How}
use Rattle.qc_event.specs.declared.event.How.TheVariants.{Commit, Abort}
use Rattle.qc_event.specs.History.{Past, Name, earliest, start, end, end_in, is_ready, ready_in}
use Rattle.qc_event.specs.Legal.{Legal}
use Rattle.qc_event.proofs.Booleans.{or_wider}
use Rattle.qc_event.proofs.Histories.{earliest-append}
use Rattle.qc_event.proofs.OneEntry.{first_some, start_stays, stays_some, here_some}
use Rattle.qc_names.specs.Name as name
use Rattle.qc_script.specs.Calls.{is_access}
use Rattle.qc_script.specs.Client.{about}
use Rattle.qc_script.specs.Numbers.{each, any_top}
use Rattle.qc_interp.specs.Adding.{asks_above, stays_in}
use Rattle.qc_interp.specs.Turns.{begun_in, acts, is_done, seat_of, is_under, seat_for}
use Rattle.qc_interp.proofs.Scopes.Apart.{IsToldSeat}
use Rattle.qc_interp.proofs.Scopes.Began.{about_started, asker}
use Rattle.qc_interp.proofs.Listing.Places.{some_same}
use Rattle.qc_interp.proofs.Rows.Tries.{AsksFor, stays_about, stays_low}
use Rattle.qc_event.proofs.LastNumber.{ancestor_further}

-- WHO ACTS

-- who acts by an end: who asked for it, or who ended
ends_by : (n by : Name) (how : How) → acts (event.End n how) ≡ Some by → (n ≡ by) ⊎ (how ≡ Abort (cause.Asked by))
ends_by n by (Commit given) is = inl (some_same n by is)
ends_by n by (Abort (cause.Asked x)) is = inr (ap (λ y. Abort (cause.Asked y)) (some_same x by is))
ends_by n by (Abort (cause.Orphan a)) is = inl (some_same n by is)
ends_by n by (Abort (cause.Conflict copy holder)) is = inl (some_same n by is)
ends_by n by (Abort (cause.NoQuorum lack)) is = inl (some_same n by is)
ends_by n by (Abort cause.Last) is = inl (some_same n by is)
ends_by n by (Abort cause.Killed) is = inl (some_same n by is)
ends_by n by (Abort (cause.Child x)) is = inl (some_same n by is)
ends_by n by (Abort cause.Missed) is = inl (some_same n by is)

-- who acts by an entry that stays in a name's scope is at or below the name, and was started
pub stays_actor : (setting : Setting) (past : Past) (e : Entry) (t by : Name) → Legal setting (e ∷ past) → stays_in t e ≡ true → acts e.event ≡ Some by → (name.is_ancestor t by ≡ true) × (is_some (start (e ∷ past) by) ≡ true)
stays_actor setting past e t by legal stays is = by_event e.event refl is
  where
    itself_acts : (n : Name) → n ≡ by → about e.event ≡ Some n → asks_above t e.event ≡ false → (name.is_ancestor t by ≡ true) × (is_some (start (e ∷ past) by) ≡ true)
    itself_acts n same whom none = (
      ap (name.is_ancestor t) (sym same) ∙ stays_low t n e stays whom none,
      ap (λ x. is_some (start (e ∷ past) x)) (sym same) ∙ about_started setting past e n legal whom,
    )

    by_access : (n : Name) (b : Bool) → (if b then None else Some n) ≡ Some by → n ≡ by
    by_access n true is = absurd cc
    by_access n false is = some_same n by is

    asked_by : (n : Name) → e.event ≡ event.End n (Abort (cause.Asked by)) → (name.is_ancestor t by ≡ true) × (is_some (start (e ∷ past) by) ≡ true)
    asked_by n at =
        let a = asker setting past e n by legal at in (
          elim (stays_about t n e stays (ap about at)) [
            | inl low ↦ ancestor_further t n by low a.1
            | inr asks ↦ by_asked asks.by asks.is asks.low
          ],
          start_stays e past by a.0,
        )
      where
        by_asked : (x : Name) → e.event ≡ event.End n (Abort (cause.Asked x)) → name.is_ancestor t x ≡ true → name.is_ancestor t by ≡ true
        by_asked x also low = ap (name.is_ancestor t) (same_asker (sym at ∙ also)) ∙ low
          where
            same_asker : event.End n (Abort (cause.Asked by)) ≡ event.End n (Abort (cause.Asked x)) → by ≡ x
            same_asker h = cc

    by_event : (ev : Event) → e.event ≡ ev → acts ev ≡ Some by → (name.is_ancestor t by ≡ true) × (is_some (start (e ∷ past) by) ≡ true)
    by_event (event.Start n k) at is = itself_acts n (by_access n (is_access k) is) (ap about at) (ap (asks_above t) at)
    by_event (event.Mark n session) at is = itself_acts n (some_same n by is) (ap about at) (ap (asks_above t) at)
    by_event (event.Ready n) at is = itself_acts n (some_same n by is) (ap about at) (ap (asks_above t) at)
    by_event (event.End n how) at is = elim (ends_by n by how is) [
      | inl same ↦ by_asks same (stays_about t n e stays (ap about at))
      | inr asked ↦ asked_by n (at ∙ ap (event.End n) asked)
    ]
      where
        other_cause : (x : Name) → e.event ≡ event.End n (Abort (cause.Asked x)) → Abort (cause.Asked x) ≡ how
        other_cause x also = same_how (sym also ∙ at)
          where
            same_how : event.End n (Abort (cause.Asked x)) ≡ event.End n how → Abort (cause.Asked x) ≡ how
            same_how h = cc

        by_asks : n ≡ by → (name.is_ancestor t n ≡ true) ⊎ AsksFor t n e.event → (name.is_ancestor t by ≡ true) × (is_some (start (e ∷ past) by) ≡ true)
        by_asks same (inl low) = (ap (name.is_ancestor t) (sym same) ∙ low, ap (λ x. is_some (start (e ∷ past) x)) (sym same) ∙ about_started setting past e n legal (ap about at))
        by_asks same (inr asks) =
            let who : asks.by ≡ by = some_same asks.by by (ap (λ h. acts (event.End n h)) (other_cause asks.by asks.is) ∙ is) in
            asked_by n (asks.is ∙ ap (λ x. event.End n (Abort (cause.Asked x))) who)
    by_event (event.Ask ask) at is = absurd cc
    by_event (event.Gone m why) at is = absurd cc
    by_event (event.Granted copy grant) at is = absurd cc
    by_event (event.Refused m copy refusal) at is = absurd cc
    by_event (event.Unable m why) at is = absurd cc

-- whom an entry begins it is about, and that is a start
pub begins_about : (t m : Name) (e : Entry) → stays_in t e ≡ true → begun_in e.event ≡ Some m → (about e.event ≡ Some m) × (name.is_ancestor t m ≡ true)
begins_about t m e stays is = by_event e.event refl is
  where
    by_access : (n : Name) (b : Bool) → (if b then None else Some n) ≡ Some m → n ≡ m
    by_access n true is = absurd cc
    by_access n false is = some_same n m is

    by_event : (ev : Event) → e.event ≡ ev → begun_in ev ≡ Some m → (about e.event ≡ Some m) × (name.is_ancestor t m ≡ true)
    by_event (event.Start n k) at is =
        let same = by_access n (is_access k) is in
        let whom : about e.event ≡ Some m = ap about at ∙ ap (λ x. Some x) same in
        (whom, stays_low t m e stays whom (ap (asks_above t) at))
    by_event (event.Ask ask) at is = absurd cc
    by_event (event.Gone n why) at is = absurd cc
    by_event (event.Granted copy grant) at is = absurd cc
    by_event (event.Refused n copy refusal) at is = absurd cc
    by_event (event.Unable n why) at is = absurd cc
    by_event (event.Mark n session) at is = absurd cc
    by_event (event.Ready n) at is = absurd cc
    by_event (event.End n how) at is = absurd cc

-- AMONG MORE ENTRIES

pub earliest_wider : {Y : Type 0} (f : Entry → Option Y) (keep more : Entry → Bool) (past : Past) → ((e : Entry) → keep e ≡ true → more e ≡ true) → is_some (earliest f (filter keep past)) ≡ true → is_some (earliest f (filter more past)) ≡ true
earliest_wider f keep more [] wider h = absurd (true≢false (sym h))
earliest_wider f keep more (e ∷ past) wider h = by_tests (keep e) (more e) refl refl h (earliest_wider f keep more past wider)
  where
    by_tests : (x y : Bool) → keep e ≡ x → more e ≡ y → is_some (earliest f (if x then e ∷ filter keep past else filter keep past)) ≡ true → (is_some (earliest f (filter keep past)) ≡ true → is_some (earliest f (filter more past)) ≡ true)
        → is_some (earliest f (if y then e ∷ filter more past else filter more past)) ≡ true
    by_tests true false is also h before = absurd (true≢false (sym (wider e is) ∙ also))
    by_tests false false is also h before = before h
    by_tests false true is also h before = stays_some (earliest f (filter more past)) (f e) (before h)
    by_tests true true is also h before = elim (first_some (earliest f (filter keep past)) (f e) h) [
      | inl old ↦ stays_some (earliest f (filter more past)) (f e) (before old)
      | inr new ↦ here_some (earliest f (filter more past)) (f e) new.1
    ]

pub done_wider : (keep more : Entry → Bool) (past : Past) (n : Name) → ((e : Entry) → keep e ≡ true → more e ≡ true) → is_done (filter keep past) n ≡ true → is_done (filter more past) n ≡ true
done_wider keep more past n wider =
    or_wider (is_some (end (filter keep past) n)) (is_ready (filter keep past) n) (is_some (end (filter more past) n)) (is_ready (filter more past) n)
    (earliest_wider (λ e. end_in n e.event) keep more past wider) (earliest_wider (λ e. ready_in n e.event) keep more past wider)

pub done_later : (newer past : Past) (n : Name) → is_done past n ≡ true → is_done (newer ++ past) n ≡ true
done_later newer past n =
    or_wider (is_some (end past n)) (is_ready past n) (is_some (end (newer ++ past) n)) (is_ready (newer ++ past) n)
    (λ h. ap is_some (earliest-append (λ e. end_in n e.event) newer past) ∙ stays_some _ _ h) (λ h. ap is_some (earliest-append (λ e. ready_in n e.event) newer past) ∙ stays_some _ _ h)

pub each_at : (f : Entry → Past → Bool) (keep : Entry → Bool) (xs : Past) (e : Entry) (h : Past) → each f (filter keep (xs ++ e ∷ h)) ≡ true → keep e ≡ true → f e (filter keep h) ≡ true
each_at f keep [] e h all kept = (and_parts (each f (filter keep h)) (f e (filter keep h)) (ap (λ (b : Bool). each f (if b then e ∷ filter keep h else filter keep h)) (sym kept) ∙ all)).1
each_at f keep (x ∷ xs) e h all kept = each_at f keep xs e h (by_test (keep x) all) kept
  where
    by_test : (b : Bool) → each f (if b then x ∷ filter keep (xs ++ e ∷ h) else filter keep (xs ++ e ∷ h)) ≡ true → each f (filter keep (xs ++ e ∷ h)) ≡ true
    by_test false h = h
    by_test true h = (and_parts _ _ h).0

-- a mark's seat is kept by more entries, where no top starts
pub seat_wider : (a b : Past) (seat : ℕ) (ev : Event) → ((x : Name) → IsToldSeat (seat_of a x) (seat_of b x)) → is_none (any_top ev) ≡ true → seat_for a seat ev ≡ true → seat_for b seat ev ≡ true
seat_wider a b seat (event.Start [] k) told none h = refl
seat_wider a b seat (event.Start (x ∷ []) k) told none h = absurd (true≢false (sym none))
seat_wider a b seat (event.Start (x ∷ y ∷ n) k) told none h = refl
seat_wider a b seat (event.Mark n session) told none h = by_seat (seat_of a n) refl h
  where
    by_seat : (o : Option ℕ) → seat_of a n ≡ o → option_map_or (λ s. s == seat) o false ≡ true → is_under b seat n ≡ true
    by_seat None is h = absurd (true≢false (sym h))
    by_seat (Some s) is h = ap (λ o. option_map_or (λ x. x == seat) o false) (told n s is) ∙ h
seat_wider a b seat _ told none h = refl
