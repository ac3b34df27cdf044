-- Some entries of a history, as far as a look goes: whoever takes turns does so without the entries about no one.
use Rattle.std.proofs.Common.{◌≡◌, ℕ, Bool, true, false, List, [], ◌∷◌, ◌++◌, refl, sym, ap, ◌∙◌, filter, append-nil}
use mathlib.Core.Bool.{true≢false}
use Rattle.std.specs.Prelude.{◌==◌, Option, None, Some, is_some, option_to_list, ◌&&◌, ◌||◌, if◌then◌else◌}
use Rattle.std.specs.List.{AllByRecursion, list_all}
use Rattle.std.specs.Option.{option_map, option_or, option_map_or}
use Rattle.std.proofs.lemmas.Bool.{and_parts, and_from}
use Rattle.qc_event.specs.declared.event.Entry.{Entry}
use Rattle.qc_event.specs.declared.event.Event.{Event}
use Rattle.qc_event.specs.declared.event.Event.TheVariants as event
use Rattle.qc_event.specs.History.{Past, Name, Begun, earliest, every, start_in, end, end_in, is_ready, ready_in, children, child_in}
use Rattle.qc_event.proofs.Histories.{or_none}
use Rattle.qc_names.specs.Name as name
use Rattle.qc_script.specs.Client.{about}
use Rattle.qc_script.specs.Numbers.{each}
use Rattle.qc_interp.specs.Turns.{acts, begun_in, is_done, seat_of, is_under, seat_for, all_differ, child_above, are_apart, has_turn, takes_turn}

-- SOME ENTRIES OF SOME, AS FAR AS A LOOK GOES

-- what is not kept does not answer
abbrev pub Answers : {Y : Type 0} → (Entry → Bool) → (Entry → Option Y) → Past → Type 0
Answers keep f h = AllByRecursion (λ (e : Entry). keep e ≡ false → f e ≡ None) h

pub earliest_kept : {Y : Type 0} (keep : Entry → Bool) (f : Entry → Option Y) (h : Past) → Answers keep f h → earliest f (filter keep h) ≡ earliest f h
earliest_kept keep f [] all = refl
earliest_kept {Y = Y} keep f (e ∷ h) all = by_test (keep e) refl (earliest_kept keep f h all.1)
  where
    by_test : (b : Bool) → keep e ≡ b → earliest f (filter keep h) ≡ earliest f h → earliest f (if b then e ∷ filter keep h else filter keep h) ≡ option_or (earliest f h) (f e)
    by_test true is rest = ap (λ o. option_or o (f e)) rest
    by_test false is rest = rest ∙ or_none (earliest f h) ∙ sym (ap (λ o. option_or (earliest f h) o) (all.0 is))

pub every_kept : {Y : Type 0} (keep : Entry → Bool) (f : Entry → Option Y) (h : Past) → Answers keep f h → every f (filter keep h) ≡ every f h
every_kept keep f [] all = refl
every_kept {Y = Y} keep f (e ∷ h) all = by_test (keep e) refl (every_kept keep f h all.1)
  where
    by_test : (b : Bool) → keep e ≡ b → every f (filter keep h) ≡ every f h → every f (if b then e ∷ filter keep h else filter keep h) ≡ every f h ++ option_to_list (f e)
    by_test true is rest = ap (λ l. l ++ option_to_list (f e)) rest
    by_test false is rest = rest ∙ sym (append-nil _) ∙ sym (ap (λ o. every f h ++ option_to_list o) (all.0 is))

-- what a narrower choice keeps of a wider one's, it keeps of all
pub kept_again : (narrow wide : Entry → Bool) (h : Past) → AllByRecursion (λ (e : Entry). narrow e ≡ true → wide e ≡ true) h → filter narrow (filter wide h) ≡ filter narrow h
kept_again narrow wide [] all = refl
kept_again narrow wide (e ∷ h) all = by_tests (narrow e) (wide e) refl refl (kept_again narrow wide h all.1)
  where
    one : (b : Bool) → narrow e ≡ b → filter narrow (e ∷ filter wide h) ≡ (if b then e ∷ filter narrow (filter wide h) else filter narrow (filter wide h))
    one b is = ap (λ x. if x then e ∷ filter narrow (filter wide h) else filter narrow (filter wide h)) is

    by_tests : (x y : Bool) → narrow e ≡ x → wide e ≡ y → filter narrow (filter wide h) ≡ filter narrow h → filter narrow (if y then e ∷ filter wide h else filter wide h) ≡ (if x then e ∷ filter narrow h else filter narrow h)
    by_tests true true is also rest = one true is ∙ ap (λ l. e ∷ l) rest
    by_tests true false is also rest = absurd (true≢false (sym (all.0 is) ∙ also))
    by_tests false true is also rest = one false is ∙ rest
    by_tests false false is also rest = rest

-- WHO IS ABOUT NO ONE

-- what is not kept is about no one
abbrev pub DropsNone : (Entry → Bool) → Past → Type 0
DropsNone keep h = AllByRecursion (λ (e : Entry). keep e ≡ false → about e.event ≡ None) h

drops_wider : {Y : Type 0} (keep : Entry → Bool) (f : Entry → Option Y) (h : Past) → ((e : Entry) → about e.event ≡ None → f e ≡ None) → DropsNone keep h → Answers keep f h
drops_wider keep f [] step all = tt
drops_wider keep f (e ∷ h) step all = ((λ is. step e (all.0 is)), drops_wider keep f h step all.1)

none_ends : (n : Name) (ev : Event) → about ev ≡ None → end_in n ev ≡ None
none_ends n (event.End m how) is = absurd cc
none_ends n (event.Start m k) is = refl
none_ends n (event.Ready m) is = refl
none_ends n (event.Ask ask) is = refl
none_ends n (event.Gone m why) is = refl
none_ends n (event.Granted copy grant) is = refl
none_ends n (event.Refused m copy refusal) is = refl
none_ends n (event.Unable m why) is = refl
none_ends n (event.Mark m session) is = refl

none_ready : (n : Name) (ev : Event) → about ev ≡ None → ready_in n ev ≡ None
none_ready n (event.Ready m) is = absurd cc
none_ready n (event.Start m k) is = refl
none_ready n (event.End m how) is = refl
none_ready n (event.Ask ask) is = refl
none_ready n (event.Gone m why) is = refl
none_ready n (event.Granted copy grant) is = refl
none_ready n (event.Refused m copy refusal) is = refl
none_ready n (event.Unable m why) is = refl
none_ready n (event.Mark m session) is = refl

none_starts : (n : Name) (seat : ℕ) (ev : Event) → about ev ≡ None → start_in n seat ev ≡ None
none_starts n seat (event.Start m k) is = absurd cc
none_starts n seat (event.End m how) is = refl
none_starts n seat (event.Ready m) is = refl
none_starts n seat (event.Ask ask) is = refl
none_starts n seat (event.Gone m why) is = refl
none_starts n seat (event.Granted copy grant) is = refl
none_starts n seat (event.Refused m copy refusal) is = refl
none_starts n seat (event.Unable m why) is = refl
none_starts n seat (event.Mark m session) is = refl

none_begun : (ev : Event) → about ev ≡ None → begun_in ev ≡ None
none_begun (event.Start m k) is = absurd cc
none_begun (event.End m how) is = refl
none_begun (event.Ready m) is = refl
none_begun (event.Ask ask) is = refl
none_begun (event.Gone m why) is = refl
none_begun (event.Granted copy grant) is = refl
none_begun (event.Refused m copy refusal) is = refl
none_begun (event.Unable m why) is = refl
none_begun (event.Mark m session) is = refl

alike : (f g : Name → Bool) (ns : List Name) → ((n : Name) → f n ≡ g n) → list_all f ns ≡ list_all g ns
alike f g [] same = refl
alike f g (n ∷ ns) same = ap (λ b. b && list_all f ns) (same n) ∙ ap (λ b. g n && b) (alike f g ns same)

done_kept : (keep : Entry → Bool) (h : Past) → DropsNone keep h → (n : Name) → is_done (filter keep h) n ≡ is_done h n
done_kept keep h drops n =
    ap (λ o. is_some o || is_ready (filter keep h) n) (earliest_kept keep (λ e. end_in n e.event) h (drops_wider keep _ h (λ e is. none_ends n e.event is) drops))
    ∙ ap (λ o. is_some (end h n) || is_some o) (earliest_kept keep (λ e. ready_in n e.event) h (drops_wider keep _ h (λ e is. none_ready n e.event is) drops))

seat_kept : (keep : Entry → Bool) (e : Entry) (h : Past) → DropsNone keep h → (n : Name) → seat_of (e ∷ filter keep h) n ≡ seat_of (e ∷ h) n
seat_kept keep e h drops n =
    ap (λ o. option_map (λ (b : Begun). b.seat) (option_or o (start_in n e.seat e.event)))
    (earliest_kept keep (λ e. start_in n e.seat e.event) h (drops_wider keep _ h (λ e is. none_starts n e.seat e.event is) drops))

apart_kept : (keep : Entry → Bool) (e : Entry) (h : Past) → DropsNone keep h → (m n : Name) → are_apart (e ∷ filter keep h) m n ≡ are_apart (e ∷ h) m n
apart_kept keep e h drops m n =
    let p = name.meet m n in
    let few : Past = e ∷ filter keep h in
    ap (λ o. all_differ o (seat_of few (child_above p m)) (seat_of few (child_above p n))) (seat_kept keep e h drops p)
    ∙ ap (λ o. all_differ (seat_of (e ∷ h) p) o (seat_of few (child_above p n))) (seat_kept keep e h drops (child_above p m))
    ∙ ap (λ o. all_differ (seat_of (e ∷ h) p) (seat_of (e ∷ h) (child_above p m)) o) (seat_kept keep e h drops (child_above p n))

has_turn_kept : (keep : Entry → Bool) (e : Entry) (h : Past) → DropsNone keep h → (n : Name) → has_turn e (filter keep h) n ≡ has_turn e h n
has_turn_kept keep e h drops n =
    let few : Past = filter keep h in
    ap (list_all (λ m. is_done few m || (name.is_ancestor m n || are_apart (e ∷ few) m n))) (every_kept keep (λ e. begun_in e.event) h (drops_wider keep _ h (λ e is. none_begun e.event is) drops))
    ∙ alike _ _ (every (λ e. begun_in e.event) h) (λ m.
    ap (λ b. b || (name.is_ancestor m n || are_apart (e ∷ few) m n)) (done_kept keep h drops m)
    ∙ ap (λ b. is_done h m || (name.is_ancestor m n || b)) (apart_kept keep e h drops m n))

none_child : (n : Name) (ev : Event) → about ev ≡ None → child_in n ev ≡ None
none_child n (event.Start m k) is = absurd cc
none_child n (event.End m how) is = refl
none_child n (event.Ready m) is = refl
none_child n (event.Ask ask) is = refl
none_child n (event.Gone m why) is = refl
none_child n (event.Granted copy grant) is = refl
none_child n (event.Refused m copy refusal) is = refl
none_child n (event.Unable m why) is = refl
none_child n (event.Mark m session) is = refl

under_kept : (keep : Entry → Bool) (h : Past) → DropsNone keep h → (seat : ℕ) (n : Name) → is_under (filter keep h) seat n ≡ is_under h seat n
under_kept keep h drops seat n =
    ap (λ o. option_map_or (λ s. s == seat) (option_map (λ (b : Begun). b.seat) o) false)
    (earliest_kept keep (λ e. start_in n e.seat e.event) h (drops_wider keep _ h (λ e is. none_starts n e.seat e.event is) drops))

seats_kept : (keep : Entry → Bool) (h : Past) → DropsNone keep h → (seat : ℕ) (ev : Event) → seat_for (filter keep h) seat ev ≡ seat_for h seat ev
seats_kept keep h drops seat (event.Start [] k) = refl
seats_kept keep h drops seat (event.Start (x ∷ y ∷ n) k) = refl
seats_kept keep h drops seat (event.Start (x ∷ []) k) =
    ap (list_all (is_under (filter keep h) seat)) (every_kept keep (λ e. child_in [] e.event) h (drops_wider keep _ h (λ e is. none_child [] e.event is) drops))
    ∙ alike (is_under (filter keep h) seat) (is_under h seat) (children h []) (under_kept keep h drops seat)
seats_kept keep h drops seat (event.Mark n session) = under_kept keep h drops seat n
seats_kept keep h drops seat (event.End m how) = refl
seats_kept keep h drops seat (event.Ready m) = refl
seats_kept keep h drops seat (event.Ask ask) = refl
seats_kept keep h drops seat (event.Gone m why) = refl
seats_kept keep h drops seat (event.Granted copy grant) = refl
seats_kept keep h drops seat (event.Refused m copy refusal) = refl
seats_kept keep h drops seat (event.Unable m why) = refl

turn_kept : (keep : Entry → Bool) (e : Entry) (h : Past) → DropsNone keep h → (o : Option Name) → option_map_or (has_turn e (filter keep h)) o true ≡ option_map_or (has_turn e h) o true
turn_kept keep e h drops None = refl
turn_kept keep e h drops (Some n) = has_turn_kept keep e h drops n

-- whoever takes turns does so without the entries about no one
pub turns_kept : (keep : Entry → Bool) (h : Past) → DropsNone keep h → each takes_turn h ≡ true → each takes_turn (filter keep h) ≡ true
turns_kept keep [] drops turns = refl
turns_kept keep (e ∷ h) drops turns = let both = and_parts (each takes_turn h) (takes_turn e h) turns in by_test (keep e) (turns_kept keep h drops.1 both.0) both.1
  where
    by_test : (b : Bool) → each takes_turn (filter keep h) ≡ true → takes_turn e h ≡ true → each takes_turn (if b then e ∷ filter keep h else filter keep h) ≡ true
    by_test true rest turn =
        and_from _ _ rest
        (ap (λ b. b && option_map_or (has_turn e (filter keep h)) (acts e.event) true) (seats_kept keep h drops.1 e.seat e.event)
        ∙ ap (λ b. seat_for h e.seat e.event && b) (turn_kept keep e h drops.1 (acts e.event)) ∙ turn)
    by_test false rest turn = rest
