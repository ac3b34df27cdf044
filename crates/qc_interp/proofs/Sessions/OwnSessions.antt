-- Where all about a client's tops is its own, its session runs in turn, its tops start in order, and its requests meet
-- the fates of its link.
use Rattle.std.proofs.Common.{◌≡◌, ℕ, Bool, true, false, List, [], ◌∷◌, ◌++◌, arith, refl, sym, ap, ◌∙◌, subst, filter, append-nil}
use mathlib.Core.Bool.{true≢false}
use Rattle.std.specs.Prelude.{Option, None, Some, is_some, is_none, option_to_list, ◌==◌, not, ◌&&◌, ◌||◌, if◌then◌else◌}
use Rattle.std.specs.List.{AllByRecursion, list_all, list_any}
use Rattle.std.specs.Option.{option_map_or}
use Rattle.std.proofs.lemmas.Bool.{eqb-true, and_parts, and_from}
use Rattle.std.proofs.lemmas.List.Folds.{list_all-append}
use Rattle.qc_event.specs.declared.event.Entry.{Entry}
use Rattle.qc_event.specs.declared.event.Event.{Event}
use Rattle.qc_event.specs.declared.event.Event.TheVariants as event
use Rattle.qc_event.specs.declared.event.Kind.{Kind}
use Rattle.qc_event.specs.History.{Past, Name, every, children, child_in, is_child}
use Rattle.qc_event.specs.Seats.{is_client}
use Rattle.qc_event.proofs.Absent.{if_not}
use Rattle.qc_event.proofs.LastNumber.{no_child_length}
use Rattle.qc_event.proofs.OneEntry.{not_some}
use Rattle.qc_names.specs.Name as name
use Rattle.qc_net.specs.Messages.{Net, meets_fates}
use Rattle.qc_script.specs.Calls.{is_over}
use Rattle.qc_script.specs.Client.{Client, mine, is_own, about}
use Rattle.qc_script.specs.Numbers.{each, any_top}
use Rattle.qc_interp.specs.Adding.{all_over, own_after, is_of_one, starts_for}
use Rattle.qc_interp.specs.Session.{tops}
use Rattle.qc_interp.specs.Sessions.{top_by, top_in, tops_of, is_of, part_of, after_others, seat_in}
use Rattle.qc_interp.specs.Together.{IsWhole}
use Rattle.qc_interp.specs.Turns.{begun_in, takes_turn}
use Rattle.qc_interp.proofs.Scopes.Kept.{DropsNone, turns_kept}
use Rattle.qc_interp.proofs.Scopes.Starts.{user_of, top_some, starts_of}

-- ITS TOPS

-- all tops of a session are a client's
abbrev pub AreStarted : Client → ℕ → Past → Type 0
AreStarted c s past = AllByRecursion (λ (e : Entry). is_some (top_in s e.event) ≡ true → is_own c e.seat ≡ true) past

-- its tops are of that session
abbrev pub AreFor : Client → ℕ → Past → Type 0
AreFor c s past = AllByRecursion (λ (e : Entry). is_own c e.seat ≡ true → starts_for s e ≡ true) past

far_child : (x y : ℕ) (n : Name) (k : Kind) → child_in [] (event.Start (x ∷ y ∷ n) k) ≡ None
far_child x y n k = if_not (is_child [] (x ∷ y ∷ n)) (Some (x ∷ y ∷ n)) (no_child_length [] (x ∷ y ∷ n) (λ l. omega (arith, l)))

same_top : (s : ℕ) (ev : Event) → (is_none (any_top ev) || is_some (top_in s ev)) ≡ true → child_in [] ev ≡ top_in s ev
same_top s (event.Start [] k) h = refl
same_top s (event.Start (x ∷ []) k) h = let user = user_of s x k h in sym (ap (top_by s (x ∷ [])) user.1 ∙ top_some s x user.0)
same_top s (event.Start (x ∷ y ∷ n) k) h = far_child x y n k
same_top s _ h = refl

pub same_tops : (c : Client) (s : ℕ) (past : Past) → AreStarted c s past → AreFor c s past → tops c past ≡ tops_of s past
same_tops c s [] started for_it = refl
same_tops c s (e ∷ past) started for_it = by_own (is_own c e.seat) refl (same_tops c s past started.1 for_it.1)
  where
    by_own : (b : Bool) → is_own c e.seat ≡ b → tops c past ≡ tops_of s past → children (if b then e ∷ mine c past else mine c past) [] ≡ tops_of s past ++ option_to_list (top_in s e.event)
    by_own true own rest = ap (λ l. l ++ option_to_list (child_in [] e.event)) rest ∙ ap (λ o. tops_of s past ++ option_to_list o) (same_top s e.event (for_it.0 own))
    by_own false own rest =
        rest ∙ sym (ap (λ o. tops_of s past ++ option_to_list o) (not_some (top_in s e.event) (λ some. true≢false (sym (started.0 some) ∙ own))) ∙ append-nil _)

-- WHAT IS ONE'S OWN

-- what is of some tops is a client's
abbrev pub AreIts : Client → List Name → Past → Type 0
AreIts c ts past = AllByRecursion (λ (e : Entry). is_of ts e ≡ true → is_own c e.seat ≡ true) past

-- what is kept passes, and what held of all holds of what is kept
kept_all : (P : Entry → Type 0) (keep : Entry → Bool) (h : Past) → AllByRecursion (λ (e : Entry). keep e ≡ true → P e) h → AllByRecursion P (filter keep h)
kept_all P keep [] all = tt
kept_all P keep (e ∷ h) all = by_test (keep e) refl (kept_all P keep h all.1)
  where
    by_test : (b : Bool) → keep e ≡ b → AllByRecursion P (filter keep h) → AllByRecursion P (if b then e ∷ filter keep h else filter keep h)
    by_test true is rest = (all.0 is, rest)
    by_test false is rest = rest

itself_kept : (keep : Entry → Bool) (h : Past) → AllByRecursion (λ (e : Entry). keep e ≡ true → keep e ≡ true) h
itself_kept keep [] = tt
itself_kept keep (e ∷ h) = ((λ is. is), itself_kept keep h)

within : {X : Type 0} (p q : X → Bool) (xs : List X) → AllByRecursion (λ x. p x ≡ true → q x ≡ true) xs → filter p (filter q xs) ≡ filter p xs
within p q [] h = refl
within {X = X} p q (x ∷ xs) h = by_tests (p x) refl (q x) refl h.0 (within p q xs h.1)
  where
    by_tests : (a : Bool) → p x ≡ a → (b : Bool) → q x ≡ b → (p x ≡ true → q x ≡ true) → filter p (filter q xs) ≡ filter p xs → filter p (if b then x ∷ filter q xs else filter q xs) ≡ (if a then x ∷ filter p xs else filter p xs)
    by_tests true is true so implies rest = ap (λ t. if t then x ∷ filter p (filter q xs) else filter p (filter q xs)) is ∙ ap (λ l. x ∷ l) rest
    by_tests true is false so implies rest = absurd (true≢false (sym (implies is) ∙ so))
    by_tests false is true so implies rest = ap (λ t. if t then x ∷ filter p (filter q xs) else filter p (filter q xs)) is ∙ rest
    by_tests false is false so implies rest = rest

-- the part of a session is the same part of what the client made
part_mine : (c : Client) (s : ℕ) (past : Past) → AreIts c (tops_of s past) past → filter (is_of (tops_of s past)) (mine c past) ≡ part_of s past
part_mine c s past its = within (is_of (tops_of s past)) (λ (e : Entry). is_own c e.seat) past its

-- what passes of all of a client's seats passes of each that is its own
pub own_passes : (c : Client) (passes : ℕ → Bool) (seat : ℕ) → list_all passes (c.number ∷ c.kin) ≡ true → is_own c seat ≡ true → passes seat ≡ true
own_passes c passes seat all own = among (c.number ∷ c.kin) all own
  where
    by_test : (k : ℕ) (rest : List ℕ) → passes k ≡ true → (list_any (λ x. x == seat) rest ≡ true → passes seat ≡ true) → (b : Bool) → (k == seat) ≡ b → (b || list_any (λ x. x == seat) rest) ≡ true → passes seat ≡ true
    by_test k rest passing further true is h = subst (λ x. passes x ≡ true) (eqb-true k seat is) passing
    by_test k rest passing further false is h = further h

    among : (ks : List ℕ) → list_all passes ks ≡ true → list_any (λ x. x == seat) ks ≡ true → passes seat ≡ true
    among [] all own = absurd (true≢false (sym own))
    among (k ∷ ks) all own = let both = and_parts (passes k) (list_all passes ks) all in by_test k ks both.0 (λ more. among ks both.1 more) (k == seat) refl own

-- all of some entries are a client's own
abbrev pub AreOwn : Client → Past → Type 0
AreOwn c h = AllByRecursion (λ (e : Entry). is_own c e.seat ≡ true) h

-- TURNS

all_mine : (c : Client) (h : Past) → AreOwn c (mine c h)
all_mine c h = kept_all _ (λ (e : Entry). is_own c e.seat) h (itself_kept (λ (e : Entry). is_own c e.seat) h)

-- what a client made and is of none of its tops is about no one
drops : (c : Client) (ts : List Name) (es : Past) → IsWhole c → AreOwn c es → list_all (is_of_one ts) es ≡ true → DropsNone (is_of ts) es
drops c ts [] whole own all = tt
drops c ts (e ∷ es) whole own all =
    let both = and_parts (is_of_one ts e) (list_all (is_of_one ts) es) all in
    ((λ other. by_about (about e.event) refl both.0 other), drops c ts es whole own.1 both.1)
  where
    by_about : (o : Option Name) → about e.event ≡ o → option_map_or (λ n. list_any (λ t. name.is_ancestor t n) ts) o true ≡ true → is_of ts e ≡ false → about e.event ≡ None
    by_about None is one other = is
    by_about (Some n) is one other =
        let of : is_of ts e ≡ true = and_from _ _ (own_passes c is_client e.seat whole.clients own.0) (ap (λ o. option_map_or (λ n. list_any (λ t. name.is_ancestor t n) ts) o false) is ∙ one) in
        absurd (true≢false (sym of ∙ other))

pub turns_own : (c : Client) (s : ℕ) (past : Past) → IsWhole c → AreIts c (tops_of s past) past → list_all (is_of_one (tops_of s past)) (mine c past) ≡ true → each takes_turn (mine c past) ≡ true → each takes_turn (part_of s past) ≡ true
turns_own c s past whole its inside turns =
    subst (λ h. each takes_turn h ≡ true) (part_mine c s past its) (turns_kept (is_of (tops_of s past)) (mine c past) (drops c (tops_of s past) (mine c past) whole (all_mine c past) inside) turns)

-- MESSAGES

pub messages_own : (c : Client) (s : ℕ) (net : Net) (past : Past) → AreIts c (tops_of s past) past → list_all (λ seat. meets_fates seat net past) (c.number ∷ c.kin) ≡ true → list_all (λ seat. meets_fates seat net past) (every seat_in (part_of s past)) ≡ true
messages_own c s net past its met = by_list (part_of s past) (kept_all _ (is_of (tops_of s past)) past its)
  where
    one : (e : Entry) (o : Option Name) → is_own c e.seat ≡ true → list_all (λ seat. meets_fates seat net past) (option_to_list (option_map_or (λ n. Some e.seat) o None)) ≡ true
    one e None own = refl
    one e (Some n) own = ap (λ b. b && true) (own_passes c (λ seat. meets_fates seat net past) e.seat met own)

    by_list : (h : Past) → AreOwn c h → list_all (λ seat. meets_fates seat net past) (every seat_in h) ≡ true
    by_list [] all = refl
    by_list (e ∷ h) all = list_all-append (λ seat. meets_fates seat net past) (every seat_in h) (option_to_list (seat_in e)) ∙ and_from _ _ (by_list h all.1) (one e (begun_in e.event) all.0)

-- TOPS, IN ORDER

pub order_own : (c : Client) (s : ℕ) (past : Past) → AreStarted c s past → AreFor c s past → each (own_after c) past ≡ true → each (after_others s) past ≡ true
order_own c s [] started for_it order = refl
order_own c s (e ∷ past) started for_it order =
    let parts = and_parts (each (own_after c) past) (own_after c e past) order in
    and_from _ _ (order_own c s past started.1 for_it.1 parts.0) (by_top (top_in s e.event) refl parts.1)
  where
    by_top : (o : Option Name) → top_in s e.event ≡ o → own_after c e past ≡ true → option_map_or (λ t. list_all (is_over past) (tops_of s past)) o true ≡ true
    by_top None is after = refl
    by_top (Some t) is after =
        let top = starts_of s e.event t is in
        let own = started.0 (ap is_some is) in
        let over : all_over c past ≡ true =
        sym (ap (λ b. not b || option_map_or (λ n. all_over c past) (any_top e.event) true) own ∙ ap (λ ev. option_map_or (λ n. all_over c past) (any_top ev) true) top.starts) ∙ after in
        subst (λ ts. list_all (is_over past) ts ≡ true) (same_tops c s past started.1 for_it.1) over
