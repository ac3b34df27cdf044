-- What starts only once others are done, or while they are idle: by two lists of entries, as a history grows, and by some
-- of its entries.
use Rattle.std.proofs.Common.{◌≡◌, ℕ, Bool, true, false, List, [], ◌∷◌, ◌++◌, length, refl, sym, ap, ◌∙◌, subst, append-nil, filter}
use mathlib.Core.Bool.{true≢false}
use Rattle.std.specs.Prelude.{◌==◌, ◌&&◌, ◌||◌, not, None, is_some, option_to_list, if◌then◌else◌}
use Rattle.std.specs.List.{AllByRecursion, list_all}
use Rattle.std.proofs.lemmas.Bool.{and_parts, and_from, or_left, or_right, false_from_ne_true}
use Rattle.qc_event.specs.declared.event.Entry.{Entry}
use Rattle.qc_event.specs.declared.event.Event.{Event}
use Rattle.qc_event.specs.declared.event.Event.TheVariants as event
use Rattle.qc_event.specs.Base.{Setting}
use Rattle.qc_event.specs.History.{Past, Name, earliest, start, end, end_in, ready_in}
use Rattle.qc_event.specs.Legal.{Legal}
use Rattle.qc_event.proofs.Absent.{same_is}
use Rattle.qc_event.proofs.Histories.{earliest-append}
use Rattle.qc_event.proofs.OneEntry.{Starting, some_or_none, stays_some}
use Rattle.qc_script.specs.Numbers.{each}
use Rattle.qc_interp.specs.Deeds.{Deed, OfChild, deeds, deed_in}
use Rattle.qc_script.specs.Plan.{Plan}
use Rattle.qc_interp.specs.Rows.{is_try, tries_among, deed_done, deed_idle, starts, starts_where, next_starts, begin_first, is_behind}
use Rattle.qc_interp.specs.Turns.{is_done}
use Rattle.qc_interp.proofs.Following.Deeds.{Silent, closed_done}
use Rattle.qc_interp.proofs.Scopes.Kept.{Answers, earliest_kept, kept_again}
use Rattle.qc_interp.proofs.Scopes.Mine.{Closed, closed_still, kept_some}
use Rattle.qc_interp.proofs.Scopes.Starts.{start_fresh}
use Rattle.qc_interp.proofs.Rows.Agrees.{deed_alike}
use Rattle.qc_interp.proofs.Rows.SameDeeds.{OfAnyChild, IsSameTry, all_among, all_both, among_alike, among_pass}
use Rattle.qc_event.proofs.Booleans.{and_true}

pub starts_is : (n : Name) (ev : Event) → starts n ev ≡ true → Starting n ev
starts_is n (event.Start m k) h = (k, ap (λ x. event.Start x k) (same_is m n h))
starts_is n _ h = absurd (true≢false (sym h))

-- ONE AFTER ONE

-- whether a name starts only where another passes a test
abbrev pub starts_after : (Past → Deed → Bool) → Past → Name → Name → Bool
starts_after passes past x y = each (starts_where passes (Deed.child x ∷ []) y) past

-- whether a name starts only once another is done
abbrev pub waits_for : Past → Name → Name → Bool
waits_for past x y = starts_after deed_done past x y

-- whether a name starts only while another has done nothing
abbrev pub finds_idle : Past → Name → Name → Bool
finds_idle past x y = starts_after deed_idle past x y

module _ (passes : Past → Deed → Bool) where
  -- what starts where some deeds pass starts where the first of them does, and where the others do
  deeds_part : (d : Deed) (ds : List Deed) (y : Name) (past : Past) → each (starts_where passes (d ∷ ds) y) past ≡ true → (each (starts_where passes (d ∷ []) y) past ≡ true) × (each (starts_where passes ds y) past ≡ true)
  deeds_part d ds y [] h = (refl, refl)
  deeds_part d ds y (e ∷ past) h =
      let both = and_parts (each (starts_where passes (d ∷ ds) y) past) (starts_where passes (d ∷ ds) y e past) h in
      let before = deeds_part d ds y past both.0 in
      let here = by_test (not (starts y e.event)) both.1 in
      (and_from _ _ before.0 here.0, and_from _ _ before.1 here.1)
    where
      by_test : (b : Bool) → (b || (passes past d && list_all (passes past) ds)) ≡ true → ((b || (passes past d && true)) ≡ true) × ((b || list_all (passes past) ds) ≡ true)
      by_test true g = (refl, refl)
      by_test false g = let parts = and_parts (passes past d) (list_all (passes past) ds) g in (and_from _ _ parts.0 refl, parts.1)

  deeds_join : (d : Deed) (ds : List Deed) (y : Name) (past : Past) → each (starts_where passes (d ∷ []) y) past ≡ true → each (starts_where passes ds y) past ≡ true → each (starts_where passes (d ∷ ds) y) past ≡ true
  deeds_join d ds y [] h g = refl
  deeds_join d ds y (e ∷ past) h g =
      let first = and_parts (each (starts_where passes (d ∷ []) y) past) (starts_where passes (d ∷ []) y e past) h in
      let others = and_parts (each (starts_where passes ds y) past) (starts_where passes ds y e past) g in
      and_from _ _ (deeds_join d ds y past first.0 others.0) (by_test (not (starts y e.event)) first.1 others.1)
    where
      by_test : (b : Bool) → (b || (passes past d && true)) ≡ true → (b || list_all (passes past) ds) ≡ true → (b || (passes past d && list_all (passes past) ds)) ≡ true
      by_test true h g = refl
      by_test false h g = and_from _ _ (and_parts (passes past d) true h).0 g

  none_waits : (y : Name) (past : Past) → each (starts_where passes [] y) past ≡ true
  none_waits y [] = refl
  none_waits y (e ∷ past) = and_from _ _ (none_waits y past) (or_right (not (starts y e.event)) true refl)

  -- BY TWO LISTS OF ENTRIES

  module _ (marks : (past : Past) (session : ℕ) → passes past (Deed.mark session) ≡ true) (p q : Past) (Good : Name → Type 0) (step : (x y : Name) → Good x → Good y → starts_after passes p x y ≡ true → starts_after passes q x y ≡ true) where
    mark_waits : (session : ℕ) (y : Name) (past : Past) → each (starts_where passes (Deed.mark session ∷ []) y) past ≡ true
    mark_waits session y [] = refl
    mark_waits session y (e ∷ past) = and_from _ _ (mark_waits session y past) (or_right (not (starts y e.event)) _ (and_from _ _ (marks past session) refl))

    waits_alike : (ds : List Deed) (y : Name) → AllByRecursion (OfAnyChild Good) ds → Good y → each (starts_where passes ds y) p ≡ true → each (starts_where passes ds y) q ≡ true
    waits_alike [] y all good h = none_waits y q
    waits_alike (Deed.child x ∷ ds) y all good h =
        let parts = deeds_part (Deed.child x) ds y p h in
        deeds_join (Deed.child x) ds y q (step x y all.0 good parts.0) (waits_alike ds y all.1 good parts.1)
    waits_alike (Deed.mark session ∷ ds) y all good h =
        let parts = deeds_part (Deed.mark session) ds y p h in
        deeds_join (Deed.mark session) ds y q (mark_waits session y q) (waits_alike ds y all.1 good parts.1)

    -- what starts where some deeds pass by one list starts so by the other
    pub next_alike : (here further : List Deed) → AllByRecursion (OfAnyChild Good) here → AllByRecursion (OfAnyChild Good) further → next_starts passes p here further ≡ true → next_starts passes q here further ≡ true
    next_alike here [] all more h = refl
    next_alike here (Deed.child y ∷ further) all more h = waits_alike here y all more.0 h
    next_alike here (Deed.mark session ∷ further) all more h = refl

-- branches of which each begins before one of them does anything by one list begin so by the other
pub first_alike : (p q : Past) (Good : Name → Type 0) → ((x y : Name) → Good x → Good y → finds_idle p x y ≡ true → finds_idle q x y ≡ true) → (branches : Plan) (ds : List Deed) → AllByRecursion (IsSameTry p q) ds → AllByRecursion (OfAnyChild Good) ds
    → begin_first p branches ds ≡ true → begin_first q branches ds ≡ true
first_alike p q Good step (Plan.child_then number tries must inner others) ds same good h =
    let parts = and_parts (next_starts deed_idle p ds (tries_among p number ds)) (begin_first p others ds) h in
    and_from _ _
    (subst (λ l. next_starts deed_idle q ds l ≡ true) (among_alike p q number ds same)
    (next_alike deed_idle (λ past session. refl) p q Good step ds (tries_among p number ds) good (all_among (is_try p number) (OfAnyChild Good) ds good) parts.0)) (first_alike p q Good step others ds same good parts.1)
first_alike p q Good step _ ds same good h = refl

-- AS A HISTORY GROWS

-- who was started is not started again
pub started_once : (passes : Past → Deed → Bool) (p : Entry → Bool) (setting : Setting) (newer past : Past) (ds : List Deed) (y : Name) → Legal setting (newer ++ past) → is_some (start (filter p past) y) ≡ true
    → each (starts_where passes ds y) (filter p past) ≡ true → each (starts_where passes ds y) (filter p (newer ++ past)) ≡ true
started_once passes p setting [] past ds y legal started h = h
started_once passes p setting (e ∷ newer) past ds y legal started h = by_test (p e) (started_once passes p setting newer past ds y legal.0 started h)
  where
    mid : Past
    mid = filter p (newer ++ past)

    known : is_some (start (newer ++ past) y) ≡ true
    known = ap is_some (earliest-append _ newer past) ∙ stays_some _ _ (kept_some p _ past started)

    not_again : starts y e.event ≡ false
    not_again = false_from_ne_true (starts y e.event) (λ begins. let s = starts_is y e.event begins in some_or_none (start (newer ++ past) y) known (start_fresh setting (newer ++ past) e y s.0 legal s.1))

    by_test : (b : Bool) → each (starts_where passes ds y) mid ≡ true → each (starts_where passes ds y) (if b then e ∷ mid else mid) ≡ true
    by_test false was = was
    by_test true was = and_from _ _ was (or_left (not (starts y e.event)) _ (ap not not_again))

-- What comes behind some deeds that are done comes so for ever.
pub is_behind_still : (p : Entry → Bool) (setting : Setting) (newer past : Past) (here further : List Deed) → AllByRecursion (OfChild (Closed (filter p past))) here → is_behind (filter p past) here further ≡ true → is_behind (filter p (newer ++ past)) here further ≡ true
is_behind_still p setting newer past here [] done h = refl
is_behind_still p setting newer past here (Deed.mark session ∷ further) done h = refl
is_behind_still p setting [] past here (Deed.child y ∷ further) done h = h
is_behind_still p setting (e ∷ newer) past here (Deed.child y ∷ further) done h = by_test (p e) (is_behind_still p setting newer past here (Deed.child y ∷ further) done h)
  where
    mid : Past
    mid = filter p (newer ++ past)

    all_done : (ds : List Deed) → AllByRecursion (OfChild (Closed (filter p past))) ds → list_all (deed_done mid) ds ≡ true
    all_done [] closed = refl
    all_done (Deed.child x ∷ ds) closed = and_from _ _ (closed_done mid x (closed_still p setting newer past x closed.0)) (all_done ds closed.1)
    all_done (Deed.mark session ∷ ds) closed = absurd closed.0

    by_test : (b : Bool) → each (starts_where deed_done here y) mid ≡ true → each (starts_where deed_done here y) (if b then e ∷ mid else mid) ≡ true
    by_test false was = was
    by_test true was = and_from _ _ was (or_right (not (starts y e.event)) (list_all (deed_done mid) here) (all_done here done))

-- BY SOME ENTRIES

-- an event neither ends the first name nor makes it ready, nor does the first anything by it, nor starts it the second
abbrev pub TellsNothing : Name → Name → Event → Type 0
TellsNothing x y ev = (end_in x ev ≡ None) × (ready_in x ev ≡ None) × (starts y ev ≡ false) × Silent x ev

-- what is not kept tells nothing of them
abbrev pub DropsNothing : (Entry → Bool) → Name → Name → Past → Type 0
DropsNothing keep x y h = AllByRecursion (λ (e : Entry). keep e ≡ false → TellsNothing x y e.event) h

module _ (keep : Entry → Bool) (x y : Name) where
  ends_kept : (h : Past) → DropsNothing keep x y h → Answers keep (λ e. end_in x e.event) h
  ends_kept [] all = tt
  ends_kept (e ∷ h) all = ((λ out. (all.0 out).0), ends_kept h all.1)

  ready_kept : (h : Past) → DropsNothing keep x y h → Answers keep (λ e. ready_in x e.event) h
  ready_kept [] all = tt
  ready_kept (e ∷ h) all = ((λ out. (all.0 out).1), ready_kept h all.1)

  done_kept : (h : Past) → DropsNothing keep x y h → is_done (filter keep h) x ≡ is_done h x
  done_kept h all =
      ap (λ o. is_some o || is_some (earliest (λ e. ready_in x e.event) (filter keep h))) (earliest_kept keep (λ e. end_in x e.event) h (ends_kept h all))
      ∙ ap (λ o. is_some (end h x) || is_some o) (earliest_kept keep (λ e. ready_in x e.event) h (ready_kept h all))

  deeds_kept : (h : Past) → DropsNothing keep x y h → deeds (filter keep h) x ≡ deeds h x
  deeds_kept [] all = refl
  deeds_kept (e ∷ h) all = by_test (keep e) refl (deeds_kept h all.1)
    where
      by_test : (b : Bool) → keep e ≡ b → deeds (filter keep h) x ≡ deeds h x → deeds (if b then e ∷ filter keep h else filter keep h) x ≡ deeds h x ++ option_to_list (deed_in h x e.event)
      by_test true is rest = ap (λ l. l ++ option_to_list (deed_in (filter keep h) x e.event)) rest ∙ ap (λ o. deeds h x ++ option_to_list o) (deed_alike (filter keep h) h x (done_kept h all.1) e.event)
      by_test false is rest = rest ∙ sym (ap (λ o. deeds h x ++ option_to_list o) ((all.0 is).3 h) ∙ append-nil _)

  passes_idle : (h : Past) → DropsNothing keep x y h → deed_idle (filter keep h) (Deed.child x) ≡ deed_idle h (Deed.child x)
  passes_idle h all = ap (λ l. length l == 0 && not (is_done (filter keep h) x)) (deeds_kept h all) ∙ ap (λ b. length (deeds h x) == 0 && not b) (done_kept h all)

  module _ (passes : Past → Deed → Bool) (kept : (h : Past) → DropsNothing keep x y h → passes (filter keep h) (Deed.child x) ≡ passes h (Deed.child x)) where
    -- a name starts after another by the entries that are kept where it does by all
    after_kept : (h : Past) → DropsNothing keep x y h → starts_after passes (filter keep h) x y ≡ starts_after passes h x y
    after_kept [] all = refl
    after_kept (e ∷ h) all = by_test (keep e) refl (after_kept h all.1)
      where
        still : (b : Bool) → b ≡ true → starts_after passes h x y ≡ (starts_after passes h x y && b)
        still b is = and_true (starts_after passes h x y) ∙ ap (λ t. starts_after passes h x y && t) (sym is)

        unstarted : (b : Bool) → b ≡ false → (not b || (passes h (Deed.child x) && true)) ≡ true
        unstarted b is = ap (λ t. not t || (passes h (Deed.child x) && true)) is

        by_test : (b : Bool) → keep e ≡ b → starts_after passes (filter keep h) x y ≡ starts_after passes h x y
            → starts_after passes (if b then e ∷ filter keep h else filter keep h) x y ≡ (starts_after passes h x y && starts_where passes (Deed.child x ∷ []) y e h)
        by_test true is rest =
            ap (λ b. b && starts_where passes (Deed.child x ∷ []) y e (filter keep h)) rest
            ∙ ap (λ b. starts_after passes h x y && (not (starts y e.event) || (b && true))) (kept h all.1)
        by_test false is rest = rest ∙ still (starts_where passes (Deed.child x ∷ []) y e h) (unstarted (starts y e.event) (all.0 is).2)

  -- so it waits for another by them where it does by all, and finds another idle
  pub order_kept : (h : Past) → DropsNothing keep x y h → (waits_for (filter keep h) x y ≡ waits_for h x y) × (finds_idle (filter keep h) x y ≡ finds_idle h x y)
  order_kept h all = (after_kept deed_done done_kept h all, after_kept deed_idle passes_idle h all)

-- and so by a narrower choice and by a wider one, where what the wider one keeps besides tells nothing
pub order_alike : (narrow wide : Entry → Bool) (x y : Name) (h : Past) → AllByRecursion (λ (e : Entry). narrow e ≡ true → wide e ≡ true) h → AllByRecursion (λ (e : Entry). wide e ≡ true → narrow e ≡ false → TellsNothing x y e.event) h
    → (waits_for (filter narrow h) x y ≡ waits_for (filter wide h) x y) × (finds_idle (filter narrow h) x y ≡ finds_idle (filter wide h) x y)
order_alike narrow wide x y h wider quiet =
    subst (λ few. (waits_for few x y ≡ waits_for (filter wide h) x y) × (finds_idle few x y ≡ finds_idle (filter wide h) x y)) (kept_again narrow wide h wider)
    (order_kept narrow x y (filter wide h) (all_both _ _ _ (λ e is told. told is) (filter wide h) (among_pass wide h) (all_among wide _ h quiet)))
