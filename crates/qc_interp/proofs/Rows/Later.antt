-- What branches at once did stands as their history grows, and what the transaction does then comes behind them.
use Rattle.std.proofs.Common.{◌≡◌, ◌⊎◌, inl, inr, ℕ, Bool, true, false, List, [], ◌∷◌, ◌++◌, refl, sym, ap, ◌∙◌, subst, append-nil, append_assoc, filter}
use mathlib.Core.Bool.{true≢false}
use Rattle.std.specs.Prelude.{Option, None, Some, MatchBool, is_some, IsTrue, not, option_to_list, ◌&&◌, if◌then◌else◌}
use Rattle.std.specs.List.{AllByRecursion}
use Rattle.std.proofs.lemmas.Bool.{and_from, or_left, false_from_ne_true}
use Rattle.std.proofs.lemmas.List.{append_cancel_left}
use Rattle.qc_event.specs.Base.{Setting}
use Rattle.qc_event.specs.declared.event.Entry.{Entry}
use Rattle.qc_event.specs.declared.event.Event.{Event}
use Rattle.qc_event.specs.declared.event.Event.TheVariants as event
use Rattle.qc_event.specs.declared.event.How.{How}
use Rattle.qc_event.specs.declared.event.Kind.{Kind}
use Rattle.qc_event.specs.History.{Past, Name, start, start_in, end, is_child, same}
use Rattle.qc_event.specs.Legal.{Legal}
use Rattle.qc_event.proofs.Histories.{earliest-append}
use Rattle.qc_event.proofs.OneEntry.{start_step, start_stays, start_now, some_or_none, none_before, not_some}
use Rattle.qc_script.specs.Numbers.{each}
use Rattle.qc_script.specs.Plan.{Plan}
use Rattle.qc_interp.specs.Asking.{Asks, RowAsks, DoesAfter, DoesInRow}
use Rattle.qc_interp.specs.Deeds.{Deed, deeds, deed_in, deed_end, OfChild}
use Rattle.qc_interp.specs.Follows.{AfterRow, RunsPlan, RunsRow}
use Rattle.qc_interp.specs.Reach.{Reach}
use Rattle.qc_interp.specs.Rows.{has_committed, each_tried, each_begun, first_failed, are_tries_at_once, each_own_seat, starts, deed_done, starts_where, begin_first, is_behind}
use Rattle.qc_interp.specs.Turns.{is_done}
use Rattle.qc_interp.proofs.Stepping.Asked.{row_asks_still}
use Rattle.qc_interp.proofs.Following.Behind.{starts_is}
use Rattle.qc_interp.proofs.Following.Followed.{row_runs}
use Rattle.qc_interp.proofs.Scopes.Mine.{kept_some, kept_append, end_some, some_is}
use Rattle.qc_interp.proofs.Rows.SameDeeds.{OfAnyChild, all_map, IsSameTry, each_alike, begun_alike, at_once_alike, failed_alike}
use Rattle.qc_interp.proofs.Scopes.Starts.{start_fresh}
use Rattle.qc_interp.proofs.Following.Still.{same_tries, at_once_still, row_still}

-- WHAT A TRANSACTION DOES THEN

-- the entry starts the child that it does by it
deed_starts : (e : Entry) (h : Past) (n : Name) → AllByRecursion (OfAnyChild (λ y. (k : Kind) × (e.event ≡ event.Start y k))) (option_to_list (deed_in h n e.event))
deed_starts e h n = by_event e.event refl
  where
    by_event : (ev : Event) → e.event ≡ ev → AllByRecursion (OfAnyChild (λ y. (k : Kind) × (e.event ≡ event.Start y k))) (option_to_list (deed_in h n ev))
    by_event (event.Start m k) at = by_child (is_child n m)
      where
        by_child : (b : Bool) → AllByRecursion (OfAnyChild (λ y. (x : Kind) × (e.event ≡ event.Start y x))) (option_to_list (if b then Some (Deed.child m) else None))
        by_child true = ((k, at), tt)
        by_child false = tt
    by_event (event.Mark m session) at = by_mark (same m n && not (is_done h n))
      where
        by_mark : (b : Bool) → AllByRecursion (OfAnyChild (λ y. (x : Kind) × (e.event ≡ event.Start y x))) (option_to_list (if b then Some (Deed.mark session) else None))
        by_mark true = (tt, tt)
        by_mark false = tt
    by_event (event.Ask ask) at = tt
    by_event (event.Gone m why) at = tt
    by_event (event.Granted copy grant) at = tt
    by_event (event.Refused m copy refusal) at = tt
    by_event (event.Unable m why) at = tt
    by_event (event.Ready m) at = tt
    by_event (event.End m how) at = tt

-- the children that it starts by some entries
abbrev StartedBy : Past → Deed → Type 0
StartedBy es x = OfAnyChild (λ y. is_some (start es y) ≡ true) x

pub deeds_since : (n : Name) (es h : Past) → (since : List Deed) × (deeds (es ++ h) n ≡ deeds h n ++ since) × AllByRecursion (OfAnyChild (λ y. is_some (start es y) ≡ true)) since
deeds_since n [] h = ([], sym (append-nil _), tt)
deeds_since n (e ∷ es) h =
    let before = deeds_since n es h in (
      before.0 ++ option_to_list (deed_in (es ++ h) n e.event),
      ap (λ l. l ++ option_to_list (deed_in (es ++ h) n e.event)) before.1 ∙ append_assoc (deeds h n) before.0 (option_to_list (deed_in (es ++ h) n e.event)),
      both before.0 (option_to_list (deed_in (es ++ h) n e.event)) (all_map (StartedBy es) (StartedBy (e ∷ es)) old before.0 before.2) (all_map _ (StartedBy (e ∷ es)) new _ (deed_starts e (es ++ h) n)),
    )
  where
    old : (x : Deed) → StartedBy es x → StartedBy (e ∷ es) x
    old (Deed.child y) some = start_stays e es y some
    old (Deed.mark m) some = tt

    new : (x : Deed) → OfAnyChild (λ y. (k : Kind) × (e.event ≡ event.Start y k)) x → StartedBy (e ∷ es) x
    new (Deed.child y) begins = start_now e es y begins
    new (Deed.mark m) begins = tt

    both : (xs ys : List Deed) → AllByRecursion (StartedBy (e ∷ es)) xs → AllByRecursion (StartedBy (e ∷ es)) ys → AllByRecursion (StartedBy (e ∷ es)) (xs ++ ys)
    both [] ys all more = more
    both (x ∷ xs) ys all more = (all.0, both xs ys all.1 more)

-- whom newer entries start was not started before
fresh_before : (setting : Setting) (newer past : Past) (y : Name) → Legal setting (newer ++ past) → is_some (start newer y) ≡ true → start past y ≡ None
fresh_before setting [] past y legal some = absurd (true≢false (sym some))
fresh_before setting (e ∷ newer) past y legal some = elim (start_step e newer y some) [
  | inl old ↦ fresh_before setting newer past y legal.0 old
  | inr new ↦ (none_before (start past y) (start newer y) (sym (earliest-append _ newer past) ∙ start_fresh setting (newer ++ past) e y new.1.0 legal new.1.1)).0
]

-- who was not started waits for anything
unstarted_waits : (ds : List Deed) (y : Name) (h : Past) → start h y ≡ None → each (starts_where deed_done ds y) h ≡ true
unstarted_waits ds y [] none = refl
unstarted_waits ds y (e ∷ h) none =
    and_from _ _ (unstarted_waits ds y h (none_before (start h y) (start_in y e.seat e.event) none).0)
    (or_left (not (starts y e.event)) _ (ap not (false_from_ne_true (starts y e.event) (λ begins. some_or_none (start (e ∷ h) y) (start_now e h y (starts_is y e.event begins)) none))))

-- BRANCHES THAT HAVE RUN

-- Branches at once ran to the end, each of their tries has ended, and of each body one was begun, or not of each.
pub record HaveRun (s : ℕ) (past : Past) (branches : Plan) (here : List Deed) : Type 0 where
  pub at_once : are_tries_at_once past branches here ≡ true
  pub seats : each_own_seat past branches here ≡ true
  pub begins : begin_first past branches here ≡ true
  pub runs : RunsRow Reach.to_the_end s past (each_begun past branches here) branches here
  pub ended : AllByRecursion (OfChild (λ t. is_some (end past t) ≡ true)) here

module _ (s : ℕ) (p : Entry → Bool) (setting : Setting) (newer past : Past) (legal : Legal setting (newer ++ past)) (branches : Plan) (here : List Deed) (ran : HaveRun s (filter p past) branches here) where
  abbrev old : Past
  old = filter p past

  abbrev now : Past
  now = filter p (newer ++ past)

  same_now : AllByRecursion (IsSameTry old now) here
  same_now = same_tries s p setting newer past legal (each_begun old branches here) branches here ran.at_once ran.runs

  same_end : (x : Deed) → OfChild (λ t. is_some (end old t) ≡ true) x → has_committed (deed_end old x) ≡ has_committed (deed_end now x)
  same_end (Deed.child t) ended = let how = some_is (end old t) ended in ap has_committed (how.1 ∙ sym (end_some p setting newer past t how.0 how.1))
  same_end (Deed.mark m) ended = absurd ended

  failed_now : first_failed now branches here ≡ first_failed old branches here
  failed_now = sym (failed_alike old now branches here same_now (all_map _ _ same_end here ran.ended))

  tried_now : each_tried now false branches here ≡ each_tried old false branches here
  tried_now = sym (each_alike old now false branches here same_now)

  begun_now : each_begun now branches here ≡ each_begun old branches here
  begun_now = sym (begun_alike old now branches here same_now)

  -- what it has done since comes behind them
  behind_now : (n : Name) (further : List Deed) → deeds now n ≡ deeds old n ++ further → is_behind old here further ≡ true
  behind_now n further more =
      let since = deeds_since n (filter p newer) old in
      let same : further ≡ since.0 = append_cancel_left (deeds old n) further since.0 (sym more ∙ ap (λ h. deeds h n) (kept_append p newer past) ∙ since.1) in
      by_first further (subst (AllByRecursion (StartedBy (filter p newer))) (sym same) since.2)
    where
      by_first : (xs : List Deed) → AllByRecursion (StartedBy (filter p newer)) xs → is_behind old here xs ≡ true
      by_first [] all = refl
      by_first (Deed.mark m ∷ xs) all = refl
      by_first (Deed.child y ∷ xs) all =
          let fresh = fresh_before setting newer past y legal (kept_some p _ newer all.0) in
          unstarted_waits here y old (not_some (start old y) (λ some. some_or_none (start past y) (kept_some p _ past some) fresh))

  -- so with what follows it is the whole step
  pub row_then : (reach : Reach) (n : Name) (rest : Plan) (further : List Deed) (how : Option How) (out : Bool) (failed : Option Deed) → deeds now n ≡ deeds old n ++ further → each_tried old false branches here ≡ out → first_failed old branches here ≡ failed
      → AfterRow reach now n out failed (RunsPlan reach s now n rest further how) further how → RunsPlan reach s now n (Plan.par_then branches rest) (here ++ further) how
  row_then reach n rest further how out failed more tried first after = (
    here,
    further,
    refl,
    at_once_still s p setting newer past legal (each_begun old branches here) branches here further (ran.at_once, ran.seats, ran.begins, behind_now n further more) ran.runs same_now,
    row_runs reach s now (each_begun now branches here) branches here
        (subst (λ b. RunsRow Reach.to_the_end s now b branches here) (sym begun_now) (row_still s p setting newer past legal (each_begun old branches here) branches here same_now ran.runs)),
    subst (λ b. AfterRow reach now n b (first_failed now branches here) (RunsPlan reach s now n rest further how) further how) (sym (tried_now ∙ tried))
        (subst (λ o. AfterRow reach now n out o (RunsPlan reach s now n rest further how) further how) (sym (failed_now ∙ first)) after),
  )

  -- WHO ASKS

  at_once_now : are_tries_at_once now branches here ≡ true
  at_once_now = sym (at_once_alike old now branches here same_now) ∙ ran.at_once

  -- by one of the branches, all of which were begun
  pub one_asks : (n : Name) (rest : Plan) (further : List Deed) (by target : Name) → each_begun old branches here ≡ true → (each_tried old false branches here ≡ true) ⊎ (further ≡ []) → RowAsks old branches here by target → Asks now n (Plan.par_then branches rest) (here ++ further) by target
  one_asks n rest further by target begun out asks = (here, further, refl, at_once_now, by_tried (each_tried now false branches here) tried_now out)
    where
      one : IsTrue (each_begun now branches here) × RowAsks now branches here by target
      one = (begun_now ∙ begun, row_asks_still s p setting newer past legal by target branches here same_now (subst (λ b. RunsRow Reach.to_the_end s old b branches here) begun ran.runs) asks)

      by_tried : (b : Bool) → b ≡ each_tried old false branches here → (each_tried old false branches here ≡ true) ⊎ (further ≡ [])
          → DoesInRow now b (first_failed now branches here) (IsTrue (each_begun now branches here) × RowAsks now branches here by target) further (Asks now n rest further by target)
      by_tried true is out = inl one
      by_tried false is (inl all) = absurd (true≢false (sym (is ∙ all)))
      by_tried false is (inr none) = (none, one)

  -- behind them
  pub rest_asks : (n : Name) (rest : Plan) (further : List Deed) (by target : Name) (out : Bool) (failed : Option Deed) → each_tried old false branches here ≡ out → first_failed old branches here ≡ failed
      → MatchBool out (DoesAfter now failed true (Asks now n rest further by target)) ⊥ → Asks now n (Plan.par_then branches rest) (here ++ further) by target
  rest_asks n rest further by target true failed tried first asks = (
    here,
    further,
    refl,
    at_once_now,
    subst (λ b. DoesInRow now b (first_failed now branches here) (IsTrue (each_begun now branches here) × RowAsks now branches here by target) further (Asks now n rest further by target)) (sym (tried_now ∙ tried))
        (inr (subst (λ o. DoesAfter now o true (Asks now n rest further by target)) (sym (failed_now ∙ first)) asks)),
  )
  rest_asks n rest further by target false failed tried first asks = absurd asks
