-- Of branches at once only the first few were begun, and their first tries were then aborted as orphans: that is what the
-- step asks for, or as far as the run came.
use Rattle.std.proofs.Common.{◌≡◌, ◌⊎◌, inl, inr, ℕ, ◌<◌, true, false, List, [], ◌∷◌, ◌++◌, length, map, refl, sym, ap, ◌∙◌, subst, append-nil, append_assoc}
use mathlib.Core.Bool.{true≢false}
use Rattle.std.specs.Prelude.{Option, None, Some, is_some, slice_get, option_map}
use Rattle.std.specs.List.{AllByRecursion, list_all}
use Rattle.std.specs.Option.{option_or, option_map_or}
use Rattle.std.proofs.lemmas.Bool.{and_from, eq-eqb}
use Rattle.qc_event.specs.declared.event.Entry.{Entry}
use Rattle.qc_event.specs.declared.event.Kind.TheVariants as kind
use Rattle.qc_event.specs.History.{Past, Name, Begun, start, end, end_in, is_ready, kind_of}
use Rattle.qc_event.specs.Legal.{Legal}
use Rattle.qc_event.proofs.Histories.{earliest-append}
use Rattle.qc_script.specs.Client.{Client, mine, is_own, Made}
use Rattle.qc_script.specs.Numbers.{each}
use Rattle.qc_script.specs.Plan.{Plan, Numbered, row_of}
use Rattle.qc_interp.specs.Asking.{IsAskedBy, AllAsked}
use Rattle.qc_interp.specs.Branches.{Branch, with_all, RanRow, row_step, FrontRow}
use Rattle.qc_interp.specs.Deeds.{Deed, deeds, OfChild}
use Rattle.qc_interp.specs.Follows.{IsUnended, WasOrphan, HasNotEnded, RunsRow}
use Rattle.qc_interp.specs.Reach.{Reach}
use Rattle.qc_interp.specs.Rows.{is_of_body, is_try, each_begun, each_tried, first_failed, are_tries_at_once, each_own_seat, opens_seat, deed_idle, starts_where, begin_first}
use Rattle.qc_interp.specs.Running.{Runs, EndsAt, CutOff}
use Rattle.qc_interp.proofs.Listing.Lists.{all_join}
use Rattle.qc_interp.proofs.Following.Behind.{started_once}
use Rattle.qc_interp.proofs.Scopes.Beside.{seats_later, start_of_kind}
use Rattle.qc_interp.proofs.Scopes.Mine.{is_some_by}
use Rattle.qc_interp.proofs.Branching.Branches.{AreFirstTries, HaveOwnNumbers, WasTryTurnedBack, first_at_once, first_own_seat, first_unbegun, first_untried, turned_back_runs}
use Rattle.qc_interp.proofs.Listing.Places.{each_place}
use Rattle.qc_interp.proofs.Rows.Back.{turns_back, each_turned, all_orphan_ends, start_kept, ready_kept, deeds_kept, orphan_or_none}
use Rattle.qc_interp.proofs.Rows.Cut.{runs_after}
use Rattle.qc_interp.proofs.Rows.Few.{HasOnlyBegun, first_is_try, first_tries, of_firsts, first_kind, first_unended, first_unready, first_idle, fewer, starts_only}
use Rattle.qc_interp.proofs.Rows.Front.{front_of}
use Rattle.qc_interp.proofs.Rows.Idle.{each_begins, try_idle, first_ahead}
use Rattle.qc_interp.proofs.Rows.Leaves.{mine_now}
use Rattle.qc_interp.proofs.Rows.Outcome.{first_opens}
use Rattle.qc_interp.proofs.Rows.TurnedBack.{turned_mine, turned_later, turned_cut, turned_firsts, turned_unended, turned_unready, turned_ended}
use Rattle.qc_interp.proofs.Rows.SameDeeds.{failed_is}

module _ (Stopped : Branch → Type 0) (c : Client) (of : Name) (before shown now : Past) (bs : List Branch) (row : RanRow Reach.cut_off Stopped c of before shown now bs) (runs : Runs c of before) (only : AllByRecursion (HasOnlyBegun c now) bs)
    (above : List (Option Name)) (x : Past) (made : Made (with_all c bs) (turns_back (with_all c bs) bs above) now x) (others : List Numbered) (some : 0 < length others) (own : HaveOwnNumbers (map (λ (b : Branch). b.body) bs ++ others))
    (tried : AllByRecursion (λ (b : Numbered). 0 < b.tries) (map (λ (b : Branch). b.body) bs ++ others)) where
  abbrev d : Client
  d = with_all c bs

  abbrev es : Past
  es = turns_back d bs above

  abbrev bodies : List Numbered
  bodies = map (λ (b : Branch). b.body) bs ++ others

  abbrev firsts : List Deed
  firsts = map Deed.child (map (λ (b : Branch). b.first) bs)

  abbrev mine_is : mine d x ≡ es ++ mine d now
  mine_is = turned_mine Stopped c of before shown now bs row runs only above x made

  -- ONE FIRST TRY

  module _ (i : ℕ) (b : Branch) (at : slice_get bs i ≡ Some b) where
    kind_now : kind_of (mine d now) b.first ≡ Some (kind.User c.session b.body.number)
    kind_now = first_kind Reach.cut_off Stopped c of before shown now bs row only i b at

    started : is_some (start (mine d now) b.first) ≡ true
    started = let s = start_of_kind (mine d now) b.first (kind.User c.session b.body.number) kind_now in is_some_by _ s.0 s.1

    kind_is : kind_of (mine d x) b.first ≡ Some (kind.User c.session b.body.number)
    kind_is = ap (λ h. kind_of h b.first) mine_is ∙ ap (option_map (λ (y : Begun). y.kind)) (start_kept es (mine d now) (all_orphan_ends d bs above) b.first) ∙ kind_now

    is_known : is_try (mine d x) b.body.number (Deed.child b.first) ≡ true
    is_known = ap (λ o. option_map_or (is_of_body b.body.number) o false) kind_is ∙ eq-eqb b.body.number b.body.number refl

    opens : opens_seat (mine d x) b.first ≡ true
    opens =
        ap (λ h. opens_seat h b.first) mine_is ∙ sym (seats_later es (mine d now) b.first (kind.User c.session b.body.number) kind_now).1
        ∙ first_opens Reach.cut_off Stopped c of before shown now bs row i b at

    idle : deeds (mine d x) b.first ≡ []
    idle = ap (λ h. deeds h b.first) mine_is ∙ deeds_kept es (mine d now) (all_orphan_ends d bs above) b.first ∙ first_idle Reach.cut_off Stopped c of before shown now bs row only i b at

    unready : is_ready (mine d x) b.first ≡ false
    unready = ap (λ h. is_ready h b.first) mine_is ∙ ready_kept es (mine d now) (all_orphan_ends d bs above) b.first ∙ first_unready Reach.cut_off Stopped c of before shown now bs row only i b at

    end_is : end (mine d x) b.first ≡ end es b.first
    end_is =
        ap (λ h. end h b.first) mine_is ∙ earliest-append (λ e. end_in b.first e.event) es (mine d now)
        ∙ ap (λ o. option_or o (end es b.first)) (first_unended Reach.cut_off Stopped c of before shown now bs row only i b at)

    -- it is an orphan, or runs where the run was cut off
    orphan_or_runs : WasOrphan (end (mine d x) b.first) ⊎ HasNotEnded Reach.cut_off (mine d x) b.first (end (mine d x) b.first)
    orphan_or_runs = elim (orphan_or_none b.first es (all_orphan_ends d bs above)) [
      | inl none ↦ inr (inr (end_is ∙ none, unready))
      | inr orphan ↦ inl (subst WasOrphan (sym end_is) orphan)
    ]

    orphan_if_ended : is_some (end (mine d x) b.first) ≡ true → WasOrphan (end (mine d x) b.first)
    orphan_if_ended ended = elim (orphan_or_none b.first es (all_orphan_ends d bs above)) [
      | inl none ↦ absurd (true≢false (sym ended ∙ ap is_some (end_is ∙ none)))
      | inr orphan ↦ subst WasOrphan (sym end_is) orphan
    ]

  -- THE ROW

  are_first : AreFirstTries (mine d x) bodies firsts
  are_first = first_tries (mine d x) bs others (each_place _ bs is_known)

  at_once : are_tries_at_once (mine d x) (row_of bodies) firsts ≡ true
  at_once = first_at_once (mine d x) bodies firsts own tried are_first

  seats : each_own_seat (mine d x) (row_of bodies) firsts ≡ true
  seats = first_own_seat (mine d x) bodies firsts own are_first (of_firsts (λ t. opens_seat (mine d x) t ≡ true) bs (each_place _ bs opens))

  -- each started before one of them did anything
  begins : begin_first (mine d x) (row_of bodies) firsts ≡ true
  begins = each_begins (mine d x) (row_of bodies) firsts (of_firsts (λ t. each (starts_where deed_idle firsts t) (mine d x) ≡ true) bs (each_place _ bs (λ i b at.
      subst (λ h. each (starts_where deed_idle firsts b.first) (mine d h) ≡ true) (sym made.grown)
      (started_once deed_idle (λ e. is_own d e.seat) c.setting made.newer now firsts b.first (subst (Legal c.setting) made.grown made.legal) (started i b at) (first_ahead Reach.cut_off Stopped c of before shown now bs row i b at firsts idle)))))
    where
      all_idle : (xs : List Branch) → AllByRecursion (λ (b : Branch). deed_idle (mine d shown) (Deed.child b.first) ≡ true) xs → list_all (deed_idle (mine d shown)) (map Deed.child (map (λ (b : Branch). b.first) xs)) ≡ true
      all_idle [] all = refl
      all_idle (b ∷ xs) all = and_from _ _ all.0 (all_idle xs all.1)

      idle : list_all (deed_idle (mine d shown)) firsts ≡ true
      idle = all_idle bs (each_place _ bs (λ i b at. try_idle Reach.cut_off Stopped c of before shown now bs row i b at b.first (first_is_try Reach.cut_off Stopped c of before shown now bs row only i b at)))

  few : length firsts < length bodies
  few = fewer Reach.cut_off Stopped c of before shown now bs row only others some

  unbegun : each_begun (mine d x) (row_of bodies) firsts ≡ false
  unbegun = first_unbegun (mine d x) bodies firsts own few are_first

  row_so : (reach : Reach) → ((i : ℕ) (b : Branch) → slice_get bs i ≡ Some b → WasOrphan (end (mine d x) b.first) ⊎ HasNotEnded reach (mine d x) b.first (end (mine d x) b.first)) → RunsRow reach c.session (mine d x) (each_begun (mine d x) (row_of bodies) firsts) (row_of bodies) firsts
  row_so reach turned =
      subst (λ b. RunsRow reach c.session (mine d x) b (row_of bodies) firsts) (sym unbegun)
      (turned_back_runs (mine d x) reach c.session bodies firsts (of_firsts (WasTryTurnedBack reach c.session (mine d x)) bs (each_place _ bs (λ i b at. (b.body.number, kind_is i b at, (idle i b at, turned i b at))))))

  none_asked : (Q : Name → Name → Type 0) → AllAsked d before x Q
  none_asked Q = (
    es ++ mine d row.made.newer,
    mine_is ∙ ap (λ l. es ++ l) (mine_now Reach.cut_off Stopped c of before shown now bs row) ∙ sym (append_assoc es (mine d row.made.newer) (mine d before)),
    all_join (λ (e : Entry). IsAskedBy Q e.event) es (mine d row.made.newer) (each_turned d (λ e. IsAskedBy Q e.event) bs above (each_place _ bs (λ i b at a. tt))) (starts_only Reach.cut_off Stopped c of before shown now bs row only Q),
  )

  -- CUT OFF

  turned_begins : (rest : Plan) → EndsAt Reach.cut_off d of before x (row_step bodies rest)
  turned_begins rest = λ ours. (
    firsts,
    turned_firsts Stopped c of before shown now bs row runs only above x made,
    (
      firsts,
      [],
      sym (append-nil firsts),
      (at_once, seats, begins, refl),
      row_so Reach.cut_off orphan_or_runs,
      runs_after c.session (mine d x) of (end (mine d x) of) unended_of (turned_unready Stopped c of before shown now bs row runs only above x made) (each_tried (mine d x) false (row_of bodies) firsts) (first_failed (mine d x) (row_of bodies) firsts) rest
          (failed_is (mine d x) (OfChild (λ t. Unit {0})) (row_of bodies) firsts (of_firsts (λ t. Unit {0}) bs (each_place _ bs (λ i b at. tt)))),
    ),
    none_asked _,
  )
    where
      unended_of : IsUnended of (end (mine d x) of)
      unended_of = turned_unended Stopped c of before shown now bs row runs only above x made of [] (sym (append-nil of)) runs.nonroot

  pub row_turned_cut : (rest : Plan) → CutOff (with_all c bs) of before x (row_step (map (λ (b : Branch). b.body) bs ++ others) rest)
  row_turned_cut rest = record {
    leaves = turned_cut Stopped c of before shown now bs row runs only above x made;
    unended = turned_unended Stopped c of before shown now bs row runs only above x made of [] (sym (append-nil of)) runs.nonroot;
    begins = turned_begins rest;
  }

  -- WHERE EACH FIRST TRY HAS ENDED

  pub row_turned_front : AllByRecursion (λ (b : Branch). is_some (end x b.first) ≡ true) bs → FrontRow (with_all c bs) of before x (map (λ (b : Branch). b.body) bs ++ others) false None
  row_turned_front all =
      front_of d of before x bodies firsts false None (turned_later Stopped c of before shown now bs row runs only above x made) (turned_firsts Stopped c of before shown now bs row runs only above x made) (λ ours. record {
        run = record {
          at_once = at_once;
          seats = seats;
          begins = begins;
          runs = row_so Reach.to_the_end (λ i b at. inl (orphan_if_ended i b at (turned_ended Stopped c of before shown now bs row runs only above x made all ours i b at)));
          ended = of_firsts (λ t. is_some (end (mine d x) t) ≡ true) bs (each_place _ bs (turned_ended Stopped c of before shown now bs row runs only above x made all ours));
        };
        tried = first_untried (mine d x) bodies firsts own tried few are_first;
        first = λ h. absurd (true≢false (sym h));
        asked = none_asked _;
      })
