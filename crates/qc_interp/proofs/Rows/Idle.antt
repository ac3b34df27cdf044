-- Branches at once: all have begun before one of them does anything.
use Rattle.std.proofs.Common.{◌≡◌, inl, inr, ℕ, zero, Bool, true, false, List, [], ◌∷◌, ◌++◌, length, map, refl, sym, ap, ◌∙◌, subst, arith, append-nil}
use mathlib.Core.Bool.{true≢false}
use Rattle.std.specs.Prelude.{◌==◌, None, Some, is_some, not, slice_get, option_to_list, if◌then◌else◌}
use Rattle.std.specs.List.{AllByRecursion, list_all}
use Rattle.std.proofs.lemmas.Bool.{and_parts, and_from, or_cases, or_left, or_right, false_from_ne_true, eqb-true}
use Rattle.qc_event.specs.declared.event.Entry.{Entry}
use Rattle.qc_event.specs.declared.event.Kind.TheVariants as kind
use Rattle.qc_event.specs.History.{Past, Name, Begun, start, end, is_ready, children, child_in}
use Rattle.qc_event.specs.Legal.{Legal}
use Rattle.qc_event.proofs.Absent.{same_itself}
use Rattle.qc_event.proofs.LastNumber.{child_longer, no_child_length}
use Rattle.qc_event.proofs.OneEntry.{stays_some}
use Rattle.qc_script.specs.Client.{Client, mine, is_own, AreOurs}
use Rattle.qc_script.specs.Numbers.{each}
use Rattle.qc_script.specs.Plan.{Plan, row_of}
use Rattle.qc_interp.specs.Branches.{Branch, with_all, IsBegun, RanRow}
use Rattle.qc_interp.specs.Deeds.{Deed, deeds, deed_in, OfChild}
use Rattle.qc_interp.specs.Reach.{Reach}
use Rattle.qc_interp.specs.Rows.{is_try, tries_among, deed_idle, starts_where, next_starts, begin_first}
use Rattle.qc_interp.specs.Running.{Runs}
use Rattle.qc_interp.specs.Turns.{is_done}
use Rattle.qc_interp.proofs.Following.Behind.{started_once}
use Rattle.qc_interp.proofs.Following.Turning.{itself}
use Rattle.qc_interp.proofs.Listing.Lists.{all_parts}
use Rattle.qc_interp.proofs.Listing.Places.{at_place, each_place}
use Rattle.qc_interp.proofs.Rows.Agrees.{KeepsMore, start_agrees, done_agrees, deeds_agree}
use Rattle.qc_interp.proofs.Rows.Deeds.{starts_it}
use Rattle.qc_interp.proofs.Rows.Here.{HaveOwnBodies, here, tries_here}
use Rattle.qc_interp.proofs.Rows.SameDeeds.{all_among}
use Rattle.qc_interp.proofs.Rows.Stands.{all_of_names, first_try}
use Rattle.qc_interp.proofs.Rows.Tries.{IsTry, begun_at, try_at, Owner, owners, keeps_more}
use Rattle.qc_interp.proofs.Scopes.Began.{every_more}

-- WHO HAS DONE NOTHING

-- who has done nothing had done nothing before
module _ (e : Entry) (past : Past) where
  none_before : (n : Name) → (length (deeds (e ∷ past) n) == 0) ≡ true → (length (deeds past n) == 0) ≡ true
  none_before n h = by_deeds (deeds past n) h
    where
      by_deeds : (ds : List Deed) → (length (ds ++ option_to_list (deed_in past n e.event)) == 0) ≡ true → (length ds == 0) ≡ true
      by_deeds [] g = refl
      by_deeds (d ∷ ds) g = absurd (omega (arith, eqb-true (length (d ∷ ds ++ option_to_list (deed_in past n e.event))) 0 g))

  done_since : (n : Name) → is_done past n ≡ true → is_done (e ∷ past) n ≡ true
  done_since n h = elim (or_cases (is_some (end past n)) (is_ready past n) h) [
    | inl ended ↦ or_left _ _ (stays_some (end past n) _ ended)
    | inr ready ↦ or_right _ _ (stays_some _ _ ready)
  ]

  idle_before : (d : Deed) → deed_idle (e ∷ past) d ≡ true → deed_idle past d ≡ true
  idle_before (Deed.child n) h =
      let parts = and_parts (length (deeds (e ∷ past) n) == 0) (not (is_done (e ∷ past) n)) h in
      and_from _ _ (none_before n parts.0) (ap not (false_from_ne_true (is_done past n) (λ done. true≢false (sym parts.1 ∙ ap not (done_since n done)))))
  idle_before (Deed.mark m) h = refl

  all_idle_before : (ds : List Deed) → list_all (deed_idle (e ∷ past)) ds ≡ true → list_all (deed_idle past) ds ≡ true
  all_idle_before [] h = refl
  all_idle_before (d ∷ ds) h = let parts = and_parts (deed_idle (e ∷ past) d) (list_all (deed_idle (e ∷ past)) ds) h in and_from _ _ (idle_before d parts.0) (all_idle_before ds parts.1)

-- what was started until now was started while they had done nothing
started_idle : (ds : List Deed) (y : Name) (past : Past) → list_all (deed_idle past) ds ≡ true → each (starts_where deed_idle ds y) past ≡ true
started_idle ds y [] h = refl
started_idle ds y (e ∷ past) h = let before = all_idle_before e past ds h in and_from _ _ (started_idle ds y past before) (or_right _ _ before)

-- OVER A ROW

-- where each deed starts so, the first of each branch does
pub each_begins : (past : Past) (branches : Plan) (ds : List Deed) → AllByRecursion (OfChild (λ t. each (starts_where deed_idle ds t) past ≡ true)) ds → begin_first past branches ds ≡ true
each_begins past (Plan.child_then number tries must inner others) ds all = and_from _ _ (by_first (tries_among past number ds) (all_among (is_try past number) _ ds all)) (each_begins past others ds all)
  where
    by_first : (ts : List Deed) → AllByRecursion (OfChild (λ t. each (starts_where deed_idle ds t) past ≡ true)) ts → next_starts deed_idle past ds ts ≡ true
    by_first [] so = refl
    by_first (Deed.child t ∷ ts) so = so.0
    by_first (Deed.mark m ∷ ts) so = refl
each_begins past _ ds all = refl

begins_of : (past : Past) (ds : List Deed) (bs : List Branch) → AllByRecursion (λ (b : Branch). next_starts deed_idle past ds (tries_among past b.body.number ds) ≡ true) bs → begin_first past (row_of (map (λ (b : Branch). b.body) bs)) ds ≡ true
begins_of past ds [] all = refl
begins_of past ds (b ∷ bs) all = and_from _ _ all.0 (begins_of past ds bs all.1)

module _ (reach : Reach) (Stopped : Branch → Type 0) (c : Client) (of : Name) (before shown now : Past) (bs : List Branch) (row : RanRow reach Stopped c of before shown now bs) where
  abbrev d : Client
  d = with_all c bs

  abbrev ds : List Deed
  ds = here reach Stopped c of before shown now bs row

  -- WHEN THE STARTS WERE SHOWN

  module _ (i : ℕ) (b : Branch) (at : slice_get bs i ≡ Some b) where
    first_is_try : IsTry of now b b.first
    first_is_try = try_at reach Stopped c of before shown now bs row i b at zero b.first (ap (λ l. slice_get l zero) (first_try reach Stopped c of before shown now bs row i b at))

    begun : IsBegun c of before shown b
    begun = begun_at reach Stopped c of before shown now bs row i b at

    keeps : (t : Name) → IsTry of now b t → AllByRecursion (KeepsMore (λ e. is_own b.client e.seat) (λ e. is_own d e.seat) t) shown
    keeps t try = (all_parts _ row.since.newer shown (subst (AllByRecursion (KeepsMore (λ e. is_own b.client e.seat) (λ e. is_own d e.seat) t)) row.since.grown (keeps_more reach Stopped c of before shown now bs row i b at t try))).1

    -- no try had done anything
    pub try_idle : (t : Name) → IsTry of now b t → deed_idle (mine (with_all c bs) shown) (Deed.child t) ≡ true
    try_idle t try = and_from _ _ (ap (λ l. length l == 0) none) (ap not unended)
      where
        none : deeds (mine d shown) t ≡ []
        none =
            sym (deeds_agree (λ e. is_own b.client e.seat) (λ e. is_own d e.seat) t t (itself t) shown (keeps t try))
            ∙ ap (λ h. deeds h t) begun.made
            ∙ ap (λ (x : Bool). option_to_list (if x then Some (Deed.child b.first) else None)) (no_child_length t b.first (λ h. omega (arith, h, child_longer of t try.child, child_longer of b.first first_is_try.child)))

        unended : is_done (mine d shown) t ≡ false
        unended = sym (done_agrees (λ e. is_own b.client e.seat) (λ e. is_own d e.seat) t t (itself t) shown (keeps t try)) ∙ ap (λ h. is_done h t) begun.made

    -- and the first had started
    first_started : is_some (start (mine d shown) b.first) ≡ true
    first_started =
        ap is_some (sym (start_agrees (λ e. is_own b.client e.seat) (λ e. is_own d e.seat) b.first b.first (itself b.first) shown (keeps b.first first_is_try)) ∙ ap (λ h. start h b.first) begun.made)
        ∙ ap (λ (x : Bool). is_some {T = Begun} (if x then Some (record { seat = b.client.number; kind = kind.User c.session b.body.number }) else None)) (same_itself b.first)

    -- so it started while they had done nothing
    pub first_ahead : (ts : List Deed) → list_all (deed_idle (mine (with_all c bs) shown)) ts ≡ true → each (starts_where deed_idle ts b.first) (mine (with_all c bs) now) ≡ true
    first_ahead ts idle =
        subst (λ h. each (starts_where deed_idle ts b.first) (mine d h) ≡ true) (sym row.since.grown)
        (started_once deed_idle (λ e. is_own d e.seat) c.setting row.since.newer shown ts b.first (subst (Legal c.setting) row.since.grown row.since.legal) first_started (started_idle ts b.first (mine d shown) idle))

  -- THE TRIES OF ALL

  all_idle : list_all (deed_idle (mine d shown)) ds ≡ true
  all_idle =
      sym (all_of_names (deed_idle (mine d shown)) (children (mine d row.made.newer) of))
      ∙ subst (λ l. list_all (λ t. deed_idle (mine d shown) (Deed.child t)) (children (mine d l) of) ≡ true) (append-nil row.made.newer)
      (every_more (λ t. deed_idle (mine d shown) (Deed.child t)) (λ e. child_in of e.event) (λ (e : Entry). is_own d e.seat) row.made.newer [] (each_place _ row.made.newer (λ k e is kept m tells.
      of_owner e m tells (at_place (λ y. is_own d y.seat ≡ true → Owner reach Stopped c of before shown now bs row y) row.made.newer k e (owners reach Stopped c of before shown now bs row) is kept))) refl)
    where
      of_owner : (e : Entry) (m : Name) → child_in of e.event ≡ Some m → Owner reach Stopped c of before shown now bs row e → deed_idle (mine d shown) (Deed.child m) ≡ true
      of_owner e m tells o = ap (λ n. deed_idle (mine d shown) (Deed.child n)) (starts_it of o.try m e o.is_try.child o.stays tells) ∙ try_idle o.place o.one o.at o.try o.is_try

  pub row_begins_first : Runs c of before → AreOurs (with_all c bs) of now → HaveOwnBodies bs → begin_first (mine (with_all c bs) now) (row_of (map (λ (b : Branch). b.body) bs)) (here reach Stopped c of before shown now bs row) ≡ true
  row_begins_first runs ours own = begins_of (mine d now) ds bs (each_place _ bs (λ i b at.
      ap (next_starts deed_idle (mine d now) ds) (tries_here reach Stopped c of before shown now bs row runs ours own i b at ∙ ap (map Deed.child) (first_try reach Stopped c of before shown now bs row i b at))
      ∙ first_ahead i b at ds all_idle))
