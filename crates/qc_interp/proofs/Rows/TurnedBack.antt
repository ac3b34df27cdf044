-- Of branches at once only the first few were begun, and their first tries were then aborted as orphans, or as many as the
-- run came to: what is left.
use Rattle.std.proofs.Common.{◌≡◌, ℕ, ◌<◌, ◌≤◌, ◌+◌, arith, Bool, true, false, List, [], ◌∷◌, ◌++◌, length, map, refl, sym, ap, ◌∙◌, subst, append-nil}
use mathlib.Core.Bool.{true≢false}
use Rattle.std.specs.Prelude.{Option, None, Some, is_some, slice_get}
use Rattle.std.specs.List.{AllByRecursion, list_all}
use Rattle.std.proofs.lemmas.Bool.{and_from}
use Rattle.std.proofs.lemmas.List.{length-append}
use Rattle.std.proofs.lemmas.List.Elements.{filter-append}
use Rattle.std.proofs.lemmas.List.Folds.{list_all-append}
use Rattle.qc_event.specs.declared.event.Entry.{Entry}
use Rattle.qc_event.specs.History.{Past, Name, end, end_in, is_ready, children}
use Rattle.qc_event.specs.Standing.{Started, open_child}
use Rattle.qc_event.proofs.Booleans.{all_wider}
use Rattle.qc_event.proofs.Histories.{earliest-append}
use Rattle.qc_event.proofs.LastNumber.{child_longer}
use Rattle.qc_event.proofs.Later.{started_still}
use Rattle.qc_event.proofs.OneEntry.{stays_some}
use Rattle.qc_script.specs.Calls.{IsOfSession, is_over}
use Rattle.qc_script.specs.Client.{Client, mine, is_own, scope, Made, IsLater, AreOurs}
use Rattle.qc_script.specs.Numbers.{each}
use Rattle.qc_interp.specs.Adding.{stays_in, AllStayIn}
use Rattle.qc_interp.specs.Branches.{Branch, with_all, RanRow}
use Rattle.qc_interp.specs.Deeds.{Deed, deeds}
use Rattle.qc_interp.specs.Follows.{IsUnended}
use Rattle.qc_interp.specs.Reach.{Reach, AtTheEnd}
use Rattle.qc_interp.specs.Running.{Runs, LeavesIt, LeavesAt}
use Rattle.qc_interp.specs.Turns.{seat_of, takes_turn, is_alone}
use Rattle.qc_interp.proofs.Scopes.Adding.{all_later, stays_at}
use Rattle.qc_interp.proofs.Scopes.Beside.{seat_later}
use Rattle.qc_interp.proofs.Following.Deeds.{begun, begun-append, children_are}
use Rattle.qc_interp.proofs.Scopes.Growth.{made_is, made_later, later_trans, ours_before}
use Rattle.qc_interp.proofs.Branching.Joined.{joined_ours}
use Rattle.qc_interp.proofs.Listing.Places.{at_place, each_place}
use Rattle.qc_interp.proofs.Rows.Back.{turned_by, turns_back, each_turned, all_orphan_ends, ready_kept, deeds_kept, end_kept}
use Rattle.qc_interp.proofs.Rows.Few.{HasOnlyBegun, only_firsts, first_is_try}
use Rattle.qc_interp.proofs.Rows.Here.{row_deeds}
use Rattle.qc_interp.proofs.Rows.Leaves.{longer_other, row_joined, row_later, mine_before, row_ready, row_unended, leaves_above, row_inside}
use Rattle.qc_interp.proofs.Rows.Runs.{none_open, each_ended}
use Rattle.qc_interp.proofs.Rows.Turned.{turned_turns, turned_alone}
use Rattle.qc_interp.proofs.Rows.Turns.{row_turns}
use Rattle.qc_interp.proofs.Scopes.Scope.{child_scope, not_one}
use Rattle.qc_interp.proofs.Following.Seen.{same_end}

-- LISTS

pass_all : (f : Entry → Bool) (es : Past) → AllByRecursion (λ e. f e ≡ true) es → list_all f es ≡ true
pass_all f [] all = refl
pass_all f (e ∷ es) all = and_from _ _ all.0 (pass_all f es all.1)

begun_children : (ts : List Name) → begun (map Deed.child ts) ≡ ts
begun_children [] = refl
begun_children (t ∷ ts) = ap (λ l. t ∷ l) (begun_children ts)

pass_firsts : (f : Name → Bool) (bs : List Branch) → AllByRecursion (λ (b : Branch). f b.first ≡ true) bs → list_all f (map (λ (b : Branch). b.first) bs) ≡ true
pass_firsts f [] all = refl
pass_firsts f (b ∷ bs) all = and_from _ _ all.0 (pass_firsts f bs all.1)

module _ (Stopped : Branch → Type 0) (c : Client) (of : Name) (before shown now : Past) (bs : List Branch) (row : RanRow Reach.cut_off Stopped c of before shown now bs) (runs : Runs c of before) (only : AllByRecursion (HasOnlyBegun c now) bs)
    (above : List (Option Name)) (x : Past) (made : Made (with_all c bs) (turns_back (with_all c bs) bs above) now x) where
  abbrev d : Client
  d = with_all c bs

  abbrev es : Past
  es = turns_back d bs above

  pub turned_mine : mine (with_all c bs) x ≡ turns_back (with_all c bs) bs above ++ mine (with_all c bs) now
  turned_mine = made_is d es now x made

  abbrev pub turned_later : IsLater (with_all c bs) before x
  turned_later = later_trans d before now x (row_later Reach.cut_off Stopped c of before shown now bs row) (made_later d es now x made)

  -- THOSE AT AND ABOVE THE TRANSACTION

  turned_deeds : (n : Name) → deeds (mine d x) n ≡ deeds (mine d now) n
  turned_deeds n = ap (λ h. deeds h n) turned_mine ∙ deeds_kept es (mine d now) (all_orphan_ends d bs above) n

  turned_ready : (n : Name) → is_ready (mine d x) n ≡ is_ready (mine d now) n
  turned_ready n = ap (λ h. is_ready h n) turned_mine ∙ ready_kept es (mine d now) (all_orphan_ends d bs above) n

  turned_end : (p : Name) → length p ≤ length of → end (mine d x) p ≡ end (mine d now) p
  turned_end p short =
      ap (λ h. end h p) turned_mine ∙ end_kept p d bs above (mine d now) (each_place _ bs (λ i b at.
      longer_other b.first p (let l = child_longer of b.first (first_is_try Reach.cut_off Stopped c of before shown now bs row only i b at).child in omega (arith, l, short))))

  turned_above : (p r : Name) → of ≡ p ++ r → 0 < length r → LeavesIt d p before x
  turned_above p r is far =
      let left = leaves_above Reach.cut_off Stopped c of before shown now bs row p r is far in
      let l : length of ≡ length p + length r = ap length is ∙ length-append p r in
      record {
        deeds = turned_deeds p ∙ left.deeds;
        ready = turned_ready p ∙ left.ready;
        unended = λ was. subst (IsUnended p) (sym (turned_end p (omega (arith, l)))) (left.unended was);
      }

  pub turned_unready : is_ready (mine (with_all c bs) x) of ≡ false
  turned_unready =
      turned_ready of ∙ row_ready Reach.cut_off Stopped c of before shown now bs row of (omega arith)
      ∙ ap (λ h. is_ready h of) (mine_before Reach.cut_off Stopped c of before shown now bs row) ∙ (runs.above of [] (sym (append-nil of)) runs.nonroot).1

  turned_inside : AllStayIn d (scope d of) (made.newer ++ row.made.newer)
  turned_inside =
      all_later (stays_in (scope d of)) d row.made.newer made.newer (row_inside Reach.cut_off Stopped c of before shown now bs row runs)
      (ap (list_all (stays_in (scope d of))) made.made ∙ pass_all (stays_in (scope d of)) es (each_turned d (λ e. stays_in (scope d of) e ≡ true) bs above (each_place _ bs (λ i b at a.
      stays_at (scope d of) b.first (turned_by d b a) refl refl (child_scope d of b.first (first_is_try Reach.cut_off Stopped c of before shown now bs row only i b at).child)))))

  -- what is left, where the transaction is alone at the end
  leaves_so : (reach : Reach) → (AreOurs d of x → is_alone (mine c before) of ≡ true → AtTheEnd reach (is_alone (mine d x) of ≡ true)) → LeavesAt reach d of before x
  leaves_so reach alone_then = record {
    later = turned_later;
    above = turned_above;
    inside = turned_inside;
    over = by_reach reach;
    turns = λ ours was alone.
        let ours_now : AreOurs d of now = ours_before d of now x (made_later d es now x made) ours in
        let alone_too = ap (λ h. is_alone h of) (sym (mine_before Reach.cut_off Stopped c of before shown now bs row)) ∙ alone in (
          ap (each takes_turn) turned_mine
              ∙ turned_turns Reach.cut_off Stopped c of before shown now bs row runs only ours_now alone_too above
              (row_turns Reach.cut_off Stopped c of before shown now bs row runs ours_now alone_too (ap (each takes_turn) (sym (mine_before Reach.cut_off Stopped c of before shown now bs row)) ∙ was)),
          alone_then ours alone_too,
        );
  }
    where
      by_reach : (r : Reach) → AtTheEnd r ((is_ready (mine d before) of ≡ true → is_over before of ≡ true) → is_ready (mine d x) of ≡ true → is_over x of ≡ true)
      by_reach Reach.to_the_end = λ was ready. absurd (true≢false (sym ready ∙ turned_unready))
      by_reach Reach.cut_off = tt

  pub turned_cut : LeavesAt Reach.cut_off (with_all c bs) of before x
  turned_cut = leaves_so Reach.cut_off (λ ours alone. tt)

  pub turned_unended : (p r : Name) → of ≡ p ++ r → 0 < length p → IsUnended p (end (mine (with_all c bs) x) p)
  turned_unended p r is far =
      let l : length of ≡ length p + length r = ap length is ∙ length-append p r in
      subst (IsUnended p) (sym (turned_end p (omega (arith, l))))
      (row_unended Reach.cut_off Stopped c of before shown now bs row p (omega (arith, l)) (subst (λ h. IsUnended p (end h p)) (sym (mine_before Reach.cut_off Stopped c of before shown now bs row)) (runs.above p r is far).0))

  -- the transaction's deeds are the first tries
  pub turned_firsts : deeds (mine (with_all c bs) x) of ≡ deeds (mine (with_all c bs) before) of ++ map Deed.child (map (λ (b : Branch). b.first) bs)
  turned_firsts =
      turned_deeds of ∙ row_deeds Reach.cut_off Stopped c of before shown now bs row
      ∙ ap (λ l. deeds (mine c before) of ++ l) (only_firsts Reach.cut_off Stopped c of before shown now bs row only)
      ∙ ap (λ h. deeds h of ++ map Deed.child (map (λ (b : Branch). b.first) bs)) (sym (mine_before Reach.cut_off Stopped c of before shown now bs row))

  -- WHERE EACH FIRST TRY HAS ENDED

  module _ (all : AllByRecursion (λ (b : Branch). is_some (end x b.first) ≡ true) bs) where
    -- where all that concerns the transaction is the client's, the client ended them
    pub turned_ended : AreOurs (with_all c bs) of x → (i : ℕ) (b : Branch) → slice_get bs i ≡ Some b → is_some (end (mine (with_all c bs) x) b.first) ≡ true
    turned_ended ours i b at =
        let child = (first_is_try Reach.cut_off Stopped c of before shown now bs row only i b at).child in
        ap is_some (same_end d of x ours b.first (child_scope d of b.first child) (not_one b.first (let l = child_longer of b.first child in omega (arith, l, runs.nonroot))))
        ∙ at_place (λ (y : Branch). is_some (end x y.first) ≡ true) bs i b all at

    pub turned_leaves : LeavesAt Reach.to_the_end (with_all c bs) of before x
    turned_leaves = leaves_so Reach.to_the_end (λ ours alone.
        ap (λ h. is_alone h of) turned_mine ∙ turned_alone Reach.cut_off Stopped c of before shown now bs row runs only (ours_before d of now x (made_later d es now x made) ours) alone above
        (λ i b at. ap (λ h. is_some (end h b.first)) (sym turned_mine) ∙ turned_ended ours i b at))

    abbrev ended : Name → Bool
    ended t = is_some (end (mine d x) t)

    turned_closed : AreOurs d of x → open_child (mine d x) of ≡ None
    turned_closed ours =
        none_open (mine d x) (children (mine d x) of)
        (ap (list_all ended) (children_are (mine d x) of ∙ ap begun turned_firsts ∙ begun-append (deeds (mine d before) of) (map Deed.child (map (λ (b : Branch). b.first) bs))
        ∙ ap (λ l. l ++ begun (map Deed.child (map (λ (b : Branch). b.first) bs))) (sym (children_are (mine d before) of)) ∙ ap (λ l. children (mine d before) of ++ l) (begun_children (map (λ (b : Branch). b.first) bs)))
        ∙ list_all-append ended (children (mine d before) of) (map (λ (b : Branch). b.first) bs)
        ∙ and_from _ _ old (pass_firsts ended bs (each_place _ bs (turned_ended ours))))
      where
        ours_then : AreOurs c of before
        ours_then = joined_ours c d before (row_joined Reach.cut_off Stopped c of before shown now bs row) of (ours_before d of before x turned_later ours)

        old : list_all ended (children (mine d before) of) ≡ true
        old =
            ap (λ l. list_all ended (children l of)) (mine_before Reach.cut_off Stopped c of before shown now bs row)
            ∙ all_wider (λ t. is_some (end (mine c before) t)) ended (children (mine c before) of) (λ t was.
            ap (λ h. is_some (end (mine d h) t)) turned_later.grown ∙ ap (λ h. is_some (end h t)) (filter-append (λ (e : Entry). is_own d e.seat) turned_later.newer before)
            ∙ ap is_some (earliest-append (λ e. end_in t e.event) (mine d turned_later.newer) (mine d before))
            ∙ stays_some _ _ (ap (λ l. is_some (end l t)) (mine_before Reach.cut_off Stopped c of before shown now bs row) ∙ was)) (each_ended (mine c before) (children (mine c before) of) (runs.closed ours_then))

    pub turned_runs : Runs (with_all c bs) of x
    turned_runs = record {
      legal = made.legal;
      user = subst (λ h. Started h of (λ b. IsOfSession c.session b.kind)) (sym turned_later.grown) (started_still turned_later.newer before of (λ b. IsOfSession c.session b.kind) runs.user);
      seat = ap (λ h. seat_of h of) turned_later.grown ∙ seat_later turned_later.newer before of c.number runs.seat;
      nonroot = runs.nonroot;
      below = runs.below;
      above = λ p r is far.
          let l : length of ≡ length p + length r = ap length is ∙ length-append p r in
          (turned_unended p r is far, turned_ready p ∙ row_ready Reach.cut_off Stopped c of before shown now bs row p (omega (arith, l)) ∙ ap (λ h. is_ready h p) (mine_before Reach.cut_off Stopped c of before shown now bs row) ∙ (runs.above p r is far).1);
      closed = turned_closed;
    }
