-- Of branches at once only the first few were begun, and their first tries were aborted as orphans: these aborts take their
-- turns.
use Rattle.std.proofs.Common.{◌≡◌, ℕ, ◌+◌, Bool, true, false, List, [], ◌∷◌, ◌++◌, length, refl, sym, ap, ◌∙◌, subst}
use mathlib.Core.Bool.{true≢false}
use Rattle.std.specs.Prelude.{Option, Some, is_some, slice_get, ◌==◌, ◌||◌}
use Rattle.std.specs.List.{AllByRecursion, list_all}
use Rattle.std.proofs.lemmas.Bool.{and_parts, and_from, or_left, or_right, eq-eqb, eqb-true, false_from_ne_true}
use Rattle.qc_event.specs.declared.event.Entry.{Entry}
use Rattle.qc_event.specs.History.{Past, Name, every, end}
use Rattle.qc_event.proofs.Booleans.{or_wider, all_wider}
use Rattle.qc_names.specs.Name as name
use Rattle.qc_script.specs.Client.{Client, mine, is_own, AreOurs}
use Rattle.qc_script.specs.Numbers.{each}
use Rattle.qc_interp.specs.Branches.{Branch, with_all, RanRow}
use Rattle.qc_interp.specs.Reach.{Reach}
use Rattle.qc_interp.specs.Running.{Runs}
use Rattle.qc_interp.specs.Turns.{begun_in, is_done, is_alone, are_apart, seat_of, takes_turn}
use Rattle.qc_event.proofs.Lists.{get_first}
use Rattle.qc_interp.proofs.Scopes.Apart.{part_at, child_is_above, apart_by}
use Rattle.qc_interp.proofs.Scopes.Began.{every_more}
use Rattle.qc_interp.proofs.Scopes.Beside.{seat_later}
use Rattle.qc_interp.proofs.Listing.Places.{some_same, at_place, each_place, kept_place}
use Rattle.qc_interp.proofs.Rows.Actors.{done_later}
use Rattle.qc_interp.proofs.Rows.Back.{turned_by, turns_back, each_turned, AreOrphanEnds, all_orphan_ends, begun_kept}
use Rattle.qc_interp.proofs.Rows.Few.{HasOnlyBegun, first_is_try}
use Rattle.qc_interp.proofs.Rows.Outcome.{try_under}
use Rattle.qc_interp.proofs.Rows.Seats.{one_owner}
use Rattle.qc_interp.proofs.Rows.Tries.{IsTry, same_place, same_branch, apart_branches, Owner, owners}
use Rattle.qc_interp.proofs.Rows.Turns.{number_apart, old_begun}
use Rattle.qc_interp.proofs.Scopes.Seats.{own_seat, number_own}
use Rattle.qc_interp.proofs.Following.Turning.{itself}

module _ (reach : Reach) (Stopped : Branch → Type 0) (c : Client) (of : Name) (before shown now : Past) (bs : List Branch) (row : RanRow reach Stopped c of before shown now bs) (runs : Runs c of before) (only : AllByRecursion (HasOnlyBegun c now) bs) where
  abbrev d : Client
  d = with_all c bs

  abbrev h : Past
  h = mine d now

  -- what passes of all that was begun before, and of each first try, passes of all that was begun
  begun_row : (passes : Name → Bool) → ((i : ℕ) (b : Branch) → slice_get bs i ≡ Some b → passes b.first ≡ true) → list_all passes (every (λ e. begun_in e.event) (mine d before)) ≡ true → list_all passes (every (λ e. begun_in e.event) (mine d now)) ≡ true
  begun_row passes first old =
      ap (λ l. list_all passes (every (λ e. begun_in e.event) (mine d l))) row.made.grown
      ∙ every_more passes (λ e. begun_in e.event) (λ (e : Entry). is_own d e.seat) row.made.newer before (each_place _ row.made.newer (λ k e is own m tells.
      of_owner k e m is tells (at_place (λ y. is_own d y.seat ≡ true → Owner reach Stopped c of before shown now bs row y) row.made.newer k e (owners reach Stopped c of before shown now bs row) is own))) old
    where
      of_owner : (k : ℕ) (e : Entry) (m : Name) → slice_get row.made.newer k ≡ Some e → begun_in e.event ≡ Some m → Owner reach Stopped c of before shown now bs row e → passes m ≡ true
      of_owner k e m is tells o =
          let starts = kept_place (λ y. (n : Name) → begun_in y.event ≡ Some n → n ≡ o.one.first) (λ (y : Entry). is_own o.one.client y.seat) now k e
          (subst (AllByRecursion (λ y. (n : Name) → begun_in y.event ≡ Some n → n ≡ o.one.first)) (sym (at_place (HasOnlyBegun c now) bs o.place o.one only o.at)) (λ n at. sym (some_same o.one.first n at), tt))
          (ap (λ l. slice_get l k) row.made.grown ∙ get_first row.made.newer before k e is) o.owns m tells in
          ap passes starts ∙ first o.place o.one o.at

  -- two first tries are apart
  module _ (es : Past) (i j : ℕ) (a b : Branch) (at : slice_get bs i ≡ Some a) (also : slice_get bs j ≡ Some b) (differ : (i == j) ≡ false) where
    not_same : i ≡ j → ⊥
    not_same is = true≢false (sym (eq-eqb i j is) ∙ differ)

    one : IsTry of now a a.first
    one = first_is_try reach Stopped c of before shown now bs row only i a at

    other : IsTry of now b b.first
    other = first_is_try reach Stopped c of before shown now bs row only j b also

    firsts_apart : are_apart (es ++ mine d now) a.first b.first ≡ true
    firsts_apart =
        apart_by (es ++ h) of a.first b.first a.first b.first c.number a.client.number b.client.number
        (part_at of a.first b.first a.first b.first one.child other.child (λ same. not_same (same_place reach Stopped c of before shown now bs row i j a b b.first at also (subst (IsTry of now a) same one) other)) (itself a.first) (itself b.first))
        (child_is_above of a.first a.first one.child (itself a.first)) (child_is_above of b.first b.first other.child (itself b.first))
        (seat_later es h of c.number (own_seat d now of (ap (λ l. seat_of l of) row.made.grown ∙ seat_later row.made.newer before of c.number runs.seat)))
        (seat_later es h a.first a.client.number (try_under reach Stopped c of before shown now bs row i a at a.first one))
        (seat_later es h b.first b.client.number (try_under reach Stopped c of before shown now bs row j b also b.first other))
        (number_apart reach Stopped c of before shown now bs row i a at) (number_apart reach Stopped c of before shown now bs row j b also)
        (false_from_ne_true (a.client.number == b.client.number) (λ same. not_same (one_owner bs a.client.number i j a b (apart_branches reach Stopped c of before shown now bs row) at also (number_own a.client) (ap (is_own b.client) (eqb-true a.client.number b.client.number same) ∙ number_own b.client))))

  module _ (ours : AreOurs (with_all c bs) of now) (alone : is_alone (mine c before) of ≡ true) where
    -- ONE ABORT

    module _ (i : ℕ) (b : Branch) (at : slice_get bs i ≡ Some b) (a : Name) (es : Past) (ends : AreOrphanEnds es) where
      abbrev passes : Name → Bool
      passes m = is_done (es ++ mine d now) m || (name.is_ancestor m b.first || are_apart (turned_by d b a ∷ es ++ mine d now) m b.first)

      first_passes : (j : ℕ) (x : Branch) → slice_get bs j ≡ Some x → passes x.first ≡ true
      first_passes j x here = or_right (is_done (es ++ mine d now) x.first) _ (by_place (j == i) refl)
        where
          by_place : (y : Bool) → (j == i) ≡ y → (name.is_ancestor x.first b.first || are_apart (turned_by d b a ∷ es ++ mine d now) x.first b.first) ≡ true
          by_place true is = or_left (name.is_ancestor x.first b.first) _ (ap (λ (z : Branch). name.is_ancestor z.first b.first) (same_branch reach Stopped c of before shown now bs row j i x b here at (eqb-true j i is)) ∙ itself b.first)
          by_place false is = or_right (name.is_ancestor x.first b.first) _ (firsts_apart (turned_by d b a ∷ es) j i x b here at is)

      old_passes : list_all passes (every (λ e. begun_in e.event) (mine d before)) ≡ true
      old_passes =
          all_wider (λ m. is_done (mine d (row.made.newer ++ before)) m || (name.is_ancestor m b.first || are_apart (turned_by d b a ∷ es ++ mine d now) m b.first)) passes _ (λ m.
          or_wider (is_done (mine d (row.made.newer ++ before)) m) (name.is_ancestor m b.first || are_apart (turned_by d b a ∷ es ++ mine d now) m b.first) (is_done (es ++ mine d now) m) (name.is_ancestor m b.first || are_apart (turned_by d b a ∷ es ++ mine d now) m b.first)
          (λ done. done_later es (mine d now) m (ap (λ l. is_done (mine d l) m) row.made.grown ∙ done)) (λ o. o))
          (old_begun reach Stopped c of before shown now bs row runs ours alone b.first (and_parts (length b.first == length of + 1) (name.is_ancestor of b.first) (first_is_try reach Stopped c of before shown now bs row only i b at).child).1 row.made.newer (λ m. are_apart (turned_by d b a ∷ es ++ mine d now) m b.first))

      turned_takes : takes_turn (turned_by d b a) (es ++ mine d now) ≡ true
      turned_takes = ap (list_all passes) (begun_kept es (mine d now) ends) ∙ begun_row passes first_passes old_passes

    -- ONE AFTER ANOTHER

    -- it is the abort of the first try of one of the branches
    abbrev IsTurned : Entry → Type 0
    IsTurned e = (i : ℕ) × (b : Branch) × (slice_get bs i ≡ Some b) × ((a : Name) × (e ≡ turned_by d b a))

    each_takes : (es : Past) → AllByRecursion IsTurned es → AreOrphanEnds es → each takes_turn (mine d now) ≡ true → each takes_turn (es ++ mine d now) ≡ true
    each_takes [] all ends was = was
    each_takes (e ∷ es) all ends was =
        and_from _ _ (each_takes es all.1 ends.1 was)
        (ap (λ y. takes_turn y (es ++ mine d now)) all.0.3.1 ∙ turned_takes all.0.0 all.0.1 all.0.2 all.0.3.0 es ends.1)

    pub turned_turns : (above : List (Option Name)) → each takes_turn (mine (with_all c bs) now) ≡ true → each takes_turn (turns_back (with_all c bs) bs above ++ mine (with_all c bs) now) ≡ true
    turned_turns above was = each_takes (turns_back d bs above) (each_turned d IsTurned bs above (each_place _ bs (λ i b at a. (i, b, at, (a, refl))))) (all_orphan_ends d bs above) was

    -- where each first try has ended the transaction is alone
    module _ (above : List (Option Name)) (ended : (i : ℕ) (b : Branch) → slice_get bs i ≡ Some b → is_some (end (turns_back d bs above ++ mine d now) b.first) ≡ true) where
      abbrev es : Past
      es = turns_back d bs above

      abbrev passes_too : Name → Bool
      passes_too m = is_done (es ++ mine d now) m || name.is_ancestor m of

      pub turned_alone : is_alone (turns_back (with_all c bs) bs above ++ mine (with_all c bs) now) of ≡ true
      turned_alone =
          ap (list_all passes_too) (begun_kept es (mine d now) (all_orphan_ends d bs above))
          ∙ begun_row passes_too (λ j x here. or_left _ _ (or_left _ _ (ended j x here)))
          (all_wider (λ m. is_done (mine d (row.made.newer ++ before)) m || (name.is_ancestor m of || false)) passes_too _ (λ m.
          or_wider (is_done (mine d (row.made.newer ++ before)) m) (name.is_ancestor m of || false) (is_done (es ++ mine d now) m) (name.is_ancestor m of)
          (λ done. done_later es (mine d now) m (ap (λ l. is_done (mine d l) m) row.made.grown ∙ done)) (or_neither (name.is_ancestor m of)))
          (old_begun reach Stopped c of before shown now bs row runs ours alone of (itself of) row.made.newer (λ m. false)))
        where
          or_neither : (x : Bool) → (x || false) ≡ true → x ≡ true
          or_neither true h = refl
          or_neither false h = h
