-- Branches at once: each keeps a seat of its own, and how they came out is told by what each made.
use Rattle.std.proofs.Common.{◌≡◌, ℕ, zero, suc, Bool, true, false, List, [], ◌∷◌, ◌++◌, map, refl, sym, ap, ◌∙◌, subst}
use Rattle.std.specs.Prelude.{Option, None, Some, slice_get, option_map, ◌&&◌, if◌then◌else◌}
use Rattle.std.specs.List.{AllByRecursion, list_all, last_or}
use Rattle.std.specs.Option.{option_or, option_map_or}
use Rattle.std.proofs.lemmas.Bool.{and_from, eq-eqb}
use Rattle.std.proofs.lemmas.List.Elements.{filter-append}
use Rattle.qc_event.specs.declared.event.Entry.{Entry}
use Rattle.qc_event.specs.declared.event.Event.TheVariants as event
use Rattle.qc_event.specs.declared.event.Kind.TheVariants as kind
use Rattle.qc_event.specs.History.{Past, Name, Begun}
use Rattle.qc_event.proofs.Absent.{same_itself}
use Rattle.qc_event.proofs.Histories.{earliest-append}
use Rattle.qc_script.specs.Client.{Client, mine, is_own, AreOurs}
use Rattle.qc_script.specs.Plan.{Numbered, row_of}
use Rattle.qc_interp.specs.Branches.{Branch, tries_by, with_all, start_of, IsBegun, RanRow}
use Rattle.qc_interp.specs.Deeds.{Deed, deed_end}
use Rattle.qc_interp.specs.Reach.{Reach}
use Rattle.qc_interp.specs.Rows.{tries_among, was_tried, has_committed, failed_last, each_tried, first_failed, each_own_seat, keeps_own_seat, first_under, starts, opens_seat, is_child_beside}
use Rattle.qc_interp.specs.Running.{Runs}
use Rattle.qc_interp.specs.Tries.{is_tried_again}
use Rattle.qc_interp.specs.Turns.{seat_of, is_beside}
use Rattle.qc_interp.proofs.Listing.Places.{each_place}
use Rattle.qc_interp.proofs.Rows.Here.{HaveOwnBodies, here, tries_here, row_agrees}
use Rattle.qc_interp.proofs.Rows.Stands.{own_seats, all_tried, one_failed, first_try}
use Rattle.qc_interp.proofs.Rows.Tries.{IsTry, begun_at, try_at, own_more, try_owned}
use Rattle.qc_interp.proofs.Scopes.Seats.{own_start, beside_is}
use Rattle.qc_interp.proofs.Following.Turning.{itself}

-- tries that end alike were tried alike, and the last of them failed alike
module _ (p q : Past) where
  ends_alike_tried : (stopped : Bool) (left : ℕ) (xs : List Deed) → AllByRecursion (λ x. deed_end p x ≡ deed_end q x) xs → was_tried p stopped left xs ≡ was_tried q stopped left xs
  ends_alike_tried stopped zero [] all = refl
  ends_alike_tried stopped zero (x ∷ xs) all = refl
  ends_alike_tried stopped (suc left) [] all = refl
  ends_alike_tried stopped (suc left) (x ∷ xs) all =
      ap (λ o. was_tried p stopped (if is_tried_again o then left else zero) xs) all.0
      ∙ ends_alike_tried stopped (if is_tried_again (deed_end q x) then left else zero) xs all.1

  ends_alike_last : (must : Bool) (o : Option Deed) (xs : List Deed) → AllByRecursion (λ x. deed_end p x ≡ deed_end q x) xs → failed_last p must o ≡ failed_last q must o → failed_last p must (last_or o xs) ≡ failed_last q must (last_or o xs)
  ends_alike_last must o [] all was = was
  ends_alike_last must o (x ∷ xs) all was = ends_alike_last must (Some x) xs all.1 (by_must must)
    where
      by_must : (b : Bool) → failed_last p b (Some x) ≡ failed_last q b (Some x)
      by_must true = ap (λ o. if has_committed o then None else Some x) all.0
      by_must false = refl

  none_alike : (must : Bool) → failed_last p must None ≡ failed_last q must None
  none_alike true = refl
  none_alike false = refl

module _ (reach : Reach) (Stopped : Branch → Type 0) (c : Client) (of : Name) (before shown now : Past) (bs : List Branch) (row : RanRow reach Stopped c of before shown now bs) where
  abbrev d : Client
  d = with_all c bs

  abbrev h : Past
  h = mine d now

  abbrev bodies : List Numbered
  bodies = map (λ (b : Branch). b.body) bs

  abbrev ds : List Deed
  ds = here reach Stopped c of before shown now bs row

  -- a try stands under its branch's number
  pub try_under : (i : ℕ) (b : Branch) → slice_get bs i ≡ Some b → (t : Name) → IsTry of now b t → seat_of h t ≡ Some b.client.number
  try_under i b at t try =
      ap (option_map (λ (x : Begun). x.seat)) (own_start d now t try.by try.started (own_more reach Stopped c of before shown now bs row i b at try.by.seat (try_owned reach Stopped c of before shown now bs row i b at t try)))
      ∙ ap (λ s. Some s) try.seat

  tries_under : (i : ℕ) (b : Branch) → slice_get bs i ≡ Some b → AllByRecursion (λ t. seat_of h t ≡ Some b.client.number) (tries_by b.client now)
  tries_under i b at = each_place _ (tries_by b.client now) (λ k t is. try_under i b at t (try_at reach Stopped c of before shown now bs row i b at k t is))

  -- the first of them opens its branch's seat
  pub first_opens : (i : ℕ) (b : Branch) → slice_get bs i ≡ Some b → opens_seat h b.first ≡ true
  first_opens i b at =
      let try = try_at reach Stopped c of before shown now bs row i b at zero b.first (ap (λ l. slice_get l zero) (first_try reach Stopped c of before shown now bs row i b at)) in
      sym (row_agrees reach Stopped c of before shown now bs row i b at b.first try b.first (itself b.first)).opens
      ∙ ap (λ o. option_map_or (λ seat. option_map_or (starts b.first) (first_under seat (mine b.client now)) false) o false) ((row_agrees reach Stopped c of before shown now bs row i b at b.first try b.first (itself b.first)).seat ∙ try_under i b at b.first try)
      ∙ ap (λ o. option_map_or (starts b.first) o false) first_is
      ∙ same_itself b.first
    where
      begun : IsBegun c of before shown b
      begun = begun_at reach Stopped c of before shown now bs row i b at

      first_is : first_under b.client.number (mine b.client now) ≡ Some (event.Start b.first (kind.User c.session b.body.number))
      first_is =
          ap (first_under b.client.number) (ap (mine b.client) row.since.grown ∙ filter-append (λ (e : Entry). is_own b.client e.seat) row.since.newer shown ∙ ap (λ l. mine b.client row.since.newer ++ l) begun.made)
          ∙ earliest-append _ (mine b.client row.since.newer) (start_of c b ∷ [])
          ∙ ap (λ (x : Bool). option_or (if x then Some (event.Start b.first (kind.User c.session b.body.number)) else None) (first_under b.client.number (mine b.client row.since.newer))) (eq-eqb b.client.number b.client.number refl)

  all_beside : (seat : ℕ) (a : Name) → seat_of h a ≡ Some seat → (ts : List Name) → AllByRecursion (λ t. seat_of h t ≡ Some seat) ts → list_all (is_child_beside h a) (map Deed.child ts) ≡ true
  all_beside seat a is [] all = refl
  all_beside seat a is (t ∷ ts) all = and_from (is_beside h a t) _ (beside_is h seat a t is all.0) (all_beside seat a is ts all.1)

  module _ (runs : Runs c of before) (ours : AreOurs (with_all c bs) of now) (own : HaveOwnBodies bs) where
    abbrev here_of : (i : ℕ) (b : Branch) → slice_get bs i ≡ Some b → tries_among h b.body.number ds ≡ map Deed.child (tries_by b.client now)
    here_of i b at = tries_here reach Stopped c of before shown now bs row runs ours own i b at

    pub row_seats : each_own_seat (mine (with_all c bs) now) (row_of bodies) ds ≡ true
    row_seats = own_seats h ds bs (each_place _ bs (λ i b at.
        let first = first_try reach Stopped c of before shown now bs row i b at in
        let under = subst (AllByRecursion (λ t. seat_of h t ≡ Some b.client.number)) first (tries_under i b at) in
        ap (keeps_own_seat h) (here_of i b at ∙ ap (map Deed.child) first)
        ∙ and_from (opens_seat h b.first) _ (first_opens i b at) (all_beside b.client.number b.first under.0 _ under.1)))

    -- each try ended by what all made as by what its branch made
    same_ends : (i : ℕ) (b : Branch) → slice_get bs i ≡ Some b → AllByRecursion (λ x. deed_end (mine b.client now) x ≡ deed_end h x) (map Deed.child (tries_by b.client now))
    same_ends i b at = unmapped (tries_by b.client now) (each_place _ (tries_by b.client now) (λ k t is. (row_agrees reach Stopped c of before shown now bs row i b at t (try_at reach Stopped c of before shown now bs row i b at k t is) t (itself t)).ended))
      where
        unmapped : (ts : List Name) → AllByRecursion (λ t. deed_end (mine b.client now) (Deed.child t) ≡ deed_end h (Deed.child t)) ts → AllByRecursion (λ x. deed_end (mine b.client now) x ≡ deed_end h x) (map Deed.child ts)
        unmapped [] all = tt
        unmapped (t ∷ ts) all = (all.0, unmapped ts all.1)

    -- how one branch came out, by what all made
    abbrev IsToldOf : Branch → Type 0
    IsToldOf b =
        (was_tried (mine b.client now) false b.body.tries (map Deed.child (tries_by b.client now)) ≡ was_tried h false b.body.tries (tries_among h b.body.number ds))
        × (failed_last (mine b.client now) b.body.must (last_or None (map Deed.child (tries_by b.client now))) ≡ failed_last h b.body.must (last_or None (tries_among h b.body.number ds)))

    told_of : AllByRecursion IsToldOf bs
    told_of = each_place IsToldOf bs (λ i b at. (
      ends_alike_tried (mine b.client now) h false b.body.tries (map Deed.child (tries_by b.client now)) (same_ends i b at) ∙ ap (was_tried h false b.body.tries) (sym (here_of i b at)),
      ends_alike_last (mine b.client now) h b.body.must None (map Deed.child (tries_by b.client now)) (same_ends i b at) (none_alike (mine b.client now) h b.body.must) ∙ ap (λ l. failed_last h b.body.must (last_or None l)) (sym (here_of i b at)),
    ))

    pub row_tried : each_tried (mine (with_all c bs) now) false (row_of bodies) ds ≡ all_tried now bs
    row_tried = by_branches bs told_of
      where
        by_branches : (xs : List Branch) → AllByRecursion IsToldOf xs → each_tried h false (row_of (map (λ (b : Branch). b.body) xs)) ds ≡ all_tried now xs
        by_branches [] all = refl
        by_branches (b ∷ xs) all =
            ap (λ x. x && each_tried h false (row_of (map (λ (y : Branch). y.body) xs)) ds) (sym all.0.0)
            ∙ ap (λ x. was_tried (mine b.client now) false b.body.tries (map Deed.child (tries_by b.client now)) && x) (by_branches xs all.1)

    pub row_failed : first_failed (mine (with_all c bs) now) (row_of bodies) ds ≡ one_failed now bs
    row_failed = by_branches bs told_of
      where
        by_branches : (xs : List Branch) → AllByRecursion IsToldOf xs → first_failed h (row_of (map (λ (b : Branch). b.body) xs)) ds ≡ one_failed now xs
        by_branches [] all = refl
        by_branches (b ∷ xs) all =
            ap (λ o. option_or o (first_failed h (row_of (map (λ (y : Branch). y.body) xs)) ds)) (sym all.0.1)
            ∙ ap (λ o. option_or (failed_last (mine b.client now) b.body.must (last_or None (map Deed.child (tries_by b.client now)))) o) (by_branches xs all.1)
