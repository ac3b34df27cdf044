-- Branches at once: the children that they started are their tries, of each branch in order.
use Rattle.std.proofs.Common.{◌≡◌, ℕ, zero, suc, Bool, true, false, List, [], ◌∷◌, ◌++◌, map, refl, sym, ap, ◌∙◌, subst, append-nil, filter}
use mathlib.Core.Bool.{true≢false}
use Rattle.std.specs.Prelude.{None, Some, slice_get, ◌==◌, if◌then◌else◌}
use Rattle.std.specs.List.{AllByRecursion, IsDistinct}
use Rattle.std.specs.Option.{option_map_or}
use Rattle.std.proofs.lemmas.Bool.{eq-eqb, eqb-true, false_from_ne_true}
use Rattle.std.proofs.lemmas.List.Elements.{filter-append}
use Rattle.qc_event.specs.declared.event.Entry.{Entry}
use Rattle.qc_event.specs.declared.event.Kind.TheVariants as kind
use Rattle.qc_event.specs.History.{Past, Name, children, child_in, kind_of}
use Rattle.qc_script.specs.Client.{Client, mine, is_own, AreOurs}
use Rattle.qc_script.specs.Plan.{Numbered}
use Rattle.qc_interp.specs.Branches.{Branch, IsLast, tries_by, with_all, RanRow}
use Rattle.qc_interp.specs.Deeds.{Deed, deeds, deed_end, OfChild}
use Rattle.qc_interp.specs.Reach.{Reach}
use Rattle.qc_interp.specs.Rows.{is_of_body, is_try, tries_among}
use Rattle.qc_interp.specs.Running.{Runs}
use Rattle.qc_interp.specs.Tries.{Tries, is_tried_again}
use Rattle.qc_interp.proofs.Following.Alike.{AgreesBelow, runs_alike}
use Rattle.qc_interp.proofs.Branching.Branches.{HaveOwnNumbers, tried_in_row, RunsBranch}
use Rattle.qc_interp.proofs.Following.Followed.{IsTryOf}
use Rattle.qc_interp.proofs.Listing.Places.{some_same, at_place, each_place}
use Rattle.qc_interp.proofs.Rows.Below.{agrees_below}
use Rattle.qc_interp.proofs.Rows.Deeds.{deeds_started, starts_alone, starts_it, sorted_tries}
use Rattle.qc_interp.proofs.Rows.Leaves.{each_made, mine_now, mine_before}
use Rattle.qc_interp.proofs.Rows.Ours.{tries_ours}
use Rattle.qc_interp.proofs.Rows.Seats.{one_owner}
use Rattle.qc_interp.proofs.Rows.Tries.{IsTry, begun_at, ran_at, root_is, try_at, own_more, same_branch, apart_branches, keeps_more, Owner, owners}
use Rattle.qc_interp.proofs.Trying.TriesAlike.{tries_alike}
use Rattle.qc_interp.proofs.Following.Turning.{itself}

-- DIFFERENT BODIES

-- no two branches are of bodies of the same number
abbrev pub HaveOwnBodies : List Branch → Type 0
HaveOwnBodies bs = HaveOwnNumbers (map (λ (b : Branch). b.body) bs)

other_body : (number : ℕ) (bs : List Branch) (i : ℕ) (b : Branch) → AllByRecursion (λ k. (number == k) ≡ false) (map (λ (x : Numbered). x.number) (map (λ (x : Branch). x.body) bs)) → slice_get bs i ≡ Some b → number ≡ b.body.number → ⊥
other_body number [] i b all at same = absurd cc
other_body number (x ∷ bs) zero b all at same = true≢false (sym (eq-eqb number x.body.number (same ∙ ap (λ (y : Branch). y.body.number) (sym (some_same x b at)))) ∙ all.0)
other_body number (x ∷ bs) (suc i) b all at same = other_body number bs i b all.1 at same

pub one_body : (bs : List Branch) → HaveOwnBodies bs → (i j : ℕ) (a b : Branch) → slice_get bs i ≡ Some a → slice_get bs j ≡ Some b → a.body.number ≡ b.body.number → i ≡ j
unfolding IsDistinct
one_body [] own i j a b at also same = absurd cc
one_body (x ∷ bs) own zero zero a b at also same = refl
one_body (x ∷ bs) own zero (suc j) a b at also same = absurd (other_body x.body.number bs j b own.0 also (ap (λ (y : Branch). y.body.number) (some_same x a at) ∙ same))
one_body (x ∷ bs) own (suc i) zero a b at also same = absurd (other_body x.body.number bs i a own.0 at (ap (λ (y : Branch). y.body.number) (some_same x b also) ∙ sym same))
one_body (x ∷ bs) own (suc i) (suc j) a b at also same = ap suc (one_body bs own.1 i j a b at also same)

-- LISTS

pub all_unmap : (P : Name → Type 0) (ts : List Name) → AllByRecursion (OfChild P) (map Deed.child ts) → AllByRecursion P ts
all_unmap P [] all = tt
all_unmap P (t ∷ ts) all = (all.0, all_unmap P ts all.1)

pub all_children_of : (P : Name → Type 0) (ts : List Name) → AllByRecursion P ts → AllByRecursion (OfChild P) (map Deed.child ts)
all_children_of P [] all = tt
all_children_of P (t ∷ ts) all = (all.0, all_children_of P ts all.1)

pub none_kept : (keep : Entry → Bool) (es : Past) → AllByRecursion (λ e. keep e ≡ false) es → filter keep es ≡ []
none_kept keep [] all = refl
none_kept keep (e ∷ es) all = ap (λ (b : Bool). if b then e ∷ filter keep es else filter keep es) all.0 ∙ none_kept keep es all.1

module _ (reach : Reach) (Stopped : Branch → Type 0) (c : Client) (of : Name) (before shown now : Past) (bs : List Branch) (row : RanRow reach Stopped c of before shown now bs) where
  abbrev d : Client
  d = with_all c bs

  abbrev keep : Entry → Bool
  keep e = is_own d e.seat

  -- the children that the branches started
  abbrev pub started_here : List Name
  started_here = children (mine (with_all c bs) row.made.newer) of

  abbrev pub here : List Deed
  here = map Deed.child (children (mine (with_all c bs) row.made.newer) of)

  pub row_deeds : deeds (mine (with_all c bs) now) of ≡ deeds (mine c before) of ++ here
  row_deeds =
      ap (λ h. deeds h of) (mine_now reach Stopped c of before shown now bs row)
      ∙ deeds_started of (mine d row.made.newer) (mine d before) (each_made reach Stopped c of before shown now bs row _ (λ e t child stays. starts_alone of t e child stays))
      ∙ ap (λ h. deeds h of ++ here) (mine_before reach Stopped c of before shown now bs row)

  pub session_is : (i : ℕ) (b : Branch) → slice_get bs i ≡ Some b → b.client.session ≡ c.session
  session_is i b at = ap (λ (x : Client). x.session) (begun_at reach Stopped c of before shown now bs row i b at).client

  -- what stands of a try by what its branch made stands by what all made
  pub row_agrees : (i : ℕ) (b : Branch) → slice_get bs i ≡ Some b → (t : Name) → IsTry of now b t → AgreesBelow (mine b.client now) (mine (with_all c bs) now) t
  row_agrees i b at t try = agrees_below (is_own b.client) (is_own d) (own_more reach Stopped c of before shown now bs row i b at) t now (keeps_more reach Stopped c of before shown now bs row i b at t try)

  pub tries_since : (i : ℕ) (b : Branch) → slice_get bs i ≡ Some b → tries_by b.client now ≡ children (mine b.client row.made.newer) of
  tries_since i b at =
      ap (children (mine b.client now)) (root_is reach Stopped c of before shown now bs row i b at)
      ∙ ap (λ h. children (mine b.client h) of) row.made.grown
      ∙ ap (λ h. children h of) (filter-append (λ (e : Entry). is_own b.client e.seat) row.made.newer before
      ∙ ap (λ l. mine b.client row.made.newer ++ l) (none_kept (λ (e : Entry). is_own b.client e.seat) before (begun_at reach Stopped c of before shown now bs row i b at).none) ∙ append-nil _)

  module _ (runs : Runs c of before) (ours : AreOurs (with_all c bs) of now) where
    made_tries : (i : ℕ) (b : Branch) → slice_get bs i ≡ Some b
        → Tries (deed_end (mine b.client now)) (OfChild (IsTryOf reach b.client.session (mine b.client now) b.body.number b.body.plan)) (Stopped b) IsLast None b.body.tries (map Deed.child (tries_by b.client now))
    made_tries i b at = (ran_at reach Stopped c of before shown now bs row i b at).tries (tries_ours reach Stopped c of before shown now bs row runs ours i b at)

    -- of which body each try is
    pub try_kind : (i : ℕ) (b : Branch) → slice_get bs i ≡ Some b → (k : ℕ) (t : Name) → slice_get (tries_by b.client now) k ≡ Some t → kind_of (mine (with_all c bs) now) t ≡ Some (kind.User c.session b.body.number)
    try_kind i b at k t is =
        let each = (tried_in_row (mine b.client now) (OfChild (IsTryOf reach b.client.session (mine b.client now) b.body.number b.body.plan)) (Stopped b) true (λ s. refl) None b.body.tries (map Deed.child (tries_by b.client now)) (made_tries i b at)).0 in
        let one = at_place _ (tries_by b.client now) k t (all_unmap _ (tries_by b.client now) each) is in
        sym (row_agrees i b at t (try_at reach Stopped c of before shown now bs row i b at k t is) t (itself t)).kind ∙ one.0 ∙ ap (λ s. Some (kind.User s b.body.number)) (session_is i b at)

    module _ (own : HaveOwnBodies bs) where
      -- the tries of a branch among all
      pub tries_here : (i : ℕ) (b : Branch) → slice_get bs i ≡ Some b → tries_among (mine (with_all c bs) now) b.body.number here ≡ map Deed.child (tries_by b.client now)
      tries_here i b at =
          sorted_tries (mine d now) b.body.number of (λ e. is_own b.client e.seat) keep row.made.newer (each_place _ row.made.newer (λ k e is.
          (own_more reach Stopped c of before shown now bs row i b at e.seat, λ kept m tells. of_owner e (at_place (λ y. keep y ≡ true → Owner reach Stopped c of before shown now bs row y) row.made.newer k e (owners reach Stopped c of before shown now bs row) is kept) m tells)))
          ∙ ap (map Deed.child) (sym (tries_since i b at))
        where
          of_owner : (e : Entry) → Owner reach Stopped c of before shown now bs row e → (m : Name) → child_in of e.event ≡ Some m → is_try (mine d now) b.body.number (Deed.child m) ≡ is_own b.client e.seat
          of_owner e o m tells =
              let same = starts_it of o.try m e o.is_try.child o.stays tells in
              ap (λ n. option_map_or (is_of_body b.body.number) (kind_of (mine d now) n) false) same
              ∙ ap (λ x. option_map_or (is_of_body b.body.number) x false) (try_kind o.place o.one o.at o.turn o.try o.listed)
              ∙ by_own (is_own b.client e.seat) refl
            where
              by_own : (x : Bool) → is_own b.client e.seat ≡ x → (o.one.body.number == b.body.number) ≡ x
              by_own true is =
                  let place = one_owner bs e.seat o.place i o.one b (apart_branches reach Stopped c of before shown now bs row) o.at at o.owns is in
                  eq-eqb o.one.body.number b.body.number (ap (λ (x : Branch). x.body.number) (same_branch reach Stopped c of before shown now bs row o.place i o.one b o.at at place))
              by_own false is = false_from_ne_true (o.one.body.number == b.body.number) (λ h.
                  let place = one_body bs own o.place i o.one b o.at at (eqb-true o.one.body.number b.body.number h) in
                  let one = same_branch reach Stopped c of before shown now bs row o.place i o.one b o.at at place in
                  true≢false (sym (ap (λ (x : Branch). is_own x.client e.seat) (sym one) ∙ o.owns) ∙ is))

      -- and they are tries of its body in a row
      pub branch_runs : (i : ℕ) (b : Branch) → slice_get bs i ≡ Some b → (StoppedToo : Type 0) → (Stopped b → StoppedToo) → RunsBranch (mine (with_all c bs) now) reach c.session StoppedToo here b.body
      branch_runs i b at StoppedToo stop =
          subst (Tries (deed_end (mine d now)) (OfChild (IsTryOf reach c.session (mine d now) b.body.number b.body.plan)) StoppedToo IsLast None b.body.tries) (sym (tries_here i b at))
          (tries_alike (deed_end (mine b.client now)) (deed_end (mine d now)) (OfChild (IsTryOf reach b.client.session (mine b.client now) b.body.number b.body.plan)) (OfChild (IsTryOf reach c.session (mine d now) b.body.number b.body.plan)) (Stopped b) StoppedToo IsLast IsLast
          (OfChild (AgreesBelow (mine b.client now) (mine d now))) alike stop as_try (λ last cs was good h. h) None b.body.tries (map Deed.child (tries_by b.client now)) tt
          (all_children_of _ (tries_by b.client now) (each_place _ (tries_by b.client now) (λ k t is. row_agrees i b at t (try_at reach Stopped c of before shown now bs row i b at k t is)))) (made_tries i b at))
        where
          alike : (x : Deed) → OfChild (AgreesBelow (mine b.client now) (mine d now)) x → is_tried_again (deed_end (mine b.client now) x) ≡ is_tried_again (deed_end (mine d now) x)
          alike (Deed.child t) agrees = ap is_tried_again (agrees t (itself t)).ended
          alike (Deed.mark m) agrees = absurd agrees

          as_try : (x : Deed) → OfChild (AgreesBelow (mine b.client now) (mine d now)) x → OfChild (IsTryOf reach b.client.session (mine b.client now) b.body.number b.body.plan) x → OfChild (IsTryOf reach c.session (mine d now) b.body.number b.body.plan) x
          as_try (Deed.mark m) agrees h = absurd h
          as_try (Deed.child t) agrees h =
              subst (λ s. IsTryOf reach s (mine d now) b.body.number b.body.plan t) (session_is i b at)
              (sym (agrees t (itself t)).kind ∙ h.0, runs_alike (mine b.client now) (mine d now) t agrees reach b.client.session b.body.plan h.1)
