-- What the tries of branches at once ask for is asked for by their row.
use Rattle.std.proofs.Common.{◌≡◌, inl, inr, ℕ, zero, suc, true, List, [], ◌∷◌, map, sym, ap, ◌∙◌, subst}
use Rattle.std.specs.Prelude.{Some, slice_get}
use Rattle.std.specs.List.{AllByRecursion}
use Rattle.qc_event.specs.declared.event.Entry.{Entry}
use Rattle.qc_event.specs.History.{Past, Name}
use Rattle.qc_script.specs.Client.{Client, mine, is_own, AreOurs}
use Rattle.qc_script.specs.Plan.{Numbered, row_of}
use Rattle.qc_interp.specs.Asking.{Asks, RowAsks, IsAskedBy}
use Rattle.qc_interp.specs.Branches.{Branch, tries_by, with_all, RanRow}
use Rattle.qc_interp.specs.Deeds.{Deed, deeds, OfChild}
use Rattle.qc_interp.specs.Reach.{Reach}
use Rattle.qc_interp.specs.Rows.{OneOf, tries_among}
use Rattle.qc_interp.specs.Running.{Runs}
use Rattle.qc_event.proofs.Lists.{get_first}
use Rattle.qc_interp.proofs.Following.Alike.{asks_alike}
use Rattle.qc_interp.proofs.Stepping.Asked.{wider_one}
use Rattle.qc_interp.proofs.Listing.Places.{some_same, at_place, each_place, kept_place}
use Rattle.qc_interp.proofs.Rows.Here.{HaveOwnBodies, here, row_agrees, tries_here}
use Rattle.qc_interp.proofs.Rows.Leaves.{kept_each}
use Rattle.qc_interp.proofs.Rows.Ours.{tries_ours}
use Rattle.qc_interp.proofs.Rows.Tries.{IsTry, ran_at, try_at, Owner, owners}

-- what one of a branch's tries asks one of the row's asks
pub asks_in_row : (h : Past) (ds : List Deed) (by target : Name) (bs : List Branch) (i : ℕ) (b : Branch) → slice_get bs i ≡ Some b → OneOf (OfChild (λ t. Asks h t b.body.plan (deeds h t) by target)) (tries_among h b.body.number ds)
    → RowAsks h (row_of (map (λ (x : Branch). x.body) bs)) ds by target
asks_in_row h ds by target [] i b at one = absurd cc
asks_in_row h ds by target (x ∷ bs) zero b at one = inl (subst (λ (y : Branch). OneOf (OfChild (λ t. Asks h t y.body.plan (deeds h t) by target)) (tries_among h y.body.number ds)) (sym (some_same x b at)) one)
asks_in_row h ds by target (x ∷ bs) (suc i) b at one = inr (asks_in_row h ds by target bs i b at one)

-- one of some names, as one of these children
one_child_of : (P Q : Name → Type 0) (Good : Name → Type 0) → ((t : Name) → Good t → P t → Q t) → (ts : List Name) → AllByRecursion Good ts → OneOf P ts → OneOf (OfChild Q) (map Deed.child ts)
one_child_of P Q Good step [] good one = absurd one
one_child_of P Q Good step (t ∷ ts) good (inl h) = inl (step t good.0 h)
one_child_of P Q Good step (t ∷ ts) good (inr h) = inr (one_child_of P Q Good step ts good.1 h)

module _ (reach : Reach) (Stopped : Branch → Type 0) (c : Client) (of : Name) (before shown now : Past) (bs : List Branch) (row : RanRow reach Stopped c of before shown now bs) (runs : Runs c of before) where
  abbrev d : Client
  d = with_all c bs

  abbrev bodies : List Numbered
  bodies = map (λ (b : Branch). b.body) bs

  abbrev ds : List Deed
  ds = here reach Stopped c of before shown now bs row

  abbrev AskedRow : Entry → Type 0
  AskedRow e = IsAskedBy (λ by target. RowAsks (mine d now) (row_of bodies) ds by target) e.event

  -- what a branch's entry asks for is asked for by the row
  module _ (ours : AreOurs (with_all c bs) of now) (own : HaveOwnBodies bs) where
    asks_of : (i : ℕ) (b : Branch) → slice_get bs i ≡ Some b → (by target : Name) → OneOf (λ n. Asks (mine b.client now) n b.body.plan (deeds (mine b.client now) n) by target) (tries_by b.client now)
        → RowAsks (mine d now) (row_of bodies) ds by target
    asks_of i b at by target one =
        asks_in_row (mine d now) ds by target bs i b at
        (subst (OneOf (OfChild (λ t. Asks (mine d now) t b.body.plan (deeds (mine d now) t) by target))) (sym (tries_here reach Stopped c of before shown now bs row runs ours own i b at))
        (one_child_of _ _ (IsTry of now b) (λ t try asks. asks_alike (mine b.client now) (mine d now) t (row_agrees reach Stopped c of before shown now bs row i b at t try) by target b.body.plan asks) (tries_by b.client now)
        (each_place _ (tries_by b.client now) (λ k t is. try_at reach Stopped c of before shown now bs row i b at k t is)) one))

    asked_of : (k : ℕ) (e : Entry) → slice_get row.made.newer k ≡ Some e → Owner reach Stopped c of before shown now bs row e → AskedRow e
    asked_of k e is o =
        wider_one (λ by target. OneOf (λ n. Asks (mine o.one.client now) n o.one.body.plan (deeds (mine o.one.client now) n) by target) (tries_by o.one.client now)) (λ by target. RowAsks (mine d now) (row_of bodies) ds by target) (asks_of o.place o.one o.at) e.event
        (kept_place _ (λ (y : Entry). is_own o.one.client y.seat) now k e ((ran_at reach Stopped c of before shown now bs row o.place o.one o.at).asked (tries_ours reach Stopped c of before shown now bs row runs ours o.place o.one o.at))
        (ap (λ l. slice_get l k) row.made.grown ∙ get_first row.made.newer before k e is) o.owns)

    pub row_asked : AllByRecursion (λ (e : Entry). IsAskedBy (λ by target. RowAsks (mine (with_all c bs) now) (row_of bodies) ds by target) e.event) (mine (with_all c bs) row.made.newer)
    row_asked = kept_each AskedRow AskedRow (λ (e : Entry). is_own d e.seat) row.made.newer (λ e h. h) (each_place _ row.made.newer (λ k e is kept.
        asked_of k e is (at_place (λ y. is_own d y.seat ≡ true → Owner reach Stopped c of before shown now bs row y) row.made.newer k e (owners reach Stopped c of before shown now bs row) is kept)))
