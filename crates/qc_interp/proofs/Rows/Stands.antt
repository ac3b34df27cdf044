-- Branches at once, as their tries stand when all have been merged: each was begun, under a seat of its own, in order, and
-- was tried in a row.
use Rattle.std.proofs.Common.{◌≡◌, ℕ, zero, suc, Bool, true, false, List, [], ◌∷◌, ◌++◌, map, reverse, refl, sym, ap, ◌∙◌, subst, append-nil, append_assoc, filter}
use Rattle.std.specs.Prelude.{Option, None, Some, slice_get, option_to_list, ◌&&◌, ◌||◌, if◌then◌else◌}
use Rattle.std.specs.List.{AllByRecursion, list_all, list_any, last_or}
use Rattle.std.specs.Option.{option_or, option_map_or}
use Rattle.std.proofs.lemmas.Bool.{and_from, eq-eqb, or_left, or_right}
use Rattle.std.proofs.lemmas.List.{reverse-append, append_cancel_right, map-append}
use Rattle.std.proofs.lemmas.List.Elements.{filter-append}
use Rattle.qc_event.specs.declared.event.Entry.{Entry}
use Rattle.qc_event.specs.declared.event.Kind.TheVariants as kind
use Rattle.qc_event.specs.History.{Past, Name, every, children, child_in, is_child, kind_of}
use Rattle.qc_script.specs.Client.{Client, mine, is_own, AreOurs}
use Rattle.qc_script.specs.Plan.{Numbered, row_of}
use Rattle.qc_interp.specs.Branches.{Branch, tries_by, with_all, start_of, IsBegun, RanRow}
use Rattle.qc_interp.specs.Deeds.{Deed}
use Rattle.qc_interp.specs.Follows.{RunsRow}
use Rattle.qc_interp.specs.Reach.{Reach}
use Rattle.qc_interp.specs.Rows.{is_of_body, is_try, is_try_in, tries_among, was_tried, failed_last, begin_each, each_tried, each_begun, are_tries_at_once, each_own_seat, keeps_own_seat}
use Rattle.qc_interp.specs.Running.{Runs}
use Rattle.qc_interp.proofs.Scopes.Began.{every_more}
use Rattle.qc_interp.proofs.Branching.Branches.{RunsBranch, row_runs, all_begun}
use Rattle.qc_interp.proofs.Listing.Places.{some_same, at_place, each_place}
use Rattle.qc_interp.proofs.Rows.Deeds.{starts_it}
use Rattle.qc_interp.proofs.Rows.Here.{HaveOwnBodies, here, try_kind, tries_here, branch_runs}
use Rattle.qc_interp.proofs.Rows.Leaves.{mine_before}
use Rattle.qc_interp.proofs.Rows.Tries.{begun_at, root_is, Owner, owners}
use Rattle.qc_event.proofs.Granted.{every-append}

-- THE FIRST TRIES

-- what a row of starts starts, in order
firsts_started : (c : Client) (of : Name) (bs : List Branch) → AllByRecursion (λ b. is_child of b.first ≡ true) bs → children (reverse (map (start_of c) bs)) of ≡ map (λ (b : Branch). b.first) bs
firsts_started c of [] all = refl
firsts_started c of (b ∷ bs) all =
    ap (λ l. children l of) (reverse-append (start_of c b ∷ []) (map (start_of c) bs))
    ∙ every-append (λ e. child_in of e.event) (reverse (map (start_of c) bs)) (start_of c b ∷ [])
    ∙ ap (λ l. l ++ children (reverse (map (start_of c) bs)) of) (ap (λ (x : Bool). option_to_list (if x then Some b.first else None)) all.0)
    ∙ ap (λ l. b.first ∷ l) (firsts_started c of bs all.1)

-- deeds that begin with a try of each branch begin one after another
begins_each : (h : Past) (bs : List Branch) (more : List Deed) → AllByRecursion (λ (b : Branch). is_try h b.body.number (Deed.child b.first) ≡ true) bs → begin_each h (row_of (map (λ (b : Branch). b.body) bs)) (map Deed.child (map (λ (b : Branch). b.first) bs) ++ more) ≡ true
begins_each h [] more all = refl
begins_each h (b ∷ bs) more all = and_from (is_try h b.body.number (Deed.child b.first)) _ all.0 (begins_each h bs more all.1)

-- OVER A ROW

-- what is so of the body of each branch
pub all_bodies : (P : Numbered → Type 0) (bs : List Branch) → AllByRecursion (λ (b : Branch). P b.body) bs → AllByRecursion P (map (λ (b : Branch). b.body) bs)
all_bodies P [] all = tt
all_bodies P (b ∷ bs) all = (all.0, all_bodies P bs all.1)

-- a try of one of the branches
pub try_in : (h : Past) (bs : List Branch) (i : ℕ) (b : Branch) (x : Deed) → slice_get bs i ≡ Some b → is_try h b.body.number x ≡ true → is_try_in h (row_of (map (λ (y : Branch). y.body) bs)) x ≡ true
try_in h [] i b x at is = absurd cc
try_in h (y ∷ bs) zero b x at is = or_left _ _ (ap (λ (z : Branch). is_try h z.body.number x) (some_same y b at) ∙ is)
try_in h (y ∷ bs) (suc i) b x at is = or_right (is_try h y.body.number x) _ (try_in h bs i b x at is)

pub own_seats : (h : Past) (ds : List Deed) (bs : List Branch) → AllByRecursion (λ (b : Branch). keeps_own_seat h (tries_among h b.body.number ds) ≡ true) bs → each_own_seat h (row_of (map (λ (b : Branch). b.body) bs)) ds ≡ true
own_seats h ds [] all = refl
own_seats h ds (b ∷ bs) all = and_from _ _ all.0 (own_seats h ds bs all.1)

any_among : (f : Deed → Bool) (ds : List Deed) (x : Deed) (xs : List Deed) → filter f ds ≡ x ∷ xs → list_any f ds ≡ true
any_among f [] x xs is = absurd cc
any_among f (y ∷ ds) x xs is = by_test (f y) is (any_among f ds x xs)
  where
    by_test : (b : Bool) → (if b then y ∷ filter f ds else filter f ds) ≡ x ∷ xs → (filter f ds ≡ x ∷ xs → list_any f ds ≡ true) → (b || list_any f ds) ≡ true
    by_test true is more = refl
    by_test false is more = more is

pub all_of_names : (f : Deed → Bool) (ts : List Name) → list_all (λ t. f (Deed.child t)) ts ≡ list_all f (map Deed.child ts)
all_of_names f [] = refl
all_of_names f (t ∷ ts) = ap (λ b. f (Deed.child t) && b) (all_of_names f ts)

-- HOW THE BRANCHES CAME OUT, BY WHAT EACH MADE

-- whether each branch was tried as often as it is
abbrev pub all_tried : Past → List Branch → Bool
all_tried now [] = true
all_tried now (b ∷ bs) = was_tried (mine b.client now) false b.body.tries (map Deed.child (tries_by b.client now)) && all_tried now bs

-- the last try of the first branch that must commit and did not
abbrev pub one_failed : Past → List Branch → Option Deed
one_failed now [] = None
one_failed now (b ∷ bs) = option_or (failed_last (mine b.client now) b.body.must (last_or None (map Deed.child (tries_by b.client now)))) (one_failed now bs)

module _ (reach : Reach) (Stopped : Branch → Type 0) (c : Client) (of : Name) (before shown now : Past) (bs : List Branch) (row : RanRow reach Stopped c of before shown now bs) where
  abbrev d : Client
  d = with_all c bs

  abbrev h : Past
  h = mine d now

  abbrev bodies : List Numbered
  bodies = map (λ (b : Branch). b.body) bs

  abbrev ds : List Deed
  ds = here reach Stopped c of before shown now bs row

  -- what a client has made since is what it made from what was shown on, and before that
  made_since : (x : Client) → mine x row.made.newer ≡ mine x row.since.newer ++ mine x row.shown_later.newer
  made_since x =
      ap (mine x) (append_cancel_right row.made.newer (row.since.newer ++ row.shown_later.newer) before (sym row.made.grown ∙ row.since.grown ∙ ap (λ l. row.since.newer ++ l) row.shown_later.grown ∙ sym (append_assoc row.since.newer row.shown_later.newer before)))
      ∙ filter-append (λ (e : Entry). is_own x e.seat) row.since.newer row.shown_later.newer

  shown_is : mine d row.shown_later.newer ≡ reverse (map (start_of c) bs)
  shown_is =
      append_cancel_right (mine d row.shown_later.newer) (reverse (map (start_of c) bs)) (mine c before)
      (ap (λ l. mine d row.shown_later.newer ++ l) (sym (mine_before reach Stopped c of before shown now bs row)) ∙ sym (filter-append (λ (e : Entry). is_own d e.seat) row.shown_later.newer before) ∙ ap (mine d) (sym row.shown_later.grown) ∙ row.in_order)

  -- the first tries come first
  pub firsts_first : ds ≡ map Deed.child (map (λ (b : Branch). b.first) bs) ++ map Deed.child (children (mine d row.since.newer) of)
  firsts_first =
      ap (λ l. map Deed.child (children l of)) (made_since d ∙ ap (λ l. mine d row.since.newer ++ l) shown_is)
      ∙ ap (map Deed.child) (every-append (λ e. child_in of e.event) (mine d row.since.newer) (reverse (map (start_of c) bs)) ∙ ap (λ l. l ++ children (mine d row.since.newer) of) (firsts_started c of bs (ones bs row.begun)))
      ∙ map-append Deed.child (map (λ (b : Branch). b.first) bs) (children (mine d row.since.newer) of)
    where
      ones : (xs : List Branch) → AllByRecursion (IsBegun c of before shown) xs → AllByRecursion (λ b. is_child of b.first ≡ true) xs
      ones [] all = tt
      ones (b ∷ xs) all = (all.0.is_one, ones xs all.1)

  -- of each branch
  pub first_try : (i : ℕ) (b : Branch) → slice_get bs i ≡ Some b → tries_by b.client now ≡ b.first ∷ children (mine b.client row.since.newer) of
  first_try i b at =
      ap (children (mine b.client now)) (root_is reach Stopped c of before shown now bs row i b at)
      ∙ ap (λ l. children (mine b.client l) of) row.since.grown
      ∙ ap (λ l. children l of) (filter-append (λ (e : Entry). is_own b.client e.seat) row.since.newer shown ∙ ap (λ l. mine b.client row.since.newer ++ l) begun.made)
      ∙ every-append (λ e. child_in of e.event) (mine b.client row.since.newer) (start_of c b ∷ [])
      ∙ ap (λ (x : Bool). option_to_list (if x then Some b.first else None) ++ children (mine b.client row.since.newer) of) begun.is_one
    where
      begun : IsBegun c of before shown b
      begun = begun_at reach Stopped c of before shown now bs row i b at

  module _ (runs : Runs c of before) (ours : AreOurs (with_all c bs) of now) (own : HaveOwnBodies bs) where
    kind_is_try : (number : ℕ) (t : Name) → kind_of h t ≡ Some (kind.User c.session number) → is_try h number (Deed.child t) ≡ true
    kind_is_try number t is = ap (λ o. option_map_or (is_of_body number) o false) is ∙ eq-eqb number number refl

    first_at : (i : ℕ) (b : Branch) → slice_get bs i ≡ Some b → slice_get (tries_by b.client now) zero ≡ Some b.first
    first_at i b at = ap (λ l. slice_get l zero) (first_try i b at)

    in_row : list_all (is_try_in h (row_of bodies)) ds ≡ true
    in_row =
        sym (all_of_names (is_try_in h (row_of bodies)) (children (mine d row.made.newer) of))
        ∙ subst (λ l. list_all (λ t. is_try_in h (row_of bodies) (Deed.child t)) (children (mine d l) of) ≡ true) (append-nil row.made.newer)
        (every_more (λ t. is_try_in h (row_of bodies) (Deed.child t)) (λ e. child_in of e.event) (λ (e : Entry). is_own d e.seat) row.made.newer [] (each_place _ row.made.newer (λ k e is kept m tells.
        of_owner e m tells (at_place (λ y. is_own d y.seat ≡ true → Owner reach Stopped c of before shown now bs row y) row.made.newer k e (owners reach Stopped c of before shown now bs row) is kept))) refl)
      where
        of_owner : (e : Entry) (m : Name) → child_in of e.event ≡ Some m → Owner reach Stopped c of before shown now bs row e → is_try_in h (row_of bodies) (Deed.child m) ≡ true
        of_owner e m tells o =
            try_in h bs o.place o.one (Deed.child m) o.at
            (kind_is_try o.one.body.number m (ap (kind_of h) (starts_it of o.try m e o.is_try.child o.stays tells) ∙ try_kind reach Stopped c of before shown now bs row runs ours o.place o.one o.at o.turn o.try o.listed))

    begins : begin_each h (row_of bodies) ds ≡ true
    begins =
        ap (begin_each h (row_of bodies)) firsts_first
        ∙ begins_each h bs (map Deed.child (children (mine d row.since.newer) of)) (each_place _ bs (λ i b at. kind_is_try b.body.number b.first (try_kind reach Stopped c of before shown now bs row runs ours i b at zero b.first (first_at i b at))))

    -- each branch's tries, where none or some may have stopped
    runs_any : (StoppedToo : Type 0) → ((i : ℕ) (b : Branch) → slice_get bs i ≡ Some b → Stopped b → StoppedToo) → AllByRecursion (RunsBranch h reach c.session StoppedToo ds) bodies
    runs_any StoppedToo stop = all_bodies _ bs (each_place _ bs (λ i b at. branch_runs reach Stopped c of before shown now bs row runs ours own i b at StoppedToo (stop i b at)))

    tries_run : RunsRow reach c.session h true (row_of bodies) ds × (each_tried h true (row_of bodies) ds ≡ true)
    tries_run = row_runs h reach c.session (Unit {0}) true (λ s. refl) bodies ds (runs_any (Unit {0}) (λ i b at s. tt))

    pub row_run : RunsRow reach c.session h true (row_of bodies) ds
    row_run = tries_run.0

    pub row_at_once : are_tries_at_once h (row_of bodies) ds ≡ true
    row_at_once = and_from (list_all (is_try_in h (row_of bodies)) ds && begin_each h (row_of bodies) ds) _ (and_from _ _ in_row begins) tries_run.1

    pub row_begun : each_begun h (row_of bodies) ds ≡ true
    row_begun = all_begun h bodies ds (all_bodies _ bs (each_place _ bs (λ i b at. any_among (is_try h b.body.number) ds (Deed.child b.first) _ (tries_here reach Stopped c of before shown now bs row runs ours own i b at ∙ ap (map Deed.child) (first_try i b at)))))
