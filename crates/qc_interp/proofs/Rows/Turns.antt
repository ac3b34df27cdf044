-- Branches at once act in turn: each among its own by itself, and apart from the others.
use Rattle.std.proofs.Common.{◌≡◌, ℕ, ◌+◌, Bool, true, false, List, [], ◌∷◌, ◌++◌, length, refl, sym, ap, ◌∙◌, subst, arith, append_assoc}
use mathlib.Core.Bool.{true≢false}
use Rattle.std.specs.Prelude.{Option, None, Some, is_some, is_none, slice_get, ◌==◌, ◌||◌, if◌then◌else◌}
use Rattle.std.specs.List.{AllByRecursion, list_all}
use Rattle.std.specs.Option.{option_map, option_map_or}
use Rattle.std.proofs.lemmas.Bool.{and_parts, and_from, or_left, or_right, eqb-true, false_from_ne_true}
use Rattle.std.proofs.lemmas.List.Elements.{filter-append}
use Rattle.qc_event.specs.declared.event.Entry.{Entry}
use Rattle.qc_event.specs.History.{Past, Name, Begun, every, start, is_child}
use Rattle.qc_event.specs.Legal.{Legal}
use Rattle.qc_event.proofs.Booleans.{or_wider, all_wider}
use Rattle.qc_event.proofs.LastNumber.{child_longer, rest_of, below_more, ancestor_further}
use Rattle.qc_event.proofs.Later.{earlier_legal, start_still}
use Rattle.qc_event.proofs.Lawful.{lawful}
use Rattle.qc_event.proofs.LegalOrderly.{legal_orderly}
use Rattle.qc_event.proofs.Lineage.{above_started}
use Rattle.qc_event.proofs.OneEntry.{start_stays}
use Rattle.qc_names.specs.Name as name
use Rattle.qc_script.specs.Client.{Client, mine, is_own, AreOurs}
use Rattle.qc_script.specs.Numbers.{each, any_top}
use Rattle.qc_interp.specs.Adding.{stays_in}
use Rattle.qc_interp.specs.Branches.{Branch, with_all, seats_of, RanRow}
use Rattle.qc_interp.specs.Reach.{Reach, AtTheEnd}
use Rattle.qc_interp.specs.Running.{Runs}
use Rattle.qc_interp.specs.Turns.{begun_in, acts, is_done, is_alone, seat_of, keeps_seat, are_apart, has_turn, takes_turn}
use Rattle.qc_event.proofs.Lists.{get_first}
use Rattle.qc_interp.proofs.Listing.Lists.{all_parts}
use Rattle.qc_interp.proofs.Scopes.Apart.{IsToldSeat, part_at, child_is_above, apart_by, apart_wider}
use Rattle.qc_interp.proofs.Scopes.Beside.{seat_later}
use Rattle.qc_interp.proofs.Scopes.Began.{all_started, start_wider, every_at, every_more}
use Rattle.qc_interp.proofs.Branching.Joined.{joined_mine}
use Rattle.qc_interp.proofs.Listing.Places.{some_same, at_place, each_place}
use Rattle.qc_interp.proofs.Rows.Actors.{stays_actor, begins_about, done_wider, done_later, each_at, seat_wider}
use Rattle.qc_interp.proofs.Rows.Ours.{none_of, tries_ours}
use Rattle.qc_interp.proofs.Rows.Seats.{any_own, seats_owned, one_owner, apart_parts, begun_joined}
use Rattle.qc_interp.proofs.Rows.Tries.{IsTry, own_more, ran_at, root_is, apart_branches, try_owned, same_branch, Owner, owners, other_try}
use Rattle.qc_interp.proofs.Scopes.Seats.{seat_start, own_start, own_seat, number_own}

module _ (reach : Reach) (Stopped : Branch → Type 0) (c : Client) (of : Name) (before shown now : Past) (bs : List Branch) (row : RanRow reach Stopped c of before shown now bs) where
  abbrev d : Client
  d = with_all c bs

  abbrev keep : Entry → Bool
  keep e = is_own d e.seat

  abbrev Of : Entry → Type 0
  Of e = Owner reach Stopped c of before shown now bs row e

  -- the numbers of the client and of its branches are different
  pub number_apart : (i : ℕ) (b : Branch) → slice_get bs i ≡ Some b → (c.number == b.client.number) ≡ false
  number_apart i b at = false_from_ne_true (c.number == b.client.number) (λ h.
      apart_parts (c.number ∷ c.kin) (seats_of bs) b.client.number row.apart (or_left (c.number == b.client.number) _ h) (seats_owned bs b.client.number ∙ any_own bs i b b.client.number at (number_own b.client)))

  pub numbers_apart : (i j : ℕ) (a b : Branch) → slice_get bs i ≡ Some a → slice_get bs j ≡ Some b → (seat : ℕ) → is_own a.client seat ≡ true → is_own b.client seat ≡ false → (a.client.number == b.client.number) ≡ false
  numbers_apart i j a b at also seat own not_own = false_from_ne_true (a.client.number == b.client.number) (λ h.
      let same : a.client.number ≡ b.client.number = eqb-true a.client.number b.client.number h in
      let place = one_owner bs a.client.number i j a b (apart_branches reach Stopped c of before shown now bs row) at also (number_own a.client) (ap (is_own b.client) same ∙ number_own b.client) in
      let one : a ≡ b = same_branch reach Stopped c of before shown now bs row i j a b at also place in
      true≢false (sym (ap (λ (x : Branch). is_own x.client seat) (sym one) ∙ own) ∙ not_own))

  -- by an earlier history in which a try is started it stands under its branch's number
  try_seat : (xs p : Past) → now ≡ xs ++ p → (i : ℕ) (b : Branch) → slice_get bs i ≡ Some b → (t : Name) → IsTry of now b t → is_some (start p t) ≡ true → seat_of (mine d p) t ≡ Some b.client.number
  try_seat xs p is i b at t try some = by_start (start p t) refl some
    where
      by_start : (o : Option Begun) → start p t ≡ o → is_some o ≡ true → seat_of (mine d p) t ≡ Some b.client.number
      by_start None here some = absurd (true≢false (sym some))
      by_start (Some x) here some =
          let same : x ≡ try.by = some_same x try.by (sym (start_still xs p t x here) ∙ ap (λ h. start h t) (sym is) ∙ try.started) in
          let own : is_own d x.seat ≡ true = ap (λ (y : Begun). is_own d y.seat) same ∙ own_more reach Stopped c of before shown now bs row i b at try.by.seat (try_owned reach Stopped c of before shown now bs row i b at t try) in
          ap (option_map (λ (y : Begun). y.seat)) (own_start d p t x here own) ∙ ap (λ (y : Begun). Some y.seat) same ∙ ap (λ s. Some s) try.seat

  -- what a branch is told of seats is told by all
  told_seat : (p : Past) → Legal c.setting p → (i : ℕ) (b : Branch) → slice_get bs i ≡ Some b → (x : Name) → IsToldSeat (seat_of (mine b.client p) x) (seat_of (mine d p) x)
  told_seat p legal i b at x seat is =
      let s = seat_start (mine b.client p) x seat is in
      ap (option_map (λ (y : Begun). y.seat)) (start_wider b.client d c.setting p x s.0 (own_more reach Stopped c of before shown now bs row i b at) legal s.1) ∙ ap (λ y. Some y) s.2

  old_mine : mine d before ≡ mine c before
  old_mine = joined_mine c d before (begun_joined c bs before (none_of c of before shown bs row.begun))

  module _ (runs : Runs c of before) (ours : AreOurs d of now) (alone : is_alone (mine c before) of ≡ true) where
    turns_of : (i : ℕ) (b : Branch) → slice_get bs i ≡ Some b → (each takes_turn (mine b.client now) ≡ true) × AtTheEnd reach (is_alone (mine b.client now) b.client.root ≡ true)
    turns_of i b at = (ran_at reach Stopped c of before shown now bs row i b at).turns (tries_ours reach Stopped c of before shown now bs row runs ours i b at)

    -- what was begun before is done, or is at or above the transaction
    pub old_begun : (by : Name) → name.is_ancestor of by ≡ true → (h : Past) (apart : Name → Bool) → list_all (λ m. is_done (mine d (h ++ before)) m || (name.is_ancestor m by || apart m)) (every (λ x. begun_in x.event) (mine d before)) ≡ true
    old_begun by low h apart =
        ap (λ l. list_all (λ m. is_done (mine d (h ++ before)) m || (name.is_ancestor m by || apart m)) (every (λ x. begun_in x.event) l)) old_mine
        ∙ all_wider (λ m. is_done (mine c before) m || name.is_ancestor m of) _ (every (λ x. begun_in x.event) (mine c before)) (λ m. or_wider (is_done (mine c before) m) (name.is_ancestor m of) (is_done (mine d (h ++ before)) m) (name.is_ancestor m by || apart m)
        (λ done. ap (λ l. is_done l m) (filter-append keep h before) ∙ done_later (mine d h) (mine d before) m (ap (λ l. is_done l m) old_mine ∙ done))
        (λ a. let r = rest_of of by low in or_left (name.is_ancestor m by) (apart m) (ap (name.is_ancestor m) r.1 ∙ below_more m of r.0 a))) alone

    -- AT ONE ENTRY

    module _ (xs : Past) (e : Entry) (es : Past) (is : row.made.newer ≡ xs ++ e ∷ es) (o : Owner reach Stopped c of before shown now bs row e) where
      abbrev h : Past
      h = es ++ before

      now_is : now ≡ xs ++ e ∷ h
      now_is = row.made.grown ∙ ap (λ l. l ++ before) is ∙ append_assoc xs (e ∷ es) before

      legal_here : Legal c.setting (e ∷ h)
      legal_here = earlier_legal c.setting xs (e ∷ h) (subst (Legal c.setting) now_is row.made.legal)

      own_here : is_own d e.seat ≡ true
      own_here = own_more reach Stopped c of before shown now bs row o.place o.one o.at e.seat o.owns

      mine_here : mine d (e ∷ h) ≡ e ∷ mine d h
      mine_here = ap (λ (b : Bool). if b then e ∷ mine d h else mine d h) own_here

      branch_here : mine o.one.client (e ∷ h) ≡ e ∷ mine o.one.client h
      branch_here = ap (λ (b : Bool). if b then e ∷ mine o.one.client h else mine o.one.client h) o.owns

      branch_takes : takes_turn e (mine o.one.client h) ≡ true
      branch_takes = each_at takes_turn (λ (x : Entry). is_own o.one.client x.seat) xs e h (subst (λ x. each takes_turn (mine o.one.client x) ≡ true) now_is (turns_of o.place o.one o.at).0) o.owns

      wider : (x : Entry) → is_own o.one.client x.seat ≡ true → keep x ≡ true
      wider x = own_more reach Stopped c of before shown now bs row o.place o.one o.at x.seat

      started_above : (t n : Name) → is_child of t ≡ true → name.is_ancestor t n ≡ true → is_some (start (e ∷ h) n) ≡ true → is_some (start (e ∷ h) t) ≡ true
      started_above t n child low some =
          let r = rest_of t n low in
          above_started (e ∷ h) t r.0 (lawful (e ∷ h) (legal_orderly c.setting (e ∷ h) legal_here)) (omega (arith, child_longer of t child)) (ap (λ x. is_some (start (e ∷ h) x)) (sym r.1) ∙ some)

      module _ (by : Name) (acting : acts e.event ≡ Some by) where
        actor : (name.is_ancestor o.try by ≡ true) × (is_some (start (e ∷ h) by) ≡ true)
        actor = stays_actor c.setting h e o.try by legal_here o.stays acting

        abbrev passes : Name → Bool
        passes m = is_done (mine d h) m || (name.is_ancestor m by || are_apart (e ∷ mine d h) m by)

        -- one that the same branch began
        same_begun : (m : Name) → (is_done (mine o.one.client h) m || (name.is_ancestor m by || are_apart (e ∷ mine o.one.client h) m by)) ≡ true → passes m ≡ true
        same_begun m =
            or_wider (is_done (mine o.one.client h) m) _ (is_done (mine d h) m) _ (done_wider (λ (x : Entry). is_own o.one.client x.seat) keep h m wider)
            (or_wider (name.is_ancestor m by) _ (name.is_ancestor m by) _ (λ a. a) (apart_wider (e ∷ mine o.one.client h) (e ∷ mine d h) m by (λ x.
            subst (λ l. IsToldSeat (seat_of (e ∷ mine o.one.client h) x) (seat_of l x)) mine_here
            (subst (λ l. IsToldSeat (seat_of l x) (seat_of (mine d (e ∷ h)) x)) branch_here (told_seat (e ∷ h) legal_here o.place o.one o.at x)))))

        -- one that another branch began
        other_begun : (x : Entry) (ox : Of x) (m : Name) → begun_in x.event ≡ Some m → is_some (start h m) ≡ true → is_own o.one.client x.seat ≡ false → passes m ≡ true
        other_begun x ox m tells some not_own =
            let low = (begins_about ox.try m x ox.stays tells).1 in
            let t = o.is_try in
            let u = ox.is_try in
            let differ = other_try reach Stopped c of before shown now bs row o.place o.one o.at o.try t x ox not_own in
            or_right (is_done (mine d h) m) _ (or_right (name.is_ancestor m by) _ (apart_by (e ∷ mine d h) of ox.try o.try m by c.number ox.one.client.number o.one.client.number
            (part_at of ox.try o.try m by u.child t.child differ low actor.0) (child_is_above of ox.try m u.child low) (child_is_above of o.try by t.child actor.0)
            (ap (λ l. seat_of l of) (sym mine_here) ∙ own_seat d (e ∷ h) of (seat_later (e ∷ es) before of c.number runs.seat))
            (ap (λ l. seat_of l ox.try) (sym mine_here) ∙ try_seat xs (e ∷ h) now_is ox.place ox.one ox.at ox.try u (started_above ox.try m u.child low (start_stays e h m some)))
            (ap (λ l. seat_of l o.try) (sym mine_here) ∙ try_seat xs (e ∷ h) now_is o.place o.one o.at o.try t (started_above o.try by t.child actor.0 actor.1))
            (number_apart ox.place ox.one ox.at) (number_apart o.place o.one o.at) (numbers_apart ox.place o.place ox.one o.one ox.at o.at x.seat ox.owns not_own)))

        branch_turn : list_all (λ m. is_done (mine o.one.client h) m || (name.is_ancestor m by || are_apart (e ∷ mine o.one.client h) m by)) (every (λ x. begun_in x.event) (mine o.one.client h)) ≡ true
        branch_turn = sym (ap (λ a. option_map_or (has_turn e (mine o.one.client h)) a true) acting) ∙ (and_parts (keeps_seat e (mine o.one.client h)) _ branch_takes).1

        has_its_turn : has_turn e (mine d h) by ≡ true
        has_its_turn =
            every_more passes (λ x. begun_in x.event) keep es before (each_place _ es (λ k x at own m tells.
            let ox = at_place (λ y. keep y ≡ true → Of y) es k x later at own in
            by_own x ox m tells (begun_started k x m ox.try ox.stays at tells) (is_own o.one.client x.seat) refl (at_place _ h k x by_branch (get_first es before k x at))))
            (old_begun by above_all es (λ m. are_apart (e ∷ mine d h) m by))
          where
            later : AllByRecursion (λ y. keep y ≡ true → Of y) es
            later = (all_parts (λ y. keep y ≡ true → Of y) xs (e ∷ es) (subst (AllByRecursion (λ y. keep y ≡ true → Of y)) is (owners reach Stopped c of before shown now bs row))).1.1

            by_branch : AllByRecursion (λ x. is_own o.one.client x.seat ≡ true → (m : Name) → begun_in x.event ≡ Some m → (is_done (mine o.one.client h) m || (name.is_ancestor m by || are_apart (e ∷ mine o.one.client h) m by)) ≡ true) h
            by_branch = every_at _ (λ x. begun_in x.event) (λ (x : Entry). is_own o.one.client x.seat) h branch_turn

            begun_started : (k : ℕ) (x : Entry) (m : Name) → (t : Name) → stays_in t x ≡ true → slice_get es k ≡ Some x → begun_in x.event ≡ Some m → is_some (start h m) ≡ true
            begun_started k x m t stays at tells = at_place _ h k x (all_started c.setting h legal_here.0) (get_first es before k x at) m (begins_about t m x stays tells).0

            above_all : name.is_ancestor of by ≡ true
            above_all = ancestor_further of o.try by (and_parts (length o.try == length of + 1) (name.is_ancestor of o.try) o.is_try.child).1 actor.0

            by_own : (x : Entry) → Of x → (m : Name) → begun_in x.event ≡ Some m → is_some (start h m) ≡ true → (b : Bool) → is_own o.one.client x.seat ≡ b
                → (is_own o.one.client x.seat ≡ true → (n : Name) → begun_in x.event ≡ Some n → (is_done (mine o.one.client h) n || (name.is_ancestor n by || are_apart (e ∷ mine o.one.client h) n by)) ≡ true) → passes m ≡ true
            by_own x ox m tells some true own turn = same_begun m (turn own m tells)
            by_own x ox m tells some false own turn = other_begun x ox m tells some own

      takes_its_turn : takes_turn e (mine d h) ≡ true
      takes_its_turn =
          and_from (keeps_seat e (mine d h)) _ (seat_wider (mine o.one.client h) (mine d h) e.seat e.event (told_seat h legal_here.0 o.place o.one o.at) (and_parts (is_none (any_top e.event)) _ o.stays).0 (and_parts _ _ branch_takes).0) (by_actor (acts e.event) refl)
        where
          by_actor : (a : Option Name) → acts e.event ≡ a → option_map_or (has_turn e (mine d h)) a true ≡ true
          by_actor None acting = refl
          by_actor (Some by) acting = has_its_turn by acting

    -- ONE AFTER ANOTHER

    each_turn : (xs es : Past) → row.made.newer ≡ xs ++ es → AllByRecursion (λ e. keep e ≡ true → Of e) es → each takes_turn (mine d before) ≡ true → each takes_turn (mine d (es ++ before)) ≡ true
    each_turn xs [] is all was = was
    each_turn xs (e ∷ es) is all was = by_own (keep e) refl (each_turn (xs ++ e ∷ []) es (is ∙ sym (append_assoc xs (e ∷ []) es)) all.1 was)
      where
        by_own : (b : Bool) → keep e ≡ b → each takes_turn (mine d (es ++ before)) ≡ true → each takes_turn (if b then e ∷ mine d (es ++ before) else mine d (es ++ before)) ≡ true
        by_own false own more = more
        by_own true own more = and_from _ _ more (takes_its_turn xs e es is (all.0 own))

    pub row_turns : each takes_turn (mine c before) ≡ true → each takes_turn (mine d now) ≡ true
    row_turns was =
        ap (λ x. each takes_turn (mine d x)) row.made.grown
        ∙ each_turn [] row.made.newer refl (owners reach Stopped c of before shown now bs row) (ap (each takes_turn) old_mine ∙ was)

    -- once each branch is alone below the transaction, that is alone
    pub row_alone : AtTheEnd reach (is_alone (mine d now) of ≡ true)
    row_alone = by_reach reach (λ i b at. (turns_of i b at).1)
      where
        module_end : ((i : ℕ) (b : Branch) → slice_get bs i ≡ Some b → is_alone (mine b.client now) b.client.root ≡ true) → is_alone (mine d now) of ≡ true
        module_end each_alone =
            ap (λ x. list_all (λ m. is_done (mine d now) m || name.is_ancestor m of) (every (λ y. begun_in y.event) (mine d x))) row.made.grown
            ∙ every_more (λ m. is_done (mine d now) m || name.is_ancestor m of) (λ y. begun_in y.event) keep row.made.newer before (each_place _ row.made.newer (λ k x at own m tells.
            let ox = at_place (λ y. keep y ≡ true → Of y) row.made.newer k x (owners reach Stopped c of before shown now bs row) at own in
            let here : slice_get now k ≡ Some x = ap (λ l. slice_get l k) row.made.grown ∙ get_first row.made.newer before k x at in
            let passes = at_place _ now k x (every_at (λ n. is_done (mine ox.one.client now) n || name.is_ancestor n ox.one.client.root) (λ y. begun_in y.event) (λ (y : Entry). is_own ox.one.client y.seat) now (each_alone ox.place ox.one ox.at)) here ox.owns m tells in
            or_wider (is_done (mine ox.one.client now) m) (name.is_ancestor m ox.one.client.root) (is_done (mine d now) m) (name.is_ancestor m of)
            (done_wider (λ (y : Entry). is_own ox.one.client y.seat) keep now m (λ y. own_more reach Stopped c of before shown now bs row ox.place ox.one ox.at y.seat))
            (λ a. ap (name.is_ancestor m) (sym (root_is reach Stopped c of before shown now bs row ox.place ox.one ox.at)) ∙ a) passes)) old_all
          where
            old_all : list_all (λ m. is_done (mine d now) m || name.is_ancestor m of) (every (λ y. begun_in y.event) (mine d before)) ≡ true
            old_all =
                ap (λ l. list_all (λ m. is_done (mine d now) m || name.is_ancestor m of) (every (λ y. begun_in y.event) l)) old_mine
                ∙ all_wider (λ m. is_done (mine c before) m || name.is_ancestor m of) _ (every (λ y. begun_in y.event) (mine c before)) (λ m. or_wider (is_done (mine c before) m) (name.is_ancestor m of) (is_done (mine d now) m) (name.is_ancestor m of)
                (λ done. ap (λ l. is_done (mine d l) m) row.made.grown ∙ ap (λ l. is_done l m) (filter-append keep row.made.newer before) ∙ done_later (mine d row.made.newer) (mine d before) m (ap (λ l. is_done l m) old_mine ∙ done))
                (λ a. a)) alone

        by_reach : (r : Reach) → ((i : ℕ) (b : Branch) → slice_get bs i ≡ Some b → AtTheEnd r (is_alone (mine b.client now) b.client.root ≡ true)) → AtTheEnd r (is_alone (mine d now) of ≡ true)
        by_reach Reach.to_the_end each_alone = module_end each_alone
        by_reach Reach.cut_off each_alone = tt
