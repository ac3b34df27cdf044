-- Behind branches at once that came to the end their transaction goes on.
use Rattle.std.proofs.Common.{◌≡◌, ◌⊎◌, inl, inr, ◌+◌, ℕ, true, false, List, [], ◌∷◌, length, refl, sym, ap, ◌∙◌, subst, arith}
use mathlib.Core.Bool.{true≢false}
use Rattle.std.specs.Prelude.{Option, None, Some, MatchOption, is_some, is_none, slice_get, find, option_map, ◌||◌, ◌&&◌, if◌then◌else◌}
use Rattle.std.specs.List.{list_all}
use Rattle.std.proofs.lemmas.Bool.{or_cases}
use Rattle.std.proofs.lemmas.List.{length-append}
use Rattle.qc_event.specs.declared.event.Entry.{Entry}
use Rattle.qc_event.specs.declared.event.Kind.TheVariants as kind
use Rattle.qc_event.specs.declared.event.How.{How}
use Rattle.qc_event.specs.declared.event.How.TheVariants.{Commit, Abort}
use Rattle.qc_event.specs.History.{Past, Name, Begun, start, end, is_ready, ready_in, children, child_in, kind_of}
use Rattle.qc_event.specs.Standing.{Started, IsUser, IsAbort, open_child}
use Rattle.qc_event.proofs.Booleans.{all_wider}
use Rattle.qc_event.proofs.Histories.{earliest-append}
use Rattle.qc_event.proofs.LastNumber.{child_longer}
use Rattle.qc_event.proofs.Later.{started_still}
use Rattle.qc_event.proofs.LegalOrderly.{ready_top}
use Rattle.qc_event.proofs.OneEntry.{stays_some}
use Rattle.qc_names.specs.Name as name
use Rattle.qc_script.specs.Calls.{is_access, IsOfSession}
use Rattle.qc_script.specs.Client.{Client, mine, is_own, AreOurs}
use Rattle.qc_interp.specs.Branches.{Branch, AreTriesOurs, tries_by, with_all, RanRow}
use Rattle.qc_interp.specs.Follows.{IsUnended}
use Rattle.qc_interp.specs.Reach.{Reach}
use Rattle.qc_interp.specs.Rows.{has_committed}
use Rattle.qc_interp.specs.Running.{Runs, HasFailed}
use Rattle.qc_interp.specs.Turns.{seat_of, is_done, is_alone}
use Rattle.qc_interp.proofs.Following.Alike.{AgreesAt}
use Rattle.qc_interp.proofs.Scopes.Beside.{start_of_kind, seat_later}
use Rattle.qc_interp.proofs.Scopes.Began.{every_more}
use Rattle.qc_interp.proofs.Scopes.Growth.{ours_before}
use Rattle.qc_interp.proofs.Branching.Joined.{joined_ours}
use Rattle.qc_interp.proofs.Scopes.Mine.{kept_some}
use Rattle.qc_interp.proofs.Listing.Places.{some_same, at_place, each_place}
use Rattle.qc_interp.proofs.Rows.Deeds.{starts_it}
use Rattle.qc_interp.proofs.Rows.Here.{try_kind, row_agrees}
use Rattle.qc_interp.proofs.Rows.Leaves.{not_shorter, row_joined, row_later, mine_now, mine_before, row_ready, row_unended}
use Rattle.qc_interp.proofs.Rows.Ours.{tries_ours}
use Rattle.qc_interp.proofs.Rows.Tries.{IsTry, ran_at, root_is, try_at, Owner, owners}
use Rattle.qc_interp.proofs.Sessions.Settled.{begun_passes}
use Rattle.qc_interp.proofs.Following.Turning.{itself}

-- WHO HAS ENDED

-- none is open where each has ended
pub none_open : (h : Past) (ts : List Name) → list_all (λ t. is_some (end h t)) ts ≡ true → find (λ t. is_none (end h t)) ts ≡ None
none_open h [] all = refl
none_open h (t ∷ ts) all = by_end (end h t) all (none_open h ts)
  where
    by_end : (o : Option How) → (is_some o && list_all (λ x. is_some (end h x)) ts) ≡ true → (list_all (λ x. is_some (end h x)) ts ≡ true → find (λ x. is_none (end h x)) ts ≡ None) → (if is_none o then Some t else find (λ x. is_none (end h x)) ts) ≡ None
    by_end None all more = absurd (true≢false (sym all))
    by_end (Some how) all more = more all

pub each_ended : (h : Past) (ts : List Name) → find (λ t. is_none (end h t)) ts ≡ None → list_all (λ t. is_some (end h t)) ts ≡ true
each_ended h [] none = refl
each_ended h (t ∷ ts) none = by_end (end h t) none (each_ended h ts)
  where
    by_end : (o : Option How) → (if is_none o then Some t else find (λ x. is_none (end h x)) ts) ≡ None → (find (λ x. is_none (end h x)) ts ≡ None → list_all (λ x. is_some (end h x)) ts ≡ true) → (is_some o && list_all (λ x. is_some (end h x)) ts) ≡ true
    by_end None none more = absurd cc
    by_end (Some how) none more = more none

not_access : (o : Option Begun) (b : Begun) (s number : ℕ) → o ≡ Some b → option_map (λ (x : Begun). x.kind) o ≡ Some (kind.User s number) → is_access b.kind ≡ false
not_access o b s number at is = ap is_access (some_same b.kind (kind.User s number) (sym (ap (option_map (λ (x : Begun). x.kind)) at) ∙ is))

module _ (Stopped : Branch → Type 0) (c : Client) (of : Name) (before shown now : Past) (bs : List Branch) (row : RanRow Reach.to_the_end Stopped c of before shown now bs) (runs : Runs c of before) where
  abbrev d : Client
  d = with_all c bs

  module _ (ours : AreOurs (with_all c bs) of now) where
    -- each try has ended
    pub try_ended : (i : ℕ) (b : Branch) → slice_get bs i ≡ Some b → (k : ℕ) (t : Name) → slice_get (tries_by b.client now) k ≡ Some t → is_some (end (mine (with_all c bs) now) t) ≡ true
    try_ended i b at k t is =
        ap is_some (sym (agrees.ended))
        ∙ by_done (or_cases (is_done (mine b.client now) t) (name.is_ancestor t b.client.root) (begun_passes (λ n. is_done (mine b.client now) n || name.is_ancestor n b.client.root) (mine b.client now) t begun.0 begun.1 (not_access (start (mine b.client now) t) begun.0 c.session b.body.number begun.1 kind_is) alone))
      where
        try : IsTry of now b t
        try = try_at Reach.to_the_end Stopped c of before shown now bs row i b at k t is

        agrees : AgreesAt (mine b.client now) (mine d now) t
        agrees = row_agrees Reach.to_the_end Stopped c of before shown now bs row i b at t try t (itself t)

        kind_is : kind_of (mine b.client now) t ≡ Some (kind.User c.session b.body.number)
        kind_is = agrees.kind ∙ try_kind Reach.to_the_end Stopped c of before shown now bs row runs ours i b at k t is

        begun : (x : Begun) × (start (mine b.client now) t ≡ Some x)
        begun = start_of_kind (mine b.client now) t (kind.User c.session b.body.number) kind_is

        alone : is_alone (mine b.client now) b.client.root ≡ true
        alone = ((ran_at Reach.to_the_end Stopped c of before shown now bs row i b at).turns (tries_ours Reach.to_the_end Stopped c of before shown now bs row runs ours i b at)).1

        long : length t ≡ length of + 1
        long = child_longer of t try.child

        by_end : (is_some (end (mine b.client now) t) ≡ true) ⊎ (is_ready (mine b.client now) t ≡ true) → is_some (end (mine b.client now) t) ≡ true
        by_end (inl ended) = ended
        by_end (inr ready) =
            let top = ready_top c.setting now t row.made.legal (kept_some (λ (e : Entry). is_own b.client e.seat) (λ e. ready_in t e.event) now ready) in
            let z : ⊥ = omega (arith, top, long, runs.nonroot) in absurd z

        by_done : (is_done (mine b.client now) t ≡ true) ⊎ (name.is_ancestor t b.client.root ≡ true) → is_some (end (mine b.client now) t) ≡ true
        by_done (inl done) = by_end (or_cases (is_some (end (mine b.client now) t)) (is_ready (mine b.client now) t) done)
        by_done (inr above) =
            let short = not_shorter t b.client.root above in
            let root = ap length (root_is Reach.to_the_end Stopped c of before shown now bs row i b at) in
            let z : ⊥ = omega (arith, short, root, long) in absurd z

    -- so each child of the transaction has
    row_closed : open_child (mine d now) of ≡ None
    row_closed =
        none_open (mine d now) (children (mine d now) of)
        (ap (λ l. list_all (λ t. is_some (end (mine d now) t)) (children (mine d l) of)) row.made.grown
        ∙ every_more (λ t. is_some (end (mine d now) t)) (λ e. child_in of e.event) (λ (e : Entry). is_own d e.seat) row.made.newer before (each_place _ row.made.newer (λ k e is kept m tells.
        of_owner e m tells (at_place (λ y. is_own d y.seat ≡ true → Owner Reach.to_the_end Stopped c of before shown now bs row y) row.made.newer k e (owners Reach.to_the_end Stopped c of before shown now bs row) is kept))) old)
      where
        of_owner : (e : Entry) (m : Name) → child_in of e.event ≡ Some m → Owner Reach.to_the_end Stopped c of before shown now bs row e → is_some (end (mine d now) m) ≡ true
        of_owner e m tells o = ap (λ n. is_some (end (mine d now) n)) (starts_it of o.try m e o.is_try.child o.stays tells) ∙ try_ended o.place o.one o.at o.turn o.try o.listed

        ours_then : AreOurs c of before
        ours_then =
            joined_ours c d before (row_joined Reach.to_the_end Stopped c of before shown now bs row) of
            (ours_before d of before now (row_later Reach.to_the_end Stopped c of before shown now bs row) ours)

        old : list_all (λ t. is_some (end (mine d now) t)) (children (mine d before) of) ≡ true
        old =
            ap (λ l. list_all (λ t. is_some (end (mine d now) t)) (children l of)) (mine_before Reach.to_the_end Stopped c of before shown now bs row)
            ∙ all_wider (λ t. is_some (end (mine c before) t)) (λ t. is_some (end (mine d now) t)) (children (mine c before) of) (λ t ended.
            ap (λ l. is_some (end l t)) (mine_now Reach.to_the_end Stopped c of before shown now bs row) ∙ ap is_some (earliest-append _ (mine d row.made.newer) (mine d before))
            ∙ stays_some _ _ (ap (λ l. is_some (end l t)) (mine_before Reach.to_the_end Stopped c of before shown now bs row) ∙ ended)) (each_ended (mine c before) (children (mine c before) of) (runs.closed ours_then))

  -- a try that did not commit, and is a user transaction, has failed
  pub row_has_failed : (i : ℕ) (b : Branch) → slice_get bs i ≡ Some b → (k : ℕ) (t : Name) → slice_get (tries_by b.client now) k ≡ Some t → Started now t (λ e. IsUser e.kind)
      → (AreTriesOurs b.client now → has_committed (end (mine b.client now) t) ≡ false) → HasFailed (with_all c bs) of now t
  row_has_failed i b at k t is user failed = record {
    is_one = (try_at Reach.to_the_end Stopped c of before shown now bs row i b at k t is).child;
    user = user;
    aborted = λ ours. by_end (end (mine d now) t) (try_ended ours i b at k t is)
        (ap has_committed (sym (row_agrees Reach.to_the_end Stopped c of before shown now bs row i b at t (try_at Reach.to_the_end Stopped c of before shown now bs row i b at k t is) t (itself t)).ended) ∙ failed (tries_ours Reach.to_the_end Stopped c of before shown now bs row runs ours i b at));
  }
    where
      by_end : (o : Option How) → is_some o ≡ true → has_committed o ≡ false → MatchOption o ⊥ IsAbort
      by_end None some h = absurd (true≢false (sym some))
      by_end (Some (Commit given)) some h = absurd (true≢false h)
      by_end (Some (Abort x)) some h = tt

  pub row_runs_on : Runs (with_all c bs) of now
  row_runs_on = record {
    legal = row.made.legal;
    user = subst (λ h. Started h of (λ b. IsOfSession c.session b.kind)) (sym row.made.grown) (started_still row.made.newer before of (λ b. IsOfSession c.session b.kind) runs.user);
    seat = ap (λ h. seat_of h of) row.made.grown ∙ seat_later row.made.newer before of c.number runs.seat;
    nonroot = runs.nonroot;
    below = runs.below;
    above = λ p r is far.
        let l : length of ≡ length p + length r = ap length is ∙ length-append p r in
        let was = runs.above p r is far in (
          row_unended Reach.to_the_end Stopped c of before shown now bs row p (omega (arith, l)) (subst (λ h. IsUnended p (end h p)) (sym (mine_before Reach.to_the_end Stopped c of before shown now bs row)) was.0),
          row_ready Reach.to_the_end Stopped c of before shown now bs row p (omega (arith, l)) ∙ ap (λ h. is_ready h p) (mine_before Reach.to_the_end Stopped c of before shown now bs row) ∙ was.1,
        );
    closed = row_closed;
  }
