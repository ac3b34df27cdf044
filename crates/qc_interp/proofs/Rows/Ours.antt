-- Where all that concerns a transaction is the client's that merged branches below it, all that concerns a branch's try is
-- the branch's.
use Rattle.std.proofs.Common.{◌≡◌, ◌⊎◌, inl, inr, ℕ, ◌<◌, Bool, true, false, List, [], ◌∷◌, ◌++◌, length, take, refl, sym, ap, ◌∙◌, subst, arith, append-nil, append_assoc, filter}
use mathlib.Core.Bool.{true≢false}
use Rattle.std.specs.Prelude.{Option, None, Some, is_some, not, slice_get, ◌==◌, ◌||◌, ◌&&◌, if◌then◌else◌}
use Rattle.std.specs.List.{AllByRecursion, list_all}
use Rattle.std.specs.Option.{option_or, option_map_or}
use Rattle.std.proofs.lemmas.Bool.{and_parts, and_from, or_cases, or_left, or_right}
use Rattle.std.proofs.Math.Seq.{take-append_seam}
use Rattle.qc_event.specs.declared.event.Answer.{Answer}
use Rattle.qc_event.specs.declared.event.Cause.TheVariants.{Asked}
use Rattle.qc_event.specs.declared.event.Entry.{Entry}
use Rattle.qc_event.specs.declared.event.Event.{Event}
use Rattle.qc_event.specs.declared.event.Event.TheVariants as event
use Rattle.qc_event.specs.declared.event.How.{How}
use Rattle.qc_event.specs.declared.event.How.TheVariants.{Commit, Abort}
use Rattle.qc_event.specs.Base.{Setting}
use Rattle.qc_event.specs.History.{Past, Name, earliest, end, end_in, is_ready, ready_in, is_child}
use Rattle.qc_event.specs.Legal.{Legal}
use Rattle.qc_event.proofs.Absent.{same_itself}
use Rattle.qc_event.proofs.LastNumber.{child_last, same_last, child_longer, rest_of, ends_in, ancestor_further}
use Rattle.qc_event.proofs.Lawful.{ends_open}
use Rattle.qc_event.proofs.LegalOrderly.{legal_orderly}
use Rattle.qc_event.proofs.OneEntry.{end_now, stays_some, here_some}
use Rattle.qc_names.specs.Name as name
use Rattle.qc_script.specs.Client.{Client, mine, is_own, about, is_upward, is_commit, scope, concerns, AreOurs}
use Rattle.qc_interp.specs.Branches.{Branch, IsBegun, AreTriesOurs, tries_by, with_all, RanRow}
use Rattle.qc_interp.specs.Follows.{IsUnended}
use Rattle.qc_interp.specs.Reach.{Reach}
use Rattle.qc_interp.specs.Running.{Runs}
use Rattle.qc_interp.proofs.Listing.Lists.{all_join}
use Rattle.qc_interp.proofs.Scopes.Growth.{implied}
use Rattle.qc_interp.proofs.Listing.Places.{some_same, at_place, each_place}
use Rattle.qc_interp.proofs.Rows.Agrees.{tells}
use Rattle.qc_interp.proofs.Rows.Seats.{own_as_before}
use Rattle.qc_interp.proofs.Rows.Tries.{IsTry, one_child, upward_above, stays_about, root_is, try_at, Owner, owners, quiet_before, quiet_other, other_try}
use Rattle.qc_interp.proofs.Scopes.Scope.{in_or_upward, child_scope, same_scope}
use Rattle.qc_interp.proofs.Following.Seen.{own_once}
use Rattle.qc_interp.proofs.Following.Turning.{itself}
use Rattle.qc_event.proofs.Booleans.{implies}

-- WHOM IT IS ABOUT THAT CONCERNS A SCOPE

-- it makes one ready, or commits it
abbrev pub IsReadyOrCommit : Name → Event → Type 0
IsReadyOrCommit n ev = (ev ≡ event.Ready n) ⊎ ((given : Answer) × (ev ≡ event.End n (Commit given)))

abbrev pub ConcernsBy : Name → Name → Event → Type 0
ConcernsBy t n ev = (name.is_ancestor t n ≡ true) ⊎ ((is_upward t n ≡ true) × IsReadyOrCommit n ev)

pub concerns_by : (t : Name) (ev : Event) → concerns t ev ≡ true → (n : Name) × (about ev ≡ Some n) × ConcernsBy t n ev
concerns_by t (event.Start n k) h = (n, refl, inl h)
concerns_by t (event.Mark n session) h = (n, refl, inl h)
concerns_by t (event.Ready n) h = (
  n,
  refl,
  elim (or_cases (name.is_ancestor t n) (is_upward t n) h) [
    | inl low ↦ inl low
    | inr up ↦ inr (up, inl refl)
  ],
)
concerns_by t (event.End n how) h = (n, refl, by_how how (or_cases (name.is_ancestor t n) (is_upward t n && is_commit how) (and_parts _ _ h).0))
  where
    by_how : (x : How) → (name.is_ancestor t n ≡ true) ⊎ ((is_upward t n && is_commit x) ≡ true) → ConcernsBy t n (event.End n x)
    by_how x (inl low) = inl low
    by_how (Commit given) (inr up) = inr ((and_parts (is_upward t n) true up).0, inr (given, refl))
    by_how (Abort cause) (inr up) = absurd (true≢false (sym (and_parts (is_upward t n) false up).1))
concerns_by t _ h = absurd (true≢false (sym h))

-- what concerns a name's scope concerns a wider one
pub concerns_wider : (s t : Name) (ev : Event) → ((n : Name) → name.is_ancestor t n ≡ true → name.is_ancestor s n ≡ true) → ((n : Name) → is_upward t n ≡ true → (name.is_ancestor s n ≡ true) ⊎ (is_upward s n ≡ true)) → concerns t ev ≡ true → concerns s ev ≡ true
concerns_wider s t (event.Start n k) low up h = low n h
concerns_wider s t (event.Mark n session) low up h = low n h
concerns_wider s t (event.Ready n) low up h = elim (or_cases (name.is_ancestor t n) (is_upward t n) h) [
  | inl is ↦ or_left _ _ (low n is)
  | inr is ↦ elim (up n is) [
    | inl below ↦ or_left _ _ below
    | inr above ↦ or_right _ _ above
  ]
]
concerns_wider s t (event.End n how) low up h =
    let parts = and_parts (name.is_ancestor t n || (is_upward t n && is_commit how)) (not ((length n == 1) && is_commit how)) h in
    and_from (name.is_ancestor s n || (is_upward s n && is_commit how)) (not ((length n == 1) && is_commit how)) (elim (or_cases (name.is_ancestor t n) (is_upward t n && is_commit how) parts.0) [
      | inl is ↦ or_left _ _ (low n is)
      | inr is ↦ by_up (and_parts (is_upward t n) (is_commit how) is)
    ]) parts.1
  where
    by_up : (is_upward t n ≡ true) × (is_commit how ≡ true) → (name.is_ancestor s n || (is_upward s n && is_commit how)) ≡ true
    by_up both = elim (up n both.0) [
      | inl below ↦ or_left _ _ below
      | inr above ↦ or_right _ _ (and_from (is_upward s n) (is_commit how) above both.1)
    ]
concerns_wider s t _ low up h = absurd (true≢false (sym h))

-- WHO ENDED

-- what an entry ends has ended so
pub end_told : (setting : Setting) (past : Past) → Legal setting past → AllByRecursion (λ (e : Entry). (n : Name) (how : How) → e.event ≡ event.End n how → end past n ≡ Some how) past
end_told setting [] legal = tt
end_told setting (e ∷ past) legal = (here, later past (end_told setting past legal.0))
  where
    here : (n : Name) (how : How) → e.event ≡ event.End n how → end (e ∷ past) n ≡ Some how
    here n how is = ap (λ o. option_or o (end_in n e.event)) (ends_open past e n how is (legal_orderly setting (e ∷ past) legal).1).not_ended ∙ end_now n e.event how is

    later : (es : Past) → AllByRecursion (λ (x : Entry). (n : Name) (how : How) → x.event ≡ event.End n how → end past n ≡ Some how) es → AllByRecursion (λ (x : Entry). (n : Name) (how : How) → x.event ≡ event.End n how → end (e ∷ past) n ≡ Some how) es
    later [] all = tt
    later (x ∷ es) all = (λ n how is. ap (λ o. option_or o (end_in n e.event)) (all.0 n how is), later es all.1)

-- what an entry that is kept tells is told
pub told_some : {X Y : Type 0} (f : X → Entry → Option Y) (keep : Entry → Bool) (past : Past) → AllByRecursion (λ e. keep e ≡ true → (n : X) → is_some (f n e) ≡ true → is_some (earliest (f n) (filter keep past)) ≡ true) past
told_some f keep [] = tt
told_some {X = X} f keep (e ∷ past) = (here, later past (told_some f keep past))
  where
    more : (n : X) → is_some (earliest (f n) (filter keep past)) ≡ true → is_some (earliest (f n) (filter keep (e ∷ past))) ≡ true
    more n h = by_test (keep e)
      where
        by_test : (x : Bool) → is_some (earliest (f n) (if x then e ∷ filter keep past else filter keep past)) ≡ true
        by_test false = h
        by_test true = stays_some (earliest (f n) (filter keep past)) (f n e) h

    here : keep e ≡ true → (n : X) → is_some (f n e) ≡ true → is_some (earliest (f n) (filter keep (e ∷ past))) ≡ true
    here kept n some = ap (λ (x : Bool). is_some (earliest (f n) (if x then e ∷ filter keep past else filter keep past))) kept ∙ here_some (earliest (f n) (filter keep past)) (f n e) some

    later : (es : Past) → AllByRecursion (λ x. keep x ≡ true → (n : X) → is_some (f n x) ≡ true → is_some (earliest (f n) (filter keep past)) ≡ true) es → AllByRecursion (λ x. keep x ≡ true → (n : X) → is_some (f n x) ≡ true → is_some (earliest (f n) (filter keep (e ∷ past))) ≡ true) es
    later [] all = tt
    later (x ∷ es) all = (λ kept n some. more n (all.0 kept n some), later es all.1)

-- A TRY OF A BRANCH

-- who is above a child is the child, or above its parent
pub child_or_above : (of t n : Name) → is_child of t ≡ true → name.is_ancestor n t ≡ true → (n ≡ t) ⊎ ((r : Name) × (of ≡ n ++ r))
child_or_above of t n child low =
    let j = child_last of t child in
    let r = rest_of n t low in
    elim (ends_in r.0) [
      | inl none ↦ inl (sym (r.1 ∙ ap (λ y. n ++ y) none ∙ append-nil n))
      | inr e ↦ inr (e.0, (same_last of (n ++ e.0) j.0 e.1 (sym j.1 ∙ r.1 ∙ ap (λ y. n ++ y) e.2 ∙ sym (append_assoc n e.0 (e.1 ∷ [])))).0)
    ]

pub upward_long : (t n : Name) → is_upward t n ≡ true → 0 < length n
upward_long t [] up = absurd (true≢false (sym up))
upward_long t (x ∷ n) up = omega arith

-- a client below whose root a child stands has the child as its scope
pub child_is_scope : (c : Client) (t : Name) → is_child c.root t ≡ true → scope c t ≡ t
child_is_scope c t child =
    ap (λ k. take k t) (sym (child_longer c.root t child)) ∙ ap (take (length t)) (sym (append-nil t)) ∙ take-append_seam t []

pub none_of : (c : Client) (of : Name) (before shown : Past) (bs : List Branch) → AllByRecursion (IsBegun c of before shown) bs → AllByRecursion (λ b. AllByRecursion (λ (e : Entry). is_own b.client e.seat ≡ false) before) bs
none_of c of before shown [] all = tt
none_of c of before shown (b ∷ bs) all = (all.0.none, none_of c of before shown bs all.1)

module _ (reach : Reach) (Stopped : Branch → Type 0) (c : Client) (of : Name) (before shown now : Past) (bs : List Branch) (row : RanRow reach Stopped c of before shown now bs) (runs : Runs c of before) where
  -- before, nobody at or above the transaction was ready or had committed by what the client made
  none_above : (e : Entry) (n r : Name) → of ≡ n ++ r → 0 < length n → IsReadyOrCommit n e.event
      → (is_some (end_in n e.event) ≡ true → is_some (end (mine c before) n) ≡ true) → (is_some (ready_in n e.event) ≡ true → is_ready (mine c before) n ≡ true)
      → ((how : How) → e.event ≡ event.End n how → end before n ≡ Some how) → ⊥
  none_above e n r is far (inl ready) ended readies told =
      true≢false (sym (readies (ap (λ ev. is_some (ready_in n ev)) ready ∙ ap (λ b. is_some (if b then Some tt else None)) (same_itself n))) ∙ (runs.above n r is far).1)
  none_above e n r is far (inr commits) ended readies told =
      by_end (end (mine c before) n) refl (ended (ap is_some (end_now n e.event (Commit commits.0) commits.1))) (runs.above n r is far).0
    where
      by_end : (o : Option How) → end (mine c before) n ≡ o → is_some o ≡ true → IsUnended n o → ⊥
      by_end None at some going = true≢false (sym some)
      by_end (Some how) at some going =
          let same : how ≡ Commit commits.0 = some_same how (Commit commits.0) (sym (own_once c before n how runs.legal at) ∙ told (Commit commits.0) commits.1) in
          by_commit (subst (λ h. IsUnended n (Some h)) same going)
        where
          by_commit : IsUnended n (Some (Commit commits.0)) → ⊥
          by_commit (inl none) = absurd cc
          by_commit (inr asked) = asked

  module _ (i : ℕ) (b : Branch) (at : slice_get bs i ≡ Some b) (t : Name) (try : IsTry of now b t) where
    abbrev d : Client
    d = with_all c bs

    abbrev Ours : Entry → Type 0
    Ours e = is_own d e.seat ≡ true → concerns t e.event ≡ true → is_own b.client e.seat ≡ true

    -- nothing that stood before concerns it
    old : AllByRecursion Ours before
    old = each_place Ours before (λ k e is own h. absurd (none k e is own (concerns_by t e.event h)))
      where
        not_told : (e : Entry) (n : Name) → tells t e ≡ false → about e.event ≡ Some n → name.is_ancestor t n ≡ true → ⊥
        not_told e n quiet is low = true≢false (sym (ap (λ o. option_map_or (λ m. name.is_ancestor t m) o false) is ∙ low) ∙ quiet)

        none : (k : ℕ) (e : Entry) → slice_get before k ≡ Some e → is_own d e.seat ≡ true → (n : Name) × (about e.event ≡ Some n) × ConcernsBy t n e.event → ⊥
        none k e is own (n, whom, inl low) = not_told e n (at_place _ before k e (quiet_before reach Stopped c of before shown now bs row i b at t try) is) whom low
        none k e is own (n, whom, inr up) = elim (child_or_above of t n try.child (upward_above t n up.0)) [
          | inl same ↦ not_told e n (at_place _ before k e (quiet_before reach Stopped c of before shown now bs row i b at t try) is) whom (ap (name.is_ancestor t) same ∙ itself t)
          | inr r ↦
              let ours : is_own c e.seat ≡ true = sym (at_place _ before k e (own_as_before c bs before (none_of c of before shown bs row.begun)) is) ∙ own in
              none_above e n r.0 r.1 (upward_long t n up.0) up.1
              (at_place _ before k e (told_some (λ m (x : Entry). end_in m x.event) (λ (x : Entry). is_own c x.seat) before) is ours n)
              (at_place _ before k e (told_some (λ m (x : Entry). ready_in m x.event) (λ (x : Entry). is_own c x.seat) before) is ours n)
              (at_place _ before k e (end_told c.setting before runs.legal) is n)
        ]

    -- of what came since only the branch's own entries concern it
    new : AllByRecursion Ours row.made.newer
    new = by_entries row.made.newer (owners reach Stopped c of before shown now bs row)
      where
        other : (e : Entry) → Owner reach Stopped c of before shown now bs row e → is_own b.client e.seat ≡ false → (n : Name) × (about e.event ≡ Some n) × ConcernsBy t n e.event → ⊥
        other e o not_ours (n, whom, inl low) =
            true≢false (sym (ap (λ x. option_map_or (λ m. name.is_ancestor t m) x false) whom ∙ low) ∙ quiet_other reach Stopped c of before shown now bs row i b at t try e o not_ours)
        other e o not_ours (n, whom, inr up) = elim (stays_about o.try n e o.stays whom) [
          | inl low ↦ other_try reach Stopped c of before shown now bs row i b at t try e o not_ours (one_child of o.try t t o.is_try.child try.child (ancestor_further o.try n t low (upward_above t n up.0)) (itself t))
          | inr asks ↦ not_asked asks.by asks.is up.1
        ]
          where
            not_asked : (by : Name) → e.event ≡ event.End n (Abort (Asked by)) → IsReadyOrCommit n e.event → ⊥
            not_asked by is (inl ready) = absurd cc
            not_asked by is (inr commits) = absurd (abort_or_commit (sym is ∙ commits.1))
              where
                abort_or_commit : event.End n (Abort (Asked by)) ≡ event.End n (Commit commits.0) → ⊥
                abort_or_commit h = cc

        by_entries : (es : Past) → AllByRecursion (λ e. is_own d e.seat ≡ true → Owner reach Stopped c of before shown now bs row e) es → AllByRecursion Ours es
        by_entries [] all = tt
        by_entries (e ∷ es) all = (λ own h. by_own e (is_own b.client e.seat) refl (all.0 own) h, by_entries es all.1)
          where
            by_own : (x : Entry) (y : Bool) → is_own b.client x.seat ≡ y → Owner reach Stopped c of before shown now bs row x → concerns t x.event ≡ true → y ≡ true
            by_own x true is o h = refl
            by_own x false is o h = absurd (other x o is (concerns_by t x.event h))

    -- so all that concerns it is the branch's
    pub try_ours : AreOurs d of now → AreOurs b.client t now
    try_ours ours = by_entries now (subst (AllByRecursion Ours) (sym row.made.grown) (all_join Ours row.made.newer before new old)) ours
      where
        in_scope : scope b.client t ≡ t
        in_scope = child_is_scope b.client t (ap (λ r. is_child r t) (root_is reach Stopped c of before shown now bs row i b at) ∙ try.child)

        wider : (ev : Event) → concerns t ev ≡ true → concerns (scope d of) ev ≡ true
        wider ev h =
            concerns_wider (scope d of) t ev (λ n low. ancestor_further (scope d of) t n (child_scope d of t try.child) low) (λ n up.
            let r = rest_of n t (upward_above t n up) in
            subst (λ s. (name.is_ancestor s n ≡ true) ⊎ (is_upward s n ≡ true)) (same_scope d of t runs.below try.child) (in_or_upward d t n r.0 r.1 (upward_long t n up))) h

        by_entries : (es : Past) → AllByRecursion Ours es → list_all (λ (e : Entry). not (concerns (scope d of) e.event) || is_own d e.seat) es ≡ true
            → list_all (λ (e : Entry). not (concerns (scope b.client t) e.event) || is_own b.client e.seat) es ≡ true
        by_entries [] all h = refl
        by_entries (e ∷ es) all h =
            let parts = and_parts (not (concerns (scope d of) e.event) || is_own d e.seat) _ h in
            and_from (not (concerns (scope b.client t) e.event) || is_own b.client e.seat) _
            (implies (concerns (scope b.client t) e.event) (is_own b.client e.seat) (λ x.
            let is : concerns t e.event ≡ true = ap (λ s. concerns s e.event) (sym in_scope) ∙ x in
            all.0 (implied (concerns (scope d of) e.event) (is_own d e.seat) parts.0 (wider e.event is)) is))
            (by_entries es all.1 parts.1)

  -- all about the tries of each branch is its own
  pub tries_ours : AreOurs (with_all c bs) of now → (i : ℕ) (b : Branch) → slice_get bs i ≡ Some b → AreTriesOurs b.client now
  tries_ours ours i b at = each_place _ (tries_by b.client now) (λ k t is. try_ours i b at t (try_at reach Stopped c of before shown now bs row i b at k t is) ours)
