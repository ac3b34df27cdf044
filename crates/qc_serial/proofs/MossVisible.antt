-- What a transaction that is not dead is served: each grant finds what the earlier ones leave, and they are
-- the grants that the transaction sees.
use Rattle.std.proofs.Common.{ℕ, zero, suc, ◌≡◌, ◌<◌, ◌==◌, ◌&&◌, true, List, [], ◌∷◌, ◌++◌, length, reverse, refl, sym, ap, ap₂, ◌∙◌, subst, inl, inr, ◌⊎◌, arith, get_or, append-nil}
use mathlib.Core.List.{reverse-cons}
use Rattle.std.specs.Prelude.{Option, None, Some, is_some, filter, MatchOption}
use Rattle.std.specs.List.{Contains}
use Rattle.std.proofs.lemmas.List.{reverse-reverse}
use Rattle.qc_names.specs.Name as name
use Rattle.qc_names.specs.Name.{is_ancestor}
use Rattle.qc_event.specs.declared.event.Entry.{Entry}
use Rattle.qc_event.specs.declared.event.Event.{Event}
use Rattle.qc_event.specs.declared.event.Event.TheVariants as event
use Rattle.qc_event.specs.declared.event.Grant.{Grant}
use Rattle.qc_event.specs.declared.event.Kind.TheVariants as kind
use Rattle.qc_event.specs.Base.{Setting, start_tuple}
use Rattle.qc_event.specs.History.{Past, Name, Begun, Given, start, granted, grants}
use Rattle.qc_event.specs.Dead.{outcome, is_committed, dead}
use Rattle.qc_event.specs.Seen.{changed_by}
use Rattle.qc_event.specs.Standing.{IsUser, IsManager, Started}
use Rattle.qc_event.specs.Grants.{MayGrant}
use Rattle.qc_event.specs.Legal.{Legal, Allowed, MayHappen}
use Rattle.qc_event.proofs.KindsApart.{user_or_manager}
use Rattle.qc_event.proofs.LastNumber.{EndsIn, ends_in, front_last, rest_of, is_ancestor-append}
use Rattle.qc_event.proofs.OneEntry.{some_or_none}
use Rattle.qc_event.proofs.Orderly.{Orderly, Belongs}
use Rattle.qc_event.proofs.Lawful.{Lawful, lawful, started_some, started_wider, nonroot}
use Rattle.qc_event.proofs.LegalOrderly.{legal_orderly}
use Rattle.qc_event.proofs.Lineage.{above_user}
use Rattle.qc_serial.specs.Serial.{IsUserOf}
use Rattle.qc_serial.specs.Visible.{served_order, left_at, Finds, is_visible, IsVisible}
use Rattle.qc_serial.proofs.Accesses.{IsAccess, asked_access, granted_asked, granted_step, grant_stays, grant_now}
use Rattle.qc_serial.proofs.MossNames.{Line, IsAbove, two_ways, above-trans}
use Rattle.qc_serial.proofs.MossMoves as moss
use Rattle.qc_serial.proofs.MossMoves.{is_shown}
use Rattle.qc_serial.proofs.MossLocks.{In, AllLive}
use Rattle.qc_serial.proofs.MossSerial.{serial}
use Rattle.qc_serial.proofs.MossHistory.{Shown, shown-all, shown-from}
use Rattle.qc_serial.proofs.MossLists.{in-left, in-right}
use Rattle.qc_serial.proofs.MossWalks.{Visible, serial-in}
use Rattle.qc_serial.proofs.MossOrder.{serial-has, state-shown, serial-chain}
use Rattle.qc_serial.proofs.MossTurned.{above_ancestor, ancestor_above}
use Rattle.qc_serial.proofs.MossPast.{move_in, moves, start_at, end_grants, left_moves}
use Rattle.qc_serial.proofs.MossStands.{outcome_moves}
use Rattle.qc_serial.proofs.MossFinds.{state_left, finds_chain}
use Rattle.qc_serial.proofs.MossRules.{StartedOrRoot, follows}
use Rattle.qc_serial.proofs.MossSeers.{seer, visible_shown, shown_visible}

-- MEMBERS

in_contains : (xs : List Given) (g : Given) → In g xs → Contains xs g
in_contains [] g i = absurd i
in_contains (x ∷ xs) g (inl is) = (0, omega arith, sym is)
in_contains (x ∷ xs) g (inr i) = let c = in_contains xs g i in let lt = c.1 in (suc c.0, omega arith, c.2)

contains_in : (xs : List Given) (g : Given) → Contains xs g → In g xs
contains_in xs g (k, lt, is) = at xs k lt is
  where
    at : (xs : List Given) (k : ℕ) → k < length xs → get_or xs k g ≡ g → In g xs
    at [] k lt is = absurd (omega arith)
    at (x ∷ xs) zero lt is = inl (sym is)
    at (x ∷ xs) (suc k) lt is = inr (at xs k (omega arith) is)

in_reverse : (xs : List Given) (g : Given) → In g xs → In g (reverse xs)
in_reverse [] g i = absurd i
in_reverse (x ∷ xs) g i = subst (In g) (sym (reverse-cons x xs)) (elim i [
  | inl is ↦ in-right g (reverse xs) (x ∷ []) (inl is)
  | inr j ↦ in-left g (reverse xs) (x ∷ []) (in_reverse xs g j)
])

in_turned : (xs : List Given) (g : Given) → In g (reverse xs) → In g xs
in_turned xs g i = subst (In g) (reverse-reverse xs) (in_reverse (reverse xs) g i)

-- GRANTS

given_entry : (setting : Setting) (past : Past) (e : Entry) (ev : Event) (g : Given) → e.event ≡ ev → Allowed setting past e → (In g (moss.grants (moves past)) → granted past g.grant.access ≡ Some g)
    → In g (moss.grants (move_in ev ++ moves past)) → granted (e ∷ past) g.grant.access ≡ Some g
given_entry setting past e (event.Granted copy grant) g is allowed before (inl here) =
    let there : e.event ≡ event.Granted g.copy g.grant = is ∙ ap (λ (x : Given). event.Granted x.copy x.grant) (sym here) in
    let may : MayGrant setting past e.seat g.copy g.grant = subst (MayHappen setting past e.seat) there allowed in
    grant_now e past g there may.first_time
given_entry setting past e (event.Granted copy grant) g is allowed before (inr i) = grant_stays e past g.grant.access g (before i)
given_entry setting past e (event.End n h) g is allowed before i = grant_stays e past g.grant.access g (before (subst (In g) (end_grants (reverse n) h (moves past)) i))
given_entry setting past e _ g is allowed before i = grant_stays e past g.grant.access g (before i)

-- a grant of the moves is its access's
pub given_granted : (setting : Setting) (past : Past) (g : Given) → Legal setting past → In g (moss.grants (moves past)) → granted past g.grant.access ≡ Some g
given_granted setting [] g legal i = absurd i
given_granted setting (e ∷ past) g legal i = given_entry setting past e e.event g refl legal.1 (given_granted setting past g legal.0) i

more_grants : (past : Past) (ev : Event) (g : Given) → In g (moss.grants (moves past)) → In g (moss.grants (move_in ev ++ moves past))
more_grants past (event.Granted copy grant) g i = inr i
more_grants past (event.End n h) g i = subst (In g) (sym (end_grants (reverse n) h (moves past))) i
more_grants past _ g i = i

-- and the converse
granted_given : (past : Past) (n : Name) (g : Given) → granted past n ≡ Some g → In g (moss.grants (moves past))
granted_given [] n g is = absurd cc
granted_given (e ∷ past) n g is = elim (granted_step e past n g is) [
  | inl old ↦ more_grants past e.event g (granted_given past n g old)
  | inr new ↦ subst (λ ev. In g (moss.grants (move_in ev ++ moves past))) (sym new.0) (inl refl)
]

-- WHO SEES

-- the open ancestor in whose order a transaction is served
pub record Served (past : Past) (t : Name) : Type 0 where
  pub who : Line
  pub above : IsAbove who (reverse t)
  pub live : AllLive (moves past) who
  pub same_order : served_order past t ≡ reverse (serial (moves past) who)
  pub sees : (n : Name) → is_visible past n t ≡ true → Shown (moves past) (reverse n) who
  pub seen_by : (n : Name) → Shown (moves past) (reverse n) who → is_visible past n t ≡ true

user_started : (past : Past) (t : Name) → IsUserOf past t → StartedOrRoot past t
user_started past [] user = tt
user_started past (x ∷ t) user = started_some _ (start past (x ∷ t)) user

pub serves : (past : Past) (t : Name) → Orderly past → IsUserOf past t → dead past t ≡ None → Served past t
serves past t orderly user alive =
    let back : t ≡ reverse (reverse t) = sym (reverse-reverse t) in
    let began : StartedOrRoot past (reverse (reverse t)) = subst (StartedOrRoot past) back (user_started past t user) in
    let s = seer past orderly (reverse t) began (subst (λ n. dead past n ≡ None) back alive) in
    let test = λ (n : Name). ap (λ x. is_visible past x (reverse (reverse t))) (reverse-reverse n) ∙ ap (is_visible past n) (sym back) in
    record {
      who = s.who;
      above = s.above;
      live = s.live;
      same_order = ap (served_order past) back ∙ s.same_order;
      sees = λ n h. visible_shown past orderly (reverse t) s (reverse n) (test n ∙ h);
      seen_by = λ n h. sym (test n) ∙ shown_visible past orderly (reverse t) s began (reverse n) h;
    }

-- ACCESSES AND MANAGERS

-- no ancestor of a user transaction is of another kind
no_user_above : (past : Past) → Lawful past → (t n : Name) → IsUserOf past t → is_ancestor n t ≡ true → Started past n (λ b. IsUser b.kind → ⊥) → ⊥
no_user_above past law t [] user above other = subst (λ o. MatchOption o ⊥ (λ (b : Begun). IsUser b.kind → ⊥)) law.no_root_start other
no_user_above past law t (x ∷ n) user above other =
    let rest = rest_of (x ∷ n) t above in
    by_start (start past (x ∷ n)) (above_user past (x ∷ n) rest.0 law (omega arith) (subst (IsUserOf past) rest.1 user)) other
  where
    by_start : (o : Option Begun) → MatchOption o ⊥ (λ b. IsUser b.kind) → MatchOption o ⊥ (λ b. IsUser b.kind → ⊥) → ⊥
    by_start None user other = user
    by_start (Some b) user other = other user

-- the manager of an access
record HasManager (past : Past) (n : Name) : Type 0 where
  is_above : is_ancestor (name.front n) n ≡ true
  manager : Started past (name.front n) (λ b. IsManager b.kind)

manager_of : (past : Past) (n : Name) → Lawful past → IsAccess past n → HasManager past n
manager_of past n law access = by_parent (ends_in n)
  where
    by_start : (m : Name) (o : Option Begun) → MatchOption o ⊥ (λ c. c.kind ≡ kind.Access) → MatchOption o ⊥ (λ c. Started past m (λ b. Belongs b c.kind)) → Started past m (λ b. IsManager b.kind)
    by_start m None is under = absurd is
    by_start m (Some c) is under = subst (λ k. Started past m (λ b. Belongs b k)) is under

    under : (m : Name) (j : ℕ) → n ≡ m ++ j ∷ [] → HasManager past n
    under m j is =
        let front : name.front n ≡ m = ap name.front is ∙ front_last m j in
        let there : Started past (m ++ j ∷ []) (λ c. c.kind ≡ kind.Access) = subst (λ x. Started past x (λ c. c.kind ≡ kind.Access)) is access.started in
        let pos : 0 < length m = nonroot past m law (subst (λ x. is_some (start past x) ≡ true) front access.manager) in
        record {
          is_above = ap₂ is_ancestor front is ∙ is_ancestor-append m (j ∷ []);
          manager = subst (λ x. Started past x (λ b. IsManager b.kind)) (sym front)
              (by_start m (start past (m ++ j ∷ [])) there (law.under m j pos (started_some _ (start past (m ++ j ∷ [])) there)));
        }

    by_parent : (n ≡ []) ⊎ EndsIn n → HasManager past n
    by_parent (inl root) = absurd (some_or_none (start past n) (started_some _ (start past n) access.started) (ap (start past) root ∙ law.no_root_start))
    by_parent (inr (m, j, is)) = under m j is

-- THE LAWS

module _ (setting : Setting) (past : Past) (t : Name) (legal : Legal setting past) (user : IsUserOf past t) (alive : dead past t ≡ None) where
  orderly : Orderly past
  orderly = legal_orderly setting past legal

  law : Lawful past
  law = lawful past orderly

  served : Served past t
  served = serves past t orderly user alive

  -- each grant finds what the earlier ones leave
  pub finds : Finds setting.base (served_order past t)
  finds = subst (Finds setting.base) (sym served.same_order) (finds_chain setting.base (serial (moves past) served.who) (serial-chain (start_at setting.base) (moves past) served.who (follows setting past legal) served.live))

  -- an ancestor that is no user transaction is committed
  is_done : (n m : Name) → Shown (moves past) (reverse n) served.who → is_ancestor m n ≡ true → Started past m (λ b. IsUser b.kind → ⊥) → is_committed (outcome past m) ≡ true
  is_done n m shown up other = elim (shown (reverse m) (ancestor_above m n up)) [
    | inl done ↦ ap is_committed (sym (outcome_moves past orderly (reverse m) ∙ ap (outcome past) (reverse-reverse m)) ∙ done)
    | inr above ↦ absurd (no_user_above past law t m user (ap₂ is_ancestor (sym (reverse-reverse m)) (sym (reverse-reverse t)) ∙ above_ancestor (reverse m) (reverse t) (above-trans (reverse m) served.who (reverse t) above served.above)) other)
  ]

  sees_granted : (g : Given) → In g (moss.grants (moves past)) → Shown (moves past) (reverse g.grant.access) served.who → IsVisible past g t
  sees_granted g i shown =
      let n : Name = g.grant.access in
      let is = given_granted setting past g legal i in
      let access : IsAccess past n = asked_access setting past n legal (granted_asked setting past n g legal is) in
      let manager : HasManager past n = manager_of past n law access in
      record {
        was_granted = is;
        access_committed = is_done n n shown (itself n) (started_wider _ _ (start past n) (λ b is_access is_user. subst IsUser is_access is_user) access.started);
        manager_committed = is_done n (name.front n) shown manager.is_above (started_wider _ _ (start past (name.front n)) (λ b manager user. user_or_manager b.kind user manager) manager.manager);
        seen_by = served.seen_by n shown;
      }
    where
      itself : (m : Name) → is_ancestor m m ≡ true
      itself m = ap (is_ancestor m) (sym (append-nil m)) ∙ is_ancestor-append m []

  -- what the transaction is served it sees
  pub visible : (g : Given) → Contains (served_order past t) g → IsVisible past g t
  visible g c =
      let i : In g (serial (moves past) served.who) = in_turned _ g (subst (In g) served.same_order (contains_in (served_order past t) g c)) in
      let v : Visible (moves past) g served.who = serial-in (start_at setting.base) (moves past) served.who g (follows setting past legal) i in
      sees_granted g v.granted v.shown

  -- a grant whose access it sees it sees
  pub sees : (g : Given) → granted past g.grant.access ≡ Some g → is_visible past g.grant.access t ≡ true → IsVisible past g t
  sees g is h = sees_granted g (granted_given past g.grant.access g is) (served.sees g.grant.access h)

  -- and all that it sees it is served
  pub all : (g : Given) → IsVisible past g t → Contains (served_order past t) g
  all g v = in_contains (served_order past t) g (subst (In g) (sym served.same_order) (in_reverse _ g
      (serial-has (start_at setting.base) (moves past) served.who g (follows setting past legal) served.live
      (granted_given past g.grant.access g v.was_granted) (served.sees g.grant.access v.seen_by))))

  -- what it leaves at a copy is what the grants that it sees leave there in the order of the history
  pub leaves : (copy rec : ℕ) → left_at setting.base (served_order past t) copy rec ≡ changed_by (start_tuple setting.base copy rec) (filter (λ (g : Grant). (g.rec == rec) && is_visible past g.access t) (grants past copy))
  leaves copy rec =
      ap (λ given. left_at setting.base given copy rec) served.same_order
      ∙ sym (state_left setting.base (serial (moves past) served.who) (record { copy = copy; rec = rec }))
      ∙ state-shown (start_at setting.base) (moves past) served.who (record { copy = copy; rec = rec }) (follows setting past legal) served.live
      ∙ left_moves setting.base (λ n. is_shown (moves past) n served.who) (λ n. is_visible past n t) same_test copy rec past
    where
      same_test : (n : Name) → is_shown (moves past) (reverse n) served.who ≡ is_visible past n t
      same_test n = two_ways _ _
          (λ h. served.seen_by n (shown-all (moves past) (reverse n) served.who h))
          (λ h. shown-from (moves past) (reverse n) served.who (served.sees n h))
