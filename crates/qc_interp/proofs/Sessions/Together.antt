-- What clients ran together follows the script of their sessions.
use Rattle.std.proofs.Common.{◌≡◌, ◌⊎◌, inl, inr, ◌+◌, ℕ, zero, suc, arith, true, false, List, [], ◌∷◌, length, refl, sym, ap, ◌∙◌, subst, append-nil}
use Rattle.std.specs.Prelude.{Bool, Option, None, Some, slice_get, is_some, IsTrue, ◌==◌, not, ◌||◌}
use Rattle.std.specs.List.{AllByRecursion, list_all}
use Rattle.std.specs.Option.{option_map, option_map_or}
use Rattle.std.proofs.lemmas.Bool.{and_parts, and_from, eq-eqb, eqb-true, lt-ltb, or_right}
use Rattle.qc_event.specs.declared.event.Cause.TheVariants.{Asked}
use Rattle.std.proofs.lemmas.Option.{slice_get_within}
use Rattle.qc_event.specs.declared.event.Entry.{Entry}
use Rattle.qc_event.specs.declared.event.Event.{Event}
use Rattle.qc_event.specs.declared.event.Event.TheVariants as event
use Rattle.qc_event.specs.declared.event.How.TheVariants.{Abort}
use Rattle.qc_event.specs.declared.event.Kind.{Kind}
use Rattle.qc_event.specs.declared.event.Kind.TheVariants as kind
use Rattle.qc_event.specs.Base.{Setting}
use Rattle.qc_event.specs.History.{Past, Name, Begun, start, start_in, end, end_in, children, child_in, is_child, kind_of}
use Rattle.qc_event.specs.Legal.{Legal, MayHappen}
use Rattle.qc_event.proofs.OneEntry.{ending, starting, all_children}
use Rattle.qc_script.specs.Calls.{is_access}
use Rattle.qc_script.specs.Client.{Client, mine, is_own, AreOurs}
use Rattle.qc_script.specs.Numbers.{each, any_top, own_next, next_top, is_next_top}
use Rattle.qc_script.specs.Plan.{SessionPlan}
use Rattle.qc_interp.specs.Adding.{is_of_one}
use Rattle.qc_interp.specs.Asking.{BodiesAsk, IsAskedBy}
use Rattle.qc_interp.specs.FollowsScript.{net_of, RunsSession, EachRuns, OneAsks, is_of_session, is_in_session, RunsScript, started}
use Rattle.qc_interp.specs.Reach.{Reach, AtTheEnd}
use Rattle.qc_interp.specs.Session.{tops, RunsBodies, AreAllOurs}
use Rattle.qc_interp.specs.Sessions.{tops_of, are_apart, has_own_seats, is_settled, session_in, AccessesEnd}
use Rattle.qc_interp.specs.Together.{HasRun, EachHasRun, AreOf}
use Rattle.qc_interp.proofs.Sessions.Owners.{one_session, starts_client, aborts_client, IsItsOwn, ran_inside, for_at, ran_client, ran_plan, Owner, owner, its_own, all_its_own}
use Rattle.qc_interp.proofs.Sessions.OwnSessions.{AreIts, same_tops, turns_own, messages_own, order_own}
use Rattle.qc_interp.proofs.Listing.Places.{some_same, all_from, at_place, each_place, any_place, kept_place, earliest_place, every_passes}
use Rattle.qc_interp.proofs.Sessions.SeenBodies.{IsOurTop, bodies_seen, bodies_ask_seen}
use Rattle.qc_interp.proofs.Sessions.Settled.{begun_settled, all_settled}
use Rattle.qc_interp.proofs.Scopes.Starts.{legal_at, started_at, start_seat, starts_top, starts_user, StartsOf, StartsTop}

-- SESSIONS, BY THEIR PLACES

each_runs_from : (reach : Reach) (patience : ℕ) (past : Past) (session : ℕ) (sessions : List SessionPlan) → ((i : ℕ) (s : SessionPlan) → slice_get sessions i ≡ Some s → RunsSession reach (session + i) patience s past) → EachRuns reach session patience sessions past
each_runs_from reach patience past session [] at = tt
each_runs_from reach patience past session (s ∷ sessions) at = (
  subst (λ n. RunsSession reach n patience s past) (let e : session + 0 ≡ session = omega arith in e) (at zero s refl),
  each_runs_from reach patience past (session + 1) sessions (λ i x is. subst (λ n. RunsSession reach n patience x past) (let e : session + suc i ≡ session + 1 + i = omega arith in e) (at (suc i) x is)),
)

one_asks : (past : Past) (by n : Name) (session : ℕ) (sessions : List SessionPlan) (i : ℕ) (s : SessionPlan) → slice_get sessions i ≡ Some s → BodiesAsk past s.tops (tops_of (session + i) past) by n → OneAsks session sessions past by n
one_asks past by n session [] i s is h = absurd cc
one_asks past by n session (x ∷ sessions) zero s is h =
    let here : BodiesAsk past s.tops (tops_of session past) by n = subst (λ k. BodiesAsk past s.tops (tops_of k past) by n) (let e : session + 0 ≡ session = omega arith in e) h in
    inl (subst (λ (y : SessionPlan). BodiesAsk past y.tops (tops_of session past) by n) (sym (some_same x s is)) here)
one_asks past by n session (x ∷ sessions) (suc i) s is h =
    inr (one_asks past by n (session + 1) sessions i s is (subst (λ k. BodiesAsk past s.tops (tops_of k past) by n) (let e : session + suc i ≡ session + 1 + i = omega arith in e) h))

-- NUMBERS

any_start : (ev : Event) (number : ℕ) → any_top ev ≡ Some number → (k : Kind) × (ev ≡ event.Start (number ∷ []) k)
any_start (event.Start (x ∷ []) k) number is = (k, ap (λ y. event.Start (y ∷ []) k) (some_same x number is))
any_start _ number is = absurd cc

-- what starts a top of a session
starts_in : (ev : Event) (s : ℕ) → session_in ev ≡ Some s → (t : Name) × StartsOf s ev t
starts_in (event.Start (x ∷ []) (kind.User of body)) s is =
    (x ∷ [], record { number = x; body = body; starts = ap (λ y. event.Start (x ∷ []) (kind.User y body)) (some_same of s is); top = refl })
starts_in _ s is = absurd cc

-- a client numbers its tops in an epoch
abbrev NumbersIn : ℕ → Past → Client → Type 0
NumbersIn epoch past c = (c.epoch ≡ epoch) × (each (own_next c) past ≡ true)

numbers_all : (setting : Setting) (epoch : ℕ) (clients : List Client) (past : Past) → Legal setting past → AreOf clients past → AllByRecursion (NumbersIn epoch past) clients → each (is_next_top epoch) past ≡ true
numbers_all setting epoch clients [] legal of own = refl
numbers_all setting epoch clients (e ∷ past) legal of own =
    and_from _ _ (numbers_all setting epoch clients past legal.0 of.1 (each_place (NumbersIn epoch past) clients (λ i c is. before c (at_place (NumbersIn epoch (e ∷ past)) clients i c own is)))) (by_top (any_top e.event) refl)
  where
    before : (c : Client) → NumbersIn epoch (e ∷ past) c → NumbersIn epoch past c
    before c own = (own.0, (and_parts (each (own_next c) past) (own_next c e past) own.1).0)

    here : (c : Client) → NumbersIn epoch (e ∷ past) c → is_own c e.seat ≡ true → is_next_top epoch e past ≡ true
    here c own mine =
        subst (λ n. is_next_top n e past ≡ true) own.0
        (sym (ap (λ b. not b || is_next_top c.epoch e past) mine) ∙ (and_parts (each (own_next c) past) (own_next c e past) own.1).1)

    by_top : (o : Option ℕ) → any_top e.event ≡ o → is_next_top epoch e past ≡ true
    by_top None is = ap (λ o. option_map_or (λ number. number == next_top epoch past) o true) is
    by_top (Some number) is =
        let begun = any_start e.event number is in
        let client = starts_client setting past e.seat (number ∷ []) begun.0 (subst (MayHappen setting past e.seat) begun.1 legal.1) in
        let found = any_place (λ c. is_own c e.seat) clients (of.0 client) in
        here found.one (at_place (NumbersIn epoch (e ∷ past)) clients found.place found.one own found.is) found.passes

-- ONE CLIENT AMONG THE OTHERS

module _ (reach : Reach) (setting : Setting) (s epoch patience : ℕ) (c : Client) (plan : SessionPlan) (past : Past) (legal : Legal setting past) (ran : HasRun reach setting s epoch patience c plan past) (its : IsItsOwn c s past) where
  all_ours : AreAllOurs c past
  all_ours = all_its_own setting c s past legal its

  its_legal : Legal c.setting past
  its_legal = subst (λ x. Legal x past) (sym ran.setting_is) legal

  only : tops c past ≡ tops_of s past
  only = same_tops c s past its.starts its.for_it

  its_part : AreIts c (tops_of s past) past
  its_part = subst (λ ts. AreIts c ts past) only its.below

  abbrev further : List Name
  further = (ran.ends all_ours).0

  tops_are : tops c past ≡ further
  tops_are = (ran.ends all_ours).1

  ours : AllByRecursion (IsOurTop c past) further
  ours = subst (AllByRecursion (IsOurTop c past)) tops_are (by_tops (tops c past) (all_children (mine c past) []) all_ours)
    where
      by_tops : (ts : List Name) → AllByRecursion (λ t. is_child [] t ≡ true) ts → AllByRecursion (λ t. AreOurs c t past) ts → AllByRecursion (IsOurTop c past) ts
      by_tops [] all ours = tt
      by_tops (t ∷ ts) all ours = ((all.0, ours.0), by_tops ts all.1 ours.1)

  bodies_run : RunsBodies reach s past plan.tops (tops_of s past)
  bodies_run =
      subst (RunsBodies reach s past plan.tops) (sym tops_are ∙ only)
      (subst (λ n. RunsBodies reach n past plan.tops further) ran.session_is (bodies_seen c past its_legal reach c.session plan.tops further ours (ran.ends all_ours).2))

  pub session_runs : RunsSession reach s patience plan past
  session_runs = record {
    bodies_run = bodies_run;
    in_turn = record {
      turns = turns_own c s past ran.whole its_part (subst (λ ts. list_all (is_of_one ts) (mine c past) ≡ true) only (ran_inside reach setting s epoch patience c plan past ran)) (ran.in_turn.turns all_ours refl refl refl).0;
      in_order = order_own c s past its.starts its.for_it (ran.in_turn.order all_ours refl refl).0;
    };
    messages = messages_own c s (net_of patience plan) past its_part ran.met;
  }

  -- whoever it aborted as another asked was named by a step
  pub asked_at : (i : ℕ) (e : Entry) (n by : Name) → slice_get past i ≡ Some e → is_own c e.seat ≡ true → e.event ≡ event.End n (Abort (Asked by)) → (n ≡ by) ⊎ BodiesAsk past plan.tops (tops_of s past) by n
  asked_at i e n by at own is =
      let a = (ran.ends all_ours).3 in
      let all = subst (AllByRecursion (λ (x : Entry). IsAskedBy Q x.event)) (sym (a.1 ∙ append-nil a.0)) a.2 in
      by_named (subst (IsAskedBy Q) is (kept_place (λ (x : Entry). IsAskedBy Q x.event) (λ (x : Entry). is_own c x.seat) past i e all at own))
    where
      Q : Name → Name → Type 0
      Q by t = BodiesAsk (mine c past) plan.tops further by t

      by_named : (n ≡ by) ⊎ Q by n → (n ≡ by) ⊎ BodiesAsk past plan.tops (tops_of s past) by n
      by_named (inl same) = inl same
      by_named (inr asks) = inr (subst (λ ts. BodiesAsk past plan.tops ts by n) (sym tops_are ∙ only) (bodies_ask_seen c past its_legal by n plan.tops further ours asks))

-- who began under a seat of its own is settled where its run came to its end
ran_settled : (setting : Setting) (s epoch patience : ℕ) (c : Client) (plan : SessionPlan) (past : Past) → Legal setting past → HasRun Reach.to_the_end setting s epoch patience c plan past → IsItsOwn c s past
    → (n : Name) (b : Begun) → start past n ≡ Some b → is_own c b.seat ≡ true → is_access b.kind ≡ false → is_settled past n ≡ true
ran_settled setting s epoch patience c plan past legal ran its n b is own none =
    let ours = all_its_own setting c s past legal its in
    begun_settled c past n b (subst (λ x. Legal x past) (sym ran.setting_is) legal) (ran.in_turn.turns ours refl refl refl).1 (ran.in_turn.order ours refl refl).1 is own none

-- ALL OF THEM

module _ (reach : Reach) (setting : Setting) (epoch patience : ℕ) (clients : List Client) (sessions : List SessionPlan) (past : Past) (legal : Legal setting past) (of : AreOf clients past) (all : EachHasRun reach setting 0 epoch patience clients sessions past) where
  abbrev OwnerOf : ℕ → Type 0
  OwnerOf seat = Owner reach setting epoch patience past clients sessions legal of all seat

  own_by : (seat : ℕ) (o : OwnerOf seat) → IsItsOwn o.client o.session past
  own_by seat o = its_own reach setting epoch patience past clients sessions legal of all o.session o.client o.plan o.client_is o.ran

  -- whoever started a name owns its seat
  starter : (i : ℕ) (e : Entry) (n : Name) (k : Kind) → slice_get past i ≡ Some e → e.event ≡ event.Start n k → OwnerOf e.seat
  starter i e n k at is =
      let may = legal_at setting past i e legal at in
      owner reach setting epoch patience past clients sessions legal of all i e at (starts_client setting may.0 e.seat n k (subst (MayHappen setting may.0 e.seat) is may.1))

  only_sessions : list_all (is_in_session (length sessions) past) (children past []) ≡ true
  only_sessions = every_passes (is_in_session (length sessions) past) (λ e. child_in [] e.event) past at
    where
      at : (i : ℕ) (e : Entry) (t : Name) → slice_get past i ≡ Some e → child_in [] e.event ≡ Some t → is_in_session (length sessions) past t ≡ true
      at i e t is tells =
          let top = starts_top e.event t tells in
          let o = starter i e (top.number ∷ []) top.kind is top.starts in
          let user = starts_user o.session e t top (for_at reach setting o.session epoch patience o.client o.plan past o.ran i e is o.owns) in
          let begun : kind_of past t ≡ Some (kind.User o.session user.0) =
          ap (kind_of past) top.top ∙ ap (option_map (λ (b : Begun). b.kind)) (started_at setting past i e (top.number ∷ []) top.kind legal is top.starts) ∙ ap (λ k. Some k) user.1 in
          ap (λ x. option_map_or (is_of_session (length sessions)) x false) begun ∙ lt-ltb o.session (length sessions) (slice_get_within sessions o.session o.plan o.plan_is)

  session_at : (i : ℕ) (s : SessionPlan) → slice_get sessions i ≡ Some s → RunsSession reach (0 + i) patience s past
  session_at i s is =
      let r = ran_plan reach setting epoch patience past 0 clients sessions all i s is in
      let from_zero : 0 + i ≡ i = omega arith in
      let ran = subst (λ n. HasRun reach setting n epoch patience r.client r.plan past) from_zero r.ran in
      let its = its_own reach setting epoch patience past clients sessions legal of all i r.client r.plan r.client_is ran in
      subst (λ n. RunsSession reach n patience s past) (sym from_zero)
      (subst (λ p. RunsSession reach i patience p past) (some_same r.plan s (sym r.plan_is ∙ is)) (session_runs reach setting i epoch patience r.client r.plan past legal ran its))

  -- under a seat that a client owns it starts tops of its own session alone
  of_its_session : (seat : ℕ) (o : OwnerOf seat) (i : ℕ) (e : Entry) (s : ℕ) → slice_get past i ≡ Some e → is_own o.client e.seat ≡ true → session_in e.event ≡ Some s → s ≡ o.session
  of_its_session seat o i e s at own is =
      let (t, begun) = starts_in e.event s is in
      let top : StartsTop e.event t = record { number = begun.number; kind = kind.User s begun.body; starts = begun.starts; top = begun.top } in
      let user = starts_user o.session e t top (for_at reach setting o.session epoch patience o.client o.plan past o.ran i e at own) in
      one_session s o.session begun.body user.0 (ap (λ k. Some k) user.1)

  all_apart : has_own_seats past ≡ true
  all_apart = all_from (λ e. list_all (are_apart e) past) past (λ i e at. all_from (are_apart e) past (λ j f there. apart i e at j f there))
    where
      same_or : (e f : Entry) → ((s t : ℕ) → e.seat ≡ f.seat → session_in e.event ≡ Some s → session_in f.event ≡ Some t → s ≡ t) → are_apart e f ≡ true
      same_or e f same = by_seat (e.seat == f.seat) refl
        where
          by_sessions : (x y : Option ℕ) → session_in e.event ≡ x → session_in f.event ≡ y → e.seat ≡ f.seat → option_map_or (λ s. option_map_or (λ t. s == t) y true) x true ≡ true
          by_sessions None y one other seat = refl
          by_sessions (Some s) None one other seat = refl
          by_sessions (Some s) (Some t) one other seat = eq-eqb s t (same s t seat one other)

          by_seat : (b : Bool) → (e.seat == f.seat) ≡ b → are_apart e f ≡ true
          by_seat false is = ap (λ b. not b || option_map_or (λ s. option_map_or (λ t. s == t) (session_in f.event) true) (session_in e.event) true) is
          by_seat true is = or_right (not (e.seat == f.seat)) _ (by_sessions (session_in e.event) (session_in f.event) refl refl (eqb-true e.seat f.seat is))

      apart : (i : ℕ) (e : Entry) → slice_get past i ≡ Some e → (j : ℕ) (f : Entry) → slice_get past j ≡ Some f → are_apart e f ≡ true
      apart i e at j f there = same_or e f (λ s t seat one other.
          let begun = (starts_in e.event s one).1 in
          let o = starter i e (begun.number ∷ []) (kind.User s begun.body) at begun.starts in
          of_its_session e.seat o i e s at o.owns one
          ∙ sym (of_its_session e.seat o j f t there (subst (λ n. is_own o.client n ≡ true) seat o.owns) other))

  all_numbered : each (is_next_top epoch) past ≡ true
  all_numbered = numbers_all setting epoch clients past legal of (each_place (NumbersIn epoch past) clients at)
    where
      at : (i : ℕ) (c : Client) → slice_get clients i ≡ Some c → NumbersIn epoch past c
      at i c is =
          let r = ran_client reach setting epoch patience past 0 clients sessions all i c is in
          subst (NumbersIn epoch past) (some_same r.client c (sym r.client_is ∙ is)) (r.ran.epoch_is, r.ran.in_turn.numbers refl)

  all_asked : (n by : Name) → end past n ≡ Some (Abort (Asked by)) → (n ≡ by) ⊎ OneAsks 0 sessions past by n
  all_asked n by is =
      let told = earliest_place (λ e. end_in n e.event) (Abort (Asked by)) past is in
      let ends = ending n told.entry.event (Abort (Asked by)) told.tells in
      let may = legal_at setting past told.place told.entry legal told.is in
      let client = aborts_client setting may.0 told.entry.seat n (Asked by) (subst (MayHappen setting may.0 told.entry.seat) ends may.1) in
      let o = owner reach setting epoch patience past clients sessions legal of all told.place told.entry told.is client in
      by_named o.session o.plan o.plan_is (asked_at reach setting o.session epoch patience o.client o.plan past legal o.ran (own_by told.entry.seat o) told.place told.entry n by told.is o.owns ends)
    where
      by_named : (i : ℕ) (s : SessionPlan) → slice_get sessions i ≡ Some s → (n ≡ by) ⊎ BodiesAsk past s.tops (tops_of i past) by n → (n ≡ by) ⊎ OneAsks 0 sessions past by n
      by_named i s at (inl same) = inl same
      by_named i s at (inr asks) = inr (one_asks past by n 0 sessions i s at (subst (λ k. BodiesAsk past s.tops (tops_of k past) by n) (let e : i ≡ 0 + i = omega arith in e) asks))

  -- who began is of one of them
  began : (n : Name) (b : Begun) → start past n ≡ Some b → OwnerOf b.seat
  began n b is =
      let told = earliest_place (λ e. start_in n e.seat e.event) b past is in
      let starts = starting n told.entry.seat told.entry.event (ap is_some told.tells) in
      subst OwnerOf (start_seat n told.entry.seat told.entry.event b told.tells) (starter told.place told.entry n starts.0 told.is starts.1)

settled_together : (reach : Reach) (setting : Setting) (epoch patience : ℕ) (clients : List Client) (sessions : List SessionPlan) (past : Past) → Legal setting past → AreOf clients past → EachHasRun reach setting 0 epoch patience clients sessions past → AtTheEnd reach (AccessesEnd past)
    → AtTheEnd reach (IsTrue (list_all (is_settled past) (started past)))
settled_together Reach.cut_off setting epoch patience clients sessions past legal of all accesses = tt
settled_together Reach.to_the_end setting epoch patience clients sessions past legal of all accesses = all_settled setting past legal settled accesses
  where
    settled : (n : Name) (b : Begun) → start past n ≡ Some b → is_access b.kind ≡ false → is_settled past n ≡ true
    settled n b is none =
        let o = began Reach.to_the_end setting epoch patience clients sessions past legal of all n b is in
        let its = own_by Reach.to_the_end setting epoch patience clients sessions past legal of all b.seat o in
        ran_settled setting o.session epoch patience o.client o.plan past legal o.ran its n b is o.owns none

-- What clients run together, each its own session, is a run of the script of their sessions.
pub together : (reach : Reach) (setting : Setting) (epoch patience : ℕ) (clients : List Client) (sessions : List SessionPlan) (past : Past)
    → Legal setting past → AreOf clients past → EachHasRun reach setting 0 epoch patience clients sessions past → AtTheEnd reach (AccessesEnd past)
    → RunsScript reach epoch patience sessions past
together reach setting epoch patience clients sessions past legal of all accesses = record {
  only = only_sessions reach setting epoch patience clients sessions past legal of all;
  each_runs = each_runs_from reach patience past 0 sessions (session_at reach setting epoch patience clients sessions past legal of all);
  own_seats = all_apart reach setting epoch patience clients sessions past legal of all;
  numbers = all_numbered reach setting epoch patience clients sessions past legal of all;
  as_asked = all_asked reach setting epoch patience clients sessions past legal of all;
  each_settled = settled_together reach setting epoch patience clients sessions past legal of all accesses;
}
