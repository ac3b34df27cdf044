-- Who follows a plan by what a client made follows it by what was seen, where all about its top is the client's.
use Rattle.std.proofs.Common.{◌≡◌, inl, ℕ, ◌<◌, Bool, true, false, List, [], ◌∷◌, ◌++◌, length, refl, sym, ap, ◌∙◌, subst, append-nil, arith}
use mathlib.Core.Bool.{true≢false}
use Rattle.std.specs.Prelude.{◌==◌, Option, None, Some, is_some, not, ◌&&◌, ◌||◌, if◌then◌else◌, option_map, option_to_list}
use Rattle.std.specs.List.{AllByRecursion}
use Rattle.std.specs.Option.{option_or}
use Rattle.qc_event.specs.declared.event.Answer.{Answer}
use Rattle.qc_event.specs.declared.event.Entry.{Entry}
use Rattle.qc_event.specs.declared.event.Event.{Event}
use Rattle.qc_event.specs.declared.event.Event.TheVariants as event
use Rattle.qc_event.specs.declared.event.How.{How}
use Rattle.qc_event.specs.declared.event.How.TheVariants.{Commit, Abort}
use Rattle.qc_event.specs.History.{Past, Name, Begun, earliest, start, end, end_in, is_ready, ready_in, is_child, kind_of, same}
use Rattle.qc_event.specs.Legal.{Legal}
use Rattle.qc_event.proofs.Lawful.{ends_open}
use Rattle.qc_event.proofs.LegalOrderly.{legal_orderly}
use Rattle.qc_event.proofs.Orderly.{KeepsOrder}
use Rattle.qc_event.proofs.LastNumber.{child_longer}
use Rattle.qc_event.proofs.OneEntry.{starting, ending, marking, some_or_none, not_some, unless_some, all_children}
use Rattle.qc_names.specs.Name as name
use Rattle.qc_script.specs.Client.{Client, mine, is_own, scope, concerns, is_commit, AreOurs, all_ours}
use Rattle.qc_interp.specs.Deeds.{Deed, deed_in, deeds}
use Rattle.qc_interp.specs.Rows.{opens_seat, starts}
use Rattle.qc_interp.specs.Turns.{is_done, seat_of}
use Rattle.qc_interp.proofs.Following.Deeds.{Silent, start_silent, mark_silent, begun, children_are}
use Rattle.qc_interp.specs.Follows.{WasAsked, WasKilled, RunsPlan}
use Rattle.qc_interp.specs.Reach.{Reach}
use Rattle.qc_script.specs.Plan.{Plan}
use Rattle.qc_interp.specs.Asking.{Asks}
use Rattle.qc_interp.proofs.Scopes.Mine.{kept_some, some_is}
use Rattle.qc_interp.proofs.Scopes.Growth.{implied, own_found}
use Rattle.qc_interp.proofs.Scopes.Scope.{at_scope, scope_some, not_one, concerns_end, concerns_abort, concerns_ready}
use Rattle.qc_interp.proofs.Stepping.Ending.{committed_ready}
use Rattle.qc_interp.proofs.Following.Followed.{plan_committed}
use Rattle.qc_interp.proofs.Following.Alike.{AgreesAt, AreInOrder, below_child, low_children, plan_alike, plan_asks_alike}
use Rattle.qc_interp.proofs.Following.Behind.{TellsNothing, DropsNothing, starts_is, order_kept}
use Rattle.qc_interp.proofs.Scopes.Beside.{opens_kept}
use Rattle.qc_interp.proofs.Rows.SameDeeds.{OfAnyChild}
use Rattle.std.proofs.lemmas.Bool.{and_parts, false_from_ne_true}
use Rattle.qc_event.specs.declared.event.Cause.{Cause}
use Rattle.qc_event.specs.declared.event.Cause.TheVariants as cause
use Rattle.qc_event.specs.declared.event.Kind.{Kind}
use Rattle.qc_event.proofs.Absent.{same_is}
use Rattle.qc_event.proofs.Booleans.{or_true}

module _ (c : Client) (of : Name) (past : Past) (ours : AreOurs c of past) where
  same_found : {Y : Type 0} (f : Entry → Option Y) → ((e : Entry) (y : Y) → f e ≡ Some y → concerns (scope c of) e.event ≡ true) → earliest f (mine c past) ≡ earliest f past
  same_found {Y = Y} f about = by_past (earliest f past) refl
    where
      by_past : (o : Option Y) → earliest f past ≡ o → earliest f (mine c past) ≡ o
      by_past (Some y) is = own_found c f y of past (λ e h. about e y h) ours is
      by_past None is = not_some (earliest f (mine c past)) (λ h. some_or_none (earliest f past) (kept_some (λ (e : Entry). is_own c e.seat) f past h) is)

  -- a name in the scope
  module _ (n : Name) (low : name.is_ancestor (scope c of) n ≡ true) where
    same_start : start (mine c past) n ≡ start past n
    same_start = same_found _ (λ e y h. let s = starting n e.seat e.event (ap is_some h) in subst (λ ev. concerns (scope c of) ev ≡ true) (sym s.1) low)

    same_seat : seat_of (mine c past) n ≡ seat_of past n
    same_seat = ap (option_map (λ (b : Begun). b.seat)) same_start

    same_opens : opens_seat (mine c past) n ≡ opens_seat past n
    same_opens = opens_kept (is_own c) past n same_start

    pub same_kind : kind_of (mine c past) n ≡ kind_of past n
    same_kind = ap (option_map (λ (b : Begun). b.kind)) same_start

    pub same_ready : is_ready (mine c past) n ≡ is_ready past n
    same_ready = ap is_some (same_found _ (λ e y h. subst (λ ev. concerns (scope c of) ev ≡ true) (sym (marking n e.event (ap is_some h))) (concerns_ready (scope c of) n (inl low))))

    pub same_end : (length n == 1) ≡ false → end (mine c past) n ≡ end past n
    same_end apart = same_found _ (λ e how h. subst (λ ev. concerns (scope c of) ev ≡ true) (sym (ending n e.event how h)) (concerns_end (scope c of) n how low (ap (λ b. b && is_commit how) apart)))

    -- an abort of it is the client's
    pub low_abort : (x : Cause) → end past n ≡ Some (Abort x) → end (mine c past) n ≡ Some (Abort x)
    low_abort x is = own_found c (λ e. end_in n e.event) (Abort x) of past (λ e g. subst (λ ev. concerns (scope c of) ev ≡ true) (sym (ending n e.event (Abort x) g)) (concerns_abort (scope c of) n x low)) ours is

-- an end is entered once, so one that the client made is the end
pub own_once : (c : Client) (past : Past) (n : Name) (how : How) → Legal c.setting past → end (mine c past) n ≡ Some how → end past n ≡ Some how
own_once c [] n how legal is = absurd cc
own_once c (e ∷ past) n how legal is = by_test (is_own c e.seat) (own_once c past n how legal.0) is
  where
    keeps : KeepsOrder past e.event
    keeps = (legal_orderly c.setting (e ∷ past) legal).1

    by_old : (o : Option How) → end (mine c past) n ≡ o → (end (mine c past) n ≡ Some how → end past n ≡ Some how) → option_or o (end_in n e.event) ≡ Some how → end (e ∷ past) n ≡ Some how
    by_old (Some x) at before h = ap (λ o. option_or o (end_in n e.event)) (before (at ∙ h))
    by_old None at before h = ap (λ o. option_or o (end_in n e.event)) (ends_open past e n how (ending n e.event how h) keeps).not_ended ∙ h

    by_test : (b : Bool) → (end (mine c past) n ≡ Some how → end past n ≡ Some how) → end (if b then e ∷ mine c past else mine c past) n ≡ Some how → end (e ∷ past) n ≡ Some how
    by_test false before h = ap (λ o. option_or o (end_in n e.event)) (before h)
    by_test true before h = by_old (end (mine c past) n) refl before h

-- an abort of a name about whose scope all is the client's is the client's
pub own_abort : (c : Client) (n : Name) (past : Past) (x : Cause) → AreOurs c n past → end past n ≡ Some (Abort x) → end (mine c past) n ≡ Some (Abort x)
own_abort c n past x ours is = low_abort c n past ours n (at_scope c n) x is

-- IN WHICH ORDER

-- what is not the client's neither ends nor makes ready a name in the scope that is no top, nor starts one, nor does one
-- anything by it
module _ (c : Client) (of a b : Name) (low : name.is_ancestor (scope c of) a ≡ true) (apart : (length a == 1) ≡ false) (low_too : name.is_ancestor (scope c of) b ≡ true) where
  silent : (e : Entry) → (concerns (scope c of) e.event ≡ true → ⊥) → TellsNothing a b e.event
  silent e told = (
    unless_some (end_in a e.event) (λ how g. told (subst (λ ev. concerns (scope c of) ev ≡ true) (sym (ending a e.event how g)) (concerns_end (scope c of) a how low (ap (λ t. t && is_commit how) apart)))),
    not_some (ready_in a e.event) (λ g. told (subst (λ ev. concerns (scope c of) ev ≡ true) (sym (marking a e.event g)) (concerns_ready (scope c of) a (inl low)))),
    false_from_ne_true (starts b e.event) (λ g. let s = starts_is b e.event g in told (subst (λ ev. concerns (scope c of) ev ≡ true) (sym s.1) low_too)),
    does_nothing e.event told,
  )
    where
      does_nothing : (ev : Event) → (concerns (scope c of) ev ≡ true → ⊥) → Silent a ev
      does_nothing (event.Start m k) quiet = start_silent a m k (false_from_ne_true (is_child a m) (λ child. quiet (below_child (scope c of) a m low child)))
      does_nothing (event.Mark by session) quiet = mark_silent a by session (false_from_ne_true (same by a) (λ g. quiet (ap (name.is_ancestor (scope c of)) (same_is by a g) ∙ low)))
      does_nothing (event.Ask ask) quiet = λ h. refl
      does_nothing (event.Gone m why) quiet = λ h. refl
      does_nothing (event.Granted copy grant) quiet = λ h. refl
      does_nothing (event.Refused m copy refusal) quiet = λ h. refl
      does_nothing (event.Unable m why) quiet = λ h. refl
      does_nothing (event.Ready m) quiet = λ h. refl
      does_nothing (event.End m how) quiet = λ h. refl

  drops_nothing : (past : Past) → all_ours c of past ≡ true → DropsNothing (λ (e : Entry). is_own c e.seat) a b past
  drops_nothing [] ours = tt
  drops_nothing (e ∷ past) ours =
      let both = and_parts (not (concerns (scope c of) e.event) || is_own c e.seat) (all_ours c of past) ours in
      ((λ out. silent e (λ told. true≢false (sym (implied (concerns (scope c of) e.event) (is_own c e.seat) both.0 told) ∙ out))), drops_nothing past both.1)

-- WHAT IS DONE IN THE SCOPE

-- A top is done by what the client made where it is by what was seen: only its commit is not the client's, and it is ready
-- then.
done_top : (c : Client) (of : Name) (x : ℕ) (past : Past) → AreOurs c of past → Legal c.setting past → name.is_ancestor (scope c of) (x ∷ []) ≡ true → is_done (mine c past) (x ∷ []) ≡ is_done past (x ∷ [])
done_top c of x past ours legal low = by_end (end past (x ∷ [])) refl
  where
    ready : is_ready (mine c past) (x ∷ []) ≡ is_ready past (x ∷ [])
    ready = same_ready c of past ours (x ∷ []) low

    both_ready : (a b p q : Bool) → p ≡ true → q ≡ true → (a || p) ≡ (b || q)
    both_ready a b p q first second = ap (λ z. a || z) first ∙ or_true a ∙ sym (ap (λ z. b || z) second ∙ or_true b)

    by_same : end (mine c past) (x ∷ []) ≡ end past (x ∷ []) → is_done (mine c past) (x ∷ []) ≡ is_done past (x ∷ [])
    by_same is = ap (λ o. is_some o || is_ready (mine c past) (x ∷ [])) is ∙ ap (λ b. is_some (end past (x ∷ [])) || b) ready

    by_end : (o : Option How) → end past (x ∷ []) ≡ o → is_done (mine c past) (x ∷ []) ≡ is_done past (x ∷ [])
    by_end None is = by_same (not_some (end (mine c past) (x ∷ [])) (λ h. some_or_none (end past (x ∷ [])) (kept_some (λ (e : Entry). is_own c e.seat) _ past h) is) ∙ sym is)
    by_end (Some (Abort y)) is = by_same (low_abort c of past ours (x ∷ []) low y is ∙ sym is)
    by_end (Some (Commit given)) is =
        let was = committed_ready c.setting past x given legal is in
        both_ready (is_some (end (mine c past) (x ∷ []))) (is_some (end past (x ∷ []))) (is_ready (mine c past) (x ∷ [])) (is_ready past (x ∷ [])) (ready ∙ was) was

done_alike : (c : Client) (of : Name) (past : Past) → AreOurs c of past → Legal c.setting past → 0 < length of → (n : Name) → name.is_ancestor (scope c of) n ≡ true → is_done (mine c past) n ≡ is_done past n
done_alike c of past ours legal far [] low = absurd (scope_some c of far low)
done_alike c of past ours legal far (x ∷ []) low = done_top c of x past ours legal low
done_alike c of past ours legal far (x ∷ y ∷ n) low =
    ap (λ o. is_some o || is_ready (mine c past) (x ∷ y ∷ n)) (same_end c of past ours (x ∷ y ∷ n) low (not_one (x ∷ y ∷ n) (omega arith)))
    ∙ ap (λ b. is_some (end past (x ∷ y ∷ n)) || b) (same_ready c of past ours (x ∷ y ∷ n) low)

same_deeds : (c : Client) (of : Name) (past : Past) → AreOurs c of past → Legal c.setting past → 0 < length of → (n : Name) → name.is_ancestor (scope c of) n ≡ true → deeds (mine c past) n ≡ deeds past n
same_deeds c of [] ours legal far n low = refl
same_deeds c of (e ∷ past) ours legal far n low =
    let both = and_parts (not (concerns (scope c of) e.event) || is_own c e.seat) (all_ours c of past) ours in
    by_test (is_own c e.seat) refl both.0 (same_deeds c of past both.1 legal.0 far n low) (done_alike c of past both.1 legal.0 far n low)
  where
    by_child : (m : Name) (k : Kind) (own b : Bool) → (not (concerns (scope c of) (event.Start m k)) || own) ≡ true → own ≡ false → is_child n m ≡ b → (if b then Some (Deed.child m) else None) ≡ None
    by_child m k own false h other is = refl
    by_child m k own true h other is = absurd (true≢false (sym (implied (concerns (scope c of) (event.Start m k)) own h (below_child (scope c of) n m low is)) ∙ other))

    by_mark : (by : Name) (session : ℕ) (own b : Bool) → (not (concerns (scope c of) (event.Mark by session)) || own) ≡ true → own ≡ false → same by n ≡ b → Silent n (event.Mark by session)
    by_mark by session own false h other is = mark_silent n by session is
    by_mark by session own true h other is =
        absurd (true≢false (sym (implied (concerns (scope c of) (event.Mark by session)) own h (ap (name.is_ancestor (scope c of)) (same_is by n is) ∙ low)) ∙ other))

    other_silent : (ev : Event) (own : Bool) → (not (concerns (scope c of) ev) || own) ≡ true → own ≡ false → deed_in past n ev ≡ None
    other_silent (event.Start m k) own h other = by_child m k own (is_child n m) h other refl
    other_silent (event.Mark by session) own h other = by_mark by session own (same by n) h other refl past
    other_silent (event.Ask ask) own h other = refl
    other_silent (event.Gone m why) own h other = refl
    other_silent (event.Granted copy grant) own h other = refl
    other_silent (event.Refused m copy refusal) own h other = refl
    other_silent (event.Unable m why) own h other = refl
    other_silent (event.Ready m) own h other = refl
    other_silent (event.End m how) own h other = refl

    own_alike : is_done (mine c past) n ≡ is_done past n → (ev : Event) → deed_in (mine c past) n ev ≡ deed_in past n ev
    own_alike done (event.Mark by session) = ap (λ b. if same by n && not b then Some (Deed.mark session) else None) done
    own_alike done (event.Start m k) = refl
    own_alike done (event.Ask ask) = refl
    own_alike done (event.Gone m why) = refl
    own_alike done (event.Granted copy grant) = refl
    own_alike done (event.Refused m copy refusal) = refl
    own_alike done (event.Unable m why) = refl
    own_alike done (event.Ready m) = refl
    own_alike done (event.End m how) = refl

    by_test : (b : Bool) → is_own c e.seat ≡ b → (not (concerns (scope c of) e.event) || is_own c e.seat) ≡ true → deeds (mine c past) n ≡ deeds past n → is_done (mine c past) n ≡ is_done past n
        → deeds (if b then e ∷ mine c past else mine c past) n ≡ deeds past n ++ option_to_list (deed_in past n e.event)
    by_test true is passes before done = ap (λ l. l ++ option_to_list (deed_in (mine c past) n e.event)) before ∙ ap (λ o. deeds past n ++ option_to_list o) (own_alike done e.event)
    by_test false is passes before done = before ∙ sym (ap (λ o. deeds past n ++ option_to_list o) (other_silent e.event (is_own c e.seat) passes is) ∙ append-nil _)

-- WHOEVER FOLLOWS A PLAN

module _ (c : Client) (of : Name) (past : Past) (ours : AreOurs c of past) (legal : Legal c.setting past) (far : 0 < length of) where
  abbrev made : Past
  made = mine c past

  -- in the scope, and not a top
  abbrev Low : Name → Type 0
  Low n = (name.is_ancestor (scope c of) n ≡ true) × ((length n == 1) ≡ false)

  abbrev LowDeed : Deed → Type 0
  LowDeed = OfAnyChild Low

  low_deeds : (n : Name) → name.is_ancestor (scope c of) n ≡ true → 0 < length n → (ds : List Deed) → AllByRecursion (λ x. is_child n x ≡ true) (begun ds) → AllByRecursion LowDeed ds
  low_deeds n low long [] all = tt
  low_deeds n low long (Deed.mark session ∷ ds) all = (tt, low_deeds n low long ds all)
  low_deeds n low long (Deed.child x ∷ ds) all = ((below_child (scope c of) n x low all.0, not_one x (omega (arith, child_longer n x all.0, long))), low_deeds n low long ds all.1)

  all_low : (h : Past) (n : Name) → name.is_ancestor (scope c of) n ≡ true → 0 < length n → AllByRecursion LowDeed (deeds h n)
  all_low h n low long = low_deeds n low long (deeds h n) (subst (AllByRecursion (λ x. is_child n x ≡ true)) (children_are h n) (all_children h n))

  longer : (n : Name) → Low n → 0 < length n
  longer [] low = absurd (scope_some c of far low.0)
  longer (x ∷ n) low = omega arith

  in_order : (n : Name) → name.is_ancestor (scope c of) n ≡ true → 0 < length n → AreInOrder made past n
  in_order n low long x y child other =
      let apart : (length x == 1) ≡ false = not_one x (omega (arith, child_longer n x child, long)) in
      let same = order_kept (λ (e : Entry). is_own c e.seat) x y past (drops_nothing c of x y (below_child (scope c of) n x low child) apart (below_child (scope c of) n y low other) past ours) in
      (λ h. sym same.0 ∙ h, λ h. sym same.1 ∙ h)

  agrees : (x : Name) → Low x → AgreesAt made past x
  agrees x low = record {
    kind = same_kind c of past ours x low.0;
    ended = same_end c of past ours x low.0 low.1;
    ready = same_ready c of past ours x low.0;
    seat = same_seat c of past ours x low.0;
    opens = same_opens c of past ours x low.0;
    order = in_order x low.0 (longer x low);
    deeds = same_deeds c of past ours legal far x low.0;
  }

  down : (x : Name) → Low x → AllByRecursion LowDeed (deeds made x)
  down x low = all_low made x low.0 (longer x low)

  plan_seen : (reach : Reach) (s : ℕ) (plan : Plan) (how : Option How) → name.is_ancestor (scope c of) of ≡ true → RunsPlan reach s made of plan (deeds made of) how → RunsPlan reach s past of plan (deeds made of) how
  plan_seen reach s plan how low h =
      plan_alike made past Low agrees down reach s of plan (deeds made of) how (record { ready = same_ready c of past ours of low; seat = same_seat c of past ours of low; order = in_order of low far })
      (low_children made past Low agrees down of (all_low made of low far)) h

  -- who was killed by what was seen was killed by what the client made
  was_killed_seen : (n : Name) → name.is_ancestor (scope c of) n ≡ true → WasKilled (end past n) → WasKilled (end made n)
  was_killed_seen n low killed = subst WasKilled (sym (by_end (end past n) refl killed)) tt
    where
      own : end past n ≡ Some (Abort cause.Killed) → end made n ≡ Some (Abort cause.Killed)
      own is = low_abort c of past ours n low cause.Killed is

      by_end : (o : Option How) → end past n ≡ o → WasKilled o → end made n ≡ Some (Abort cause.Killed)
      by_end None is h = absurd h
      by_end (Some (Commit given)) is h = absurd h
      by_end (Some (Abort cause.Killed)) is h = own is
      by_end (Some (Abort (cause.Asked by))) is h = absurd h
      by_end (Some (Abort (cause.Orphan a))) is h = absurd h
      by_end (Some (Abort (cause.Conflict copy holder))) is h = absurd h
      by_end (Some (Abort (cause.NoQuorum lack))) is h = absurd h
      by_end (Some (Abort cause.Last)) is h = absurd h
      by_end (Some (Abort (cause.Child x))) is h = absurd h
      by_end (Some (Abort cause.Missed)) is h = absurd h

  was_asked_seen : (n : Name) (o : Option How) → end made n ≡ o → WasAsked n o → WasAsked n (end past n)
  was_asked_seen n None is h = absurd h
  was_asked_seen n (Some how) is h = subst (WasAsked n) (sym (own_once c past n how legal is)) h

  -- what a step asked for by what the client made, it asked for by what was seen
  pub asks_seen : (by target : Name) (plan : Plan) → name.is_ancestor (scope c of) of ≡ true → Asks made of plan (deeds made of) by target → Asks past of plan (deeds past of) by target
  asks_seen by target plan low h =
      subst (λ xs. Asks past of plan xs by target) (same_deeds c of past ours legal far of low) (plan_asks_alike made past Low agrees down by target of (record { killed = was_killed_seen of low; asked = was_asked_seen of (end made of) refl }) plan (deeds made of) (all_low made of low far) h)

-- A transaction that does its plan by what a client made does so by what was seen, where it is ready if it has committed.
pub runs_seen : (reach : Reach) (c : Client) (s : ℕ) (of : Name) (past : Past) (plan : Plan) → Legal c.setting past → 0 < length of → AreOurs c of past → ((given : Answer) → end past of ≡ Some (Commit given) → is_ready past of ≡ true)
    → RunsPlan reach s (mine c past) of plan (deeds (mine c past) of) (end (mine c past) of) → RunsPlan reach s past of plan (deeds past of) (end past of)
runs_seen reach c s of past plan legal far ours ready h =
    let low : name.is_ancestor (scope c of) of ≡ true = at_scope c of in
    let f = plan_seen c of past ours legal far reach s plan (end (mine c past) of) low h in
    subst (λ cs. RunsPlan reach s past of plan cs (end past of)) (same_deeds c of past ours legal far of low) (by_end (end past of) refl f)
  where
    with_how : (given : Answer) (o : Option How) → is_ready past of ≡ true → (is_some o ≡ true → o ≡ Some (Commit given)) → RunsPlan reach s past of plan (deeds (mine c past) of) o → RunsPlan reach s past of plan (deeds (mine c past) of) (Some (Commit given))
    with_how given None is_so agrees f = plan_committed reach s past of plan (deeds (mine c past) of) given is_so f
    with_how given (Some how) is_so agrees f = subst (λ o. RunsPlan reach s past of plan (deeds (mine c past) of) o) (agrees refl) f

    by_end : (o : Option How) → end past of ≡ o → RunsPlan reach s past of plan (deeds (mine c past) of) (end (mine c past) of) → RunsPlan reach s past of plan (deeds (mine c past) of) o
    by_end None is f = subst (λ o. RunsPlan reach s past of plan (deeds (mine c past) of) o) (not_some (end (mine c past) of) (λ h. some_or_none (end past of) (kept_some (λ (e : Entry). is_own c e.seat) _ past h) is)) f
    by_end (Some (Abort x)) is f =
        subst (λ o. RunsPlan reach s past of plan (deeds (mine c past) of) o)
        (own_abort c of past x ours is) f
    by_end (Some (Commit given)) is f = with_how given (end (mine c past) of) (ready given is) (λ some. once some) f
      where
        once : is_some (end (mine c past) of) ≡ true → end (mine c past) of ≡ Some (Commit given)
        once some = let how = some_is (end (mine c past) of) some in how.1 ∙ sym (own_once c past of how.0 legal how.1) ∙ is
