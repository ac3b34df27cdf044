-- What a manager leaves that a client made: its transaction has one child more, and all else is as it was.
use Rattle.std.proofs.Common.{◌≡◌, ◌<◌, ◌+◌, Bool, true, false, [], ◌∷◌, ◌++◌, length, refl, sym, ap, ◌∙◌, subst, append-nil, append_assoc, arith, length-append}
use Rattle.std.specs.Prelude.{Option, None, Some, is_some, option_to_list, option_map, if◌then◌else◌, ◌&&◌}
use Rattle.std.specs.List.{AllByRecursion, list_all}
use Rattle.std.specs.Option.{option_or}
use Rattle.std.proofs.lemmas.Bool.{and_from}
use Rattle.qc_event.specs.declared.event.Entry.{Entry}
use Rattle.qc_event.specs.declared.event.Event.{Event}
use Rattle.qc_event.specs.declared.event.Event.TheVariants as event
use Rattle.qc_event.specs.declared.event.How.{How}
use Rattle.qc_event.specs.declared.event.Kind.{Kind}
use Rattle.qc_event.specs.History.{Past, Name, Begun, earliest, start, end, end_in, ready_in, child_in, is_ready, children, is_child, kind_of, same}
use Rattle.qc_event.specs.Legal.{Legal}
use Rattle.qc_event.proofs.Absent.{if_not, other_length}
use Rattle.qc_event.proofs.Histories.{earliest-append}
use Rattle.qc_event.proofs.LastNumber.{child_last, child_longer, no_child_length}
use Rattle.qc_event.proofs.Lawful.{lawful, child_starts, ends_open}
use Rattle.qc_event.proofs.LegalOrderly.{legal_orderly}
use Rattle.qc_event.proofs.Lineage.{fresh_child, IsFresh}
use Rattle.qc_event.proofs.OneEntry.{start_is, end_now, stays_some, some_or_none, not_some, none_before, both_empty}
use Rattle.qc_event.proofs.Orderly.{KeepsOrder}
use Rattle.qc_event.proofs.Later.{earlier_legal, start_still}
use Rattle.qc_script.specs.Calls.{Ran, WasCut, IsOfAccess, AreOfAccesses, by_client}
use Rattle.qc_script.specs.Client.{Client, mine, is_own, scope, Made, IsLater}
use Rattle.qc_interp.proofs.Scopes.Growth.{FirstMade, first_made, made_is, made_later}
use Rattle.qc_interp.specs.Deeds.{Deed, deeds}
use Rattle.qc_interp.proofs.Following.Deeds.{Silent, start_silent, deeds_quiet, child_deed, no_deeds}
use Rattle.qc_interp.proofs.Scopes.Mine.{kept_some}
use Rattle.qc_interp.proofs.Scopes.Adding.{all_both, stays_at, start_stays_in, accesses_stay}
use Rattle.qc_interp.proofs.Scopes.Scope.{child_scope}
use Rattle.qc_interp.proofs.Following.Turning.{InTurn, Alone, child_keeps, start_turns, access_turns, end_turns, own_actor, alone_up, some_done}
use Rattle.qc_interp.specs.Adding.{stays_in, AllStayIn}
use Rattle.qc_interp.specs.Asking.{AllAsked}
use Rattle.qc_interp.proofs.Stepping.Asked.{NoOne, asked_made, unasked_end, accesses_unasked}

-- ENTRIES THAT ARE QUIET ABOUT A NAME

pub children_quiet : (p : Name) (es h : Past) → AllByRecursion (λ (e : Entry). child_in p e.event ≡ None) es → children (es ++ h) p ≡ children h p
children_quiet p [] h quiet = refl
children_quiet p (e ∷ es) h quiet = ap (λ o. children (es ++ h) p ++ option_to_list o) quiet.0 ∙ append-nil _ ∙ children_quiet p es h quiet.1

pub found_quiet : {Y : Type 0} (f : Entry → Option Y) (es h : Past) → AllByRecursion (λ (e : Entry). f e ≡ None) es → earliest f (es ++ h) ≡ earliest f h
found_quiet f [] h quiet = refl
found_quiet {Y = Y} f (e ∷ es) h quiet = by_old (earliest f (es ++ h)) (f e) quiet.0 ∙ found_quiet f es h quiet.1
  where
    by_old : (o fresh : Option Y) → fresh ≡ None → option_or o fresh ≡ o
    by_old None fresh is = is
    by_old (Some y) fresh is = refl

-- one entry that the client made ends no other and makes no other ready
module _ (c : Client) (ev : Event) (before now : Past) (m : Made c (by_client c ev ∷ []) before now) (p : Name) where
  pub one_end : end_in p ev ≡ None → end (mine c now) p ≡ end (mine c before) p
  one_end none = ap (λ h. end h p) (made_is c _ before now m) ∙ found_quiet _ (by_client c ev ∷ []) (mine c before) (none, tt)

  pub one_ready : ready_in p ev ≡ None → is_ready (mine c now) p ≡ is_ready (mine c before) p
  one_ready none = ap (λ h. is_ready h p) (made_is c _ before now m) ∙ ap is_some (found_quiet _ (by_client c ev ∷ []) (mine c before) (none, tt))

pub all_wider : (P Q : Entry → Type 0) (es : Past) → ((e : Entry) → P e → Q e) → AllByRecursion P es → AllByRecursion Q es
all_wider P Q [] step h = h
all_wider P Q (e ∷ es) step h = (step e h.0, all_wider P Q es step h.1)

module _ (m p : Name) (shorter : length p < length m) where
  access_silent : (ev : Event) → IsOfAccess m ev → Silent p ev
  access_silent (event.Start n k) h = start_silent p n k (no_child_length p n (λ l. omega (arith, l, child_longer m n h.0, shorter)))
  access_silent (event.Ask ask) h = λ past. refl
  access_silent (event.Gone n why) h = λ past. refl
  access_silent (event.Granted copy grant) h = λ past. refl
  access_silent (event.Refused n copy refusal) h = λ past. refl
  access_silent (event.Unable n why) h = λ past. refl
  access_silent (event.Mark n session) h = absurd h
  access_silent (event.Ready n) h = λ past. refl
  access_silent (event.End n how) h = λ past. refl

access_end : (m p : Name) → length p < length m + 1 → (ev : Event) → IsOfAccess m ev → end_in p ev ≡ None
access_end m p shorter (event.End n how) h = if_not (same n p) (Some how) (other_length n p (λ l. omega (arith, l, child_longer m n h.0, shorter)))
access_end m p shorter (event.Ask ask) h = refl
access_end m p shorter (event.Gone n why) h = refl
access_end m p shorter (event.Granted copy grant) h = refl
access_end m p shorter (event.Refused n copy refusal) h = refl
access_end m p shorter (event.Unable n why) h = refl
access_end m p shorter (event.Mark n session) h = refl
access_end m p shorter (event.Ready n) h = refl
access_end m p shorter (event.Start n k) h = refl

access_ready : (m p : Name) (ev : Event) → IsOfAccess m ev → ready_in p ev ≡ None
access_ready m p (event.Ready n) h = absurd h
access_ready m p (event.End n how) h = refl
access_ready m p (event.Ask ask) h = refl
access_ready m p (event.Gone n why) h = refl
access_ready m p (event.Granted copy grant) h = refl
access_ready m p (event.Refused n copy refusal) h = refl
access_ready m p (event.Unable n why) h = refl
access_ready m p (event.Mark n session) h = refl
access_ready m p (event.Start n k) h = refl

-- A CHILD THAT STARTS IS NEW

grouped : (a mid b : Past) (e : Entry) → (a ++ e ∷ mid) ++ b ≡ a ++ (e ∷ (mid ++ b))
grouped [] mid b e = refl
grouped (x ∷ a) mid b e = ap (λ l. x ∷ l) (grouped a mid b e)

pub children_rest : (newer past : Past) (n : Name) → children (newer ++ past) n ≡ [] → children past n ≡ []
children_rest [] past n h = h
children_rest (e ∷ newer) past n h = children_rest newer past n (both_empty _ _ h).0

pub start_rest : (newer past : Past) (n : Name) → start (newer ++ past) n ≡ None → start past n ≡ None
start_rest [] past n h = h
start_rest (e ∷ newer) past n h = start_rest newer past n (none_before (start (newer ++ past) n) _ h).0

module _ (c : Client) where
  pub absent : {Y : Type 0} (f : Entry → Option Y) (mid before : Past) → earliest f (mid ++ before) ≡ None → earliest f (mine c before) ≡ None
  absent f mid before none = not_some (earliest f (mine c before)) (λ h. some_or_none (earliest f (mid ++ before)) (ap is_some (earliest-append f mid before) ∙ stays_some _ _ (kept_some (λ (x : Entry). is_own c x.seat) f before h)) none)

  pub none_kept : (past : Past) (n : Name) → children past n ≡ [] → children (mine c past) n ≡ []
  none_kept [] n h = refl
  none_kept (e ∷ past) n h = by_test (is_own c e.seat) (none_kept past n (both_empty _ _ h).0)
    where
      none : option_to_list (child_in n e.event) ≡ []
      none = (both_empty (children past n) _ h).1

      by_test : (b : Bool) → children (mine c past) n ≡ [] → children (if b then e ∷ mine c past else mine c past) n ≡ []
      by_test false was = was
      by_test true was = ap (λ l. l ++ option_to_list (child_in n e.event)) was ∙ none

  -- an entry among those that were made meanwhile
  pub some_made : (es : Past) (e : Entry) (fs newer : Past) → mine c newer ≡ es ++ e ∷ fs → FirstMade c e fs newer
  some_made [] e fs newer h = first_made c e fs newer h
  some_made (x ∷ es) e fs newer h =
      let f = first_made c x (es ++ e ∷ fs) newer h in
      let g = some_made es e fs f.mid f.made in
      record { after = f.after ++ (x ∷ g.after); mid = g.mid; is = f.is ∙ ap (λ l. f.after ++ (x ∷ l)) g.is ∙ sym (append_assoc f.after (x ∷ g.after) (e ∷ g.mid)); made = g.made }

  -- the history that an entry among them came after
  pub record CameAfter (e : Entry) (before now : Past) : Type 0 where
    pub after : Past
    pub mid : Past
    pub is : now ≡ after ++ (e ∷ (mid ++ before))
    pub legal : Legal c.setting (e ∷ (mid ++ before))

  pub came_after : (es : Past) (e : Entry) (fs before now : Past) → Made c (es ++ e ∷ fs) before now → CameAfter e before now
  came_after es e fs before now m =
      let f = some_made es e fs m.newer m.made in
      by_parts f.after f.mid (m.grown ∙ ap (λ x. x ++ before) f.is ∙ grouped f.after f.mid before e)
    where
      by_parts : (after mid : Past) → now ≡ after ++ (e ∷ (mid ++ before)) → CameAfter e before now
      by_parts after mid is = record { after = after; mid = mid; is = is; legal = earlier_legal c.setting after (e ∷ (mid ++ before)) (subst (Legal c.setting) is m.legal) }

  -- a child that started meanwhile was new, and is there
  pub record NewChild (of n : Name) (k : Kind) (before now : Past) : Type 0 where
    pub fresh : IsFresh (mine c before) n
    pub idle : deeds (mine c before) n ≡ []
    pub started : start now n ≡ Some (record { seat = c.number; kind = k })

  pub new_child : (es fs : Past) (of n : Name) (k : Kind) (before now : Past) → 0 < length of → is_child of n ≡ true → Made c (es ++ by_client c (event.Start n k) ∷ fs) before now → NewChild of n k before now
  new_child es fs of n k before now nonroot child m =
      let at = came_after es (by_client c (event.Start n k)) fs before now m in
      let l = child_last of n child in
      let keeps : KeepsOrder (at.mid ++ before) (event.Start n k) = (legal_orderly c.setting (by_client c (event.Start n k) ∷ (at.mid ++ before)) at.legal).1 in
      let begun = child_starts (at.mid ++ before) (by_client c (event.Start n k)) of l.0 nonroot (k, ap (λ x. event.Start x k) l.1) keeps in
      let low = lawful (at.mid ++ before) (legal_orderly c.setting _ at.legal.0) in
      let was : IsFresh (at.mid ++ before) n = subst (IsFresh (at.mid ++ before)) (sym l.1) (fresh_child (at.mid ++ before) of l.0 [] low nonroot (omega (arith, begun.next))) in
      let childless = children_rest at.mid before n was.no_children in
      record {
        fresh = record { no_start = absent _ at.mid before was.no_start; no_end = absent _ at.mid before was.no_end; no_children = none_kept before n childless };
        idle = no_deeds (λ (e : Entry). is_own c e.seat) c.setting before n (earlier_legal c.setting at.mid before at.legal.0) (start_rest at.mid before n was.no_start) childless;
        started = ap (λ h. start h n) at.is ∙ start_still at.after _ n _ (start_is (by_client c (event.Start n k)) (at.mid ++ before) n k was.no_start refl);
      }

  -- WHAT A MANAGER LEAVES

  -- it has begun, and entries of its accesses stand behind its start
  module _ (of m : Name) (k : Kind) (inner h0 : Past) (is_one : is_child of m ≡ true) (fresh : IsFresh h0 m) (of_accesses : AreOfAccesses m inner) where
    abbrev pub begins : Entry
    begins = by_client c (event.Start m k)

    abbrev pub running : Past
    running = inner ++ begins ∷ h0

    longer : length m ≡ length of + 1
    longer = child_longer of m is_one

    begun : start (begins ∷ h0) m ≡ Some (record { seat = c.number; kind = k })
    begun = start_is begins h0 m k fresh.no_start refl

    pub start_running : start running m ≡ Some (record { seat = c.number; kind = k })
    start_running = start_still inner (begins ∷ h0) m _ begun

    pub kind_running : kind_of running m ≡ Some k
    kind_running = ap (option_map (λ (b : Begun). b.kind)) start_running

    pub end_running : end running m ≡ None
    end_running = found_quiet _ inner (begins ∷ h0) (all_wider _ _ inner (λ e. access_end m m (omega arith) e.event) of_accesses) ∙ ap (λ o. option_or o None) fresh.no_end

    -- at the transactions from the parent up
    module _ (p r : Name) (above : of ≡ p ++ r) where
      short : length p + length r ≡ length of
      short = sym (ap length above ∙ length-append p r)

      pub apart : same m p ≡ false
      apart = other_length m p (λ l. omega (arith, l, longer, short))

      pub same_end_running : end running p ≡ end h0 p
      same_end_running =
          found_quiet _ inner (begins ∷ h0) (all_wider _ _ inner (λ e. access_end m p (omega (arith, longer, short)) e.event) of_accesses)
          ∙ found_quiet _ (begins ∷ []) h0 (refl, tt)

      pub same_ready_running : is_ready running p ≡ is_ready h0 p
      same_ready_running =
          ap is_some (found_quiet _ inner (begins ∷ h0) (all_wider _ _ inner (λ e. access_ready m p e.event) of_accesses) ∙ found_quiet _ (begins ∷ []) h0 (refl, tt))

      inner_quiet : deeds running p ≡ deeds (begins ∷ h0) p
      inner_quiet = deeds_quiet p inner (begins ∷ h0) (all_wider (λ e. IsOfAccess m e.event) (λ e. Silent p e.event) inner (λ e. access_silent m p (omega (arith, longer, short)) e.event) of_accesses)

      pub same_deeds_running : 0 < length r → deeds running p ≡ deeds h0 p
      same_deeds_running far = inner_quiet ∙ deeds_quiet p (begins ∷ []) h0 (start_silent p m k (no_child_length p m (λ l. omega (arith, l, longer, short, far))), tt)

    pub deeds_running : deeds running of ≡ deeds h0 of ++ Deed.child m ∷ []
    deeds_running = inner_quiet of [] (sym (append-nil of)) ∙ child_deed begins h0 of m k refl is_one

    pub turns_running : 0 < length of → InTurn h0 → Alone h0 of → InTurn running × Alone running m
    turns_running nonroot turns alone =
        let a = start_turns begins h0 of m k refl is_one (child_keeps begins h0 of m k nonroot is_one refl) turns alone in
        access_turns m inner (begins ∷ h0) (omega (arith, longer)) of_accesses a.0 a.1

    pub inside_running : 0 < length of → list_all (stays_in (scope c of)) (inner ++ begins ∷ []) ≡ true
    inside_running nonroot =
        let low = child_scope c of m is_one in
        all_both (stays_in (scope c of)) inner (begins ∷ []) (accesses_stay (scope c of) m inner (omega (arith, longer)) low of_accesses)
        (ap (λ b. b && true) (start_stays_in (scope c of) m k begins refl (omega (arith, longer, nonroot)) low))

  -- what was made of it, as far as it came
  pub record IsManager (of : Name) (k : Kind) (m : Name) (before now : Past) : Type 0 where
    pub later : IsLater c before now
    pub inside : AllStayIn c (scope c of) later.newer
    pub asked : AllAsked c before now NoOne
    pub kind : kind_of (mine c now) m ≡ Some k
    pub started : start now m ≡ Some (record { seat = c.number; kind = k })
    pub deeds : deeds (mine c now) of ≡ deeds (mine c before) of ++ Deed.child m ∷ []
    pub same_deeds : (p r : Name) → of ≡ p ++ r → 0 < length r → Rattle.qc_interp.specs.Deeds.deeds (mine c now) p ≡ Rattle.qc_interp.specs.Deeds.deeds (mine c before) p
    pub same_end : (p r : Name) → of ≡ p ++ r → end (mine c now) p ≡ end (mine c before) p
    pub same_ready : (p r : Name) → of ≡ p ++ r → is_ready (mine c now) p ≡ is_ready (mine c before) p

  pub record Managed (of : Name) (k : Kind) (how : How) (m : Name) (before now : Past) : Type 0 where
    pub so_far : IsManager of k m before now
    pub open so_far use *
    pub turns : InTurn (mine c before) → Alone (mine c before) of → InTurn (mine c now) × Alone (mine c now) of
    pub is_one : is_child of m ≡ true
    pub end : end (mine c now) m ≡ Some how
    pub ended : Rattle.qc_event.specs.History.end now m ≡ Some how

  module _ (of : Name) (k : Kind) (how : How) (before now : Past) (nonroot : 0 < length of) (ran : Ran c of k how before now) where
    abbrev m : Name
    m = ran.manager

    abbrev ends : Entry
    ends = by_client c (event.End m how)

    abbrev h0 : Past
    h0 = mine c before

    new : NewChild of m k before now
    new = new_child (ends ∷ ran.inner) [] of m k before now nonroot ran.is_one ran.made

    abbrev h1 : Past
    h1 = running of m k ran.inner h0 ran.is_one new.fresh ran.of_accesses

    now_is : mine c now ≡ ends ∷ h1
    now_is = made_is c _ before now ran.made ∙ ap (λ l. ends ∷ l) (append_assoc ran.inner (by_client c (event.Start m k) ∷ []) h0)

    kind_is : kind_of (mine c now) m ≡ Some k
    kind_is =
        ap (λ h. kind_of h m) now_is
        ∙ ap (option_map (λ (b : Begun). b.kind)) (start_still (ends ∷ []) h1 m _ (start_running of m k ran.inner h0 ran.is_one new.fresh ran.of_accesses))

    end_is : end (mine c now) m ≡ Some how
    end_is =
        ap (λ h. end h m) now_is
        ∙ ap (λ o. option_or o (end_in m ends.event)) (end_running of m k ran.inner h0 ran.is_one new.fresh ran.of_accesses)
        ∙ end_now m ends.event how refl

    ended_is : Rattle.qc_event.specs.History.end now m ≡ Some how
    ended_is =
        let at = came_after [] ends (ran.inner ++ by_client c (event.Start m k) ∷ []) before now ran.made in
        let keeps : KeepsOrder (at.mid ++ before) (event.End m how) = (legal_orderly c.setting (ends ∷ (at.mid ++ before)) at.legal).1 in
        let open_ = ends_open (at.mid ++ before) ends m how refl keeps in
        ap (λ h. end h m) at.is ∙ earliest-append _ at.after _
        ∙ ap (λ o. option_or o (end at.after m)) (ap (λ o. option_or o (end_in m ends.event)) open_.not_ended ∙ end_now m ends.event how refl)

    same_end_at : (p r : Name) → of ≡ p ++ r → end (mine c now) p ≡ end h0 p
    same_end_at p r above =
        ap (λ h. end h p) now_is
        ∙ found_quiet _ (ends ∷ []) h1 (if_not (same m p) (Some how) (apart of m k ran.inner h0 ran.is_one new.fresh ran.of_accesses p r above), tt)
        ∙ same_end_running of m k ran.inner h0 ran.is_one new.fresh ran.of_accesses p r above

    same_ready_at : (p r : Name) → of ≡ p ++ r → is_ready (mine c now) p ≡ is_ready h0 p
    same_ready_at p r above =
        ap (λ h. is_ready h p) now_is
        ∙ ap is_some (found_quiet _ (ends ∷ []) h1 (refl, tt))
        ∙ same_ready_running of m k ran.inner h0 ran.is_one new.fresh ran.of_accesses p r above

    end_quiet : (p : Name) → deeds (mine c now) p ≡ deeds h1 p
    end_quiet p = ap (λ h. deeds h p) now_is ∙ deeds_quiet p (ends ∷ []) h1 ((λ past. refl), tt)

    turns_is : InTurn (mine c before) → Alone (mine c before) of → InTurn (mine c now) × Alone (mine c now) of
    turns_is turns alone =
        let b = turns_running of m k ran.inner h0 ran.is_one new.fresh ran.of_accesses nonroot turns alone in
        let d = end_turns ends h1 m m how refl (own_actor m how ran.not_asked) b.0 b.1 b.1 in
        subst (λ h. InTurn h × Alone h of) (sym now_is) (d.0, alone_up (ends ∷ h1) of m ran.is_one (some_done (ends ∷ h1) m (ap is_some (ap (λ h. end h m) (sym now_is) ∙ end_is))) d.1)

    inside_is : list_all (stays_in (scope c of)) (ends ∷ ran.inner ++ by_client c (event.Start m k) ∷ []) ≡ true
    inside_is =
        and_from _ _ (stays_at (scope c of) m ends refl refl (child_scope c of m ran.is_one)) (inside_running of m k ran.inner h0 ran.is_one new.fresh ran.of_accesses nonroot)

    pub managed : Managed of k how m before now
    managed = record {
      so_far = record {
        later = made_later c _ before now ran.made;
        inside = ap (list_all (stays_in (scope c of))) ran.made.made ∙ inside_is;
        asked = asked_made c _ before now NoOne ran.made (unasked_end m how ran.not_asked, accesses_unasked m ran.inner (by_client c (event.Start m k) ∷ []) ran.of_accesses (tt, tt));
        kind = kind_is;
        started = new.started;
        deeds = end_quiet of ∙ deeds_running of m k ran.inner h0 ran.is_one new.fresh ran.of_accesses;
        same_deeds = λ p r above far. end_quiet p ∙ same_deeds_running of m k ran.inner h0 ran.is_one new.fresh ran.of_accesses p r above far;
        same_end = same_end_at;
        same_ready = same_ready_at;
      };
      turns = turns_is;
      is_one = ran.is_one;
      end = end_is;
      ended = ended_is;
    }

  -- WHAT A MANAGER LEAVES THAT WAS CUT OFF

  pub record Interrupted (of : Name) (k : Kind) (m : Name) (before now : Past) : Type 0 where
    pub so_far : IsManager of k m before now
    pub open so_far use *
    pub turns : InTurn (mine c before) → Alone (mine c before) of → InTurn (mine c now)
    pub end : end (mine c now) m ≡ None

  pub interrupted : (of : Name) (k : Kind) (before now : Past) → 0 < length of → (cut : WasCut c of k before now) → Interrupted of k cut.manager before now
  interrupted of k before now nonroot cut = record {
    so_far = record {
      later = made_later c _ before now cut.made;
      inside = ap (list_all (stays_in (scope c of))) cut.made.made ∙ inside_running of cut.manager k cut.inner (mine c before) cut.is_one new.fresh cut.of_accesses nonroot;
      asked = asked_made c _ before now NoOne cut.made (accesses_unasked cut.manager cut.inner (by_client c (event.Start cut.manager k) ∷ []) cut.of_accesses (tt, tt));
      kind = ap (λ h. kind_of h cut.manager) now_is ∙ kind_running of cut.manager k cut.inner (mine c before) cut.is_one new.fresh cut.of_accesses;
      started = new.started;
      deeds = ap (λ h. deeds h of) now_is ∙ deeds_running of cut.manager k cut.inner (mine c before) cut.is_one new.fresh cut.of_accesses;
      same_deeds = λ p r above far. ap (λ h. deeds h p) now_is ∙ same_deeds_running of cut.manager k cut.inner (mine c before) cut.is_one new.fresh cut.of_accesses p r above far;
      same_end = λ p r above. ap (λ h. end h p) now_is ∙ same_end_running of cut.manager k cut.inner (mine c before) cut.is_one new.fresh cut.of_accesses p r above;
      same_ready = λ p r above. ap (λ h. is_ready h p) now_is ∙ same_ready_running of cut.manager k cut.inner (mine c before) cut.is_one new.fresh cut.of_accesses p r above;
    };
    turns = λ turns alone. subst InTurn (sym now_is) (turns_running of cut.manager k cut.inner (mine c before) cut.is_one new.fresh cut.of_accesses nonroot turns alone).0;
    end = ap (λ h. end h cut.manager) now_is ∙ end_running of cut.manager k cut.inner (mine c before) cut.is_one new.fresh cut.of_accesses;
  }
    where
      new : NewChild of cut.manager k before now
      new = new_child cut.inner [] of cut.manager k before now nonroot cut.is_one cut.made

      now_is : mine c now ≡ cut.inner ++ by_client c (event.Start cut.manager k) ∷ mine c before
      now_is = made_is c _ before now cut.made ∙ append_assoc cut.inner (by_client c (event.Start cut.manager k) ∷ []) (mine c before)
