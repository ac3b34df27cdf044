-- A manager's next access, by its client's own entries alone: what it may do once it has asked, and what its manager knows once it has ended.
use Rattle.std.proofs.Common.{◌≡◌, ℕ, ◌+◌, ◌≤◌, ◌==◌, ◌⊎◌, inl, inr, Bool, true, false, cond, List, [], ◌∷◌, ◌++◌, length, refl, sym, ap, ◌∙◌, subst, arith, not, append-nil}
use Rattle.std.specs.Prelude.{None, Some, MatchOption, IsTrue, if◌then◌else◌, is_some, is_none, find, option_to_list}
use Rattle.std.specs.List.{AllByRecursion}
use Rattle.std.specs.Option.{option_or}
use Rattle.std.proofs.lemmas.Bool.{false_from_ne_true}
use Rattle.std.proofs.lemmas.List.Elements.{All-from_recursion}
use Rattle.std.proofs.lemmas.List.Folds.{find-append}
use Rattle.qc_config.specs.declared.tuple.Op.{Op}
use Rattle.qc_event.specs.declared.event.Answer.TheVariants as answer
use Rattle.qc_event.specs.declared.event.Ask.{Ask}
use Rattle.qc_event.specs.declared.event.Cause.TheVariants.{Missed, Orphan as OrphanOf}
use Rattle.qc_event.specs.declared.event.Entry.{Entry}
use Rattle.qc_event.specs.declared.event.Event.TheVariants as event
use Rattle.qc_event.specs.declared.event.How.{How}
use Rattle.qc_event.specs.declared.event.How.TheVariants.{Commit, Abort}
use Rattle.qc_event.specs.declared.event.Kind.TheVariants as kind
use Rattle.qc_event.specs.declared.event.Refusal.TheVariants as refusal
use Rattle.qc_event.specs.Base.{Setting}
use Rattle.qc_event.specs.History.{Past, Name, Begun, same, start, end, asked, gone, refused, asks, children, is_child}
use Rattle.qc_event.specs.Legal.{Legal}
use Rattle.qc_event.specs.Manager.{Result, Replied, Missing, BlockedBy, result, result_by}
use Rattle.qc_event.specs.Seats.{is_client}
use Rattle.qc_event.specs.Standing.{open_child}
use Rattle.qc_event.proofs.Absent.{same_itself, same_is}
use Rattle.qc_event.proofs.LastNumber.{is_child-last, length_last}
use Rattle.qc_event.proofs.Later.{earlier_legal}
use Rattle.qc_event.proofs.Lawful.{lawful}
use Rattle.qc_event.proofs.LegalOrderly.{legal_orderly}
use Rattle.qc_event.proofs.Lineage.{IsFresh, fresh_child}
use Rattle.qc_event.proofs.OneEntry.{no_child_passes, some_or_none, stays_some, some_not_none, some_if_not_none, all_children}
use Rattle.qc_event.proofs.Options.{or_new}
use Rattle.qc_event.proofs.OwnRequests.{IsOwn, asks_own}
use Rattle.qc_managers.specs.Carrying.{MayCarry, next_ask, entry, began, access_entries, made_by, name_of, HasGrown, carriage, WasCarried, IsTold}
use Rattle.qc_event.proofs.Starting.{manager_name}
use Rattle.qc_desk.specs.Own.{IsMine, IsOwnAccess}
use Rattle.qc_desk.proofs.Lists.{entries_append}
use Rattle.qc_carry.specs.Access.{Waits, orphaning}
use Rattle.qc_carry.proofs.AfterStart as after
use Rattle.qc_carry.proofs.Unheard as unheard
use Rattle.qc_carry.proofs.Walks as walks
use Rattle.qc_carry.proofs.Walks.{IsOf}

module _ (setting : Setting) (seat : ℕ) (past : Past) (m : Name) (copy rec : ℕ) (op : Op) (client : IsTrue (is_client seat)) (may : MayCarry setting seat past m copy rec op) (newer : Past) (legal : Legal setting (newer ++ past)) where
  abbrev pub q : Ask
  q = next_ask past m copy rec op

  abbrev n : Name
  n = q.access

  abbrev now : Past
  now = newer ++ past

  mine : IsMine past seat m
  mine = after.mine setting seat past m copy rec op client may

  past_legal : Legal setting past
  past_legal = earlier_legal setting newer past legal

  long : 2 ≤ length m
  long = (manager_name setting past m _ past_legal may.running.started may.manages).below_a_top

  pub child : is_child m n ≡ true
  child = is_child-last m (length (children past m) + 1)

  pub fresh : IsFresh past n
  fresh = fresh_child past m (length (children past m) + 1) [] (lawful past (legal_orderly setting past past_legal)) (let l = long in omega (arith, l)) (omega arith)

  not_m : same n m ≡ false
  not_m = false_from_ne_true (same n m) (λ s. absurd (omega (arith, ap length (same_is n m s), length_last m (length (children past m) + 1))))

  -- WHILE IT WAITS

  module _ (made : Past) (is_made : made_by seat newer ≡ made) (begun : start made n ≡ Some (record { seat = seat; kind = kind.Access })) (unended : end made n ≡ None) where
    started : start now n ≡ Some (record { seat = seat; kind = kind.Access })
    started =
        walks.start_c setting past seat m mine newer legal n child
        ∙ or_new (start past n) _ fresh.no_start
        ∙ ap (λ p. start p n) is_made
        ∙ begun

    pub not_ended : end now n ≡ None
    not_ended = walks.end_c setting past seat m mine newer legal n child ∙ or_new (end past n) _ fresh.no_end ∙ ap (λ p. end p n) is_made ∙ unended

    pub own_access : IsOwnAccess now seat n
    own_access = record {
      by_client = client;
      manager = m;
      child = child;
      mine = walks.mine_at setting past seat m mine newer;
      started = subst (λ o. MatchOption o ⊥ (λ (a : Begun). (a.seat ≡ seat) × (a.kind ≡ kind.Access))) (sym started) (refl, refl);
      is_open = record { started = ap is_some started; not_ended = not_ended };
    }

  starts : (b : Begun) → (if same n n then Some b else None) ≡ Some b
  starts b = ap (λ (t : Bool). if t then Some b else None) (same_itself n)

  -- it has started
  pub started_own : made_by seat newer ≡ entry seat (event.Start n kind.Access) ∷ [] → IsOwnAccess now seat n
  started_own is = own_access (entry seat (event.Start n kind.Access) ∷ []) is (starts _) refl

  -- it has asked
  pub waits_for_answer : made_by seat newer ≡ began seat q → Waits now seat q
  waits_for_answer is = record {
    own = own_access (began seat q) is (ap (λ o. option_or o None) (starts _)) refl;
    asks_it =
        walks.asked_c setting past seat m mine newer legal n child
        ∙ or_new (asked past n) _ (unheard.not_asked setting n past past_legal fresh.no_start)
        ∙ ap (λ p. asked p n) is
        ∙ ap (λ (b : Bool). if b then Some (record { seat = seat; ask = q }) else None) (same_itself n);
    ungone = walks.gone_c setting past seat m mine newer legal n child ∙ or_new (gone past n) _ (unheard.not_gone setting n past past_legal fresh.no_start) ∙ ap (λ p. gone p n) is;
  }

  -- ITS MANAGER

  -- a child that had ended still has
  still_ended : (c : Name) → is_child m c ≡ true → is_some (end past c) ≡ true → is_none (end now c) ≡ false
  still_ended c is h = some_not_none (end now c) (ap is_some (walks.end_c setting past seat m mine newer legal c is) ∙ stays_some (end past c) _ h)

  none_open : (cs : List Name) → AllByRecursion (λ c. is_child m c ≡ true) cs → find (λ c. is_none (end past c)) cs ≡ None → find (λ c. is_none (end now c)) cs ≡ None
  none_open [] all none = refl
  none_open (c ∷ cs) all none = by_end (is_none (end past c)) refl (none_open cs all.1) none
    where
      by_end : (b : Bool) → is_none (end past c) ≡ b → (find (λ c. is_none (end past c)) cs ≡ None → find (λ c. is_none (end now c)) cs ≡ None) → cond b (Some c) (find (λ c. is_none (end past c)) cs) ≡ None → find (λ c. is_none (end now c)) (c ∷ cs) ≡ None
      by_end true is rest h = absurd cc
      by_end false is rest h = ap (λ b. cond b (Some c) (find (λ c. is_none (end now c)) cs)) (still_ended c all.0 (some_if_not_none (end past c) is)) ∙ rest h

  -- where no child is new, each has ended
  pub still_closed : children (made_by seat newer) m ≡ [] → open_child now m ≡ None
  still_closed none =
      ap (find (λ c. is_none (end now c))) (walks.children_m setting past seat m mine newer legal ∙ ap (λ cs. children past m ++ cs) none ∙ append-nil (children past m))
      ∙ none_open (children past m) (all_children past m) may.running.children_ended

  pub still_open : (made : Past) → made_by seat newer ≡ made → end made m ≡ None → end now m ≡ None
  still_open made is none = walks.end_m setting past seat m mine newer legal ∙ or_new (end past m) _ may.running.not_ended ∙ ap (λ p. end p m) is ∙ none

  -- ONCE IT HAS ENDED

  module _ (made : Past) (is_made : made_by seat newer ≡ made) (how : How) (over : end made n ≡ Some how) (not_ends : end made m ≡ None) (one : children made m ≡ n ∷ []) (of : AllByRecursion (IsOf n) made) where
    pub ended : end now n ≡ Some how
    ended = walks.end_c setting past seat m mine newer legal n child ∙ or_new (end past n) _ fresh.no_end ∙ ap (λ p. end p n) is_made ∙ over

    pub manager_open : end now m ≡ None
    manager_open = still_open made is_made not_ends

    pub all_ended : open_child now m ≡ None
    all_ended =
        ap (find (λ c. is_none (end now c))) (walks.children_m setting past seat m mine newer legal ∙ ap (λ p. children past m ++ children p m) is_made ∙ ap (λ cs. children past m ++ cs) one)
        ∙ find-append (λ c. is_none (end now c)) (children past m) (n ∷ [])
        ∙ or_new _ _ (none_open (children past m) (all_children past m) may.running.children_ended)
        ∙ ap (λ o. cond (is_none o) (Some n) None) ended

    apart : (c : Name) → is_some (end past c) ≡ true → n ≡ c → ⊥
    apart c h s = some_or_none (end past c) h (ap (end past) (sym s) ∙ fresh.no_end)

    each_as_before : (requests : List Ask) → AllByRecursion (IsOwn past m) requests → AllByRecursion (λ (a : Ask). result now a.access ≡ result past a.access) requests
    each_as_before [] all = tt
    each_as_before (a ∷ rest) all =
        let over_past = some_if_not_none (end past a.access) (no_child_passes (λ c. is_none (end past c)) past m a.access all.0.child all.0.started may.running.children_ended) in (
          (walks.result_kept setting past seat m mine n a.access all.0.child (apart a.access over_past) over_past newer legal (subst (AllByRecursion (IsOf n)) (sym is_made) of)).1,
          each_as_before rest all.1,
        )

    pub is_told : (r : Result) → asks made m ≡ q ∷ [] → result now n ≡ Some r → IsTold past now m q r
    is_told r requests is = record {
      asked = walks.asks_m setting past seat m mine newer legal ∙ ap (λ p. asks past m ++ asks p m) is_made ∙ ap (λ qs. asks past m ++ qs) requests;
      newest = is;
      as_before = All-from_recursion (λ (a : Ask). result now a.access ≡ result past a.access) (asks past m) (each_as_before (asks past m) (asks_own setting past m past_legal));
    }

    -- and its manager may go on
    was_carried : (r : Result) → made ≡ access_entries seat q r → result_by (Some how) (gone now n) (refused now n) ≡ Some r → asks made m ≡ q ∷ [] → WasCarried (carriage seat past now m copy rec op) r
    was_carried r entries became requests = record {
      made = entries_append seat newer past ∙ ap (λ p. p ++ made_by seat past) (is_made ∙ entries);
      told = is_told r requests (ap (λ o. result_by o (gone now n) (refused now n)) ended ∙ became);
      not_ended = manager_open;
      children_ended = all_ended;
    }

  -- ITS RESULT

  one_child : {Y : Type 0} (y : Y) → option_to_list (if is_child m n then Some y else None) ≡ y ∷ []
  one_child y = ap (λ (b : Bool). option_to_list (if b then Some y else None)) child

  pub its : {Y : Type 0} (y : Y) → (if same n n then Some y else None) ≡ Some y
  its y = ap (λ (b : Bool). if b then Some y else None) (same_itself n)

  no_m : {Y : Type 0} (y : Y) → (if same n m then Some y else None) ≡ None
  no_m y = ap (λ (b : Bool). if b then Some y else None) not_m

  -- of a holder that is told the first refusal tells
  abbrev pub IsFirst : Result → Type 0
  IsFirst (Replied tuple) = Unit {0}
  IsFirst (Missing why) = Unit {0}
  IsFirst (BlockedBy h) = refused now n ≡ Some (refusal.Blocked h)

  pub end_by : (made : Past) → made_by seat newer ≡ made → end now n ≡ end made n
  end_by made is = walks.end_c setting past seat m mine newer legal n child ∙ or_new (end past n) _ fresh.no_end ∙ ap (λ p. end p n) is

  pub gone_by : (made : Past) → made_by seat newer ≡ made → gone now n ≡ gone made n
  gone_by made is = walks.gone_c setting past seat m mine newer legal n child ∙ or_new (gone past n) _ (unheard.not_gone setting n past past_legal fresh.no_start) ∙ ap (λ p. gone p n) is

  pub carried : (r : Result) → IsFirst r → made_by seat newer ≡ access_entries seat q r → WasCarried (carriage seat past now m copy rec op) r
  carried (Replied tuple) first is =
      was_carried (access_entries seat q (Replied tuple)) is (Commit (answer.Reply tuple)) (its (Commit (answer.Reply tuple))) (no_m (Commit (answer.Reply tuple))) (append-nil _ ∙ append-nil _ ∙ one_child n) (refl, (refl, (refl, tt)))
      (Replied tuple) refl refl (append-nil _ ∙ one_child q)
  carried (BlockedBy h) first is =
      was_carried (access_entries seat q (BlockedBy h)) is (Abort Missed) (its (Abort Missed)) (no_m (Abort Missed)) (append-nil _ ∙ append-nil _ ∙ one_child n) (refl, (refl, (refl, tt)))
      (BlockedBy h) refl (ap (λ o. result_by (Some (Abort Missed)) o (refused now n)) (gone_by (access_entries seat q (BlockedBy h)) is) ∙ ap (result_by (Some (Abort Missed)) None) first) (append-nil _ ∙ one_child q)
  carried (Missing why) first is =
      was_carried (access_entries seat q (Missing why)) is (Abort Missed) (its (Abort Missed)) (no_m (Abort Missed)) (append-nil _ ∙ append-nil _ ∙ append-nil _ ∙ one_child n) (refl, (refl, (refl, (refl, tt))))
      (Missing why) refl (ap (λ o. result_by (Some (Abort Missed)) o (refused now n)) (gone_by (access_entries seat q (Missing why)) is ∙ ap (λ (b : Bool). option_or (if b then Some why else None) None) (same_itself n))) (append-nil _ ∙ append-nil _ ∙ one_child q)

  -- IT IS STOPPED

  -- its manager is open, with no open child
  abbrev pub IsFreed : Type 0
  IsFreed = (end now m ≡ None) × (open_child now m ≡ None)

  pub orphaned_unasked : (a : Name) → made_by seat newer ≡ orphaning seat n a ++ entry seat (event.Start n kind.Access) ∷ [] → IsFreed
  orphaned_unasked a is =
      let made = orphaning seat n a ++ entry seat (event.Start n kind.Access) ∷ [] in
      let how = Abort (OrphanOf a) in (
        manager_open made is how (its how) (no_m how) (append-nil _ ∙ one_child n) (refl, (refl, tt)),
        all_ended made is how (its how) (no_m how) (append-nil _ ∙ one_child n) (refl, (refl, tt)),
      )

  pub orphaned_asked : (a : Name) → made_by seat newer ≡ orphaning seat n a ++ began seat q → IsFreed
  orphaned_asked a is =
      let made = orphaning seat n a ++ began seat q in
      let how = Abort (OrphanOf a) in (
        manager_open made is how (its how) (no_m how) (append-nil _ ∙ append-nil _ ∙ one_child n) (refl, (refl, (refl, tt))),
        all_ended made is how (its how) (no_m how) (append-nil _ ∙ append-nil _ ∙ one_child n) (refl, (refl, (refl, tt))),
      )

-- GROWTH

each_own : (seat : ℕ) (x : Name) (xs : Past) → AllByRecursion (IsOf x) (made_by seat xs) → AllByRecursion (λ (e : Entry). (name_of e.event ≡ x) ⊎ IsTrue (not (e.seat == seat))) xs
each_own seat x [] all = tt
each_own seat x (e ∷ xs) all = by_test (e.seat == seat) refl (each_own seat x xs) all
  where
    by_test : (b : Bool) → (e.seat == seat) ≡ b → (AllByRecursion (IsOf x) (made_by seat xs) → AllByRecursion (λ (e : Entry). (name_of e.event ≡ x) ⊎ IsTrue (not (e.seat == seat))) xs) → AllByRecursion (IsOf x) (cond b (e ∷ made_by seat xs) (made_by seat xs)) → AllByRecursion (λ (e : Entry). (name_of e.event ≡ x) ⊎ IsTrue (not (e.seat == seat))) (e ∷ xs)
    by_test true is rest h = (inl h.0, rest h.1)
    by_test false is rest h = (inr (ap not is), rest h)

pub grown_by_own : (seat : ℕ) (past newer : Past) (x : Name) → AllByRecursion (IsOf x) (made_by seat newer) → HasGrown (λ e. not (e.seat == seat)) (λ y. y ≡ x) past (newer ++ past)
grown_by_own seat past newer x of = record { newer = newer; grown = refl; each = All-from_recursion (λ (e : Entry). (name_of e.event ≡ x) ⊎ IsTrue (not (e.seat == seat))) newer (each_own seat x newer of) }
