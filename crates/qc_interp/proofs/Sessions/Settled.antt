-- Where each client is alone at the root and its tops are over, who has started is settled.
use Rattle.std.proofs.Common.{◌≡◌, inl, inr, arith, ℕ, Bool, true, false, List, [], ◌∷◌, ◌++◌, length, refl, sym, ap, ◌∙◌, subst}
use mathlib.Core.Bool.{true≢false}
use Rattle.std.specs.Prelude.{Option, None, Some, MatchOption, slice_get, is_some, option_to_list, ◌&&◌, ◌||◌, if◌then◌else◌}
use Rattle.std.specs.List.{list_all}
use Rattle.std.proofs.lemmas.List.Folds.{list_all-append}
use Rattle.std.proofs.Math.Bool.{or-false}
use Rattle.std.proofs.lemmas.Bool.{and_parts, and_from, or_right, false_from_ne_true}
use Rattle.qc_event.specs.declared.event.Entry.{Entry}
use Rattle.qc_event.specs.declared.event.Event.{Event}
use Rattle.qc_event.specs.declared.event.Event.TheVariants as event
use Rattle.qc_event.specs.declared.event.Kind.{Kind}
use Rattle.qc_event.specs.declared.event.Kind.TheVariants as kind
use Rattle.qc_event.specs.Base.{Setting}
use Rattle.qc_event.specs.History.{Past, Name, Begun, every, start, start_in, end, end_in, is_ready, ready_in, children, child_in, is_child, same}
use Rattle.qc_event.specs.Legal.{Legal}
use Rattle.qc_event.specs.Standing.{Started, IsUser, IsManager}
use Rattle.qc_event.proofs.Absent.{same_is}
use Rattle.qc_event.proofs.KindsApart.{user_or_manager}
use Rattle.qc_event.proofs.Lawful.{lawful}
use Rattle.qc_event.proofs.LegalOrderly.{legal_orderly}
use Rattle.qc_event.proofs.LastNumber.{ends_in, front_last}
use Rattle.qc_event.proofs.OneEntry.{if_is, first_is, first_some, starting, some_or_none}
use Rattle.qc_event.proofs.Orderly.{Belongs}
use Rattle.qc_names.specs.Name as name
use Rattle.qc_script.specs.Calls.{is_access, is_over}
use Rattle.qc_script.specs.Client.{Client, mine, is_own}
use Rattle.qc_interp.specs.Adding.{all_over}
use Rattle.qc_interp.specs.FollowsScript.{started, started_in}
use Rattle.qc_interp.specs.Sessions.{is_settled, AccessesEnd}
use Rattle.qc_interp.specs.Turns.{begun_in, is_done, is_alone}
use Rattle.qc_interp.proofs.Stepping.Ending.{top_user}
use Rattle.qc_interp.proofs.Scopes.Mine.{kept_some}
use Rattle.qc_interp.proofs.Listing.Places.{some_same, every_passes}
use Rattle.qc_interp.proofs.Sessions.ReadyTops.{ready_is_top}
use Rattle.qc_interp.proofs.Scopes.Seats.{own_start}
use Rattle.qc_interp.proofs.Scopes.Starts.{begun_by, started_at}

-- WHAT PASSES OF ALL

pass_append : (passes : Name → Bool) (xs ys : List Name) → list_all passes (xs ++ ys) ≡ true → (list_all passes xs ≡ true) × (list_all passes ys ≡ true)
pass_append passes xs ys h = and_parts _ _ (sym (list_all-append passes xs ys) ∙ h)

-- what passes of all user transactions and managers that have begun passes of each
pub begun_passes : (passes : Name → Bool) (h : Past) (n : Name) (b : Begun) → start h n ≡ Some b → is_access b.kind ≡ false → list_all passes (every (λ e. begun_in e.event) h) ≡ true → passes n ≡ true
begun_passes passes [] n b is none all = absurd cc
begun_passes passes (e ∷ h) n b is none all =
    let parts = pass_append passes (every (λ e. begun_in e.event) h) (option_to_list (begun_in e.event)) all in
    elim (first_is (start h n) (start_in n e.seat e.event) b is) [
      | inl old ↦ begun_passes passes h n b old none parts.0
      | inr new ↦ by_event e.event new.1 parts.1
    ]
  where
    by_kind : (m : Name) (k : Kind) (x : Bool) → is_access k ≡ x → x ≡ false → list_all passes (option_to_list (if x then None else Some m)) ≡ true → passes m ≡ true
    by_kind m k true at none all = absurd (true≢false none)
    by_kind m k false at none all = (and_parts (passes m) true all).0

    by_event : (ev : Event) → start_in n e.seat ev ≡ Some b → list_all passes (option_to_list (begun_in ev)) ≡ true → passes n ≡ true
    by_event (event.Start m k) at all =
        let one = if_is (same m n) _ b at in
        subst (λ x. passes x ≡ true) (same_is m n one.0) (by_kind m k (is_access k) refl (ap is_access (ap (λ (x : Begun). x.kind) one.1) ∙ none) all)
    by_event _ at all = absurd cc

-- what passes of all children passes of each
child_passes : (passes : Name → Bool) (h : Past) (p n : Name) → is_child p n ≡ true → is_some (start h n) ≡ true → list_all passes (children h p) ≡ true → passes n ≡ true
child_passes passes [] p n child some all = absurd (true≢false (sym some))
child_passes passes (e ∷ h) p n child some all =
    let parts = pass_append passes (children h p) (option_to_list (child_in p e.event)) all in
    elim (first_some (start h n) (start_in n e.seat e.event) some) [
      | inl old ↦ child_passes passes h p n child old parts.0
      | inr new ↦ let s = starting n e.seat e.event new.1 in by_child s.0 s.1 parts.1
    ]
  where
    by_child : (k : Kind) → e.event ≡ event.Start n k → list_all passes (option_to_list (child_in p e.event)) ≡ true → passes n ≡ true
    by_child k is all =
        let at : child_in p e.event ≡ Some n = ap (child_in p) is ∙ ap (λ b. if b then Some n else None) child in
        (and_parts (passes n) true (sym (ap (λ o. list_all passes (option_to_list o)) at) ∙ all)).0

-- who has ended is settled, and so is a ready top that is over
ended_settled : (past : Past) (n : Name) → is_some (end past n) ≡ true → is_settled past n ≡ true
ended_settled past n ended = ap (λ b. b || (is_ready past n && is_over past n)) ended

ready_settled : (past : Past) (n : Name) → is_ready past n ≡ true → is_over past n ≡ true → is_settled past n ≡ true
ready_settled past n ready over = or_right (is_some (end past n)) (is_ready past n && is_over past n) (and_from _ _ ready over)

-- who is settled and not ready has ended
settled_ended : (past : Past) (n : Name) → is_ready past n ≡ false → is_settled past n ≡ true → is_some (end past n) ≡ true
settled_ended past n unready settled = sym (ap (λ b. is_some (end past n) || (b && is_over past n)) unready ∙ or-false (is_some (end past n))) ∙ settled

-- WHAT A CLIENT STARTED

-- a user transaction or manager that a client started is settled, where the client is alone at the root and its tops are over
pub begun_settled : (c : Client) (past : Past) (n : Name) (b : Begun) → Legal c.setting past → is_alone (mine c past) [] ≡ true → all_over c past ≡ true → start past n ≡ Some b → is_own c b.seat ≡ true → is_access b.kind ≡ false → is_settled past n ≡ true
begun_settled c past n b legal alone over is own none =
    let at : start (mine c past) n ≡ Some b = own_start c past n b is own in
    by_name n at is (begun_passes (λ m. is_done (mine c past) m || name.is_ancestor m []) (mine c past) n b at none alone)
  where
    by_done : (n : Name) → start (mine c past) n ≡ Some b → (ended ready : Bool) → is_some (end (mine c past) n) ≡ ended → is_ready (mine c past) n ≡ ready → (ended || ready) ≡ true → is_settled past n ≡ true
    by_done n at true ready ends readies done = ended_settled past n (kept_some (λ (e : Entry). is_own c e.seat) (λ e. end_in n e.event) past ends)
    by_done n at false true ends readies done =
        let ready = kept_some (λ (e : Entry). is_own c e.seat) (λ e. ready_in n e.event) past readies in
        let top : length n ≡ 1 = (ready_is_top c.setting past n legal ready).0 in
        ready_settled past n ready (child_passes (is_over past) (mine c past) [] n (one_number n top) (ap is_some at) over)
      where
        one_number : (n : Name) → length n ≡ 1 → is_child [] n ≡ true
        one_number [] h = absurd (let z : ⊥ = omega (arith, h) in z)
        one_number (x ∷ []) h = refl
        one_number (x ∷ y ∷ n) h = absurd (let z : ⊥ = omega (arith, h) in z)
    by_done n at false false ends readies done = absurd (true≢false (sym done))

    by_name : (n : Name) → start (mine c past) n ≡ Some b → start past n ≡ Some b → (is_done (mine c past) n || name.is_ancestor n []) ≡ true → is_settled past n ≡ true
    by_name [] at was done = absurd (some_or_none (start past []) (ap is_some was) (lawful past (legal_orderly c.setting past legal)).no_root_start)
    by_name (x ∷ n) at was done = by_done (x ∷ n) at (is_some (end (mine c past) (x ∷ n))) (is_ready (mine c past) (x ∷ n)) refl refl (sym (or-false (is_done (mine c past) (x ∷ n))) ∙ done)

-- ALL THAT HAVE STARTED

-- where each user transaction and manager is settled, and the accesses of who has ended have ended, all is
pub all_settled : (setting : Setting) (past : Past) → Legal setting past → ((n : Name) (b : Begun) → start past n ≡ Some b → is_access b.kind ≡ false → is_settled past n ≡ true) → AccessesEnd past → list_all (is_settled past) (started past) ≡ true
all_settled setting past legal settled accesses = every_passes (is_settled past) (λ e. started_in e.event) past at
  where
    manager_unready : (p : Name) (b : Begun) → start past p ≡ Some b → IsManager b.kind → is_ready past p ≡ false
    manager_unready p b at manages = false_from_ne_true (is_ready past p) (λ ready. by_name p at (ready_is_top setting past p legal ready).0)
      where
        by_name : (p : Name) → start past p ≡ Some b → length p ≡ 1 → ⊥
        by_name [] at top = let z : ⊥ = omega (arith, top) in z
        by_name (x ∷ []) at top = user_or_manager b.kind (top_user setting past x b legal at) manages
        by_name (x ∷ y ∷ p) at top = let z : ⊥ = omega (arith, top) in z

    manager_ended : (p : Name) (b : Begun) → start past p ≡ Some b → IsManager b.kind → is_some (end past p) ≡ true
    manager_ended p b at manages = settled_ended past p (manager_unready p b at manages) (settled p b at (no_access b.kind manages))
      where
        no_access : (k : Kind) → IsManager k → is_access k ≡ false
        no_access kind.Access h = absurd h
        no_access _ h = refl

    access_ended : (n : Name) (b : Begun) → start past n ≡ Some b → b.kind ≡ kind.Access → is_some (end past n) ≡ true
    access_ended n b is access =
        let law = lawful past (legal_orderly setting past legal) in
        elim (ends_in n) [
          | inl root ↦ absurd (some_or_none (start past []) (ap is_some (sym (ap (start past) root) ∙ is)) law.no_root_start)
          | inr last ↦ by_parent last.0 last.1 last.2
        ]
      where
        by_manager : (p : Name) (j : ℕ) → n ≡ p ++ j ∷ [] → (o : Option Begun) → start past p ≡ o → MatchOption o ⊥ (λ m. Belongs m kind.Access) → is_some (end past n) ≡ true
        by_manager p j at None none manages = absurd manages
        by_manager p j at (Some m) manager manages =
            accesses n (subst (λ o. MatchOption o ⊥ (λ (x : Begun). is_access x.kind ≡ true)) (sym is) (ap is_access access)) (subst (λ q. is_some (end past q) ≡ true) (sym (ap name.front at ∙ front_last p j)) (manager_ended p m manager manages))

        by_parent : (p : Name) (j : ℕ) → n ≡ p ++ j ∷ [] → is_some (end past n) ≡ true
        by_parent [] j at = absurd (subst IsUser access (top_user setting past j b legal (sym (ap (start past) at) ∙ is)))
        by_parent (x ∷ p) j at =
            let begun : start past ((x ∷ p) ++ j ∷ []) ≡ Some b = sym (ap (start past) at) ∙ is in
            let under : Started past (x ∷ p) (λ m. Belongs m b.kind) =
            subst (λ o. MatchOption o ⊥ (λ (y : Begun). Started past (x ∷ p) (λ m. Belongs m y.kind))) begun ((lawful past (legal_orderly setting past legal)).under (x ∷ p) j (omega arith) (ap is_some begun)) in
            by_manager (x ∷ p) j at (start past (x ∷ p)) refl (subst (λ k. Started past (x ∷ p) (λ m. Belongs m k)) access under)

    by_kind : (n : Name) (b : Begun) (k : Kind) → start past n ≡ Some b → b.kind ≡ k → is_settled past n ≡ true
    by_kind n b kind.Access is same = ended_settled past n (access_ended n b is same)
    by_kind n b _ is same = settled n b is (ap is_access same)

    at : (i : ℕ) (e : Entry) (n : Name) → slice_get past i ≡ Some e → started_in e.event ≡ Some n → is_settled past n ≡ true
    at i e n is tells = by_event e.event refl tells
      where
        by_event : (ev : Event) → e.event ≡ ev → started_in ev ≡ Some n → is_settled past n ≡ true
        by_event (event.Start m k) starts tells =
            subst (λ x. is_settled past x ≡ true) (some_same m n tells) (by_kind m (begun_by e k) k (started_at setting past i e m k legal is starts) refl)
        by_event _ starts tells = absurd cc
