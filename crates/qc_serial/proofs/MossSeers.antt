-- What a transaction that is not dead is served is the order of its deepest open ancestor.
use Rattle.std.proofs.Common.{ℕ, ◌≡◌, ◌&&◌, ◌||◌, Bool, true, false, [], ◌∷◌, ◌++◌, reverse, refl, sym, ap, ap₂, ◌∙◌, subst, inl, inr, ◌⊎◌, append-nil}
use mathlib.Core.Bool.{true≢false}
use Rattle.std.specs.Prelude.{Option, None, Some, is_some, is_none, filter, if◌then◌else◌}
use Rattle.std.specs.List.{flat_map, list_all}
use Rattle.std.proofs.lemmas.List.{reverse-append, reverse-reverse}
use Rattle.std.proofs.lemmas.List.Elements.{filter-append}
use Rattle.std.proofs.lemmas.List.Folds.{list_all-append}
use Rattle.std.proofs.lemmas.Grind.{flat_map-append}
use Rattle.std.proofs.lemmas.Bool.{and_parts, and_from, or_cases, or_left, or_right}
use Rattle.std.proofs.Math.Bool.{and-false}
use Rattle.qc_names.specs.Name.{is_ancestor}
use Rattle.qc_event.specs.declared.event.How.{How}
use Rattle.qc_event.specs.declared.event.How.TheVariants as how
use Rattle.qc_event.specs.declared.event.Outcome.TheVariants.{Live, Committed}
use Rattle.qc_event.specs.History.{Past, Name, start, end}
use Rattle.qc_event.specs.Dead.{outcome, outcome_of, is_aborted, is_committed, ancestors, dead}
use Rattle.qc_event.proofs.LastNumber.{ancestors-last}
use Rattle.qc_event.proofs.Orderly.{Orderly}
use Rattle.qc_event.proofs.Lawful.{Lawful, lawful}
use Rattle.qc_event.proofs.Lineage.{dead_parent, alive_not_aborted}
use Rattle.qc_serial.specs.Walk.{is_open_or_root}
use Rattle.qc_serial.specs.Visible.{served, served_order, is_visible}
use Rattle.qc_serial.proofs.MossNames.{Line, IsAbove, above-refl, above-trans}
use Rattle.qc_serial.proofs.MossMoves as moss
use Rattle.qc_serial.proofs.MossLocks.{AllLive}
use Rattle.qc_serial.proofs.MossSerial.{walk, serial}
use Rattle.qc_serial.proofs.MossHistory.{Shown, shown-self, all_live-up, is_committed-true}
use Rattle.qc_serial.proofs.MossTurned.{turn_last, above_ancestor, ancestor_above}
use Rattle.qc_serial.proofs.MossPast.{moves, served_moves}
use Rattle.qc_serial.proofs.MossStands.{outcome_moves, live_open}
use Rattle.qc_serial.proofs.MossRules.{StartedOrRoot, started_last, started_above, all_open}
use Rattle.qc_serial.proofs.OrderSteps.{open_next}

-- THE ORDER, ONE ANCESTOR MORE

order_last : (past : Past) (p : Name) (k : ℕ) → served_order past (p ++ k ∷ []) ≡ served_order past p ++ (if is_open_or_root past (p ++ k ∷ []) then served past (p ++ k ∷ []) else [])
order_last past p k =
    ap (λ ns. flat_map (served past) (filter (is_open_or_root past) ns)) (ancestors-last p k)
    ∙ ap (flat_map (served past)) (filter-append (is_open_or_root past) (ancestors p) ((p ++ k ∷ []) ∷ []))
    ∙ flat_map-append (served past) (filter (is_open_or_root past) (ancestors p)) (filter (is_open_or_root past) ((p ++ k ∷ []) ∷ []))
    ∙ ap (λ gs. served_order past p ++ gs) (by_test (is_open_or_root past (p ++ k ∷ [])))
  where
    by_test : (b : Bool) → flat_map (served past) (if b then (p ++ k ∷ []) ∷ [] else []) ≡ (if b then served past (p ++ k ∷ []) else [])
    by_test true = append-nil (served past (p ++ k ∷ []))
    by_test false = refl

order_open : (past : Past) (p : Name) (k : ℕ) → is_some (start past (p ++ k ∷ [])) ≡ true → end past (p ++ k ∷ []) ≡ None → served_order past (p ++ k ∷ []) ≡ served_order past p ++ served past (p ++ k ∷ [])
order_open past p k began going =
    order_last past p k
    ∙ ap (λ b. served_order past p ++ (if b then served past (p ++ k ∷ []) else [])) (open_next past p k ∙ ap₂ (λ b o. b && is_none o) began going)

order_ended : (past : Past) (p : Name) (k : ℕ) (h : How) → end past (p ++ k ∷ []) ≡ Some h → served_order past (p ++ k ∷ []) ≡ served_order past p
order_ended past p k h gone =
    order_last past p k
    ∙ ap (λ b. served_order past p ++ (if b then served past (p ++ k ∷ []) else [])) (open_next past p k ∙ ap (λ o. is_some (start past (p ++ k ∷ [])) && is_none o) gone ∙ and-false (is_some (start past (p ++ k ∷ []))))
    ∙ append-nil (served_order past p)

-- where all ancestors are open, it is theirs in turn
order_moves : (past : Past) → Orderly past → (d : Line) → StartedOrRoot past (reverse d) → AllLive (moves past) d → served_order past (reverse d) ≡ reverse (serial (moves past) d)
order_moves past orderly [] began live = append-nil (served past []) ∙ served_moves past []
order_moves past orderly (k ∷ p) began live =
    let began' : is_some (start past (reverse p ++ k ∷ [])) ≡ true = started_last past (reverse p) k (subst (StartedOrRoot past) (turn_last k p) began) in
    let going : end past (reverse p ++ k ∷ []) ≡ None = subst (λ n. end past n ≡ None) (turn_last k p) (live_open past orderly (k ∷ p) (live (k ∷ p) (inl refl))) in
    let up = order_moves past orderly p (started_above past (reverse p) k (lawful past orderly) began') (all_live-up (moves past) p (k ∷ p) (inr (above-refl p)) live) in
    ap (served_order past) (turn_last k p)
    ∙ order_open past (reverse p) k began' going
    ∙ ap₂ (λ xs ys. xs ++ ys) up (ap (served past) (sym (turn_last k p)) ∙ served_moves past (k ∷ p))
    ∙ sym (reverse-append (walk (moves past) (k ∷ p)) (serial (moves past) p))

-- THE DEEPEST OPEN ANCESTOR

-- an open ancestor whose order the transaction has, and to which the transaction is shown
pub record Seer (past : Past) (d : Line) : Type 0 where
  pub who : Line
  pub above : IsAbove who d
  pub live : AllLive (moves past) who
  pub shown : Shown (moves past) d who
  pub same_order : served_order past (reverse d) ≡ reverse (serial (moves past) who)

open_seer : (past : Past) → Orderly past → (d : Line) → StartedOrRoot past (reverse d) → end past (reverse d) ≡ None → dead past (reverse d) ≡ None → Seer past d
open_seer past orderly d began going alive =
    let live = all_open past orderly d began going alive in record {
      who = d;
      above = above-refl d;
      live = live;
      shown = shown-self (moves past) d d (above-refl d);
      same_order = order_moves past orderly d began live;
    }

-- who is committed has the order of its parent's deepest open ancestor
ended_seer : (past : Past) → Orderly past → (k : ℕ) (p : Line) (h : How) → end past (reverse (k ∷ p)) ≡ Some h → is_committed (outcome_of (Some h)) ≡ true → Seer past p → Seer past (k ∷ p)
ended_seer past orderly k p h gone done up = record {
  who = up.who;
  above = inr up.above;
  live = up.live;
  shown = λ m a. elim a [
    | inl is ↦ inl (subst (λ x. moss.outcome (moves past) x ≡ Committed) (sym is) (outcome_moves past orderly (k ∷ p) ∙ ap outcome_of gone ∙ by_how h done))
    | inr above ↦ up.shown m above
  ];
  same_order = ap (served_order past) (turn_last k p) ∙ order_ended past (reverse p) k h (subst (λ n. end past n ≡ Some h) (turn_last k p) gone) ∙ up.same_order;
}
  where
    by_how : (x : How) → is_committed (outcome_of (Some x)) ≡ true → outcome_of (Some x) ≡ Committed
    by_how (how.Commit answer) is = refl
    by_how (how.Abort cause) is = absurd (true≢false (sym is))

next_seer : (past : Past) → Orderly past → (k : ℕ) (p : Line) → StartedOrRoot past (reverse (k ∷ p)) → dead past (reverse (k ∷ p)) ≡ None → (StartedOrRoot past (reverse p) → dead past (reverse p) ≡ None → Seer past p) → Seer past (k ∷ p)
next_seer past orderly k p began alive parent = by_end (end past (reverse (k ∷ p))) refl
  where
    began' : is_some (start past (reverse p ++ k ∷ [])) ≡ true
    began' = started_last past (reverse p) k (subst (StartedOrRoot past) (turn_last k p) began)

    up : Seer past p
    up = parent (started_above past (reverse p) k (lawful past orderly) began') (dead_parent past (reverse p) k (subst (λ n. dead past n ≡ None) (turn_last k p) alive))

    by_end : (o : Option How) → end past (reverse (k ∷ p)) ≡ o → Seer past (k ∷ p)
    by_end None going = open_seer past orderly (k ∷ p) began going alive
    by_end (Some (how.Commit answer)) gone = ended_seer past orderly k p (how.Commit answer) gone refl up
    by_end (Some (how.Abort cause)) gone = absurd (true≢false (sym (ap (λ o. is_aborted (outcome_of o)) gone) ∙ alive_not_aborted past (reverse (k ∷ p)) alive))

pub seer : (past : Past) → Orderly past → (d : Line) → StartedOrRoot past (reverse d) → dead past (reverse d) ≡ None → Seer past d
seer past orderly [] began alive = open_seer past orderly [] began (lawful past orderly).no_root_end alive
seer past orderly (k ∷ p) began alive = next_seer past orderly k p began alive (λ b a. seer past orderly p b a)

-- WHAT IS VISIBLE

-- what is asked of each ancestor
pass_each : (test : Name → Bool) (d : Line) → list_all test (ancestors (reverse d)) ≡ true → (m : Line) → IsAbove m d → test (reverse m) ≡ true
pass_each test [] all m is = ap (λ x. test (reverse x)) is ∙ (and_parts (test []) true all).0
pass_each test (k ∷ p) all m above =
    let parts = and_parts (list_all test (ancestors (reverse p))) (test (reverse p ++ k ∷ []) && true)
    (sym (ap (λ n. list_all test (ancestors n)) (turn_last k p) ∙ ap (list_all test) (ancestors-last (reverse p) k) ∙ list_all-append test (ancestors (reverse p)) ((reverse p ++ k ∷ []) ∷ [])) ∙ all) in
    elim above [
      | inl is ↦ ap (λ x. test (reverse x)) is ∙ ap test (turn_last k p) ∙ (and_parts (test (reverse p ++ k ∷ [])) true parts.1).0
      | inr up ↦ pass_each test p parts.0 m up
    ]

each_pass : (test : Name → Bool) (d : Line) → ((m : Line) → IsAbove m d → test (reverse m) ≡ true) → list_all test (ancestors (reverse d)) ≡ true
each_pass test [] each = and_from (test []) true (each [] refl) refl
each_pass test (k ∷ p) each =
    ap (λ n. list_all test (ancestors n)) (turn_last k p) ∙ ap (list_all test) (ancestors-last (reverse p) k)
    ∙ list_all-append test (ancestors (reverse p)) ((reverse p ++ k ∷ []) ∷ [])
    ∙ and_from _ _ (each_pass test p (λ m up. each m (inr up)))
    (and_from (test (reverse p ++ k ∷ [])) true (ap test (sym (turn_last k p)) ∙ each (k ∷ p) (inl refl)) refl)

-- an open name, or the root, is not committed
open_live : (past : Past) → Lawful past → (n : Name) → is_open_or_root past n ≡ true → outcome past n ≡ Live
open_live past law [] is = ap outcome_of law.no_root_end
open_live past law (x ∷ n) is = by_end (end past (x ∷ n)) (and_parts (is_some (start past (x ∷ n))) (is_none (end past (x ∷ n))) is).1
  where
    by_end : (o : Option How) → is_none o ≡ true → outcome_of o ≡ Live
    by_end None h = refl
    by_end (Some how) h = absurd (true≢false (sym h))

open_from : (past : Past) (n : Name) → StartedOrRoot past n → end past n ≡ None → is_open_or_root past n ≡ true
open_from past [] began going = refl
open_from past (x ∷ n) began going = ap₂ (λ b o. b && is_none o) began going

-- what stands above a started name was started
pub started_up : (past : Past) → Orderly past → (m d : Line) → IsAbove m d → StartedOrRoot past (reverse d) → StartedOrRoot past (reverse m)
started_up past orderly m [] is began = subst (λ x. StartedOrRoot past (reverse x)) (sym is) began
started_up past orderly m (k ∷ p) (inl is) began = subst (λ x. StartedOrRoot past (reverse x)) (sym is) began
started_up past orderly m (k ∷ p) (inr up) began = started_up past orderly m p up
    (started_above past (reverse p) k (lawful past orderly) (started_last past (reverse p) k (subst (StartedOrRoot past) (turn_last k p) began)))

module _ (past : Past) (orderly : Orderly past) (d : Line) (s : Seer past d) where
  one_visible : (m : Line) → (is_committed (outcome past (reverse m)) || (is_ancestor (reverse m) (reverse d) && is_open_or_root past (reverse m))) ≡ true → (moss.outcome (moves past) m ≡ Committed) ⊎ IsAbove m s.who
  one_visible m h = elim (or_cases (is_committed (outcome past (reverse m))) (is_ancestor (reverse m) (reverse d) && is_open_or_root past (reverse m)) h) [
    | inl done ↦ inl (outcome_moves past orderly m ∙ is_committed-true _ done)
    | inr both ↦
        let parts = and_parts (is_ancestor (reverse m) (reverse d)) (is_open_or_root past (reverse m)) both in
        let up : IsAbove m d = subst (λ x. IsAbove x d) (reverse-reverse m) (subst (IsAbove (reverse (reverse m))) (reverse-reverse d) (ancestor_above (reverse m) (reverse d) parts.0)) in
        let live : moss.outcome (moves past) m ≡ Live = outcome_moves past orderly m ∙ open_live past (lawful past orderly) (reverse m) parts.1 in
        elim (s.shown m up) [ inl done ↦ absurd cc | inr above ↦ inr above ]
  ]

  -- what is visible to the transaction is shown to its deepest open ancestor
  pub visible_shown : (b : Line) → is_visible past (reverse b) (reverse d) ≡ true → Shown (moves past) b s.who
  visible_shown b all = λ m up. one_visible m (pass_each (λ a. is_committed (outcome past a) || (is_ancestor a (reverse d) && is_open_or_root past a)) b all m up)

  one_shown : StartedOrRoot past (reverse d) → (m : Line) → (moss.outcome (moves past) m ≡ Committed) ⊎ IsAbove m s.who → (is_committed (outcome past (reverse m)) || (is_ancestor (reverse m) (reverse d) && is_open_or_root past (reverse m))) ≡ true
  one_shown began m (inl done) = or_left (is_committed (outcome past (reverse m))) (is_ancestor (reverse m) (reverse d) && is_open_or_root past (reverse m)) (ap is_committed (sym (outcome_moves past orderly m) ∙ done))
  one_shown began m (inr above) =
      let up = above-trans m s.who d above s.above in
      or_right (is_committed (outcome past (reverse m))) (is_ancestor (reverse m) (reverse d) && is_open_or_root past (reverse m)) (and_from (is_ancestor (reverse m) (reverse d)) (is_open_or_root past (reverse m)) (above_ancestor m d up)
      (open_from past (reverse m) (started_up past orderly m d up began) (live_open past orderly m (s.live m above))))

  -- and the converse
  pub shown_visible : StartedOrRoot past (reverse d) → (b : Line) → Shown (moves past) b s.who → is_visible past (reverse b) (reverse d) ≡ true
  shown_visible began b shown = each_pass (λ a. is_committed (outcome past a) || (is_ancestor a (reverse d) && is_open_or_root past a)) b (λ m up. one_shown began m (shown m up))
