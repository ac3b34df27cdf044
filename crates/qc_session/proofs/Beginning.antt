-- What a client makes as it begins a user transaction.
use Rattle.std.proofs.Common.{◌≡◌, ℕ, ◌+◌, ◌<◌, Bool, true, false, [], ◌∷◌, ◌++◌, length, refl, sym, ap, ◌∙◌, subst, arith}
use Rattle.std.specs.Prelude.{None, Some, Result, Ok, Err, IfOk, IfErr, IsTrue, not, option_to_list, ◌==◌, ◌||◌, ◌&&◌, if◌then◌else◌}
use Rattle.std.specs.Option.{option_map_or}
use Rattle.std.proofs.lemmas.Bool.{eq-eqb, eqb-true, false_from_ne_true, or_right}
use Rattle.std.proofs.lemmas.List.{length-append}
use Rattle.qc_event.specs.declared.event.Entry.{Entry}
use Rattle.qc_event.specs.declared.event.Event.{Event}
use Rattle.qc_event.specs.declared.event.Event.TheVariants as event
use Rattle.qc_event.specs.declared.event.Kind.{Kind}
use Rattle.qc_event.specs.declared.event.Kind.TheVariants as kind
use Rattle.qc_event.specs.Base.{Setting}
use Rattle.qc_event.specs.History.{Past, Name, child_in, children, every, is_child}
use Rattle.qc_event.specs.Legal.{Legal}
use Rattle.qc_event.proofs.LastNumber.{length_last, is_child-last, child_longer}
use Rattle.qc_event.specs.declared.short.Short.{Short}
use Rattle.qc_carry.specs.Walk.{Walk}
use Rattle.qc_carry.proofs.Walking as walking
use Rattle.qc_managers.specs.Carrying.{entry}
use Rattle.qc_interp.proofs.Scopes.Adding.{no_top}
use Rattle.qc_desk.specs.declared.view.View.{View}
use Rattle.qc_desk.specs.Calling.{StartsTop, Wanted}
use Rattle.qc_desk.specs.Entries.{AreOthers, IsSince}
use Rattle.qc_desk.specs.Refusing.{against_nothing}
use Rattle.qc_desk.specs.Rules.{extends}
use Rattle.qc_script.specs.Calls.{by_client}
use Rattle.qc_script.specs.Client.{Client, Made, is_own}
use Rattle.qc_script.specs.Numbers.{any_top, each, is_next_top, own_next, next_top, Numbers}
use Rattle.qc_session.specs.Clients.{IsFor}
use Rattle.qc_session.specs.Managing.{HasStarted}
use Rattle.qc_session.proofs.Own.{KinMadeNone, kin_made_none, made_one, not_kin, own_alone}
use Rattle.qc_session.proofs.Walks.{started_walk}

-- COUNTING TOPS

-- a name of one number is a top's
top_or_not : (n : Name) (k : Kind) → length (option_to_list (if is_child [] n then Some n else None)) ≡ length (option_to_list (any_top (event.Start n k)))
top_or_not [] k = refl
top_or_not (x ∷ []) k = refl
top_or_not (x ∷ y ∷ r) k = ap (λ (b : Bool). length (option_to_list (if b then Some (x ∷ y ∷ r) else None))) (false_from_ne_true (is_child [] (x ∷ y ∷ r)) (λ is. omega (arith, child_longer [] (x ∷ y ∷ r) is)))

one_top : (ev : Event) → length (option_to_list (child_in [] ev)) ≡ length (option_to_list (any_top ev))
one_top (event.Start n k) = top_or_not n k
one_top (event.Ask ask) = refl
one_top (event.Gone n why) = refl
one_top (event.Granted copy grant) = refl
one_top (event.Refused n copy refusal) = refl
one_top (event.Unable n why) = refl
one_top (event.Mark by session) = refl
one_top (event.Ready n) = refl
one_top (event.End n how) = refl

-- there are as many tops as there are children of the root
tops_counted : (past : Past) → length (children past []) ≡ length (every (λ (e : Entry). any_top e.event) past)
tops_counted [] = refl
tops_counted (e ∷ past) = omega (arith, tops_counted past, one_top e.event, length-append (children past []) (option_to_list (child_in [] e.event)), length-append (every (λ (x : Entry). any_top x.event) past) (option_to_list (any_top e.event)))

-- NUMBERS

others_numbered : (c : Client) (seat : ℕ) (newer past : Past) → c.number ≡ seat → KinMadeNone c newer → AreOthers seat newer → each (own_next c) past ≡ true → each (own_next c) (newer ++ past) ≡ true
others_numbered c seat [] past number none others was = was
others_numbered c seat (e ∷ newer) past number none others was =
    ap (λ b. b && own_next c e (newer ++ past)) (others_numbered c seat newer past number (λ k h. (none k h).1) others.1 was)
    ∙ ap (λ b. not b || is_next_top c.epoch e (newer ++ past)) (own_alone c seat e.seat number (not_kin c e newer none) ∙ false_from_ne_true (e.seat == seat) (λ is. others.0 (eqb-true e.seat seat is)))

numbered : (c : Client) (seat : ℕ) (old before : Past) (e : Entry) → c.number ≡ seat → (since : IsSince seat old before) → KinMadeNone c since.0 → is_next_top c.epoch e before ≡ true → Numbers c old (e ∷ before)
numbered c seat old before e number since none next was =
    ap (λ b. b && own_next c e before) (subst (λ p. each (own_next c) p ≡ true) (sym since.1) (others_numbered c seat since.0 old number none since.2 was))
    ∙ or_right (not (is_own c e.seat)) _ next

-- A TOP

module _ (setting : Setting) (v w : View) (epoch session body : ℕ) (legal : Legal setting w.seen) where
  top_walk : (n : Name) → StartsTop epoch session body n v w → Walk v w (entry v.number (event.Start n (kind.User session body)) ∷ [])
  top_walk n s = walking.of_entered against_nothing (event.Start n (kind.User session body)) v w (s.0, s.3, refl, s.5 ∙ ap (λ ev. extends (entry v.number ev) s.0 v) s.2.1)

  pub top_child : (r : Result Name Short) → IfOk r (λ n. StartsTop epoch session body n v w) → IfOk r (λ n. IsTrue (is_child [] n))
  top_child (Ok n) s = ap (is_child []) s.2.0
  top_child (Err e) s = tt

  pub top_walks : (r : Result Name Short) → IfOk r (λ n. StartsTop epoch session body n v w) → IfErr r (Wanted v w) → (made : Past) × Walk v w made
  top_walks (Ok n) s e = (_, top_walk n s)
  top_walks (Err why) s e = (_, walking.of_looked v w e.0)

  module _ (c : Client) (for : IsFor setting v w c) where
    pub top_begun : (n : Name) → StartsTop epoch session body n v w → Made c (by_client c (event.Start n (kind.User session body)) ∷ []) v.seen w.seen
    top_begun n s = made_one setting v w c for legal (event.Start n (kind.User session body)) (top_walk n s)

    pub top_numbers : (n : Name) → c.epoch ≡ epoch → StartsTop epoch session body n v w → Numbers c v.seen w.seen
    top_numbers n same s =
        subst (Numbers c v.seen) (sym (ap (λ (x : View). x.seen) s.5))
        (numbered c v.number v.seen s.0 (entry v.number s.1) for.number s.3 (λ k h. (kin_made_none setting v w c for (entry v.number s.1 ∷ s.3.0) (ap (λ (x : View). x.seen) s.5 ∙ ap (λ p. entry v.number s.1 ∷ p) s.3.1) k h).1)
        (ap (λ ev. is_next_top c.epoch (entry v.number ev) s.0) s.2.1
        ∙ ap (λ m. option_map_or (λ number. number == next_top c.epoch s.0) (any_top (event.Start m (kind.User session body))) true) s.2.0
        ∙ eq-eqb _ _ (omega (arith, same, tops_counted s.0))))

-- A CHILD

module _ (setting : Setting) (v w : View) (of : Name) (k : Kind) (legal : Legal setting w.seen) (nonroot : 0 < length of) where
  pub child_is : (n : Name) → HasStarted v w of n k → IsTrue (is_child of n)
  child_is n h = ap (is_child of) h.named ∙ is_child-last of (length (children h.before of) + 1)

  pub child_numbers : (c : Client) (for : IsFor setting v w c) (n : Name) → HasStarted v w of n k → Numbers c v.seen w.seen
  child_numbers c for n h =
      let long : 1 < length n = omega (arith, nonroot, ap (λ m. length m) h.named, length_last of (length (children h.before of) + 1)) in
      subst (Numbers c v.seen) (sym (ap (λ (x : View). x.seen) h.grown))
      (numbered c v.number v.seen h.before (entry v.number (event.Start n k)) for.number h.since (λ j l. (kin_made_none setting v w c for (entry v.number (event.Start n k) ∷ h.since.0) (ap (λ (x : View). x.seen) h.grown ∙ ap (λ p. entry v.number (event.Start n k) ∷ p) h.since.1) j l).1)
      (ap (λ o. option_map_or (λ number. number == next_top c.epoch h.before) o true) (no_top n k long)))

  pub child_begun : (c : Client) (for : IsFor setting v w c) (n : Name) → HasStarted v w of n k → Made c (by_client c (event.Start n k) ∷ []) v.seen w.seen
  child_begun c for n h = made_one setting v w c for legal (event.Start n k) (started_walk v w of n k h)
