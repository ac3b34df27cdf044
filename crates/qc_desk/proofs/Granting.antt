-- What only grows as a history goes on, and what stays of a grant that was in no one's way.
use Rattle.std.proofs.Common.{◌≡◌, ◌⊎◌, inl, inr, ℕ, Bool, true, false, List, [], ◌∷◌, ◌++◌, refl, sym, ap, ◌∙◌}
use mathlib.Core.Bool.{true≢false}
use Rattle.std.specs.Prelude.{Option, None, Some, cond, not, ◌&&◌, ◌||◌, ◌==◌, find, filter, is_some, is_none}
use Rattle.std.specs.List.{AllByRecursion, list_all}
use Rattle.std.specs.Option.{option_map}
use Rattle.std.proofs.lemmas.Bool.{or_cases, and_parts}
use Rattle.qc_config.specs.declared.tuple.Op.{Op}
use Rattle.qc_config.specs.declared.tuple.Op.TheVariants.{Get, PutData, PutConfig}
use Rattle.qc_config.specs.declared.tuple.Tuple.{Tuple}
use Rattle.qc_config.specs.Tuple.{after}
use Rattle.qc_names.specs.Name as name
use Rattle.qc_event.specs.declared.event.Grant.{Grant}
use Rattle.qc_event.specs.declared.event.How.{How}
use Rattle.qc_event.specs.declared.event.How.TheVariants.{Commit, Abort}
use Rattle.qc_event.specs.Clear.{clear, conflict}
use Rattle.qc_event.specs.Dead.{outcome, outcome_of, is_aborted, is_committed, ancestors, dead}
use Rattle.qc_event.specs.History.{Past, Name, Asked, end, asked, end_in, ask_in}
use Rattle.qc_event.specs.Seen.{is_in_way, is_live_at, changed_by}
use Rattle.qc_event.proofs.Booleans.{all_wider, or_wider}
use Rattle.qc_event.proofs.LastNumber.{rest_of}
use Rattle.qc_event.proofs.Later.{committed_still}
use Rattle.qc_event.proofs.Lineage.{alive_above, alive_not_aborted}
use Rattle.qc_event.proofs.OneEntry.{some_not_none}
use Rattle.qc_event.proofs.StillTold.{is_stays}

-- WHAT ONLY GROWS

end_stays : (newer past : Past) (n : Name) (how : How) → end past n ≡ Some how → end (newer ++ past) n ≡ Some how
end_stays newer past n how is = is_stays (λ e. end_in n e.event) newer past how is

pub asked_stays : (newer past : Past) (n : Name) (a : Asked) → asked past n ≡ Some a → asked (newer ++ past) n ≡ Some a
asked_stays newer past n a is = is_stays (λ e. ask_in n e.seat e.event) newer past a is

aborted_how : (o : Option How) → is_aborted (outcome_of o) ≡ true → (how : How) × (o ≡ Some how) × (is_aborted (outcome_of (Some how)) ≡ true)
aborted_how None h = absurd (true≢false (sym h))
aborted_how (Some how) h = (how, refl, h)

committed_how : (o : Option How) → is_committed (outcome_of o) ≡ true → (how : How) × (o ≡ Some how) × (is_aborted (outcome_of (Some how)) ≡ false)
committed_how None h = absurd (true≢false (sym h))
committed_how (Some (Commit given)) h = (Commit given, refl, refl)
committed_how (Some (Abort c)) h = absurd (true≢false (sym h))

aborted_stays : (newer past : Past) (n : Name) → is_aborted (outcome past n) ≡ true → is_aborted (outcome (newer ++ past) n) ≡ true
aborted_stays newer past n h = let how = aborted_how (end past n) h in ap (λ o. is_aborted (outcome_of o)) (end_stays newer past n how.0 how.1) ∙ how.2

found_wider : (p q : Name → Bool) → ((n : Name) → p n ≡ true → q n ≡ true) → (ns : List Name) → is_some (find p ns) ≡ true → is_some (find q ns) ≡ true
found_wider p q step [] h = h
found_wider p q step (n ∷ ns) h = by_test (p n) (q n) (step n) h (found_wider p q step ns)
  where
    by_test : (a b : Bool) → (a ≡ true → b ≡ true) → is_some (cond a (Some n) (find p ns)) ≡ true → (is_some (find p ns) ≡ true → is_some (find q ns) ≡ true) → is_some (cond b (Some n) (find q ns)) ≡ true
    by_test a true s h rest = refl
    by_test true false s h rest = absurd (true≢false (sym (s refl)))
    by_test false false s h rest = rest h

pub dead_stays : (newer past : Past) (n : Name) → is_some (dead past n) ≡ true → is_some (dead (newer ++ past) n) ≡ true
dead_stays newer past n = found_wider (λ a. is_aborted (outcome past a)) (λ a. is_aborted (outcome (newer ++ past) a)) (aborted_stays newer past) (ancestors n)

clear_stays : (newer past : Past) (b a : Name) → clear past b a ≡ true → clear (newer ++ past) b a ≡ true
clear_stays newer past b a = or_wider (is_some (dead past b)) _ (is_some (dead (newer ++ past) b)) _ (dead_stays newer past b)
    (all_wider (λ c. name.is_ancestor c a || is_committed (outcome past c)) (λ c. name.is_ancestor c a || is_committed (outcome (newer ++ past) c)) (ancestors b)
    (λ c. or_wider (name.is_ancestor c a) (is_committed (outcome past c)) (name.is_ancestor c a) (is_committed (outcome (newer ++ past) c)) (λ h. h) (committed_still newer past c)))

-- WHO LIVES ON

none_found : (p : Name → Bool) (ns : List Name) → list_all (λ n. not (p n)) ns ≡ true → find p ns ≡ None
none_found p [] h = refl
none_found p (n ∷ ns) h = by_test (p n) (and_parts (not (p n)) (list_all (λ x. not (p x)) ns) h).0 (none_found p ns (and_parts (not (p n)) (list_all (λ x. not (p x)) ns) h).1)
  where
    by_test : (b : Bool) → not b ≡ true → find p ns ≡ None → cond b (Some n) (find p ns) ≡ None
    by_test true t rest = absurd (true≢false (sym t))
    by_test false t rest = rest

not_aborted : (newer past : Past) (a c : Name) → dead (newer ++ past) a ≡ None → (name.is_ancestor c a || is_committed (outcome past c)) ≡ true → not (is_aborted (outcome (newer ++ past) c)) ≡ true
not_aborted newer past a c alive h = elim (or_cases (name.is_ancestor c a) (is_committed (outcome past c)) h) [
  | inl above ↦ let rest = rest_of c a above in ap not (alive_not_aborted (newer ++ past) c (alive_above (newer ++ past) c rest.0 (ap (dead (newer ++ past)) (sym rest.1) ∙ alive)))
  | inr done ↦ let how = committed_how (end past c) done in ap not (ap (λ o. is_aborted (outcome_of o)) (end_stays newer past c how.0 how.1) ∙ how.2)
]

-- who is clear for an access that lives lives on, unless it was dead
lives_on : (newer past : Past) (b a : Name) → dead (newer ++ past) a ≡ None → clear past b a ≡ true → is_none (dead (newer ++ past) b) ≡ is_none (dead past b)
lives_on newer past b a alive h = by_death (dead past b) refl
  where
    by_death : (o : Option Name) → dead past b ≡ o → is_none (dead (newer ++ past) b) ≡ is_none (dead past b)
    by_death (Some x) is = some_not_none (dead (newer ++ past) b) (dead_stays newer past b (ap is_some is)) ∙ sym (ap is_none is)
    by_death None is =
        let each = ap (λ o. is_some o || list_all (λ c. name.is_ancestor c a || is_committed (outcome past c)) (ancestors b)) (sym is) ∙ h in
        ap is_none (none_found (λ c. is_aborted (outcome (newer ++ past) c)) (ancestors b)
        (all_wider (λ c. name.is_ancestor c a || is_committed (outcome past c)) (λ c. not (is_aborted (outcome (newer ++ past) c))) (ancestors b) (λ c. not_aborted newer past a c alive) each))
        ∙ sym (ap is_none is)

-- FREE GRANTS

pub free_parts : (p : Grant → Bool) (gs : List Grant) → option_map (λ (g : Grant). g.access) (find p gs) ≡ None → AllByRecursion (λ g. p g ≡ false) gs
free_parts p [] h = tt
free_parts p (g ∷ gs) h = let parts = by_test (p g) h in (parts.0, free_parts p gs parts.1)
  where
    by_test : (b : Bool) → option_map (λ (x : Grant). x.access) (cond b (Some g) (find p gs)) ≡ None → (b ≡ false) × (option_map (λ (x : Grant). x.access) (find p gs) ≡ None)
    by_test true h = absurd cc
    by_test false h = (refl, h)

pub free_again : (p : Grant → Bool) (gs : List Grant) → AllByRecursion (λ g. p g ≡ false) gs → option_map (λ (g : Grant). g.access) (find p gs) ≡ None
free_again p [] all = refl
free_again p (g ∷ gs) all = ap (λ b. option_map (λ (x : Grant). x.access) (cond b (Some g) (find p gs))) all.0 ∙ free_again p gs all.1

-- a grant that was not in the way is in no one's way later
not_in_way : (newer past : Past) (rec : ℕ) (op : Op) (a : Name) (g : Grant) → is_in_way past rec op a g ≡ false → is_in_way (newer ++ past) rec op a g ≡ false
not_in_way newer past rec op a g = by_test (g.rec == rec) (conflict g.op op) (clear past g.access a) (clear (newer ++ past) g.access a) (clear_stays newer past g.access a)
  where
    by_test : (r c x y : Bool) → (x ≡ true → y ≡ true) → (r && c && not x) ≡ false → (r && c && not y) ≡ false
    by_test false c x y s h = refl
    by_test true false x y s h = refl
    by_test true true true y s h = ap not (s refl)
    by_test true true false y s h = absurd (true≢false h)

pub none_in_way : (newer past : Past) (rec : ℕ) (op : Op) (a : Name) (gs : List Grant) → AllByRecursion (λ g. is_in_way past rec op a g ≡ false) gs → AllByRecursion (λ g. is_in_way (newer ++ past) rec op a g ≡ false) gs
none_in_way newer past rec op a [] all = tt
none_in_way newer past rec op a (g ∷ gs) all = (not_in_way newer past rec op a g all.0, none_in_way newer past rec op a gs all.1)

-- what a copy holds is what it held: a put that is not in the way lives on or was dead, and a read changes nothing
module _ (newer past : Past) (rec : ℕ) (op : Op) (a : Name) (alive : dead (newer ++ past) a ≡ None) where
  live_same : (g : Grant) → is_in_way past rec op a g ≡ false → conflict g.op op ≡ true → is_live_at (newer ++ past) rec g ≡ is_live_at past rec g
  live_same g h con = by_test (g.rec == rec) (clear past g.access a) (is_none (dead (newer ++ past) g.access)) (is_none (dead past g.access)) (λ c. lives_on newer past g.access a alive c) (ap (λ c. (g.rec == rec) && c && not (clear past g.access a)) (sym con) ∙ h)
    where
      by_test : (r c x y : Bool) → (c ≡ true → x ≡ y) → (r && true && not c) ≡ false → (r && x) ≡ (r && y)
      by_test false c x y s h = refl
      by_test true true x y s h = s refl
      by_test true false x y s h = absurd (true≢false h)

  same_change : (g : Grant) → is_in_way past rec op a g ≡ false → (o : Op) → g.op ≡ o → (is_live_at (newer ++ past) rec g ≡ is_live_at past rec g) ⊎ ((t : Tuple) → after t o ≡ t)
  same_change g h Get is = inr (λ t. refl)
  same_change g h (PutData version value) is = inl (live_same g h (ap (λ o. conflict o op) is))
  same_change g h (PutConfig generation config) is = inl (live_same g h (ap (λ o. conflict o op) is))

  pub changed_same : (t : Tuple) (gs : List Grant) → AllByRecursion (λ g. is_in_way past rec op a g ≡ false) gs → changed_by t (filter (is_live_at (newer ++ past) rec) gs) ≡ changed_by t (filter (is_live_at past rec) gs)
  changed_same t [] all = refl
  changed_same t (g ∷ gs) all = by_change (is_live_at (newer ++ past) rec g) (is_live_at past rec g) (same_change g all.0 g.op refl) (changed_same t gs all.1) (changed_same (after t g.op) gs all.1)
    where
      by_change : (x y : Bool) → (x ≡ y) ⊎ ((t : Tuple) → after t g.op ≡ t)
          → changed_by t (filter (is_live_at (newer ++ past) rec) gs) ≡ changed_by t (filter (is_live_at past rec) gs)
          → changed_by (after t g.op) (filter (is_live_at (newer ++ past) rec) gs) ≡ changed_by (after t g.op) (filter (is_live_at past rec) gs)
          → changed_by t (cond x (g ∷ filter (is_live_at (newer ++ past) rec) gs) (filter (is_live_at (newer ++ past) rec) gs)) ≡ changed_by t (cond y (g ∷ filter (is_live_at past rec) gs) (filter (is_live_at past rec) gs))
      by_change true true s out there = there
      by_change false false s out there = out
      by_change true false (inl is) out there = absurd (true≢false is)
      by_change false true (inl is) out there = absurd (true≢false (sym is))
      by_change true false (inr no_change) out there = ap (λ x. changed_by x (filter (is_live_at (newer ++ past) rec) gs)) (no_change t) ∙ out
      by_change false true (inr no_change) out there = out ∙ ap (λ x. changed_by x (filter (is_live_at past rec) gs)) (sym (no_change t))
