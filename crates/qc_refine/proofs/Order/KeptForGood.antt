-- What is kept of the logged tops is what is committed for good.
use Rattle.std.proofs.Common.{◌≡◌, ℕ, ◌⊎◌, inl, inr, Bool, true, false, List, [], ◌∷◌, ◌++◌, ◌&&◌, ◌||◌, drop, refl, sym, ap, ap₂, ◌∙◌, subst, arith, append-nil, append_assoc}
use mathlib.Core.Bool.{true≢false}
use Rattle.std.specs.Prelude.{◌==◌, All, Option, None, Some, is_some, not, if◌then◌else◌}
use Rattle.std.specs.List.{Contains, list_all, list_any}
use Rattle.std.proofs.lemmas.Bool.{and_parts, and_from, false_from_ne_true, eqb-true, not-true}
use Rattle.std.proofs.lemmas.List.Elements.{All-head, All-tail}
use Rattle.std.proofs.lemmas.List.Folds.{list_all-append, list_any_at}
use Rattle.qc_names.specs.Name as name
use Rattle.qc_event.specs.Base.{Setting}
use Rattle.qc_event.specs.Dead.{ancestors, dead, outcome, outcome_of, is_aborted, is_committed}
use Rattle.qc_event.specs.History.{Past, Name, start, end}
use Rattle.qc_event.specs.Legal.{Legal}
use Rattle.qc_event.specs.declared.event.How.{How}
use Rattle.qc_event.specs.declared.event.How.TheVariants.{Commit, Abort}
use Rattle.qc_event.proofs.LastNumber.{ends_in, EndsIn, by_last, is_ancestor-append, rest_of, ancestors-last, below_more}
use Rattle.qc_event.proofs.Lawful.{Lawful, lawful, parent_started}
use Rattle.qc_event.proofs.LegalOrderly.{legal_orderly}
use Rattle.qc_event.proofs.Lineage.{dead_child}
use Rattle.qc_event.proofs.RootAndTops.{root_alive}
use Rattle.qc_serial.proofs.MossNames.{two_ways}
use Rattle.qc_refine.specs.Final.{is_for_good}
use Rattle.qc_codec.specs.declared.past.Logged.{Logged}
use Rattle.qc_codec.specs.Restored.{keeps, is_kept}
use Rattle.qc_event.specs.Listed.{listed}
use Rattle.qc_refine.specs.Listed.{logged}
use Rattle.qc_refine.proofs.Restoring.BelowReady.{IsSettledBelow, settled_below, committed_or}
use Rattle.qc_refine.proofs.Restoring.LoggedTops.{WasAborted, listed_aborted, IsLogged, logged_are, logged_any, committed_ready}

-- NAMES COMMITTED FOR GOOD

drop_first : (p q : Name) → drop 1 (ancestors p ++ q ∷ []) ≡ drop 1 (ancestors p) ++ q ∷ []
drop_first [] q = refl
drop_first (x ∷ p) q = refl

good_last : (past : Past) (p : Name) (k : ℕ) → is_for_good past (p ++ k ∷ []) ≡ (is_for_good past p && (is_committed (outcome past (p ++ k ∷ [])) && true))
good_last past p k =
    ap (λ ns. list_all (λ a. is_committed (outcome past a)) (drop 1 ns)) (ancestors-last p k)
    ∙ ap (list_all (λ a. is_committed (outcome past a))) (drop_first p (p ++ k ∷ []))
    ∙ list_all-append (λ a. is_committed (outcome past a)) (drop 1 (ancestors p)) ((p ++ k ∷ []) ∷ [])

-- who stands above who is committed for good is so too
pub good_above : (past : Past) (n r : Name) → is_for_good past (n ++ r) ≡ true → is_for_good past n ≡ true
good_above past n = by_last (λ r. is_for_good past (n ++ r) ≡ true → is_for_good past n ≡ true)
    (λ good. ap (is_for_good past) (sym (append-nil n)) ∙ good)
    (λ r k before good. before (and_parts (is_for_good past (n ++ r)) _ (sym (good_last past (n ++ r) k) ∙ ap (is_for_good past) (append_assoc n r (k ∷ [])) ∙ good)).0)

pub good_committed : (past : Past) (p : Name) (k : ℕ) → is_for_good past (p ++ k ∷ []) ≡ true → is_committed (outcome past (p ++ k ∷ [])) ≡ true
good_committed past p k good = (and_parts (is_committed (outcome past (p ++ k ∷ []))) true (and_parts (is_for_good past p) _ (sym (good_last past p k) ∙ good)).1).0

not_both : (o : Option How) → is_aborted (outcome_of o) ≡ true → is_committed (outcome_of o) ≡ true → ⊥
not_both None a c = true≢false (sym a)
not_both (Some (Commit given)) a c = true≢false (sym a)
not_both (Some (Abort cause)) a c = true≢false (sym c)

-- nobody aborted stands above who is committed for good
pub none_aborted_above : (setting : Setting) (past : Past) (n a : Name) → Legal setting past → WasAborted past n → name.is_ancestor n a ≡ true → is_for_good past a ≡ true → ⊥
none_aborted_above setting past n a legal aborted above good =
    let rest = rest_of n a above in
    by_last_number (ends_in n) (good_above past n rest.0 (ap (is_for_good past) (sym rest.1) ∙ good))
  where
    law : Lawful past
    law = lawful past (legal_orderly setting past legal)

    by_last_number : (n ≡ []) ⊎ EndsIn n → is_for_good past n ≡ true → ⊥
    by_last_number (inl root) good = true≢false (sym aborted ∙ ap (λ m. is_aborted (outcome past m)) root ∙ ap (λ o. is_aborted (outcome_of o)) law.no_root_end)
    by_last_number (inr (p, k, is)) good = not_both (end past n) aborted
        (ap (λ m. is_committed (outcome past m)) is ∙ good_committed past p k (ap (is_for_good past) (sym is) ∙ good))

-- BELOW A COMMITTED TOP

-- none of these is above a name
abbrev pub NoneAbove : List Name → Name → Type 0
NoneAbove names a = list_any (λ n. name.is_ancestor n a) names ≡ false

contains_any : (names : List Name) (n a : Name) → Contains names n → name.is_ancestor n a ≡ true → list_any (λ m. name.is_ancestor m a) names ≡ true
contains_any names n a has above = list_any_at (λ m. name.is_ancestor m a) names has.0 n has.1 (ap (λ m. name.is_ancestor m a) has.2 ∙ above)

fewer_above : (names : List Name) (p r : Name) → NoneAbove names (p ++ r) → NoneAbove names p
fewer_above [] p r none = refl
fewer_above (n ∷ names) p r none = by_tests (name.is_ancestor n p) (name.is_ancestor n (p ++ r)) (list_any (λ m. name.is_ancestor m (p ++ r)) names) (list_any (λ m. name.is_ancestor m p) names)
    (below_more n p r) none (fewer_above names p r)
  where
    by_tests : (a b c d : Bool) → (a ≡ true → b ≡ true) → (b || c) ≡ false → (c ≡ false → d ≡ false) → (a || d) ≡ false
    by_tests false false c d h none rest = rest none
    by_tests false true c d h none rest = absurd (true≢false none)
    by_tests true true c d h none rest = absurd (true≢false none)
    by_tests true false c d h none rest = absurd (true≢false (sym (h refl)))

-- who lives and is committed for good
pub record IsGood (past : Past) (n : Name) : Type 0 where
  pub alive : dead past n ≡ None
  pub good : is_for_good past n ≡ true

module _ (setting : Setting) (past : Past) (x : ℕ) (legal : Legal setting past) (done : is_committed (outcome past (x ∷ [])) ≡ true) where
  law : Lawful past
  law = lawful past (legal_orderly setting past legal)

  settled : IsSettledBelow past (x ∷ [])
  settled = settled_below past (x ∷ []) (legal_orderly setting past legal) (omega arith) (committed_ready setting past x legal done)

  abbrev IsGoodBelow : Name → Type 0
  IsGoodBelow r = is_some (start past ((x ∷ []) ++ r)) ≡ true → NoneAbove (listed past (x ∷ [])) ((x ∷ []) ++ r) → IsGood past ((x ∷ []) ++ r)

  not_aborted : (o : Option How) → is_committed (outcome_of o) ≡ true → is_aborted (outcome_of o) ≡ false
  not_aborted o c = false_from_ne_true (is_aborted (outcome_of o)) (λ a. not_both o a c)

  child_lives : (p : Name) (k : ℕ) → dead past p ≡ None → is_aborted (outcome past (p ++ k ∷ [])) ≡ false → dead past (p ++ k ∷ []) ≡ None
  child_lives p k alive here = dead_child past p k alive ∙ ap (λ (b : Bool). if b then Some (p ++ k ∷ []) else None) here

  top_good : IsGoodBelow []
  top_good began none = record {
    alive = child_lives [] x (root_alive setting past legal) (not_aborted (end past (x ∷ [])) done);
    good = and_from _ _ done refl;
  }

  next_good : (r : Name) (k : ℕ) → IsGoodBelow r → IsGoodBelow (r ++ k ∷ [])
  next_good r k before began none = subst (IsGood past) (sym same) (record {
    alive = child_lives p k up.alive lives;
    good = good_last past p k ∙ and_from _ _ up.good (and_from _ _ (committed_or (end past n) now.0 lives) refl);
  })
    where
      p : Name
      p = x ∷ r

      n : Name
      n = p ++ k ∷ []

      same : (x ∷ []) ++ (r ++ k ∷ []) ≡ n
      same = refl

      here : is_some (start past n) ≡ true
      here = began

      up : IsGood past p
      up = before (parent_started past p k law (omega arith) here) (fewer_above (listed past (x ∷ [])) p (k ∷ []) none)

      now : (is_some (end past n) ≡ true) × (is_aborted (outcome past n) ≡ true → Contains (listed past (x ∷ [])) n)
      now = settled r k up.alive here

      lives : is_aborted (outcome past n) ≡ false
      lives = false_from_ne_true (is_aborted (outcome past n)) (λ a. true≢false (sym (contains_any (listed past (x ∷ [])) n n (now.1 a) itself) ∙ none))
        where
          itself : name.is_ancestor n n ≡ true
          itself = ap (name.is_ancestor n) (sym (append-nil n)) ∙ is_ancestor-append n []

  -- who has no listed name above lives and is committed for good
  pub is_good_below : (r : Name) → is_some (start past (x ∷ r)) ≡ true → NoneAbove (listed past (x ∷ [])) (x ∷ r) → IsGood past (x ∷ r)
  is_good_below = by_last IsGoodBelow top_good next_good

  pub good_below : (r : Name) → is_some (start past (x ∷ r)) ≡ true → NoneAbove (listed past (x ∷ [])) (x ∷ r) → is_for_good past (x ∷ r) ≡ true
  good_below r began none = (is_good_below r began none).good

-- KEPT IS FOR GOOD

module _ (setting : Setting) (past : Past) (x : ℕ) (r : Name) (legal : Legal setting past) (began : is_some (start past (x ∷ r)) ≡ true) where
  keeps_good : (l : Logged) → IsLogged past l → keeps (x ∷ r) l ≡ true → is_for_good past (x ∷ r) ≡ true
  keeps_good l is kept =
      let parts = and_parts (name.is_ancestor l.top (x ∷ r)) _ kept in
      let above : name.is_ancestor (is.number ∷ []) (x ∷ r) ≡ true = ap (λ t. name.is_ancestor t (x ∷ r)) (sym is.is_top) ∙ parts.0 in
      let number : is.number ≡ x = eqb-true is.number x (and_parts (is.number == x) _ above).0 in
      let none : NoneAbove (listed past (is.number ∷ [])) (x ∷ r) = ap (list_any (λ n. name.is_ancestor n (x ∷ r))) (sym is.same_list) ∙ not-true _ parts.1 in
      good_below setting past x legal (ap (λ y. is_committed (outcome past (y ∷ []))) (sym number) ∙ is.committed) r began (subst (λ y. NoneAbove (listed past (y ∷ [])) (x ∷ r)) number none)

  any_good : (ls : List Logged) → All (IsLogged past) ls → is_kept ls (x ∷ r) ≡ true → is_for_good past (x ∷ r) ≡ true
  any_good [] all kept = absurd (true≢false (sym kept))
  any_good (l ∷ ls) all kept = by_first (keeps (x ∷ r) l) refl kept (any_good ls (All-tail (IsLogged past) l ls all))
    where
      by_first : (b : Bool) → keeps (x ∷ r) l ≡ b → (b || is_kept ls (x ∷ r)) ≡ true → (is_kept ls (x ∷ r) ≡ true → is_for_good past (x ∷ r) ≡ true) → is_for_good past (x ∷ r) ≡ true
      by_first true is kept rest = keeps_good l (All-head (IsLogged past) l ls all) is
      by_first false is kept rest = rest kept

  pub none_listed : (names : List Name) → All (WasAborted past) names → is_for_good past (x ∷ r) ≡ true → list_any (λ n. name.is_ancestor n (x ∷ r)) names ≡ false
  none_listed [] all good = refl
  none_listed (n ∷ names) all good = ap₂ (λ a b. a || b)
      (false_from_ne_true (name.is_ancestor n (x ∷ r)) (λ above. none_aborted_above setting past n (x ∷ r) legal (All-head (WasAborted past) n names all) above good))
      (none_listed names (All-tail (WasAborted past) n names all) good)

  good_kept : is_for_good past (x ∷ r) ≡ true → is_kept (logged past) (x ∷ r) ≡ true
  good_kept good = logged_any setting past (keeps (x ∷ r)) x legal (good_committed past [] x (good_above past (x ∷ []) r good))
      (and_from _ _ (is_ancestor-append (x ∷ []) r) (ap not (none_listed (listed past (x ∷ [])) (listed_aborted setting past (x ∷ []) legal) good)))

  pub kept_is_good : is_kept (logged past) (x ∷ r) ≡ is_for_good past (x ∷ r)
  kept_is_good = two_ways (is_kept (logged past) (x ∷ r)) (is_for_good past (x ∷ r)) (any_good (logged past) (logged_are setting past legal)) good_kept
