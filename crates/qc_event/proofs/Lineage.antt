-- What an orderly history keeps along a line of names: where a parent ends, and how a child is dead.
use Rattle.std.proofs.Common.{◌≡◌, ℕ, ◌<◌, ◌⊎◌, inl, inr, Bool, true, false, [], ◌∷◌, ◌++◌, length, refl, sym, ap, ◌∙◌, subst, arith, append-nil, append_assoc}
use mathlib.Core.Bool.{true≢false}
use Rattle.std.specs.Prelude.{Option, None, Some, is_some, if◌then◌else◌, find}
use Rattle.std.specs.Option.{option_or}
use Rattle.std.proofs.lemmas.List.Folds.{find-append}
use Rattle.std.proofs.lemmas.Bool.{false_from_ne_true}
use Rattle.qc_event.specs.declared.event.How.{How}
use Rattle.qc_event.specs.declared.event.How.TheVariants.{Commit, Abort}
use Rattle.qc_event.specs.History.{Past, Name, IsOpen, start, end, children}
use Rattle.qc_event.specs.Dead.{outcome, outcome_of, is_aborted, is_committed, ancestors, dead}
use Rattle.qc_event.proofs.LastNumber.{EndsIn, ends_in, length_last, child_last, ancestors-last, append_next}
use Rattle.qc_event.proofs.OneEntry.{not_some, some_or_none, none_before, childless}
use Rattle.qc_event.specs.Standing.{IsUser, Started}
use Rattle.qc_event.proofs.Lawful.{Lawful, parent_started, user_parent}

-- STARTS ABOVE AND BELOW

-- what stands above a started name was started, the root apart
pub above_started : (past : Past) (n r : Name) → Lawful past → 0 < length n → is_some (start past (n ++ r)) ≡ true → is_some (start past n) ≡ true
above_started past n [] law pos h = ap (λ m. is_some (start past m)) (sym (append-nil n)) ∙ h
above_started past n (j ∷ r) law pos h =
    let below = above_started past (n ++ j ∷ []) r law (omega (arith, length_last n j)) (ap (λ m. is_some (start past m)) (sym (append_next n j r)) ∙ h) in
    parent_started past n j law pos below

-- what stands above a user transaction is a user transaction, the root apart
pub above_user : (past : Past) (n r : Name) → Lawful past → 0 < length n → Started past (n ++ r) (λ b. IsUser b.kind) → Started past n (λ b. IsUser b.kind)
above_user past n [] law pos h = subst (λ m. Started past m (λ b. IsUser b.kind)) (append-nil n) h
above_user past n (j ∷ r) law pos h =
    user_parent past n j law pos (above_user past (n ++ j ∷ []) r law (omega (arith, length_last n j)) (subst (λ m. Started past m (λ b. IsUser b.kind)) (append_next n j r) h))

-- what is known of a name that was not started, nor anything below it
pub record IsFresh (past : Past) (n : Name) : Type 0 where
  pub no_start : start past n ≡ None
  pub no_end : end past n ≡ None
  pub no_children : children past n ≡ []

-- below a name that has not started all is fresh
pub fresh_below : (past : Past) (n r : Name) → Lawful past → 0 < length n → start past n ≡ None → IsFresh past (n ++ r)
fresh_below past n r law pos none = record {
  no_start = unstarted r;
  no_end = not_some (end past (n ++ r)) (λ h. some_or_none (start past (n ++ r)) (law.end_has_start (n ++ r) h) (unstarted r));
  no_children = childless past (n ++ r) (λ c is. under c (child_last (n ++ r) c is));
}
  where
    unstarted : (s : Name) → start past (n ++ s) ≡ None
    unstarted s = not_some (start past (n ++ s)) (λ h. some_or_none (start past n) (above_started past n s law pos h) none)

    under : (c : Name) → (j : ℕ) × (c ≡ (n ++ r) ++ j ∷ []) → start past c ≡ None
    under c (j, is) = ap (start past) (is ∙ append_assoc n r (j ∷ [])) ∙ unstarted (r ++ j ∷ [])

-- a child with a number past those given is fresh, with all below it
pub fresh_child : (past : Past) (p : Name) (j : ℕ) (r : Name) → Lawful past → 0 < length p → length (children past p) < j → IsFresh past (p ++ j ∷ r)
fresh_child past p j r law pos past_all =
    subst (IsFresh past) (sym (append_next p j r)) (fresh_below past (p ++ j ∷ []) r law (omega (arith, length_last p j)) unstarted)
  where
    unstarted : start past (p ++ j ∷ []) ≡ None
    unstarted = not_some (start past (p ++ j ∷ [])) (λ h. let n = (law.number p j pos h).1 in omega arith)

-- DEATH

pub dead_last : (past : Past) (p : Name) (j : ℕ) → dead past (p ++ j ∷ []) ≡ option_or (dead past p) (if is_aborted (outcome past (p ++ j ∷ [])) then Some (p ++ j ∷ []) else None)
dead_last past p j = ap (find (λ a. is_aborted (outcome past a))) (ancestors-last p j) ∙ find-append (λ a. is_aborted (outcome past a)) (ancestors p) ((p ++ j ∷ []) ∷ [])

-- who lives has a living parent, and is not aborted
pub dead_parent : (past : Past) (p : Name) (j : ℕ) → dead past (p ++ j ∷ []) ≡ None → dead past p ≡ None
dead_parent past p j alive = (none_before (dead past p) _ (sym (dead_last past p j) ∙ alive)).0

none_if : (b : Bool) (n : Name) → (if b then Some n else None) ≡ None → b ≡ false
none_if true n h = absurd cc
none_if false n h = refl

pub alive_not_aborted : (past : Past) (n : Name) → dead past n ≡ None → is_aborted (outcome past n) ≡ false
alive_not_aborted past n alive = by_parent n (ends_in n) alive
  where
    last : (o : Option Name) (b : Bool) (m : Name) → option_or o (if b then Some m else None) ≡ None → b ≡ false
    last None b m h = none_if b m h
    last (Some x) b m h = absurd cc

    by_parent : (m : Name) → (m ≡ []) ⊎ EndsIn m → dead past m ≡ None → is_aborted (outcome past m) ≡ false
    by_parent m (inl is) living = ap (λ x. is_aborted (outcome past x)) is ∙ none_if (is_aborted (outcome past [])) [] (sym (ap (dead past) is) ∙ living)
    by_parent m (inr (p, j, is)) living = ap (λ x. is_aborted (outcome past x)) is ∙ last (dead past p) _ (p ++ j ∷ []) (sym (dead_last past p j) ∙ sym (ap (dead past) is) ∙ living)

-- so is everything above who lives
pub alive_above : (past : Past) (n r : Name) → dead past (n ++ r) ≡ None → dead past n ≡ None
alive_above past n [] alive = sym (ap (dead past) (append-nil n)) ∙ alive
alive_above past n (j ∷ r) alive = dead_parent past n j (alive_above past (n ++ j ∷ []) r (sym (ap (dead past) (append_next n j r)) ∙ alive))

-- where the parent is not dead, a child is dead where it is aborted
pub dead_child : (past : Past) (p : Name) (j : ℕ) → dead past p ≡ None → dead past (p ++ j ∷ []) ≡ (if is_aborted (outcome past (p ++ j ∷ [])) then Some (p ++ j ∷ []) else None)
dead_child past p j alive = dead_last past p j ∙ ap (λ o. option_or o (if is_aborted (outcome past (p ++ j ∷ [])) then Some (p ++ j ∷ []) else None)) alive

-- where the parent is dead, so is the child, by the same ancestor
pub dead_with_parent : (past : Past) (p a : Name) (j : ℕ) → dead past p ≡ Some a → dead past (p ++ j ∷ []) ≡ Some a
dead_with_parent past p a j is = dead_last past p j ∙ ap (λ o. option_or o (if is_aborted (outcome past (p ++ j ∷ [])) then Some (p ++ j ∷ []) else None)) is

-- OPEN PARENTS

-- the parent of a started child that has not ended is not committed
pub parent_not_committed : (past : Past) (p : Name) (j : ℕ) → Lawful past → 0 < length p → is_some (start past (p ++ j ∷ [])) ≡ true → end past (p ++ j ∷ []) ≡ None → is_committed (outcome past p) ≡ false
parent_not_committed past p j law pos began going = false_from_ne_true _ (λ committed. some_or_none (end past (p ++ j ∷ [])) (law.committed_closed p j pos committed began) going)

pub neither : (o : Option How) → is_committed (outcome_of o) ≡ false → is_aborted (outcome_of o) ≡ false → o ≡ None
neither None c a = refl
neither (Some (Commit given)) c a = absurd (true≢false c)
neither (Some (Abort cause)) c a = absurd (true≢false a)

-- and is open, where the child lives
pub parent_open : (past : Past) (p : Name) (j : ℕ) → Lawful past → 0 < length p → is_some (start past (p ++ j ∷ [])) ≡ true → end past (p ++ j ∷ []) ≡ None → dead past (p ++ j ∷ []) ≡ None → IsOpen past p
parent_open past p j law pos began going alive = record {
  started = parent_started past p j law pos began;
  not_ended = neither (end past p) (parent_not_committed past p j law pos began going) (alive_not_aborted past p (dead_parent past p j alive));
}

-- with the root, which never ends
pub parent_going : (past : Past) (p : Name) (j : ℕ) → Lawful past → is_some (start past (p ++ j ∷ [])) ≡ true → end past (p ++ j ∷ []) ≡ None → dead past (p ++ j ∷ []) ≡ None → end past p ≡ None
parent_going past [] j law began going alive = law.no_root_end
parent_going past (x ∷ p) j law began going alive = (parent_open past (x ∷ p) j law (omega arith) began going alive).not_ended
