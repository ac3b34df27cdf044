-- Who is an orphan: a dead name that has not ended, one that was refused as dead, and its manager with it.
use Rattle.std.proofs.Common.{◌≡◌, ℕ, ◌⊎◌, Bool, true, false, List, [], ◌∷◌, ◌++◌, map, inl, inr, refl, sym, ap, ◌∙◌, subst, append_assoc, append-nil}
use mathlib.Core.Bool.{true≢false}
use Rattle.std.specs.Prelude.{None, Some, MatchOption, not, ◌==◌}
use Rattle.std.specs.List.{AllByRecursion}
use Rattle.std.proofs.lemmas.Bool.{and_from, eq-eqb, false_from_ne_true}
use Rattle.qc_names.specs.Name as name
use Rattle.qc_event.specs.declared.event.Event.{Event}
use Rattle.qc_event.specs.declared.event.Event.TheVariants as event
use Rattle.qc_event.specs.declared.event.Refusal.{Refusal}
use Rattle.qc_event.specs.declared.event.Refusal.TheVariants.{Dead}
use Rattle.qc_event.specs.Base.{Setting}
use Rattle.qc_event.specs.Dead.{outcome, outcome_of, is_aborted, ancestors, dead, WasDead}
use Rattle.qc_event.specs.Grants.{IsRefusal}
use Rattle.qc_event.specs.History.{Past, Name, same, end, asked, refused, refusal_in}
use Rattle.qc_event.specs.Legal.{Legal, MayHappen}
use Rattle.qc_event.specs.Standing.{IsNamedOrphan, IsAbort}
use Rattle.qc_event.proofs.Absent.{same_is, same_itself}
use Rattle.qc_event.proofs.AskedAccess.{asked_access}
use Rattle.qc_event.proofs.Found.{found_holds, found_passes}
use Rattle.qc_event.proofs.LastNumber.{EndsIn, ends_in, is_ancestor-append, rest_of, same_last}
use Rattle.qc_event.proofs.NamedOrphans.{is_dead, was_dead, was_dead_above}
use Rattle.qc_event.proofs.OneEntry.{first_is, if_is, open_before}
use Rattle.qc_event.proofs.Options.{some_there}
use Rattle.qc_event.proofs.Outcomes.{aborted_is_abort}
use Rattle.qc_desk.proofs.Lasting.{orphan_stays}

abbrev Above : Name → Name → Type 0
Above n a = name.is_ancestor a n ≡ true

one_longer : (x : ℕ) (n : Name) (names : List Name) → AllByRecursion (Above n) names → AllByRecursion (Above (x ∷ n)) (map (λ a. x ∷ a) names)
one_longer x n [] all = tt
one_longer x n (a ∷ names) all = (and_from (x == x) (name.is_ancestor a n) (eq-eqb x x refl) all.0, one_longer x n names all.1)

all_above : (n : Name) → AllByRecursion (Above n) (ancestors n)
all_above [] = (refl, tt)
all_above (x ∷ n) = (refl, one_longer x n (ancestors n) (all_above n))

pub orphan_of : (past : Past) (n a : Name) → dead past n ≡ Some a → end past n ≡ None → IsNamedOrphan past n a
orphan_of past n a is going =
    let aborted = found_passes (λ x. is_aborted (outcome past x)) (ancestors n) a is in
    record {
      orphan = record {
        above = found_holds (Above n) (λ x. is_aborted (outcome past x)) (ancestors n) a (all_above n) is;
        not_itself = ap not (false_from_ne_true (same a n) (λ h. true≢false (sym aborted ∙ ap (λ x. is_aborted (outcome past x)) (same_is a n h) ∙ ap (λ o. is_aborted (outcome_of o)) going)));
        aborted = aborted_is_abort (end past a) aborted;
      };
      shortest = is_dead past n a is;
    }

pub named_stays : (newer past : Past) (n a : Name) → IsNamedOrphan past n a → IsNamedOrphan (newer ++ past) n a
named_stays newer past n a o = record { orphan = orphan_stays newer past n a o.orphan; shortest = was_dead newer past n a o.shortest }

-- who was first refused as dead, and has not ended, is an orphan of the ancestor that was named
pub refused_orphan : (setting : Setting) (past : Past) (n a : Name) → Legal setting past → refused past n ≡ Some (Dead a) → end past n ≡ None → IsNamedOrphan past n a
refused_orphan setting [] n a legal is going = absurd cc
refused_orphan setting (e ∷ past) n a legal is going =
    let before = open_before e past n going in
    named_stays (e ∷ []) past n a (elim (first_is (refused past n) (refusal_in n e.event) (Dead a) is) [
      | inl old ↦ refused_orphan setting past n a legal.0 old before
      | inr new ↦ orphan_of past n a (by_event e.event legal.1 new.1) before
    ])
  where
    by_reason : (r : Refusal) → r ≡ Dead a → MatchOption (asked past n) ⊥ (λ q. IsRefusal past q.ask r) → dead past n ≡ Some a
    by_reason r is reason =
        let there = some_there (asked past n) (λ q. IsRefusal past q.ask r) reason in
        let told : dead past there.0.ask.access ≡ Some a = subst (IsRefusal past there.0.ask) is there.2 in
        ap (dead past) (sym (asked_access past n there.0 there.1)) ∙ told

    by_event : (ev : Event) → MayHappen setting past e.seat ev → refusal_in n ev ≡ Some (Dead a) → dead past n ≡ Some a
    by_event (event.Refused m copy r) may here =
        let parts = if_is (same m n) r (Dead a) here in
        by_reason r parts.1 (subst (λ x. MatchOption (asked past x) ⊥ (λ q. IsRefusal past q.ask r)) (same_is m n parts.0) may.reason)
    by_event _ may here = absurd cc

itself : (p a : Name) (j : ℕ) → not (same a (p ++ j ∷ [])) ≡ true → p ++ j ∷ [] ≡ a → ⊥
itself p a j not_itself is = apart (same a (p ++ j ∷ [])) not_itself (ap (same a) is ∙ same_itself a)
  where
    apart : (b : Bool) → not b ≡ true → b ≡ true → ⊥
    apart true h is = true≢false (sym h)
    apart false h is = true≢false (sym is)

-- who is above a child, and not the child itself, is above its parent
pub above_parent : (p a : Name) (j : ℕ) → name.is_ancestor a (p ++ j ∷ []) ≡ true → not (same a (p ++ j ∷ [])) ≡ true → name.is_ancestor a p ≡ true
above_parent p a j above not_itself = by_end rest.0 rest.1 (ends_in rest.0)
  where
    rest : (r : Name) × (p ++ j ∷ [] ≡ a ++ r)
    rest = rest_of a (p ++ j ∷ []) above

    by_end : (r : Name) → p ++ j ∷ [] ≡ a ++ r → (r ≡ []) ⊎ EndsIn r → name.is_ancestor a p ≡ true
    by_end r is (inl none) = absurd (itself p a j not_itself (is ∙ ap (λ x. a ++ x) none ∙ append-nil a))
    by_end r is (inr last) =
        let parts = same_last p (a ++ last.0) j last.1 (is ∙ ap (λ x. a ++ x) last.2 ∙ sym (append_assoc a last.0 (last.1 ∷ []))) in
        ap (name.is_ancestor a) parts.0 ∙ is_ancestor-append a last.0

-- a child's aborted ancestor was the shortest one of its parent too
pub dead_parent_of : (past : Past) (p a : Name) (j : ℕ) → IsNamedOrphan past (p ++ j ∷ []) a → WasDead past p a
dead_parent_of past p a j o = was_dead_above past p a j (itself p a j o.orphan.not_itself) o.shortest

-- a child's aborted ancestor is one of its parent that has not ended
pub parent_orphan : (past : Past) (p a : Name) (j : ℕ) → IsNamedOrphan past (p ++ j ∷ []) a → end past p ≡ None → IsNamedOrphan past p a
parent_orphan past p a j o going = record {
  orphan = record {
    above = above_parent p a j o.orphan.above o.orphan.not_itself;
    not_itself = ap not (false_from_ne_true (same a p) (λ h. subst (λ x. MatchOption x ⊥ IsAbort) (ap (end past) (same_is a p h) ∙ going) o.orphan.aborted));
    aborted = o.orphan.aborted;
  };
  shortest = dead_parent_of past p a j o;
}
