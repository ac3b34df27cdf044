-- Orphans by an ancestor that was the shortest aborted one: they stay so, and a child's is its parent's.
use Rattle.std.proofs.Common.{◌≡◌, ℕ, Bool, true, false, [], ◌∷◌, ◌++◌, refl, sym, ap, ◌∙◌, append_assoc}
use mathlib.Core.Bool.{true≢false}
use Rattle.std.specs.Prelude.{Option, None, Some, if◌then◌else◌}
use Rattle.std.specs.Option.{option_or}
use Rattle.qc_event.specs.Dead.{dead, outcome, is_aborted, WasDead}
use Rattle.qc_event.specs.History.{Past, Name}
use Rattle.qc_event.proofs.Lineage.{dead_last}

pub is_dead : (past : Past) (n a : Name) → dead past n ≡ Some a → WasDead past n a
is_dead past n a is = ([], past, refl, is)

pub was_dead : (newer past : Past) (n a : Name) → WasDead past n a → WasDead (newer ++ past) n a
was_dead newer past n a was = (newer ++ was.0, was.1, ap (λ p. newer ++ p) was.2 ∙ sym (append_assoc newer was.0 was.1), was.3)

-- of a child and its ancestors, one that is not the child is its parent's
pub was_dead_above : (past : Past) (p a : Name) (j : ℕ) → (p ++ j ∷ [] ≡ a → ⊥) → WasDead past (p ++ j ∷ []) a → WasDead past p a
was_dead_above past p a j not_itself was = (was.0, was.1, was.2, by_parent (dead was.1 p) (is_aborted (outcome was.1 (p ++ j ∷ []))) (sym (dead_last was.1 p j) ∙ was.3))
  where
    by_parent : (o : Option Name) (b : Bool) → option_or o (if b then Some (p ++ j ∷ []) else None) ≡ Some a → o ≡ Some a
    by_parent (Some x) b is = is
    by_parent None true is = absurd (not_itself cc)
    by_parent None false is = absurd cc
