-- What a disk keeps in each image that may be left of it, it keeps in one.
use Rattle.std.proofs.Common.{◌≡◌, ℕ, Bool, true, List, sym, subst}
use Rattle.std.proofs.Math.Logic.{∥∥₁_map}
use Rattle.qc_event.specs.Base.{Setting}
use Rattle.qc_event.specs.History.{Past}
use Rattle.qc_system.specs.Left.{KeepsGrants, KeepsTops}

module _ (before : List (List ℕ)) (left : List ℕ → Type 0) (past : Past) (image : List ℕ) (here : left image) where
  one_of_tops : KeepsTops before left past → KeepsTops before (λ i. i ≡ image) past
  one_of_tops keeps = record { untold = keeps.untold; next = keeps.next; each = λ i is. keeps.each i (subst left (sym is) here) }

  one_of_grants : (setting : Setting) (copies copy : ℕ) → KeepsGrants setting copies copy before left past → KeepsGrants setting copies copy before (λ i. i ≡ image) past
  one_of_grants setting copies copy keeps = record { untold = keeps.untold; may = keeps.may; fit = keeps.fit; each = λ i is. keeps.each i (subst left (sym is) here) }

  -- where the ledger's disk tells its bytes
  pub told_tops : (told : Bool) → told ≡ true → ∥ (told ≡ true → KeepsTops before left past) ∥₁ → ∥ KeepsTops before (λ i. i ≡ image) past ∥₁
  told_tops told is keeps = ∥∥₁_map keeps (λ k. one_of_tops (k is))

  -- where a copy's disk does
  pub told_grants : (setting : Setting) (copies copy : ℕ) (told : Bool) → told ≡ true → ∥ (told ≡ true → KeepsGrants setting copies copy before left past) ∥₁ → ∥ KeepsGrants setting copies copy before (λ i. i ≡ image) past ∥₁
  told_grants setting copies copy told is keeps = ∥∥₁_map keeps (λ k. one_of_grants setting copies copy (k is))
