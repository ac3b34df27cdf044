use Rattle.std.proofs.Common.{refl, inl, inr, ◌≡◌}
use Rattle.std.specs.Prelude.{reverse}
use Rattle.qc_interp.specs.Asking.{Asks}
use Rattle.qc_interp.specs.Deeds.{deeds}
use Rattle.rows_laws.specs.Trails.{top, first_child, grandchild, aborts_two, abort_body}
use Rattle.rows_laws.proofs.names_no_other.Goals as goal

-- the step names the parent, which is not the top
top_not_named : Asks (reverse aborts_two) top (abort_body 1).plan (deeds (reverse aborts_two) top) grandchild top → ⊥
top_not_named (inl (inl h)) = let e : top ≡ first_child = h.1 in cc
top_not_named (inl (inr h)) = absurd h
top_not_named (inr h) = absurd h

pub returns-clause-parent_named : goal.returns-clause-parent_named
returns-clause-parent_named c = inl (inl (refl, refl, λ killed. killed))

pub returns-clause-top_not_named : goal.returns-clause-top_not_named
returns-clause-top_not_named c = λ f. elim (f.as_asked top grandchild refl) [
  | inl same ↦ absurd cc
  | inr one ↦ elim one [
    | inl asks ↦ elim asks [
      | inl named ↦ top_not_named named
      | inr none ↦ absurd none
    ]
    | inr none ↦ absurd none
  ]
]
