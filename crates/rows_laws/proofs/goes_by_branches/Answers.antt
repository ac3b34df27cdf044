use Rattle.std.proofs.Common.{[], ◌∷◌, refl, inl, inr}
use Rattle.qc_interp.specs.Deeds.{Deed}
use Rattle.rows_laws.specs.Branches.{third_child, fourth_child}
use Rattle.rows_laws.specs.Trails.{first_child, second_child}
use Rattle.rows_laws.proofs.goes_by_branches.Goals as goal

pub returns-clause-tried_again : goal.returns-clause-tried_again
returns-clause-tried_again c = (
  record {
    kind = refl;
    steps = (
      Deed.child first_child ∷ Deed.child second_child ∷ Deed.child third_child ∷ [],
      Deed.child fourth_child ∷ [],
      refl,
      (refl, refl, refl, refl),
      (((refl, (refl, refl, (refl, inl (refl, refl)))), ((refl, (refl, refl, inl tt)), tt)), (((refl, (refl, refl, inl tt)), tt), tt)),
      (refl, refl, inl tt),
    );
  },
  tt,
)

pub returns-clause-aborted : goal.returns-clause-aborted
returns-clause-aborted c = (
  record {
    kind = refl;
    steps = (
      Deed.child first_child ∷ Deed.child second_child ∷ Deed.child third_child ∷ [],
      [],
      refl,
      (refl, refl, refl, refl),
      (((refl, (refl, refl, (refl, inl (refl, refl)))), ((refl, (refl, refl, (refl, inl (refl, refl)))), tt)), (((refl, (refl, refl, inl tt)), tt), tt)),
      (refl, inl (refl, refl)),
    );
  },
  tt,
)

pub returns-clause-went_on : goal.returns-clause-went_on
returns-clause-went_on c = (
  record {
    kind = refl;
    steps = (
      Deed.child first_child ∷ Deed.child second_child ∷ Deed.child third_child ∷ [],
      Deed.child fourth_child ∷ [],
      refl,
      (refl, refl, refl, refl),
      (((refl, (refl, refl, (refl, inl (refl, refl)))), ((refl, (refl, refl, (refl, inl (refl, refl)))), tt)), (((refl, (refl, refl, inl tt)), tt), tt)),
      (refl, refl, inl tt),
    );
  },
  tt,
)

pub returns-clause-stopped : goal.returns-clause-stopped
returns-clause-stopped c = (
  record {
    kind = refl;
    steps = (
      Deed.child first_child ∷ Deed.child second_child ∷ [],
      [],
      refl,
      (refl, refl, refl, refl),
      (((refl, (refl, refl, (refl, inl (refl, refl)))), tt), (((refl, inl refl), tt), tt)),
      (refl, refl),
    );
  },
  tt,
)

pub returns-clause-stopped_named : goal.returns-clause-stopped_named
returns-clause-stopped_named c = inl (
  Deed.child first_child ∷ Deed.child second_child ∷ [],
  [],
  refl,
  refl,
  (refl, (refl, inr (inl (inl (refl, refl, λ killed. killed))))),
)

pub returns-clause-turned_back : goal.returns-clause-turned_back
returns-clause-turned_back c = (
  record {
    kind = refl;
    steps = (
      Deed.child first_child ∷ [],
      [],
      refl,
      (refl, refl, refl, refl),
      (((refl, (refl, inl refl)), tt), (tt, tt)),
      (refl, tt),
    );
  },
  tt,
)
