use Rattle.std.proofs.Common.{[], ◌∷◌, refl, inl}
use Rattle.qc_interp.specs.Deeds.{Deed}
use Rattle.rows_laws.specs.Branches.{third_child}
use Rattle.rows_laws.specs.Trails.{first_child, second_child}
use Rattle.rows_laws.proofs.runs_branches.Goals as goal

pub returns-clause-at_once_followed : goal.returns-clause-at_once_followed
returns-clause-at_once_followed c = (
  record {
    kind = refl;
    steps = (
      Deed.child first_child ∷ Deed.child second_child ∷ [],
      Deed.child third_child ∷ [],
      refl,
      (refl, refl, refl, refl),
      (((refl, (refl, refl, inl tt)), tt), (((refl, (refl, refl, inl tt)), tt), tt)),
      (refl, refl, inl tt),
    );
  },
  tt,
)

pub returns-clause-in_turn_followed : goal.returns-clause-in_turn_followed
returns-clause-in_turn_followed c = (
  record {
    kind = refl;
    steps = (
      Deed.child first_child ∷ Deed.child second_child ∷ [],
      Deed.child third_child ∷ [],
      refl,
      (refl, refl, refl, refl),
      (((refl, (refl, refl, inl tt)), tt), (((refl, (refl, refl, inl tt)), tt), tt)),
      (refl, refl, inl tt),
    );
  },
  tt,
)

pub returns-clause-steps_followed : goal.returns-clause-steps_followed
returns-clause-steps_followed c = (
  record {
    kind = refl;
    steps = (
      Deed.child first_child ∷ [],
      Deed.child second_child ∷ Deed.child third_child ∷ [],
      refl,
      (refl, refl, refl, refl),
      (((refl, (refl, refl, inl tt)), tt), tt),
      (
        Deed.child second_child ∷ [],
        Deed.child third_child ∷ [],
        refl,
        (refl, refl, refl, refl),
        (((refl, (refl, refl, inl tt)), tt), tt),
        (refl, refl, inl tt),
      ),
    );
  },
  tt,
)

pub returns-clause-tried_again_followed : goal.returns-clause-tried_again_followed
returns-clause-tried_again_followed c = (
  record {
    kind = refl;
    steps = (
      Deed.child first_child ∷ Deed.child second_child ∷ [],
      [],
      refl,
      (refl, refl, refl, refl),
      (((refl, (refl, refl, (refl, inl (refl, refl)))), ((refl, (refl, refl, inl tt)), tt)), tt),
      inl tt,
    );
  },
  tt,
)
