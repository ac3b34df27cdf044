-- The first of a manager's stages that is not enough.
use Rattle.std.proofs.Common.{◌≡◌, Bool, true, false, cond, ◌&&◌, List, ◌∷◌, refl, ap, ◌∙◌}
use Rattle.std.specs.Prelude.{None, Some, find, not, if◌then◌else◌}
use Rattle.qc_event.specs.Manager.{Greatest, Newest, Stage, collecting, stages_by}
use Rattle.qc_event.specs.Standing.{IsManager}
use Rattle.qc_event.specs.declared.event.Kind.{Kind}
use Rattle.qc_event.specs.declared.event.Kind.TheVariants as kind

module _ {X : Type 0} (enough : X → Bool) where
  abbrev pub short : X → Bool
  short s = not (enough s)

  -- the first stage is enough, and none is the last: a later one counts
  pub later : (last : Bool) (first : X) (rest all : List X) → enough first ≡ true → last ≡ false → all ≡ first ∷ rest → (if (enough first && last) then None else find short all) ≡ find short rest
  later last first rest all here goes are =
      ap (λ b. if (b && last) then None else find short all) here
      ∙ ap (λ b. if b then None else find short all) goes
      ∙ ap (find short) are
      ∙ ap (λ b. cond (not b) (Some first) (find short rest)) here

  -- where the first is not enough, it is that
  pub first_short : (last : Bool) (first : X) (rest all : List X) → enough first ≡ false → all ≡ first ∷ rest → (if (enough first && last) then None else find short all) ≡ Some first
  first_short last first rest all here are =
      ap (λ b. if (b && last) then None else find short all) here
      ∙ ap (find short) are
      ∙ ap (λ b. cond (not b) (Some first) (find short rest)) here

  -- none is at the last number
  pub none_left : (last : Bool) (first : X) (all : List X) → enough first ≡ true → last ≡ true → (if (enough first && last) then None else find short all) ≡ None
  none_left last first all here ends =
      ap (λ b. if (b && last) then None else find short all) here
      ∙ ap (λ b. if b then None else find short all) ends

-- a manager collects first
pub collects : (k : Kind) (now : Newest) (found : Greatest) → IsManager k → (rest : List Stage) × (stages_by k now found ≡ collecting now ∷ rest)
collects (kind.Read rec) now found is = (_, refl)
collects (kind.Write rec value) now found is = (_, refl)
collects (kind.Reconf rec config) now found is = (_, refl)
collects (kind.User session body) now found is = absurd is
collects kind.Access now found is = absurd is
