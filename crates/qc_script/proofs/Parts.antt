-- What the loops of a reader keep: the parts that are left decide.
use Rattle.std.specs.Prelude.{List, [], ◌∷◌, ◌++◌, Ok}
use Rattle.qc_script.specs.declared.script.Step.{Step}
use Rattle.qc_script.specs.Plan.{Plan}
use Rattle.qc_script.specs.JsonText.{Read, ◌>>=◌}
use Rattle.qc_script.specs.ScriptText.{Counted}
use Rattle.qc_script.specs.Steps.{put}

-- the elements that were read, and those that are still read
abbrev pub with_front : {B : Type 0} → List B → Read (List B) → Read (List B)
with_front front r = r >>= λ ys. Ok (front ++ ys)

-- the same, where bodies are counted
abbrev pub with_counted : {B : Type 0} → List B → Counted (List B) → Counted (List B)
with_counted front r = r >>= λ rest. Ok (front ++ rest.0, rest.1)

-- the plan that steps and those after them make, from the plan of those after them
abbrev pub put_all : List Step → Plan → Plan
put_all [] rest = rest
put_all (s ∷ steps) rest = put s (put_all steps rest)

-- the steps that were read, and those that are still read
abbrev pub with_steps : List Step → Counted Plan → Counted Plan
with_steps front r = r >>= λ rest. Ok (put_all front rest.0, rest.1)
