-- The plan that a body is, and what the steps that were read make of the plan of those that are left.
use Rattle.std.proofs.Common.{◌≡◌, ℕ, ◌+◌, ◌<◌, ◌≤◌, suc, List, [], ◌∷◌, ◌++◌, length, map, get_or, drop, Ok, Err, refl, sym, ap, ◌∙◌, add-one, drop-cons}
use Rattle.std.proofs.lemmas.List.{drop_all}
use Rattle.serde_json.specs.Data.{Data}
use Rattle.serde_json.specs.View.{view}
use Rattle.serde_json.specs.declared.value.Value.{Value}
use Rattle.qc_script.specs.declared.script.Body.{Body, roll-Body, fold-roll-Body}
use Rattle.qc_script.specs.declared.script.Step.{Step}
use Rattle.qc_script.specs.declared.script.Step.TheOpen.{Body-F}
use Rattle.qc_script.specs.Plan.{Plan, Numbered}
use Rattle.qc_script.specs.JsonText.{followed, ◌>>=◌}
use Rattle.qc_script.specs.ScriptText.{Counted, Front, Scope, step_of, steps_of}
use Rattle.qc_script.specs.Steps.{before, all_before, layer, numbered, put, plan_of}
use Rattle.qc_script.proofs.Parts.{put_all, with_steps}

pub all_before-map : (steps : List Step) → all_before (map put steps) ≡ plan_of steps
all_before-map [] = refl
all_before-map (s ∷ steps) = ap (put s) (all_before-map steps)

-- what a body is
pub numbered_roll : (b : Body-F Step Body) → numbered (roll-Body b) ≡ record { number = b.number; tries = b.tries; must = b.must; plan = plan_of b.steps.items }
numbered_roll b =
    fold-roll-Body (Plan → Plan) Numbered before layer b
    ∙ ap (λ (p : Plan). let n : Numbered = record { number = b.number; tries = b.tries; must = b.must; plan = p } in n) (all_before-map b.steps.items)

put_all-done : (steps : List Step) → put_all steps Plan.done ≡ plan_of steps
put_all-done [] = refl
put_all-done (s ∷ steps) = ap (put s) (put_all-done steps)

put_all-push : (steps : List Step) (s : Step) (rest : Plan) → put_all (steps ++ s ∷ []) rest ≡ put_all steps (put s rest)
put_all-push [] s rest = refl
put_all-push (x ∷ steps) s rest = ap (put x) (put_all-push steps s rest)

put_next : (front : List Step) (s : Step) (r : Counted Plan) → with_steps front (r >>= λ rest. Ok (put s rest.0, rest.1)) ≡ with_steps (front ++ s ∷ []) r
unfolding followed
put_next front s (Ok rest) = ap (λ (p : Plan). Ok (p, rest.1)) (sym (put_all-push front s rest.0))
put_next front s (Err e) = refl

with_steps-cons : (body : ℕ → Data → Counted Numbered) (depth : ℕ) (scope : Scope) (next after : ℕ) (front : List Step) (s : Step) (d : Data) (ds : List Data) → step_of body depth scope next d ≡ Ok (put s, after) → with_steps front (steps_of body depth scope next (d ∷ ds)) ≡ with_steps (front ++ s ∷ []) (steps_of body depth scope after ds)
unfolding followed
with_steps-cons body depth scope next after front s d ds h =
    ap (λ (r : Counted Front). with_steps front (r >>= λ first. steps_of body depth scope first.1 ds >>= λ rest. Ok (first.0 rest.0, rest.1))) h
    ∙ put_next front s (steps_of body depth scope after ds)

-- one more step is read
pub with_steps-next : (body : ℕ → Data → Counted Numbered) (depth : ℕ) (scope : Scope) (next after : ℕ) (front : List Step) (s : Step) (list : List Value) (i : ℕ) (x : Value) → i < length list → x ≡ get_or list i x → step_of body depth scope next (view x) ≡ Ok (put s, after) → with_steps front (steps_of body depth scope next (map view (drop i list))) ≡ with_steps (front ++ s ∷ []) (steps_of body depth scope after (map view (drop (i + 1) list)))
with_steps-next body depth scope next after front s list i x below is h =
    let split : drop i list ≡ x ∷ drop (i + 1) list = rw add-one (drop-cons list i x below ∙ ap (λ y. y ∷ drop (suc i) list) (sym is)) in
    ap (λ (vs : List Value). with_steps front (steps_of body depth scope next (map view vs))) split
    ∙ with_steps-cons body depth scope next after front s (view x) (map view (drop (i + 1) list)) h

-- none is left
pub with_steps-end : (body : ℕ → Data → Counted Numbered) (depth : ℕ) (scope : Scope) (next : ℕ) (front : List Step) (list : List Value) (i : ℕ) → length list ≤ i → with_steps front (steps_of body depth scope next (map view (drop i list))) ≡ Ok (plan_of front, next)
unfolding followed
with_steps-end body depth scope next front list i past =
    ap (λ (vs : List Value). with_steps front (steps_of body depth scope next (map view vs))) (drop_all i list past)
    ∙ ap (λ (p : Plan). Ok (p, next)) (put_all-done front)
