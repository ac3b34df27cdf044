-- What a body is refused for, part by part, and which steps have no form.
use Rattle.std.proofs.Common.{◌≡◌, Bool, ℕ, ◌+◌, ◌-◌, ◌*◌, ◌<◌, ◌≤◌, suc, List, [], ◌∷◌, length, map, get_or, drop, Ok, Err, refl, sym, ap, ◌∙◌, subst, inl, inr, add-one, drop-cons, arith}
use Rattle.std.specs.Prelude.{◌⊎◌, codes}
use Rattle.serde_json.specs.Data.{Data}
use Rattle.serde_json.specs.View.{view}
use Rattle.serde_json.specs.declared.value.Value.{Value}
use Rattle.qc_script.specs.declared.bad_script.BadScript.{BadScript}
use Rattle.qc_script.specs.declared.bad_script.BadScript.TheVariants.{NotJson, Shape, Limit, Config, Unknown, TooLong, Twice, Memory}
use Rattle.qc_script.specs.declared.bad_script.Member.TheVariants as part
use Rattle.qc_script.specs.Plan.{Plan, Numbered}
use Rattle.qc_script.specs.Reading.{Fails}
use Rattle.qc_script.specs.JsonText.{Read, followed, ◌>>=◌, list_at}
use Rattle.qc_script.specs.ScriptText.{Counted, Scope, steps_of, step_in, body_object, tries_of, must_of, body_of}

pub fails_first : {A B : Type 0} (e : BadScript) (r : Read A) (f : A → Read B) → Fails e r → Fails e (r >>= f)
unfolding followed
fails_first Memory r f h = tt
fails_first NotJson r f h = h
fails_first TooLong r f h = h
fails_first (Shape word) r f h = ap (λ x. x >>= f) h
fails_first (Limit word n) r f h = ap (λ x. x >>= f) h
fails_first (Config fault) r f h = ap (λ x. x >>= f) h
fails_first (Unknown name) r f h = ap (λ x. x >>= f) h
fails_first (Twice name) r f h = ap (λ x. x >>= f) h

pub is_then : {A B : Type 0} (r : Read A) (f : A → Read B) (x : A) → r ≡ Ok x → (r >>= f) ≡ f x
unfolding followed
is_then r f x h = ap (λ y. y >>= f) h

fails_then : {A B : Type 0} (e : BadScript) (r : Read A) (f : A → Read B) (x : A) → r ≡ Ok x → Fails e (f x) → Fails e (r >>= f)
fails_then e r f x h fails = subst (λ y. Fails e y) (sym (is_then r f x h)) fails

pub tries_refused : (levels below around : ℕ) (scope : Scope) (next : ℕ) (d : Data) (e : BadScript) → levels ≡ suc below → body_object d ≡ Ok tt → Fails e (tries_of around d) → Fails e (body_of levels around scope next d)
tries_refused levels below around scope next d e level checked fails = rw level (fails_then e _ _ tt checked (fails_first e _ _ fails))

pub must_refused : (levels below around : ℕ) (scope : Scope) (next : ℕ) (d : Data) (e : BadScript) (tries : ℕ) → levels ≡ suc below → body_object d ≡ Ok tt → tries_of around d ≡ Ok tries → Fails e (must_of d) → Fails e (body_of levels around scope next d)
must_refused levels below around scope next d e tries level checked tried fails =
    rw level (fails_then e _ _ tt checked (fails_then e _ _ tries tried (fails_first e _ _ fails)))

-- An object that is tried so often at most, and must commit or need not, in a body that may have so many levels below
-- it, where the tries around it have this product.
pub record IsBody (levels below around tries : ℕ) (must : Bool) (d : Data) : Type 0 where
  pub level : levels ≡ suc below
  pub checked : body_object d ≡ Ok tt
  pub tried : tries_of around d ≡ Ok tries
  pub needed : must_of d ≡ Ok must

pub list_refused : (levels below around tries : ℕ) (must : Bool) (scope : Scope) (next : ℕ) (d : Data) (e : BadScript) → IsBody levels below around tries must d → Fails e (list_at (codes "steps") part.Steps d) → Fails e (body_of levels around scope next d)
list_refused levels below around tries must scope next d e is fails =
    let level = is.level in
    rw level (fails_then e _ _ tt is.checked (fails_then e _ _ tries is.tried (fails_then e _ _ must is.needed (fails_first e _ _ fails))))

pub steps_refused : (levels below around tries : ℕ) (must : Bool) (scope : Scope) (next : ℕ) (d : Data) (e : BadScript) (list : List Data) → IsBody levels below around tries must d → list_at (codes "steps") part.Steps d ≡ Ok list → Fails e (steps_of (body_of below (around * tries) scope) (16 - below) scope (next + 1) list) → Fails e (body_of levels around scope next d)
steps_refused levels below around tries must scope next d e list is steps fails =
    let level = is.level in
    rw level (fails_then e _ _ tt is.checked (fails_then e _ _ tries is.tried (fails_then e _ _ must is.needed (fails_then e _ _ list steps (fails_first e _ _ fails)))))

pub body_read : (levels below around tries : ℕ) (must : Bool) (scope : Scope) (next : ℕ) (d : Data) (list : List Data) (plan : Plan) (after : ℕ) → IsBody levels below around tries must d → list_at (codes "steps") part.Steps d ≡ Ok list → steps_of (body_of below (around * tries) scope) (16 - below) scope (next + 1) list ≡ Ok (plan, after) → body_of levels around scope next d ≡ Ok (record { number = next; tries = tries; must = must; plan = plan }, after)
body_read levels below around tries must scope next d list plan after is steps read =
    let level = is.level in
    rw level (is_then _ _ tt is.checked ∙ is_then _ _ tries is.tried ∙ is_then _ _ must is.needed ∙ is_then _ _ list steps ∙ is_then _ _ (plan, after) read)

-- a step has two elements or three
pub step_in-other : (body : ℕ → Data → Counted Numbered) (depth : ℕ) (scope : Scope) (next : ℕ) (parts : List Value) → (length parts < 2) ⊎ (4 ≤ length parts) → step_in body depth scope next (map view parts) ≡ Err (Shape part.Step)
step_in-other body depth scope next [] h = refl
step_in-other body depth scope next (word ∷ []) h = refl
step_in-other body depth scope next (word ∷ rec ∷ []) h = elim h [ inl few ↦ absurd (omega arith) | inr many ↦ absurd (omega arith) ]
step_in-other body depth scope next (word ∷ rec ∷ value ∷ []) h = elim h [ inl few ↦ absurd (omega arith) | inr many ↦ absurd (omega arith) ]
step_in-other body depth scope next (word ∷ rec ∷ value ∷ more ∷ others) h = refl
