-- A list whose elements are read one after another, while bodies are counted: what is left of it decides.
use Rattle.std.proofs.Common.{◌≡◌, ℕ, ◌+◌, ◌<◌, ◌≤◌, suc, List, [], ◌∷◌, ◌++◌, length, map, get_or, drop, Ok, Err, refl, sym, ap, ◌∙◌, subst, add-one, drop-cons, append_assoc}
use Rattle.std.proofs.lemmas.List.{drop_all, append-nil, map-append}
use Rattle.serde_json.specs.Data.{Data}
use Rattle.serde_json.specs.View.{view}
use Rattle.serde_json.specs.declared.value.Value.{Value}
use Rattle.qc_script.specs.declared.bad_script.BadScript.{BadScript}
use Rattle.qc_script.specs.JsonText.{Read, followed, ◌>>=◌}
use Rattle.qc_script.specs.Reading.{Fails}
use Rattle.qc_script.specs.ScriptText.{Counted, each_counted}
use Rattle.qc_script.proofs.Parts.{with_counted}
use Rattle.qc_script.proofs.Refusals.{fails_first}

split : (list : List Value) (i : ℕ) (x : Value) → i < length list → x ≡ get_or list i x → drop i list ≡ x ∷ drop (i + 1) list
split list i x below is = rw add-one (drop-cons list i x below ∙ ap (λ y. y ∷ drop (suc i) list) (sym is))

module _ {A : Type 0} (f : ℕ → Data → Counted A) where
  push : (front : List A) (y : A) (r : Counted (List A)) → with_counted front (r >>= λ rest. Ok (y ∷ rest.0, rest.1)) ≡ with_counted (front ++ y ∷ []) r
  unfolding followed
  push front y (Ok rest) = ap (λ (ys : List A). Ok (ys, rest.1)) (sym (append_assoc front (y ∷ []) rest.0))
  push front y (Err e) = refl

  onto : (next after : ℕ) (front : List A) (y : A) (d : Data) (ds : List Data) → f next d ≡ Ok (y, after) → with_counted front (each_counted f next (d ∷ ds)) ≡ with_counted (front ++ y ∷ []) (each_counted f after ds)
  unfolding followed
  onto next after front y d ds h =
      ap (λ (r : Counted A). with_counted front (r >>= λ x. each_counted f x.1 ds >>= λ rest. Ok (x.0 ∷ rest.0, rest.1))) h
      ∙ push front y (each_counted f after ds)

  -- one more element is read, seen so
  pub counted_next : {B : Type 0} (next after : ℕ) (seen : B → A) (front : List B) (y : B) (list : List Value) (i : ℕ) (x : Value) → i < length list → x ≡ get_or list i x → f next (view x) ≡ Ok (seen y, after) → with_counted (map seen front) (each_counted f next (map view (drop i list))) ≡ with_counted (map seen (front ++ y ∷ [])) (each_counted f after (map view (drop (i + 1) list)))
  counted_next next after seen front y list i x below is h =
      ap (λ (vs : List Value). with_counted (map seen front) (each_counted f next (map view vs))) (split list i x below is)
      ∙ onto next after (map seen front) (seen y) (view x) (map view (drop (i + 1) list)) h
      ∙ ap (λ (ys : List A). with_counted ys (each_counted f after (map view (drop (i + 1) list)))) (sym (map-append seen front (y ∷ [])))

  -- none is left
  pub counted_end : (next : ℕ) (front : List A) (list : List Value) (i : ℕ) → length list ≤ i → with_counted front (each_counted f next (map view (drop i list))) ≡ Ok (front, next)
  unfolding followed
  counted_end next front list i past =
      ap (λ (vs : List Value). with_counted front (each_counted f next (map view vs))) (drop_all i list past)
      ∙ ap (λ (ys : List A). Ok (ys, next)) (append-nil front)

  -- all are refused for what the next of them is
  pub counted_refused : (next : ℕ) (front : List A) (list : List Value) (i : ℕ) (x : Value) (e : BadScript) → i < length list → x ≡ get_or list i x → Fails e (f next (view x)) → Fails e (with_counted front (each_counted f next (map view (drop i list))))
  counted_refused next front list i x e below is fails =
      subst (λ (vs : List Value). Fails e (with_counted front (each_counted f next (map view vs)))) (sym (split list i x below is))
      (fails_first e _ _ (fails_first e _ _ fails))
