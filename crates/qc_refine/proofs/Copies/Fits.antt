-- Tuples up to a version that have one value where they have it, and what grants keep of them.
use Rattle.std.proofs.Common.{◌≡◌, ℕ, ◌<◌, ◌≤◌, false, List, [], ◌∷◌, length, refl, sym, ap, ◌∙◌, subst, inl, inr, arith, set, get_or-set_same, get_or-set_other}
use Rattle.std.specs.Prelude.{All}
use Rattle.std.proofs.lemmas.Bool.{cases_eq}
use Rattle.std.proofs.lemmas.List.{length-set}
use Rattle.std.proofs.lemmas.List.Elements.{All-nil, All-cons, All-head, All-tail, All-get_or, All-from_get_or, All-set}
use Rattle.qc_config.specs.Config.{Voting}
use Rattle.qc_config.specs.Tuple.{after}
use Rattle.qc_config.specs.Val.{Datum}
use Rattle.qc_config.specs.declared.tuple.Op.{Op}
use Rattle.qc_config.specs.declared.tuple.Op.TheVariants.{Get, PutData, PutConfig}
use Rattle.qc_config.specs.declared.tuple.Tuple.{Tuple}
use Rattle.qc_event.specs.Base.{no_tuple}
use Rattle.qc_event.specs.Clear.{is_get}
use Rattle.qc_event.specs.History.{Given}
use Rattle.qc_event.specs.Sound.{Carries, HasValue, greatest_version}
use Rattle.qc_refine.specs.Completed.{FindsThere, Within, tuple_at, after_one, after_all}
use Rattle.qc_refine.proofs.Copies.Folds.{version_bounds}
use Rattle.qc_refine.proofs.Copies.Grants.{Below}

-- A tuple is not above a version, and has the value where it is at it.
abbrev pub Fits : ℕ → Datum → Tuple → Type 0
Fits version value t = (t.version ≤ version) × HasValue version value t

-- tuples that carry a value fit
pub carried_fit : (first : Voting) (tuples : List Tuple) (value : Datum) → Carries first tuples value → All (Fits (greatest_version tuples) value) tuples
carried_fit first tuples value carried =
    All-from_get_or (Fits (greatest_version tuples) value) tuples no_tuple
    (λ c lt. (version_bounds tuples c lt, All-get_or (HasValue (greatest_version tuples) value) tuples c no_tuple lt carried.values))

-- After an operation a tuple fits that did before, and it is still at the version.
pub record Suits (version : ℕ) (value : Datum) (op : Op) : Type 0 where
  pub fits : (t : Tuple) → Fits version value t → Fits version value (after t op)
  pub stays : (t : Tuple) → t.version ≡ version → (after t op).version ≡ version

pub get_suits : (version : ℕ) (value : Datum) → Suits version value Get
get_suits version value = record { fits = λ t fit. fit; stays = λ t at. at }

pub put_suits : (version : ℕ) (value : Datum) → Suits version value (PutData version value)
put_suits version value = record { fits = λ t fit. (omega arith, λ at. refl); stays = λ t at. refl }

pub move_suits : (version : ℕ) (value : Datum) (generation : ℕ) (config : Voting) → Suits version value (PutConfig generation config)
move_suits version value generation config = record { fits = λ t fit. fit; stays = λ t at. at }

abbrev pub AllSuit : ℕ → Datum → List Given → Type 0
AllSuit version value gs = All (λ (g : Given). Suits version value g.grant.op) gs

-- the copies are as many after a grant
within_after : (tuples : List Tuple) (g : Given) (gs : List Given) → Within (length tuples) (g ∷ gs) → Within (length (after_one tuples g)) gs
within_after tuples g gs within =
    subst (λ n. Within n gs) (sym (length-set tuples g.copy (after (tuple_at tuples g.copy) g.grant.op))) (All-tail (Below (length tuples)) g gs within)

-- what a put left has the property
abbrev pub PutIs : (Tuple → Type 0) → Given → Type 0
PutIs P g = is_get g.grant.op ≡ false → P g.grant.tuple

-- what holds of the tuples, and of what each put left, holds of what is left
pub left_are : (P : Tuple → Type 0) (tuples : List Tuple) (gs : List Given) → Within (length tuples) gs → FindsThere tuples gs → All (PutIs P) gs → All P tuples → All P (after_all tuples gs)
left_are P tuples [] within finds puts all = all
left_are P tuples (g ∷ gs) within finds puts all =
    left_are P (after_one tuples g) gs (within_after tuples g gs within) finds.1 (All-tail (PutIs P) g gs puts)
    (All-set P tuples g.copy (after (tuple_at tuples g.copy) g.grant.op) (by_op g.grant.op refl) all)
  where
    before : P (tuple_at tuples g.copy)
    before = All-get_or P tuples g.copy no_tuple (All-head (Below (length tuples)) g gs within) all

    put : is_get g.grant.op ≡ false → P (after (tuple_at tuples g.copy) g.grant.op)
    put is = subst P finds.0 (All-head (PutIs P) g gs puts is)

    by_op : (op : Op) → g.grant.op ≡ op → P (after (tuple_at tuples g.copy) g.grant.op)
    by_op Get is = subst (λ op. P (after (tuple_at tuples g.copy) op)) (sym is) before
    by_op (PutData version value) is = put (ap is_get is)
    by_op (PutConfig generation config) is = put (ap is_get is)

module _ (version : ℕ) (value : Datum) where
  abbrev SuitsOne : Given → Type 0
  SuitsOne g = Suits version value g.grant.op

  one_fits : (tuples : List Tuple) (g : Given) (gs : List Given) → Within (length tuples) (g ∷ gs) → AllSuit version value (g ∷ gs) → All (Fits version value) tuples → Fits version value (after (tuple_at tuples g.copy) g.grant.op)
  one_fits tuples g gs within suits all =
      (All-head SuitsOne g gs suits).fits (tuple_at tuples g.copy)
      (All-get_or (Fits version value) tuples g.copy no_tuple (All-head (Below (length tuples)) g gs within) all)

  all_fit : (tuples : List Tuple) (g : Given) (gs : List Given) → Within (length tuples) (g ∷ gs) → AllSuit version value (g ∷ gs) → All (Fits version value) tuples → All (Fits version value) (after_one tuples g)
  all_fit tuples g gs within suits all =
      All-set (Fits version value) tuples g.copy (after (tuple_at tuples g.copy) g.grant.op) (one_fits tuples g gs within suits all) all

  -- each grant's tuple fits
  pub given_fit : (tuples : List Tuple) (gs : List Given) → Within (length tuples) gs → FindsThere tuples gs → AllSuit version value gs → All (Fits version value) tuples → All (λ (g : Given). Fits version value g.grant.tuple) gs
  given_fit tuples [] within finds suits all = All-nil _
  given_fit tuples (g ∷ gs) within finds suits all =
      All-cons (λ (x : Given). Fits version value x.grant.tuple) g gs
      (subst (Fits version value) (sym finds.0) (one_fits tuples g gs within suits all))
      (given_fit (after_one tuples g) gs (within_after tuples g gs within) finds.1 (All-tail SuitsOne g gs suits) (all_fit tuples g gs within suits all))

  -- and each tuple that is left
  pub left_fit : (tuples : List Tuple) (gs : List Given) → Within (length tuples) gs → AllSuit version value gs → All (Fits version value) tuples → All (Fits version value) (after_all tuples gs)
  left_fit tuples [] within suits all = all
  left_fit tuples (g ∷ gs) within suits all =
      left_fit (after_one tuples g) gs (within_after tuples g gs within) (All-tail SuitsOne g gs suits) (all_fit tuples g gs within suits all)

  -- a copy at the version stays at it
  pub copy_stays : (tuples : List Tuple) (gs : List Given) (c : ℕ) → c < length tuples → AllSuit version value gs → (tuple_at tuples c).version ≡ version → (tuple_at (after_all tuples gs) c).version ≡ version
  copy_stays tuples [] c lt suits at = at
  copy_stays tuples (g ∷ gs) c lt suits at =
      copy_stays (after_one tuples g) gs c (let l = length-set tuples g.copy changed in omega (arith, l, lt)) (All-tail SuitsOne g gs suits) (elim (cases_eq c g.copy) [
        | inl same ↦ subst (λ x. (tuple_at (set tuples x (after (tuple_at tuples x) g.grant.op)) c).version ≡ version) same here
        | inr other ↦ ap (λ (t : Tuple). t.version) (get_or-set_other tuples g.copy c changed no_tuple other) ∙ at
      ])
    where
      changed : Tuple
      changed = after (tuple_at tuples g.copy) g.grant.op

      here : (tuple_at (set tuples c (after (tuple_at tuples c) g.grant.op)) c).version ≡ version
      here =
          ap (λ (t : Tuple). t.version) (get_or-set_same tuples c (after (tuple_at tuples c) g.grant.op) no_tuple lt)
          ∙ (All-head SuitsOne g gs suits).stays (tuple_at tuples c) at
