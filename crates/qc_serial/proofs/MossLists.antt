-- Lists of grants: what they leave, and one list set into another.
use Rattle.std.proofs.Common.{ℕ, ◌≡◌, ◌==◌, ◌&&◌, Bool, true, cond, List, [], ◌∷◌, ◌++◌, refl, sym, ap, ◌∙◌, inl, inr, ◌⊎◌}
use Rattle.std.proofs.lemmas.Bool.{eqb-true, and_parts, cases_Bool, cond-true, cond-false, and_from, eq-eqb}
use Rattle.qc_config.specs.declared.tuple.Tuple.{Tuple}
use Rattle.qc_config.specs.declared.tuple.Op.{Op}
use Rattle.qc_config.specs.declared.tuple.Op.TheVariants.{Get, PutData, PutConfig}
use Rattle.qc_config.specs.Tuple.{after}
use Rattle.qc_event.specs.History.{Given}
use Rattle.qc_serial.proofs.MossNames.{Line}
use Rattle.qc_serial.proofs.MossMoves.{Place, same_place, place_of, access_of, is_put, left_by}
use Rattle.qc_serial.proofs.MossLocks.{In}
use Rattle.qc_serial.proofs.MossSerial.{Chain}

pub in-append : (g : Given) (xs ys : List Given) → In g (xs ++ ys) → In g xs ⊎ In g ys
in-append g [] ys i = inr i
in-append g (x ∷ xs) ys (inl e) = inl (inl e)
in-append g (x ∷ xs) ys (inr i) = elim (in-append g xs ys i) [ inl a ↦ inl (inr a) | inr b ↦ inr b ]

pub in-left : (g : Given) (xs ys : List Given) → In g xs → In g (xs ++ ys)
in-left g [] ys i = absurd i
in-left g (x ∷ xs) ys (inl e) = inl e
in-left g (x ∷ xs) ys (inr i) = inr (in-left g xs ys i)

pub in-right : (g : Given) (xs ys : List Given) → In g ys → In g (xs ++ ys)
in-right g [] ys i = i
in-right g (x ∷ xs) ys i = inr (in-right g xs ys i)

-- no put at the place is in the list
abbrev pub NoPut : Place → List Given → Type 0
NoPut place gs = (g : Given) → In g gs → place_of g ≡ place → is_put g.grant.op ≡ true → ⊥

pub same_place-true : (a b : Place) → same_place a b ≡ true → a ≡ b
same_place-true a b e =
    let parts = and_parts (a.copy == b.copy) (a.rec == b.rec) e in
    let c : a.copy ≡ b.copy = eqb-true a.copy b.copy parts.0 in
    let r : a.rec ≡ b.rec = eqb-true a.rec b.rec parts.1 in
    ap (λ (x : ℕ). at_both x a.rec) c ∙ ap (λ (x : ℕ). at_both b.copy x) r
  where
    at_both : ℕ → ℕ → Place
    at_both x y = record { copy = x; rec = y }

pub same_place-from : (a b : Place) → a ≡ b → same_place a b ≡ true
same_place-from a b e = and_from (a.copy == b.copy) (a.rec == b.rec) (eq-eqb a.copy b.copy (ap (λ (x : Place). x.copy) e)) (eq-eqb a.rec b.rec (ap (λ (x : Place). x.rec) e))

pub cases_place : (a b : Place) → (a ≡ b) ⊎ (a ≡ b → ⊥)
cases_place a b = elim (cases_Bool (same_place a b)) [
  | inl t ↦ inl (same_place-true a b t)
  | inr f ↦ inr (λ e. let t : same_place a b ≡ true = same_place-from a b e in cc)
]

pub record HasPut (place : Place) (gs : List Given) : Type 0 where
  pub which : Given
  pub member : In which gs
  pub here : place_of which ≡ place
  pub put : is_put which.grant.op ≡ true

more_put : (place : Place) (g : Given) (gs : List Given) → HasPut place gs → HasPut place (g ∷ gs)
more_put place g gs x = record { which = x.which; member = inr x.member; here = x.here; put = x.put }

none_more : (place : Place) (g : Given) (gs : List Given) → NoPut place gs → (place_of g ≡ place → is_put g.grant.op ≡ true → ⊥) → NoPut place (g ∷ gs)
none_more place g gs rest first = λ x i at put. elim i [
  | inl e ↦ first (ap (λ (y : Given). place_of y) (sym e) ∙ at) (ap (λ (y : Given). is_put y.grant.op) (sym e) ∙ put)
  | inr j ↦ rest x j at put
]

pub cases_put : (place : Place) (gs : List Given) → HasPut place gs ⊎ NoPut place gs
cases_put place [] = inr (λ g i at put. i)
cases_put place (g ∷ gs) = elim (cases_put place gs) [
  | inl x ↦ inl (more_put place g gs x)
  | inr none ↦ elim (cases_place (place_of g) place) [
    | inr ne ↦ inr (none_more place g gs none (λ at put. ne at))
    | inl at ↦ elim (cases_Bool (is_put g.grant.op)) [
      | inl put ↦ inl (record { which = g; member = inl refl; here = at; put = put })
      | inr get ↦ inr (none_more place g gs none (λ _ put. let q = put in cc))
    ]
  ]
]

after_get : (t : Tuple) (op : Op) → (is_put op ≡ true → ⊥) → after t op ≡ t
after_get t Get h = refl
after_get t (PutData n v) h = absurd (h refl)
after_get t (PutConfig n c) h = absurd (h refl)

pub left-skip : (base : Place → Tuple) (p : Line → Bool) (g : Given) (gs : List Given) (place : Place) → (place_of g ≡ place → is_put g.grant.op ≡ true → ⊥) → left_by base p (g ∷ gs) place ≡ left_by base p gs place
left-skip base p g gs place h =
    let rest = left_by base p gs place in
    elim (cases_Bool ((same_place (place_of g) place) && p (access_of g))) [
      | inl t ↦ cond-true _ (after rest g.grant.op) rest t ∙ after_get rest g.grant.op (h (same_place-true (place_of g) place (and_parts (same_place (place_of g) place) (p (access_of g)) t).0))
      | inr f ↦ cond-false _ (after rest g.grant.op) rest f
    ]

pub left-none : (base : Place → Tuple) (p : Line → Bool) (zs gs : List Given) (place : Place) → NoPut place zs → left_by base p (zs ++ gs) place ≡ left_by base p gs place
left-none base p [] gs place n = refl
left-none base p (z ∷ zs) gs place n =
    left-skip base p z (zs ++ gs) place (n z (inl refl)) ∙ left-none base p zs gs place (λ g i. n g (inr i))

pub left-over : (base : Place → Tuple) (p : Line → Bool) (ys xs xs' : List Given) (place : Place) → left_by base p xs place ≡ left_by base p xs' place → left_by base p (ys ++ xs) place ≡ left_by base p (ys ++ xs') place
left-over base p [] xs xs' place e = e
left-over base p (y ∷ ys) xs xs' place e =
    ap (λ (s : Tuple). cond ((same_place (place_of y) place) && p (access_of y)) (after s y.grant.op) s) (left-over base p ys xs xs' place e)

-- only what the tests say of the puts there counts
pub left-tests : (base : Place → Tuple) (p q : Line → Bool) (gs : List Given) (place : Place) → ((b : Given) → In b gs → place_of b ≡ place → is_put b.grant.op ≡ true → p (access_of b) ≡ q (access_of b)) → left_by base p gs place ≡ left_by base q gs place
left-tests base p q [] place h = refl
left-tests base p q (g ∷ gs) place h =
    let rest = left-tests base p q gs place (λ b i. h b (inr i)) in
    elim (cases_put place (g ∷ [])) [
      | inr none ↦ left-skip base p g gs place (none g (inl refl)) ∙ rest ∙ sym (left-skip base q g gs place (none g (inl refl)))
      | inl some ↦ elim some.member [
        | inr i ↦ absurd i
        | inl e ↦
            let at : place_of g ≡ place = ap (λ (y : Given). place_of y) (sym e) ∙ some.here in
            let put : is_put g.grant.op ≡ true = ap (λ (y : Given). is_put y.grant.op) (sym e) ∙ some.put in
            let same = h g (inl refl) at put in
            ap (λ (s : Tuple). cond ((same_place (place_of g) place) && p (access_of g)) (after s g.grant.op) s) rest
            ∙ ap (λ (t : Bool). cond ((same_place (place_of g) place) && t) (after (left_by base q gs place) g.grant.op) (left_by base q gs place)) same
      ]
    ]

pub left-put : (base : Place → Tuple) (p : Line → Bool) (g : Given) (gs : List Given) (place : Place) → place_of g ≡ place → p (access_of g) ≡ true → left_by base p (g ∷ gs) place ≡ after (left_by base p gs place) g.grant.op
left-put base p g gs place at open_ =
    cond-true ((same_place (place_of g) place) && p (access_of g)) (after (left_by base p gs place) g.grant.op) (left_by base p gs place) (and_from (same_place (place_of g) place) (p (access_of g)) (same_place-from (place_of g) place at) open_)

pub left-hidden : (base : Place → Tuple) (p : Line → Bool) (g : Given) (gs : List Given) (place : Place) → (p (access_of g) ≡ true → ⊥) → left_by base p (g ∷ gs) place ≡ left_by base p gs place
left-hidden base p g gs place h =
    let rest = left_by base p gs place in
    elim (cases_Bool ((same_place (place_of g) place) && p (access_of g))) [
      | inl t ↦ absurd (h (and_parts (same_place (place_of g) place) (p (access_of g)) t).1)
      | inr f ↦ cond-false _ (after rest g.grant.op) rest f
    ]

-- two runs that begin alike, of which one puts nothing where the other looks, make one run
pub chain-insert : (base : Place → Tuple) (ys zs xs : List Given) → Chain base (ys ++ xs) → Chain base (zs ++ xs) → ((y : Given) → In y ys → NoPut (place_of y) zs) → Chain base (ys ++ (zs ++ xs))
chain-insert base [] zs xs cy cz apart = cz
chain-insert base (y ∷ ys) zs xs cy cz apart =
    let same = left-over base (λ n. true) ys (zs ++ xs) xs (place_of y) (left-none base (λ n. true) zs xs (place_of y) (apart y (inl refl))) in
    (cy.0 ∙ ap (λ (s : Tuple). after s y.grant.op) (sym same), chain-insert base ys zs xs cy.1 cz (λ g i. apart g (inr i)))
