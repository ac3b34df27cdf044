-- Reads tell what the copies have and change nothing; puts of one operation change each copy that gave one, once.
use mathlib.Core.Bool.{true≢false}
use Rattle.std.proofs.Common.{◌≡◌, ◌≢◌, ℕ, ◌+◌, ◌<◌, ◌==◌, true, false, List, [], ◌∷◌, ◌++◌, length, refl, sym, ap, ◌∙◌, subst, inl, inr, arith, set, get_or, get_or-set_same, get_or-set_other}
use Rattle.std.specs.Prelude.{All}
use Rattle.std.proofs.lemmas.Bool.{cases_Bool, or_cases, or_parts, eqb-true, eq-eqb}
use Rattle.std.proofs.lemmas.List.{length-set, set-get_or}
use Rattle.std.proofs.lemmas.List.Elements.{All-nil, All-cons, All-head, All-tail, All-get_or}
use Rattle.std.proofs.lemmas.List.FromFn.{get_or-range_with_len}
use Rattle.qc_config.specs.Copies.{has}
use Rattle.qc_config.specs.Tuple.{after}
use Rattle.qc_config.specs.declared.tuple.Op.{Op}
use Rattle.qc_config.specs.declared.tuple.Op.TheVariants.{Get}
use Rattle.qc_config.specs.declared.tuple.Tuple.{Tuple}
use Rattle.qc_event.specs.Base.{no_tuple}
use Rattle.qc_event.specs.History.{Given}
use Rattle.qc_event.specs.Manager.{all_copies}
use Rattle.qc_refine.specs.Completed.{tuple_at, after_one, after_all, FindsThere, Within, replies, has_given, marks_of, Each}
use Rattle.qc_refine.proofs.Copies.Meet.{marked}

abbrev pub Below : ℕ → Given → Type 0
Below copies g = g.copy < copies

abbrev Asks : Op → Given → Type 0
Asks op g = g.grant.op ≡ op

-- a marked copy gave a grant
pub marked_given : (gs : List Given) (c : ℕ) → has (marks_of gs) c ≡ true → has_given gs c ≡ true
marked_given gs c h =
    let p = marked (has_given gs) all_copies 0 c h in
    let e : get_or all_copies c 0 ≡ c = get_or-range_with_len 0 16 c 0 p.within ∙ zero_plus c in
    subst (λ x. has_given gs x ≡ true) e p.passes
  where
    zero_plus : (n : ℕ) → 0 + n ≡ n
    zero_plus n = omega arith

pub given_within : (gs : List Given) (n c : ℕ) → Within n gs → has_given gs c ≡ true → c < n
given_within [] n c within h = absurd (true≢false (sym h))
given_within (g ∷ gs) n c within h = elim (or_cases (g.copy == c) (has_given gs c) h) [
  | inl e ↦ subst (λ x. x < n) (eqb-true g.copy c e) (All-head (Below n) g gs within)
  | inr rest ↦ given_within gs n c (All-tail (Below n) g gs within) rest
]

pub front_within : (n : ℕ) (front back : List Given) → Within n (front ++ back) → Within n front
front_within n [] back within = All-nil (Below n)
front_within n (g ∷ front) back within =
    All-cons (Below n) g front (All-head (Below n) g (front ++ back) within) (front_within n front back (All-tail (Below n) g (front ++ back) within))

pub back_within : (n : ℕ) (front back : List Given) → Within n (front ++ back) → Within n back
back_within n [] back within = within
back_within n (g ∷ front) back within = back_within n front back (All-tail (Below n) g (front ++ back) within)

-- READS

pub read_keeps : (tuples : List Tuple) (g : Given) → g.grant.op ≡ Get → after_one tuples g ≡ tuples
read_keeps tuples g read = ap (λ op. set tuples g.copy (after (tuple_at tuples g.copy) op)) read ∙ set-get_or tuples g.copy no_tuple

pub reads_keep : (tuples : List Tuple) (gets : List Given) → Each Get gets → after_all tuples gets ≡ tuples
reads_keep tuples [] reads = refl
reads_keep tuples (g ∷ gets) reads =
    ap (λ ts. after_all ts gets) (read_keeps tuples g (All-head (Asks Get) g gets reads))
    ∙ reads_keep tuples gets (All-tail (Asks Get) g gets reads)

read_tells : (tuples : List Tuple) (g : Given) (gets : List Given) → Each Get (g ∷ gets) → FindsThere tuples (g ∷ gets) → g.grant.tuple ≡ tuple_at tuples g.copy
read_tells tuples g gets reads finds = finds.0 ∙ ap (λ op. after (tuple_at tuples g.copy) op) (All-head (Asks Get) g gets reads)

read_rest : (tuples : List Tuple) (g : Given) (gets : List Given) → Each Get (g ∷ gets) → FindsThere tuples (g ∷ gets) → FindsThere tuples gets
read_rest tuples g gets reads finds = subst (λ ts. FindsThere ts gets) (read_keeps tuples g (All-head (Asks Get) g gets reads)) finds.1

-- what holds of each copy's tuple holds of each reply
pub replies_are : (P : Tuple → Type 0) (tuples : List Tuple) (gets : List Given) → Each Get gets → Within (length tuples) gets → FindsThere tuples gets → All P tuples → All P (replies gets)
replies_are P tuples [] reads within finds all = All-nil P
replies_are P tuples (g ∷ gets) reads within finds all =
    let here = All-get_or P tuples g.copy no_tuple (All-head (Below (length tuples)) g gets within) all in
    All-cons P g.grant.tuple (replies gets)
    (subst P (sym (read_tells tuples g gets reads finds)) here)
    (replies_are P tuples gets (All-tail (Asks Get) g gets reads) (All-tail (Below (length tuples)) g gets within) (read_rest tuples g gets reads finds) all)

-- what holds of each reply holds of the tuple of each copy that replied
pub replied_is : (P : Tuple → Type 0) (tuples : List Tuple) (gets : List Given) (c : ℕ) → Each Get gets → FindsThere tuples gets → All P (replies gets) → has_given gets c ≡ true → P (tuple_at tuples c)
replied_is P tuples [] c reads finds all h = absurd (true≢false (sym h))
replied_is P tuples (g ∷ gets) c reads finds all h = elim (or_cases (g.copy == c) (has_given gets c) h) [
  | inl e ↦ subst P (read_tells tuples g gets reads finds ∙ ap (tuple_at tuples) (eqb-true g.copy c e)) (All-head P g.grant.tuple (replies gets) all)
  | inr rest ↦ replied_is P tuples gets c (All-tail (Asks Get) g gets reads) (read_rest tuples g gets reads finds) (All-tail P g.grant.tuple (replies gets) all) rest
]

-- what the first grants find
pub finds_front : (tuples : List Tuple) (front back : List Given) → FindsThere tuples (front ++ back) → FindsThere tuples front
finds_front tuples [] back finds = tt
finds_front tuples (g ∷ front) back finds = (finds.0, finds_front (after_one tuples g) front back finds.1)

-- PUTS

-- the tuples after an operation at each copy that gave a grant
pub record Changed (op : Op) (gs : List Given) (tuples later : List Tuple) : Type 0 where
  pub same_length : length later ≡ length tuples
  pub inside : (c : ℕ) → c < length tuples → has_given gs c ≡ true → tuple_at later c ≡ after (tuple_at tuples c) op
  pub outside : (c : ℕ) → has_given gs c ≡ false → tuple_at later c ≡ tuple_at tuples c

one_length : (tuples : List Tuple) (g : Given) → length (after_one tuples g) ≡ length tuples
one_length tuples g = length-set tuples g.copy (after (tuple_at tuples g.copy) g.grant.op)

one_here : (tuples : List Tuple) (g : Given) (c : ℕ) → c < length tuples → g.copy ≡ c → tuple_at (after_one tuples g) c ≡ after (tuple_at tuples c) g.grant.op
one_here tuples g c within is =
    subst (λ x. tuple_at (set tuples x (after (tuple_at tuples x) g.grant.op)) c ≡ after (tuple_at tuples c) g.grant.op) (sym is)
    (get_or-set_same tuples c (after (tuple_at tuples c) g.grant.op) no_tuple within)

one_elsewhere : (tuples : List Tuple) (g : Given) (c : ℕ) → c ≢ g.copy → tuple_at (after_one tuples g) c ≡ tuple_at tuples c
one_elsewhere tuples g c other = get_or-set_other tuples g.copy c (after (tuple_at tuples g.copy) g.grant.op) no_tuple other

given_no_more : (tuples : List Tuple) (g : Given) (c : ℕ) → (g.copy == c) ≡ false → tuple_at (after_one tuples g) c ≡ tuple_at tuples c
given_no_more tuples g c differs = one_elsewhere tuples g c (λ e. true≢false (sym (eq-eqb g.copy c (sym e)) ∙ differs))

put_more : (op : Op) (g : Given) (puts : List Given) (tuples : List Tuple) → ((t : Tuple) → after (after t op) op ≡ after t op) → Asks op g → Changed op puts (after_one tuples g) (after_all tuples (g ∷ puts)) → Changed op (g ∷ puts) tuples (after_all tuples (g ∷ puts))
put_more op g puts tuples twice asks rest = record {
  same_length = rest.same_length ∙ one_length tuples g;
  inside = here;
  outside = λ c h. let p = or_parts (g.copy == c) (has_given puts c) h in rest.outside c p.1 ∙ given_no_more tuples g c p.0;
}
  where
    longer : (c : ℕ) → c < length tuples → c < length (after_one tuples g)
    longer c lt = let e = one_length tuples g in omega arith

    first_one : (c : ℕ) → c < length tuples → g.copy ≡ c → tuple_at (after_one tuples g) c ≡ after (tuple_at tuples c) op
    first_one c lt is = one_here tuples g c lt is ∙ ap (λ o. after (tuple_at tuples c) o) asks

    again : (c : ℕ) → c < length tuples → g.copy ≡ c → tuple_at (after_all tuples (g ∷ puts)) c ≡ after (tuple_at tuples c) op
    again c lt is = elim (cases_Bool (has_given puts c)) [
      | inl h ↦ rest.inside c (longer c lt) h ∙ ap (λ t. after t op) (first_one c lt is) ∙ twice (tuple_at tuples c)
      | inr none ↦ rest.outside c none ∙ first_one c lt is
    ]

    here : (c : ℕ) → c < length tuples → has_given (g ∷ puts) c ≡ true → tuple_at (after_all tuples (g ∷ puts)) c ≡ after (tuple_at tuples c) op
    here c lt h = elim (cases_Bool (g.copy == c)) [
      | inl same ↦ again c lt (eqb-true g.copy c same)
      | inr differs ↦ elim (or_cases (g.copy == c) (has_given puts c) h) [
        | inl same ↦ again c lt (eqb-true g.copy c same)
        | inr later ↦ rest.inside c (longer c lt) later ∙ ap (λ t. after t op) (given_no_more tuples g c differs)
      ]
    ]

pub puts_change : (op : Op) (puts : List Given) (tuples : List Tuple) → ((t : Tuple) → after (after t op) op ≡ after t op) → Each op puts → Changed op puts tuples (after_all tuples puts)
puts_change op [] tuples twice each = record { same_length = refl; inside = λ c lt h. absurd (true≢false (sym h)); outside = λ c h. refl }
puts_change op (g ∷ puts) tuples twice each =
    put_more op g puts tuples twice (All-head (Asks op) g puts each) (puts_change op puts (after_one tuples g) twice (All-tail (Asks op) g puts each))

-- a field that the operation leaves alone
pub field_stays : {A : Type 0} (field : Tuple → A) (op : Op) (gs : List Given) (tuples later : List Tuple) → Changed op gs tuples later → ((t : Tuple) → field (after t op) ≡ field t) → (c : ℕ) → c < length tuples → field (tuple_at later c) ≡ field (tuple_at tuples c)
field_stays field op gs tuples later changed stays c lt = elim (cases_Bool (has_given gs c)) [
  | inl h ↦ ap field (changed.inside c lt h) ∙ stays (tuple_at tuples c)
  | inr none ↦ ap field (changed.outside c none)
]
