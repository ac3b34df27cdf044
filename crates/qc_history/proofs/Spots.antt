-- Nodes as spots: what a changed node changes, and that each child's place stays one.
use Rattle.std.proofs.Common.{◌≡◌, ℕ, zero, suc, ◌+◌, ◌<◌, ◌⊎◌, inl, inr, List, [], ◌∷◌, ◌++◌, length, get_or, refl, sym, ap, ◌∙◌, subst, arith}
use mathlib.Core.Bool.{true≢false}
use Rattle.std.specs.Prelude.{Option, None, Some, slice_get, slice_set, ◌==◌, Result, Ok, Err, OnErr}
use Rattle.std.proofs.lemmas.Bool.{cases_Bool, eqb-true, eq-eqb}
use Rattle.std.proofs.lemmas.List.{length-append, set-get_or}
use Rattle.std.proofs.lemmas.Option.{slice_get-get_or, same_Some, none-some}
use Rattle.qc_history.specs.declared.nodes.Node.{Node}
use Rattle.qc_history.specs.Spots.{Spot, spot, spots, new_spot, at, changed, with_child, AreWithin, AreFewer}
use Rattle.qc_event.proofs.Lists.{get_last}
use Rattle.qc_history.proofs.Placing.{get_other}

pub spots_set : (nodes : List Node) (i : ℕ) (n : Node) → spots (slice_set nodes i n) ≡ slice_set (spots nodes) i (spot n)
spots_set [] i n = refl
spots_set (m ∷ nodes) zero n = refl
spots_set (m ∷ nodes) (suc i) n = ap (λ xs. spot m ∷ xs) (spots_set nodes i n)

pub spot_at : (nodes : List Node) (i : ℕ) (d : Node) → i < length nodes → at (spots nodes) i ≡ spot (get_or nodes i d)
spot_at [] i d h = absurd (omega arith)
spot_at (m ∷ nodes) zero d h = refl
spot_at (m ∷ nodes) (suc i) d h = spot_at nodes i d (omega arith)

pub spots_last : (nodes : List Node) (n : Node) → spots (nodes ++ n ∷ []) ≡ spots nodes ++ spot n ∷ []
spots_last [] n = refl
spots_last (m ∷ nodes) n = ap (λ xs. spot m ∷ xs) (spots_last nodes n)

-- a node that is changed
pub node_changed : (nodes : List Node) (i : ℕ) (n d : Node) (f : Spot → Spot) → i < length nodes → spot n ≡ f (spot (get_or nodes i d)) → spots (slice_set nodes i n) ≡ changed (spots nodes) i f
node_changed nodes i n d f h is = spots_set nodes i n ∙ ap (slice_set (spots nodes) i) (is ∙ ap f (sym (spot_at nodes i d h)))

-- a node that stays as it was
pub node_kept : (nodes : List Node) (i : ℕ) (n d : Node) → i < length nodes → spot n ≡ spot (get_or nodes i d) → spots (slice_set nodes i n) ≡ spots nodes
node_kept nodes i n d h is = spots_set nodes i n ∙ ap (slice_set (spots nodes) i) (is ∙ sym (spot_at nodes i d h)) ∙ set-get_or (spots nodes) i (new_spot None)

pub on_err : {X Y : Type 0} (r : Result X Y) (P : Type 0) → P → OnErr r P
on_err (Ok x) P p = tt
on_err (Err e) P p = p

pub length_changed : (all : List Spot) (i : ℕ) (s : Spot) → length (slice_set all i s) ≡ length all
length_changed [] i s = refl
length_changed (x ∷ all) zero s = refl
length_changed (x ∷ all) (suc i) s = ap suc (length_changed all i s)

pub get_changed : (all : List Spot) (i j : ℕ) (s : Spot) → i ≡ j → i < length all → slice_get (slice_set all i s) j ≡ Some s
get_changed [] i j s is h = absurd (omega arith)
get_changed (x ∷ all) zero zero s is h = refl
get_changed (x ∷ all) zero (suc j) s is h = absurd (omega arith)
get_changed (x ∷ all) (suc i) zero s is h = absurd (omega arith)
get_changed (x ∷ all) (suc i) (suc j) s is h = get_changed all i j s (omega arith) (omega arith)

pub get_unchanged : (all : List Spot) (i j : ℕ) (s : Spot) → (i ≡ j → ⊥) → slice_get (slice_set all i s) j ≡ slice_get all j
get_unchanged [] i j s other = refl
get_unchanged (x ∷ all) zero zero s other = absurd (other refl)
get_unchanged (x ∷ all) zero (suc j) s other = refl
get_unchanged (x ∷ all) (suc i) zero s other = refl
get_unchanged (x ∷ all) (suc i) (suc j) s other = get_unchanged all i j s (λ is. other (omega arith))

-- a spot that keeps its children's places
abbrev pub KeepsChildren : (Spot → Spot) → Type 0
KeepsChildren f = (s : Spot) → (f s).children ≡ s.children

pub one_of : (i j : ℕ) → (i ≡ j) ⊎ (i ≡ j → ⊥)
one_of i j = elim (cases_Bool (i == j)) [ inl equal ↦ inl (eqb-true i j equal) | inr un ↦ inr (λ h. true≢false (sym (eq-eqb i j h) ∙ un)) ]

pub at_is : (all : List Spot) (i : ℕ) → i < length all → slice_get all i ≡ Some (at all i)
at_is all i h = slice_get-get_or all i (new_spot None) h

pub within_changed : (all : List Spot) (i : ℕ) (f : Spot → Spot) → KeepsChildren f → i < length all → AreWithin all → AreWithin (changed all i f)
within_changed all i f keeps h within = λ k s j c here child. subst (λ m. c < m) (sym (length_changed all i (f (at all i)))) (elim (one_of i k) [
  | inl same ↦
      let is : f (at all i) ≡ s = same_Some (f (at all i)) s (sym (get_changed all i k (f (at all i)) same h) ∙ here) in
      within i (at all i) j c (at_is all i h) (ap (λ xs. slice_get xs j) (sym (keeps (at all i)) ∙ ap (λ (x : Spot). x.children) is) ∙ child)
  | inr other ↦ within k s j c (sym (get_unchanged all i k (f (at all i)) other) ∙ here) child
])

pub fewer_changed : (all : List Spot) (i : ℕ) (f : Spot → Spot) → KeepsChildren f → i < length all → AreFewer all → AreFewer (changed all i f)
fewer_changed all i f keeps h fewer = λ k s here. subst (λ m. length s.children < m) (sym (length_changed all i (f (at all i)))) (elim (one_of i k) [
  | inl same ↦
      let is : f (at all i) ≡ s = same_Some (f (at all i)) s (sym (get_changed all i k (f (at all i)) same h) ∙ here) in
      subst (λ xs. length xs < length all) (sym (keeps (at all i)) ∙ ap (λ (x : Spot). x.children) is) (fewer i (at all i) (at_is all i h))
  | inr other ↦ fewer k s (sym (get_unchanged all i k (f (at all i)) other) ∙ here)
])

pub length_last_spot : (all : List Spot) (s : Spot) → length (all ++ s ∷ []) ≡ length all + 1
length_last_spot all s = length-append all (s ∷ [])

-- one spot more that has no children yet
pub within_more : (all : List Spot) (start : Option ℕ) → AreWithin all → AreWithin (all ++ new_spot start ∷ [])
within_more all start within = λ k s j c here child. elim (one_of k (length all)) [
  | inl last ↦
      let is : new_spot start ≡ s = same_Some (new_spot start) s (sym (get_last all (new_spot start) k last) ∙ here) in
      absurd (none-some c (ap (λ (x : Spot). slice_get x.children j) is ∙ child))
  | inr other ↦
      let n = within k s j c (sym (get_other all (new_spot start) k other) ∙ here) child in
      let l = length_last_spot all (new_spot start) in
      omega (arith, l, n)
]

pub fewer_more : (all : List Spot) (start : Option ℕ) → AreFewer all → AreFewer (all ++ new_spot start ∷ [])
fewer_more all start fewer = λ k s here. elim (one_of k (length all)) [
  | inl last ↦
      let is : new_spot start ≡ s = same_Some (new_spot start) s (sym (get_last all (new_spot start) k last) ∙ here) in
      subst (λ xs. length xs < length (all ++ new_spot start ∷ [])) (ap (λ (x : Spot). x.children) is) (let l = length_last_spot all (new_spot start) in omega (arith, l))
  | inr other ↦
      let n = fewer k s (sym (get_other all (new_spot start) k other) ∙ here) in
      let l = length_last_spot all (new_spot start) in
      omega (arith, l, n)
]

-- one spot more, which is a child's
module _ (all : List Spot) (i : ℕ) (start : Option ℕ) (h : i < length all) where
  abbrev mid : List Spot
  mid = changed all i (with_child (length all))

  abbrev parent : Spot
  parent = with_child (length all) (at all i)

  long : length (mid ++ new_spot start ∷ []) ≡ length all + 1
  long = length_last_spot mid (new_spot start) ∙ ap (λ n. n + 1) (length_changed all i parent)

  parent_is : (k : ℕ) (s : Spot) → i ≡ k → slice_get mid k ≡ Some s → parent ≡ s
  parent_is k s same here = same_Some parent s (sym (get_changed all i k parent same h) ∙ here)

  last_is : (k : ℕ) (s : Spot) → k ≡ length mid → slice_get (mid ++ new_spot start ∷ []) k ≡ Some s → new_spot start ≡ s
  last_is k s last here = same_Some (new_spot start) s (sym (get_last mid (new_spot start) k last) ∙ here)

  before : (k : ℕ) (s : Spot) → (k ≡ length mid → ⊥) → slice_get (mid ++ new_spot start ∷ []) k ≡ Some s → slice_get mid k ≡ Some s
  before k s other here = sym (get_other mid (new_spot start) k other) ∙ here

  elsewhere : (k : ℕ) (s : Spot) → (i ≡ k → ⊥) → slice_get mid k ≡ Some s → slice_get all k ≡ Some s
  elsewhere k s other here = sym (get_unchanged all i k parent other) ∙ here

  below : (c : ℕ) → c < length all + 1 → c < length (mid ++ new_spot start ∷ [])
  below c n = subst (λ m. c < m) (sym long) n

  pub within_child : AreWithin all → AreWithin (mid ++ new_spot start ∷ [])
  within_child within = λ k s j c here child. below c (elim (one_of k (length mid)) [
    | inl last ↦ absurd (none-some c (ap (λ (x : Spot). slice_get x.children j) (last_is k s last here) ∙ child))
    | inr more ↦ elim (one_of i k) [
      | inl same ↦
          let found : slice_get ((at all i).children ++ length all ∷ []) j ≡ Some c = ap (λ (x : Spot). slice_get x.children j) (parent_is k s same (before k s more here)) ∙ child in
          elim (one_of j (length (at all i).children)) [
            | inl last ↦ let is : length all ≡ c = same_Some (length all) c (sym (get_last (at all i).children (length all) j last) ∙ found) in omega (arith, is)
            | inr other ↦ let n = within i (at all i) j c (at_is all i h) (sym (get_other (at all i).children (length all) j other) ∙ found) in omega (arith, n)
          ]
      | inr other ↦ let n = within k s j c (elsewhere k s other (before k s more here)) child in omega (arith, n)
    ]
  ])

  pub fewer_child : AreFewer all → AreFewer (mid ++ new_spot start ∷ [])
  fewer_child fewer = λ k s here. below (length s.children) (elim (one_of k (length mid)) [
    | inl last ↦ let none : 0 ≡ length s.children = ap (λ (x : Spot). length x.children) (last_is k s last here) in omega (arith, none)
    | inr more ↦ elim (one_of i k) [
      | inl same ↦
          let longer : length ((at all i).children ++ length all ∷ []) ≡ length s.children = ap (λ (x : Spot). length x.children) (parent_is k s same (before k s more here)) in
          let n = fewer i (at all i) (at_is all i h) in
          omega (arith, longer, n, length-append (at all i).children (length all ∷ []))
      | inr other ↦ let n = fewer k s (elsewhere k s other (before k s more here)) in omega (arith, n)
    ]
  ])
