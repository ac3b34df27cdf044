-- The places of logged tops, with one more; and what they keep, by their places.
use Rattle.std.proofs.Common.{◌≡◌, inl, inr, ℕ, ◌+◌, ◌<◌, List, [], ◌∷◌, ◌++◌, length, get_or, drop, take, refl, sym, ap, ◌∙◌, subst, arith, length-append}
use mathlib.Core.Bool.{true≢false}
use Rattle.std.specs.Prelude.{◌==◌, ◌&&◌, Bool, true, false, not, None, Some, slice_get}
use Rattle.std.specs.List.{list_any}
use Rattle.std.specs.BTreeMap.{BTreeMap, Updates, get, is_at}
use Rattle.std.specs.Ordering.{nat_cmp}
use Rattle.std.proofs.Math.Seq.{get_or-append_seam}
use Rattle.std.proofs.lemmas.Bool.{and_parts, cases_eq, cases_lt, eqb-true, false_from_ne_true}
use Rattle.std.proofs.lemmas.List.{get_or_append_left, get_or_default, length-take-le, take_more}
use Rattle.std.proofs.lemmas.List.Elements.{All-push}
use Rattle.std.proofs.lemmas.List.Folds.{list_any_at, list_any_none}
use Rattle.std.proofs.lemmas.Option.{none-some, same_Some}
use Rattle.std.specs.Map.{lookup}
use Rattle.qc_history.proofs.Finding.{only_root, first_and_rest}
use Rattle.qc_ledger.proofs.Numbers.{is_at_apart}
use Rattle.qc_names.specs.Name as name
use Rattle.qc_names.specs.Padded.{head_of}
use Rattle.qc_event.specs.History.{Name}
use Rattle.qc_codec.specs.Restored.{is_kept, keeps}
use Rattle.qc_codec.specs.declared.past.Logged.{Logged}
use Rattle.qc_site.specs.Places.{ArePlaces}

-- NAMES OF ONE NUMBER

not_above_root : (top : Name) → length top ≡ 1 → name.is_ancestor top [] ≡ false
not_above_root [] one = absurd (omega (arith, one))
not_above_root (x ∷ top) one = refl

above_is : (top : Name) (n : ℕ) (rest : Name) → length top ≡ 1 → name.is_ancestor top (n ∷ rest) ≡ true → top ≡ n ∷ []
above_is [] n rest one above = absurd (omega (arith, one))
above_is (x ∷ []) n rest one above = ap (λ k. k ∷ []) (eqb-true x n (and_parts (x == n) (name.is_ancestor [] rest) above).0)
above_is (x ∷ y ∷ top) n rest one above = absurd (omega (arith, one))

-- WHAT TOPS KEEP

bool_is : (b c : Bool) → (b ≡ true → c ≡ true) → (b ≡ false → c ≡ false) → c ≡ b
bool_is true c when unless = when refl
bool_is false c when unless = unless refl

module _ (places : BTreeMap ℕ ℕ) (tops : List Logged) (are : ArePlaces places tops) where
  pub kept_root : is_kept tops [] ≡ false
  kept_root = list_any_none (keeps []) tops (λ k d within. ap (λ b. b && not (list_any (λ a. name.is_ancestor a []) (get_or tops k d).aborted)) (not_above_root (get_or tops k d).top (are.single k d within)))

  -- a top that keeps an access is that of its number
  number_of : (n : ℕ) (rest : Name) (k : ℕ) (d : Logged) → k < length tops → keeps (n ∷ rest) (get_or tops k d) ≡ true → get nat_cmp places n ≡ Some k
  number_of n rest k d within kept = are.each n k d within (above_is (get_or tops k d).top n rest (are.single k d within) (and_parts (name.is_ancestor (get_or tops k d).top (n ∷ rest)) (not (list_any (λ a. name.is_ancestor a (n ∷ rest)) (get_or tops k d).aborted)) kept).0)

  pub kept_nowhere : (n : ℕ) (rest : Name) → get nat_cmp places n ≡ None → is_kept tops (n ∷ rest) ≡ false
  kept_nowhere n rest none = list_any_none (keeps (n ∷ rest)) tops (λ k d within. false_from_ne_true (keeps (n ∷ rest) (get_or tops k d)) (λ kept. none-some k (sym none ∙ number_of n rest k d within kept)))

  pub kept_there : (n : ℕ) (rest : Name) (p : ℕ) (l : Logged) → get nat_cmp places n ≡ Some p → l ≡ get_or tops p l → is_kept tops (n ∷ rest) ≡ keeps (n ∷ rest) l
  kept_there n rest p l found is = bool_is (keeps (n ∷ rest) l) (is_kept tops (n ∷ rest))
      (λ kept. list_any_at (keeps (n ∷ rest)) tops p l (are.within n p found) (ap (keeps (n ∷ rest)) (sym is) ∙ kept))
      (λ dropped. list_any_none (keeps (n ∷ rest)) tops (λ k d within. false_from_ne_true (keeps (n ∷ rest) (get_or tops k d)) (λ kept.
      let same : k ≡ p = same_Some k p (sym (number_of n rest k d within kept) ∙ found) in
      true≢false (sym kept ∙ ap (keeps (n ∷ rest)) (ap (λ i. get_or tops i d) same ∙ get_or_default tops p d l (are.within n p found) ∙ sym is) ∙ dropped))))

-- an access, by its first number
module _ (places : BTreeMap ℕ ℕ) (tops : List Logged) (are : ArePlaces places tops) (access : Name) where
  pub none_kept : slice_get access 0 ≡ None → false ≡ is_kept tops access
  none_kept none = sym (ap (is_kept tops) (only_root access none) ∙ kept_root places tops are)

  pub not_kept : (n : ℕ) → slice_get access 0 ≡ Some n → None ≡ get nat_cmp places n → false ≡ is_kept tops access
  not_kept n first none = sym (ap (is_kept tops) (first_and_rest access n first) ∙ kept_nowhere places tops are n (drop 1 access) (sym none))

  pub kept_by_place : (n : ℕ) → slice_get access 0 ≡ Some n → (p : ℕ) (l : Logged) → Some p ≡ get nat_cmp places n → l ≡ get_or tops p l → keeps access l ≡ is_kept tops access
  kept_by_place n first p l found is =
      let parted : access ≡ n ∷ drop 1 access = first_and_rest access n first in
      ap (λ (a : Name). keeps a l) parted
      ∙ sym (ap (is_kept tops) parted ∙ kept_there places tops are n (drop 1 access) p l (sym found) is)

-- ONE MORE

pub no_places : (places : BTreeMap ℕ ℕ) → places.entries ≡ [] → ArePlaces places []
no_places places none = record {
  single = λ k d within. absurd (omega (arith, within));
  within = λ n p found. absurd (nothing n p found);
  here = λ n p d found. absurd (nothing n p found);
  each = λ n p d within is. absurd (omega (arith, within));
}
  where
    nothing : (n p : ℕ) → get nat_cmp places n ≡ Some p → ⊥
    nothing n p found = let empty : get nat_cmp places n ≡ None = ap (λ es. lookup (is_at (nat_cmp n)) es) none in let both : None ≡ Some p = sym empty ∙ found in cc

module _ (old new : BTreeMap ℕ ℕ) (tops : List Logged) (l : Logged) (n : ℕ) (top : l.top ≡ n ∷ []) (absent : get nat_cmp old n ≡ None) (updates : Updates nat_cmp old new n (Some (length tops))) (are : ArePlaces old tops) where
  longer : length (tops ++ l ∷ []) ≡ length tops + 1
  longer = length-append tops (l ∷ [])

  last_of : (p : ℕ) → get nat_cmp new n ≡ Some p → p ≡ length tops
  last_of p found = same_Some p (length tops) (sym found ∙ updates.1)

  other_of : (m : ℕ) → (n ≡ m → ⊥) → get nat_cmp new m ≡ get nat_cmp old m
  other_of m apart = updates.2 m (is_at_apart n m apart)

  within_more : (m p : ℕ) → get nat_cmp new m ≡ Some p → p < length (tops ++ l ∷ [])
  within_more m p found = elim (cases_eq n m) [
    | inl same ↦ let at = last_of p (ap (get nat_cmp new) same ∙ found) in omega (arith, at, longer)
    | inr apart ↦ let below = are.within m p (sym (other_of m apart) ∙ found) in omega (arith, below, longer)
  ]

  last_top : (d : Logged) → get_or (tops ++ l ∷ []) (length tops) d ≡ l
  last_top d = get_or-append_seam tops l [] d

  here_more : (m p : ℕ) (d : Logged) → get nat_cmp new m ≡ Some p → (get_or (tops ++ l ∷ []) p d).top ≡ m ∷ []
  here_more m p d found = elim (cases_eq n m) [
    | inl same ↦ ap (λ (t : Logged). t.top) (ap (λ i. get_or (tops ++ l ∷ []) i d) (last_of p (ap (get nat_cmp new) same ∙ found)) ∙ last_top d) ∙ top ∙ ap (λ k. k ∷ []) same
    | inr apart ↦
        let before = sym (other_of m apart) ∙ found in
        ap (λ (t : Logged). t.top) (get_or_append_left tops (l ∷ []) d p (are.within m p before)) ∙ are.here m p d before
  ]

  each_more : (m p : ℕ) (d : Logged) → p < length (tops ++ l ∷ []) → (get_or (tops ++ l ∷ []) p d).top ≡ m ∷ [] → get nat_cmp new m ≡ Some p
  each_more m p d within is = elim (cases_lt p (length tops)) [
    | inl below ↦
        let before = are.each m p d below (sym (ap (λ (t : Logged). t.top) (get_or_append_left tops (l ∷ []) d p below)) ∙ is) in
        other_of m (λ same. none-some p (sym absent ∙ ap (get nat_cmp old) same ∙ before)) ∙ before
    | inr past ↦
        let at : p ≡ length tops = omega (arith, past, within, longer) in
        let same : m ≡ n = head_of m n [] [] (sym is ∙ ap (λ (t : Logged). t.top) (ap (λ i. get_or (tops ++ l ∷ []) i d) at ∙ last_top d) ∙ top) in
        ap (get nat_cmp new) same ∙ updates.1 ∙ ap Some (sym at)
  ]

  pub places_more : ArePlaces new (tops ++ l ∷ [])
  places_more = record {
    single = All-push (λ (t : Logged). length t.top ≡ 1) tops l are.single (ap length top);
    within = within_more;
    here = here_more;
    each = each_more;
  }

-- the places of the tops so far, with the next
pub places_next : (old new : BTreeMap ℕ ℕ) (tops : List Logged) (i : ℕ) (l : Logged) (n : ℕ) → i < length tops → l ≡ get_or tops i l → l.top ≡ n ∷ [] → get nat_cmp old n ≡ None → Updates nat_cmp old new n (Some i) → ArePlaces old (take i tops) → ArePlaces new (take (i + 1) tops)
places_next old new tops i l n within is top absent updates are =
    let size : length (take i tops) ≡ i = length-take-le i tops (omega (arith, within)) in
    subst (ArePlaces new) (ap (λ (x : Logged). take i tops ++ x ∷ []) is ∙ sym (take_more tops i l within))
    (places_more old new (take i tops) l n top absent (subst (λ k. Updates nat_cmp old new n (Some k)) (sym size) updates) are)
