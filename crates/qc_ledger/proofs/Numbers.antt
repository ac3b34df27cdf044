-- The numbers of tops, with one more.
use Rattle.std.proofs.Common.{◌≡◌, ◌≢◌, inl, inr, ℕ, ◌<◌, ◌≤◌, List, [], ◌∷◌, ◌++◌, length, sym, ap, ◌∙◌, subst, arith, cond, length-append}
use mathlib.Core.Bool.{true≢false}
use Rattle.std.specs.Prelude.{All, Some, true, false, slice_get}
use Rattle.std.proofs.lemmas.Option.{same_Some}
use Rattle.std.specs.Ordering.{is_eq, nat_cmp}
use Rattle.std.specs.Cmp.{nat_cmp_is}
use Rattle.std.specs.declared.cmp.Ordering.TheVariants.{Less, Greater}
use Rattle.std.specs.BTreeMap.{is_at}
use Rattle.std.specs.BTreeSet.{BTreeSet, Updates, contains}
use Rattle.std.proofs.Math.Seq.{get_or-append_seam}
use Rattle.std.proofs.lemmas.List.{get_or_append_left}
use Rattle.std.proofs.lemmas.List.Elements.{All-push}
use Rattle.std.proofs.lemmas.Bool.{cases_eq, cases_lt}
use Rattle.qc_event.proofs.Numbers.{is_at_itself}
use Rattle.qc_codec.specs.declared.past.Logged.{Logged}
use Rattle.qc_ledger.specs.Seen.{AreNumbers}

pub is_at_apart : (n q : ℕ) → (n ≡ q → ⊥) → is_at (nat_cmp n) q ≡ false
is_at_apart n q apart = elim (cases_lt n q) [
  | inl less ↦ ap is_eq (sym (nat_cmp_is n q Less less))
  | inr more ↦ ap is_eq (sym (nat_cmp_is n q Greater (below more)))
]
  where
    below : q ≤ n → q < n
    below more = elim (cases_eq n q) [
      | inl same ↦ absurd (apart same)
      | inr other ↦ omega (arith, more, other)
    ]

all_front : (P : Logged → Type 0) (tops : List Logged) (l : Logged) → All P (tops ++ l ∷ []) → All P tops
all_front P tops l all k d within = subst P (get_or_append_left tops (l ∷ []) d k within) (all k d (omega (arith, within, length-append tops (l ∷ []))))

all_last : (P : Logged → Type 0) (tops : List Logged) (l : Logged) → All P (tops ++ l ∷ []) → P l
all_last P tops l all = subst P (get_or-append_seam tops l [] l) (all (length tops) l (omega (arith, length-append tops (l ∷ []))))

-- with a new number and a top of this number they are the numbers of the tops
pub numbers_more : (old new : BTreeSet ℕ) (tops : List Logged) (n : ℕ) (l : Logged) → l.top ≡ n ∷ [] → Updates nat_cmp old new n true → AreNumbers old tops → AreNumbers new (tops ++ l ∷ [])
numbers_more old new tops n l is updates numbers q = elim (cases_eq n q) [
  | inl same ↦ (
    λ absent. absurd (true≢false (sym (updates.0 q ∙ ap (λ b. cond b true (contains nat_cmp old q)) (subst (λ k. is_at (nat_cmp n) k ≡ true) same (is_at_itself n))) ∙ absent)),
    λ all. absurd (all_last (λ (t : Logged). t.top ≢ q ∷ []) tops l all (is ∙ ap (λ k. k ∷ []) same)),
  )
  | inr apart ↦
      let other : contains nat_cmp new q ≡ contains nat_cmp old q = updates.2 q (is_at_apart n q apart) in (
        λ absent. All-push (λ (t : Logged). t.top ≢ q ∷ []) tops l ((numbers q).0 (sym other ∙ absent)) (λ same. apart (let one : n ∷ [] ≡ q ∷ [] = sym is ∙ same in cc)),
        λ all. other ∙ (numbers q).1 (all_front (λ (t : Logged). t.top ≢ q ∷ []) tops l all),
      )
]

-- a list of one
-- a list of one number is that number's
pub alone : (xs : List ℕ) (n : ℕ) → length xs ≡ 1 → slice_get xs 0 ≡ Some n → xs ≡ n ∷ []
alone [] n one first = absurd (omega (arith, one))
alone (x ∷ []) n one first = ap (λ k. k ∷ []) (same_Some x n first)
alone (x ∷ y ∷ xs) n one first = absurd (omega (arith, one))
