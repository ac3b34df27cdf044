-- Lists in which each item may stand behind those before it, with one more.
use Rattle.std.proofs.Common.{◌≡◌, ◌⊎◌, inl, inr, ⊎_elim, ℕ, ◌<◌, List, [], ◌∷◌, ◌++◌, length, refl, sym, ap, ap₂, ◌∙◌, subst, arith}
use Rattle.std.proofs.lemmas.Bool.{cases_eq, cases_lt}
use Rattle.qc_codec.specs.Order.{EachMay, FirstMayNot}

-- a list with one more, parted before an item: that item is the last, or one of the list
snoc_cases : {A : Type 0} (xs : List A) (x : A) (before after : List A) (y : A) → xs ++ x ∷ [] ≡ before ++ y ∷ after → ((before ≡ xs) × (y ≡ x)) ⊎ ((rest : List A) × (xs ≡ before ++ y ∷ rest))
snoc_cases [] x [] after y is = inl (refl, cc)
snoc_cases [] x (b ∷ []) after y is = absurd cc
snoc_cases [] x (b ∷ c ∷ before) after y is = absurd cc
snoc_cases (z ∷ xs) x [] after y is = let same : z ≡ y = cc in inr (xs, ap (λ k. k ∷ xs) same)
snoc_cases {A} (z ∷ xs) x (b ∷ before) after y is =
    let head : z ≡ b = cc in
    let tail : xs ++ x ∷ [] ≡ before ++ y ∷ after = cc in
    ⊎_elim
    (λ last. let one : z ∷ xs ≡ b ∷ before = ap₂ (λ k (l : List A). k ∷ l) head (sym last.0) in inl (sym one, last.1))
    (λ more. inr (more.0, ap₂ (λ k (l : List A). k ∷ l) head more.1))
    (snoc_cases xs x before after y tail)

-- of two partings of a list, the later has the earlier's item in front
earlier : {A : Type 0} (b1 a1 b2 a2 : List A) (x y : A) → b1 ++ x ∷ a1 ≡ b2 ++ y ∷ a2 → length b1 < length b2 → (rest : List A) × (b2 ≡ b1 ++ x ∷ rest)
earlier [] a1 [] a2 x y is less = absurd (omega (arith, less))
earlier [] a1 (c ∷ b2) a2 x y is less = let same : x ≡ c = cc in (b2, ap (λ k. k ∷ b2) (sym same))
earlier (b ∷ b1) a1 [] a2 x y is less = absurd (omega (arith, less))
earlier {A} (b ∷ b1) a1 (c ∷ b2) a2 x y is less =
    let head : b ≡ c = cc in
    let tail : b1 ++ x ∷ a1 ≡ b2 ++ y ∷ a2 = cc in
    let more = earlier b1 a1 b2 a2 x y tail (omega (arith, less)) in
    (more.0, ap₂ (λ k (l : List A). k ∷ l) (sym head) more.1)

module _ {A : Type 0} (May : List A → A → Type 0) where
  pub each_none : EachMay May []
  each_none [] after item is = absurd cc
  each_none (b ∷ before) after item is = absurd cc

  -- with one more that may stand behind them
  pub each_push : (items : List A) (more : A) → EachMay May items → May items more → EachMay May (items ++ more ∷ [])
  each_push items more order may before after item is = ⊎_elim
      (λ last. subst (λ (l : List A). May l item) (sym last.0) (subst (May items) (sym last.1) may))
      (λ later. order before later.0 item later.1)
      (snoc_cases items more before after item is)

  -- THE FIRST THAT MAY NOT

  not_earlier : (items : List A) (i j : ℕ) → FirstMayNot May i items → FirstMayNot May j items → i < j → ⊥
  not_earlier items i j one two less =
      let more = earlier one.before one.after two.before two.after one.item two.item (sym one.split ∙ two.split) (omega (arith, less, one.size, two.size)) in
      one.breaks (two.order one.before more.0 one.item more.1)

  pub same_index : (items : List A) (i j : ℕ) → FirstMayNot May i items → FirstMayNot May j items → j ≡ i
  same_index items i j one two = elim (cases_lt i j) [
    | inl less ↦ absurd (not_earlier items i j one two less)
    | inr more ↦ elim (cases_eq j i) [
      | inl same ↦ same
      | inr other ↦ absurd (not_earlier items j i two one (omega (arith, more, other)))
    ]
  ]

  pub in_order : (items : List A) (i : ℕ) → FirstMayNot May i items → EachMay May items → ⊥
  in_order items i out order = out.breaks (order out.before out.after out.item out.split)
