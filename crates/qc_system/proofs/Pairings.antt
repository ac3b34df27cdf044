-- Disks beside their spares, and those in one row.
use Rattle.std.proofs.Common.{◌≡◌, ℕ, zero, suc, List, [], ◌∷◌, ◌++◌, length, map, refl, sym, ap, ap₂, ◌∙◌, arith}
use Rattle.std.specs.Prelude.{Some, slice_get}
use Rattle.qc_system.specs.Pairs.{in_pairs, own_then_spares}

module _ {A : Type 0} where
  -- as many pairs as there are disks
  pub in_pairs-length : (owns spares : List A) → length spares ≡ length owns → length (in_pairs owns spares) ≡ length owns
  in_pairs-length [] spares many = refl
  in_pairs-length (own ∷ owns) [] many = absurd (omega (arith, many))
  in_pairs-length (own ∷ owns) (spare ∷ spares) many = ap suc (in_pairs-length owns spares (omega (arith, many)))

  -- their firsts are the disks, and their seconds the spares
  pub in_pairs-firsts : (owns spares : List A) → length spares ≡ length owns → map (λ p. p.0) (in_pairs owns spares) ≡ owns
  in_pairs-firsts [] spares many = refl
  in_pairs-firsts (own ∷ owns) [] many = absurd (omega (arith, many))
  in_pairs-firsts (own ∷ owns) (spare ∷ spares) many = ap (λ l. own ∷ l) (in_pairs-firsts owns spares (omega (arith, many)))

  pub in_pairs-seconds : (owns spares : List A) → length spares ≡ length owns → map (λ p. p.1) (in_pairs owns spares) ≡ spares
  in_pairs-seconds [] [] many = refl
  in_pairs-seconds [] (spare ∷ spares) many = absurd (omega (arith, many))
  in_pairs-seconds (own ∷ owns) [] many = absurd (omega (arith, many))
  in_pairs-seconds (own ∷ owns) (spare ∷ spares) many = ap (λ l. spare ∷ l) (in_pairs-seconds owns spares (omega (arith, many)))

  -- in one row they are the disks, and then the spares
  pub in_pairs-row : (owns spares : List A) → length spares ≡ length owns → own_then_spares (in_pairs owns spares) ≡ owns ++ spares
  in_pairs-row owns spares many = ap₂ (λ (l m : List A). l ++ m) (in_pairs-firsts owns spares many) (in_pairs-seconds owns spares many)

  -- behind equally many of both
  pub in_pairs-append : (owns spares more_owns more_spares : List A) → length spares ≡ length owns → in_pairs (owns ++ more_owns) (spares ++ more_spares) ≡ in_pairs owns spares ++ in_pairs more_owns more_spares
  in_pairs-append [] [] more_owns more_spares many = refl
  in_pairs-append [] (spare ∷ spares) more_owns more_spares many = absurd (omega (arith, many))
  in_pairs-append (own ∷ owns) [] more_owns more_spares many = absurd (omega (arith, many))
  in_pairs-append (own ∷ owns) (spare ∷ spares) more_owns more_spares many = ap (λ l. (own, spare) ∷ l) (in_pairs-append owns spares more_owns more_spares (omega (arith, many)))

  -- pairs are their firsts beside their seconds
  pub in_pairs-of : (pairs : List (A × A)) → in_pairs (map (λ p. p.0) pairs) (map (λ p. p.1) pairs) ≡ pairs
  in_pairs-of [] = refl
  in_pairs-of (p ∷ pairs) = ap (λ l. p ∷ l) (in_pairs-of pairs)

  -- where there are no pairs, there are no disks
  pub no_pairs : (owns spares : List A) → length spares ≡ length owns → in_pairs owns spares ≡ [] → owns ≡ []
  no_pairs owns spares many none = sym (in_pairs-firsts owns spares many) ∙ ap (λ l. map (λ p. p.0) l) none

  -- a pair has one of the disks, and the spare at the same place
  pub pair_at : (owns spares : List A) (place : ℕ) (own spare : A) → slice_get owns place ≡ Some own → slice_get spares place ≡ Some spare → slice_get (in_pairs owns spares) place ≡ Some (own, spare)
  pair_at [] spares place own spare first second = absurd cc
  pair_at (o ∷ owns) [] place own spare first second = absurd cc
  pair_at (o ∷ owns) (s ∷ spares) zero own spare first second = cc
  pair_at (o ∷ owns) (s ∷ spares) (suc place) own spare first second = pair_at owns spares place own spare first second
