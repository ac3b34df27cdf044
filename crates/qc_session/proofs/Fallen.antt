-- Which ancestor of a name is the shortest aborted one.
use Rattle.std.proofs.Common.{◌≡◌, Bool, true, false, [], ◌∷◌, ◌++◌, refl, sym, ap, ◌∙◌}
use Rattle.std.specs.Prelude.{Option, None, Some, find, cond}
use Rattle.std.specs.Option.{option_map}
use Rattle.qc_event.specs.Dead.{outcome, is_aborted, ancestors, dead}
use Rattle.qc_event.specs.History.{Past, Name}
use Rattle.qc_event.proofs.Ancestors.{find-map}

-- what is found passes, and begins the name
find_is : (p : Name → Bool) (n a : Name) → find p (ancestors n) ≡ Some a → (p a ≡ true) × ((r : Name) × (n ≡ a ++ r))
find_is p [] a is = by_root (p []) refl is
  where
    by_root : (b : Bool) → p [] ≡ b → cond b (Some []) None ≡ Some a → (p a ≡ true) × ((r : Name) × ([] ≡ a ++ r))
    by_root true e found = let here : [] ≡ a = cc in (ap p (sym here) ∙ e, ([], ap (λ c. c ++ []) here))
    by_root false e found = absurd cc
find_is p (x ∷ xs) a is = by_root (p []) refl (sym (ap (λ o. cond (p []) (Some []) o) (find-map p (λ c. x ∷ c) (ancestors xs))) ∙ is) (find_is (λ c. p (x ∷ c)) xs)
  where
    by_rest : (o : Option Name) → option_map (λ c. x ∷ c) o ≡ Some a → ((c : Name) → o ≡ Some c → (p (x ∷ c) ≡ true) × ((r : Name) × (xs ≡ c ++ r))) → (p a ≡ true) × ((r : Name) × (x ∷ xs ≡ a ++ r))
    by_rest None found more = absurd cc
    by_rest (Some c) found more =
        let here : x ∷ c ≡ a = cc in
        let rest = more c refl in
        (ap p (sym here) ∙ rest.0, (rest.1.0, ap (λ ys. x ∷ ys) rest.1.1 ∙ ap (λ d. d ++ rest.1.0) here))

    by_root : (b : Bool) → p [] ≡ b → cond b (Some []) (option_map (λ c. x ∷ c) (find (λ c. p (x ∷ c)) (ancestors xs))) ≡ Some a → ((c : Name) → find (λ c. p (x ∷ c)) (ancestors xs) ≡ Some c → (p (x ∷ c) ≡ true) × ((r : Name) × (xs ≡ c ++ r))) → (p a ≡ true) × ((r : Name) × (x ∷ xs ≡ a ++ r))
    by_root true e found more = let here : [] ≡ a = cc in (ap p (sym here) ∙ e, (x ∷ xs, ap (λ c. c ++ x ∷ xs) here))
    by_root false e found more = by_rest (find (λ c. p (x ∷ c)) (ancestors xs)) found more

-- who is dead is so by an aborted ancestor
pub dead_is : (past : Past) (n a : Name) → dead past n ≡ Some a → (is_aborted (outcome past a) ≡ true) × ((r : Name) × (n ≡ a ++ r))
dead_is past n a is = find_is (λ b. is_aborted (outcome past b)) n a is
