-- A number that a word spells as a number is written, by what the word parses to.
use Rattle.std.proofs.Common.{◌≡◌, ℕ, ◌<◌, ◌^◌, List, None, Some, Result, Ok, Err, ap, ◌∙◌, subst, arith}
use Rattle.std.specs.Prelude.{◌↔◌}
use Rattle.std.specs.Fmt.{decimal}
use Rattle.std.specs.Str.Parse.{ParsesUnsigned}
use Rattle.std.proofs.lemmas.Fmt.{parse-decimal}

-- a word spells a number
abbrev Spells : List ℕ → ℕ → Type 0
Spells word n = (n < 2 ^ 64) × (word ≡ decimal n)

module _ {E : Type 0} (word : List ℕ) (r : Result ℕ E) (parses : ParsesUnsigned 64 10 word r) where
  parsed : (n : ℕ) → Spells word n → r ≡ Ok n
  parsed n is = parse-decimal 64 n word r is.0 is.0 is.1 parses

  -- a word that does not parse spells none
  pub none_spelled : (e : E) → r ≡ Err e → (n : ℕ) → (None ≡ Some n) ↔ Spells word n
  none_spelled e failed n = ((λ e. absurd (differ e)), (λ is. absurd (both (parsed n is))))
    where
      differ : None ≡ Some n → ⊥
      differ e = cc

      both : r ≡ Ok n → ⊥
      both ok = cc

  -- what a word parses to is a number of 64 bits
  pub small : (m : ℕ) → r ≡ Ok m → m < 2 ^ 64
  small m ok = by_ok m (subst (λ s. ParsesUnsigned 64 10 word s) ok parses)
    where
      by_ok : (m : ℕ) → ParsesUnsigned {E = E} 64 10 word (Ok m) → m < 2 ^ 64
      by_ok m is = let low = is.0.1 in let same_number = is.1 in omega arith

  same : (n m : ℕ) → r ≡ Ok n → r ≡ Ok m → n ≡ m
  same n m a b = cc

  -- one that is the spelling of what it parses to spells that
  pub one_spelled : (m : ℕ) → r ≡ Ok m → m < 2 ^ 64 → word ≡ decimal m → (n : ℕ) → (Some m ≡ Some n) ↔ Spells word n
  one_spelled m ok small spelled n = (to, (λ is. ap Some (same m n ok (parsed n is))))
    where
      to : Some m ≡ Some n → Spells word n
      to e = let same_number : m ≡ n = cc in subst (Spells word) same_number (small, spelled)

  -- and one that is not spells none
  pub other_spelled : (m : ℕ) → r ≡ Ok m → (word ≡ decimal m → ⊥) → (n : ℕ) → (None ≡ Some n) ↔ Spells word n
  other_spelled m ok other n = ((λ e. absurd (differ e)), (λ is. absurd (other (is.1 ∙ ap decimal (same n m (parsed n is) ok)))))
    where
      differ : None ≡ Some n → ⊥
      differ e = cc
