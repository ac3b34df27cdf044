-- What the test of two values tells.
use Rattle.std.proofs.Common.{◌≡◌, ℕ, Bool, true, false, List, [], refl, sym, ap, ◌∙◌}
use mathlib.Core.Bool.{true≢false}
use Rattle.std.specs.Prelude.{◌==◌, Option, is_some, unwrap_or}
use Rattle.std.specs.Bool.{Decides}
use Rattle.std.specs.Cmp.{IsEquivalence, IsPartialEquivalence, both_ways, partial_equiv_from_equiv}
use Rattle.std.specs.Cmp.Lexicographic.{pointwise, bytes_decides}
use Rattle.std.proofs.lemmas.Bool.Decides.{Decides-eqb}
use Rattle.qc_config.specs.Val.{Datum, Number, Text, same, number_of, bytes_of}

-- a number is no text
kinds_apart : {A : Type 0} (n : ℕ) (bytes : List ℕ) → Number n ≡ Text bytes → A
kinds_apart n bytes e = absurd (true≢false (ap (λ v. is_some (number_of v)) e))

-- values that are the same are equal, and only these
pub same_decides : (a b : Datum) → Decides (same a b) (a ≡ b)
same_decides (Number m) (Number n) = (λ e. ap Number ((Decides-eqb m n).0 e), λ e. (Decides-eqb m n).1 (ap (λ v. unwrap_or (number_of v) 0) e))
same_decides (Text a) (Text b) = (λ e. ap Text ((bytes_decides a b).0 e), λ e. (bytes_decides a b).1 (ap (λ v. unwrap_or (bytes_of v) []) e))
same_decides (Number m) (Text b) = (λ e. absurd (true≢false (sym e)), λ e. kinds_apart m b e)
same_decides (Text a) (Number n) = (λ e. absurd (true≢false (sym e)), λ e. kinds_apart n a (sym e))

pub same_is_equal : IsEquivalence same
same_is_equal = record {
  refl = λ x. (same_decides x x).1 refl;
  symm = λ x y. both_ways (same x y) (same y x) (λ e. (same_decides y x).1 (sym ((same_decides x y).0 e))) (λ e. (same_decides x y).1 (sym ((same_decides y x).0 e)));
  congr = λ x y z e. ap (λ v. same v z) ((same_decides x y).0 e);
}

pub same_is_partly_equal : IsPartialEquivalence same
same_is_partly_equal = partial_equiv_from_equiv same_is_equal
