-- Bytes are in one way a front and a back, and spell one value.
use Rattle.std.proofs.Common.{◌≡◌, ℕ, ◌≤◌, List, ◌++◌, length, take, drop, Some, sym, ap, ◌∙◌, subst, arith}
use Rattle.std.proofs.lemmas.List.{length-append, length-take, take-append-drop, take_at, drop_at}
use Rattle.std.proofs.lemmas.Option.{same_Some}
use Rattle.qc_codec.specs.Fields.{word}
use Rattle.qc_codec.specs.Form.{Form, all_of}
use Rattle.qc_codec.specs.Gives.{Spells}
use Rattle.qc_codec.proofs.Exact.{IsBytes, IsExact, all_again, exact_word, pair_is}
use Rattle.qc_audit.specs.Saved.{AreParts}

-- what bytes spell in an exact form is one value
pub one_value : {A : Type 0} (f : Form A) (ef : IsExact f) (bytes : List ℕ) (x y : A) → Spells f bytes x → Spells f bytes y → x ≡ y
one_value f ef bytes x y h g =
    same_Some x y (sym (all_again f ef x h.1) ∙ ap (all_of f) (sym h.0 ∙ g.0) ∙ all_again f ef y g.1)

-- WHAT STANDS BEHIND A LENGTH

module _ (bytes : List ℕ) where
  -- four bytes are taken, where there are parts
  pub taken : (front back : List ℕ) → AreParts bytes front back → word.taken bytes ≡ Some (length front, front ++ back)
  taken front back parts = ap word.taken parts.joined ∙ exact_word.again (length front) (front ++ back) parts.short

  -- what is taken tells the parts
  pub parts_taken : (size : ℕ) (rest : List ℕ) → IsBytes bytes → word.taken bytes ≡ Some (size, rest) → size ≤ length rest → AreParts bytes (take size rest) (drop size rest)
  parts_taken size rest h is le =
      let one = exact_word.takes bytes size rest h is in
      let many : length (take size rest) ≡ size = omega (arith, length-take size rest) in
      record {
        short = subst (λ n. word.fits n) (sym many) one.1;
        joined = one.0 ∙ ap (λ n. word.spell n ++ rest) (sym many) ∙ ap (λ xs. word.spell (length (take size rest)) ++ xs) (sym (take-append-drop size rest));
      }

  module _ (size : ℕ) (rest front back : List ℕ) (is : word.taken bytes ≡ Some (size, rest)) (parts : AreParts bytes front back) where
    same : (length front ≡ size) × (front ++ back ≡ rest)
    same = pair_is (length front) size (front ++ back) rest (sym (taken front back parts) ∙ is)

    pub long_enough : size ≤ length rest
    long_enough = let many = same.0 in let all = ap length same.1 in omega (arith, many, all, length-append front back)

    pub same_front : take size rest ≡ front
    same_front = ap (take size) (sym same.1) ∙ take_at front back size same.0

    pub same_back : drop size rest ≡ back
    same_back = ap (drop size) (sym same.1) ∙ drop_at front back size same.0

-- two ways to part bytes are one
pub one_parting : (bytes front back first last : List ℕ) → AreParts bytes front back → AreParts bytes first last → (front ≡ first) × (back ≡ last)
one_parting bytes front back first last h g =
    let is = taken bytes front back h in
    let size = length front in (
      sym (same_front bytes size (front ++ back) front back is h) ∙ same_front bytes size (front ++ back) first last is g,
      sym (same_back bytes size (front ++ back) front back is h) ∙ same_back bytes size (front ++ back) first last is g,
    )
