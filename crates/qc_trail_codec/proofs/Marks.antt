-- Marks and the numbers whose bits they are.
use Rattle.std.proofs.Common.{◌≡◌, ℕ, zero, suc, ◌+◌, ◌-◌, ◌*◌, ◌/◌, ◌%◌, ◌^◌, ◌<◌, ◌≤◌, ◌==◌, Bool, true, false, List, [], ◌∷◌, ◌++◌, length, get_or, take, drop, refl, sym, ap, ap₂, ◌∙◌, append_assoc, arith}
use Rattle.std.specs.Prelude.{if◌then◌else◌, replicate, slice_set}
use Rattle.std.proofs.lemmas.List.{drop_more, take_more_set, drop-set-lt}
use Rattle.std.proofs.Math.Seq.{take-suc}
use Rattle.qc_trail_codec.specs.Reasons.{marks_of, number_of}

-- as many marks as are wanted
pub marks_long : (k n : ℕ) → length (marks_of k n) ≡ k
marks_long zero n = refl
marks_long (suc k) n = ap suc (marks_long k (n / 2))

-- a number of no more marks is below the power of two
pub number_small : (k : ℕ) (marks : List Bool) → length marks ≤ k → number_of marks < 2 ^ k
number_small zero [] le = omega arith
number_small zero (m ∷ ms) le = absurd (omega (arith, le))
number_small (suc k) [] le = let one = number_small k [] (omega arith) in omega (arith, one)
number_small (suc k) (true ∷ ms) le = let one = number_small k ms (omega (arith, le)) in omega (arith, one)
number_small (suc k) (false ∷ ms) le = let one = number_small k ms (omega (arith, le)) in omega (arith, one)

-- marks become a number and that number the marks
pub marks_back : (k : ℕ) (marks : List Bool) → length marks ≡ k → marks_of k (number_of marks) ≡ marks
marks_back zero [] l = refl
marks_back zero (m ∷ ms) l = absurd (omega (arith, l))
marks_back (suc k) [] l = absurd (omega (arith, l))
marks_back (suc k) (m ∷ ms) l = ap₂ (λ (b : Bool) (bs : List Bool). b ∷ bs) (bit m (number_of ms)) (ap (marks_of k) (half m (number_of ms)) ∙ marks_back k ms (omega (arith, l)))
  where
    bit : (m : Bool) (n : ℕ) → (((if m then 1 else 0) + 2 * n) % 2 == 1) ≡ m
    bit true n = let r : (1 + 2 * n) % 2 ≡ 1 = omega arith in rw r refl
    bit false n = let r : (0 + 2 * n) % 2 ≡ 0 = omega arith in rw r refl

    half : (m : Bool) (n : ℕ) → ((if m then 1 else 0) + 2 * n) / 2 ≡ n
    half true n = omega arith
    half false n = omega arith

-- a number becomes marks and those the number
pub number_back : (k n : ℕ) → n < 2 ^ k → number_of (marks_of k n) ≡ n
number_back zero n lt = omega (arith, lt)
number_back (suc k) n lt =
    let rest = number_back k (n / 2) (omega (arith, lt)) in
    ap (λ (m : ℕ). (if n % 2 == 1 then 1 else 0) + 2 * m) rest ∙ bits (n % 2) (omega arith)
  where
    bits : (r : ℕ) → n ≡ r + 2 * (n / 2) → (if r == 1 then 1 else 0) + 2 * (n / 2) ≡ n
    bits zero is = omega (arith, is)
    bits (suc zero) is = omega (arith, is)
    bits (suc (suc r)) is = absurd (omega (arith, is))

-- one more mark is taken from a number
module _ (copies : List Bool) (c n : ℕ) (total : List Bool) (lt : c < 16) (long : length copies ≡ 16) (none : drop c copies ≡ replicate (16 - c) false)
    (so_far : take c copies ++ marks_of (16 - c) n ≡ total) where
  parts : drop c copies ≡ get_or copies c false ∷ drop (c + 1) copies
  parts = drop_more copies c false (omega (arith, lt, long))

  blank : (m k : ℕ) → m ≡ suc k → replicate m false ≡ false ∷ replicate k false
  blank m k is = rw is refl

  rest : get_or copies c false ∷ drop (c + 1) copies ≡ false ∷ replicate (16 - (c + 1)) false
  rest = sym parts ∙ none ∙ blank (16 - c) (16 - (c + 1)) (omega (arith, lt))

  heads : (x y : Bool) (xs ys : List Bool) → x ∷ xs ≡ y ∷ ys → (x ≡ y) × (xs ≡ ys)
  heads x y xs ys is = (cc, cc)

  pub one_more : (now : List Bool) (b : Bool) → take (c + 1) now ≡ take c copies ++ b ∷ [] → (n % 2 == 1) ≡ b → take (c + 1) now ++ marks_of (16 - (c + 1)) (n / 2) ≡ total
  one_more now b front is =
      ap (λ (xs : List Bool). xs ++ marks_of (16 - (c + 1)) (n / 2)) front ∙ append_assoc (take c copies) (b ∷ []) (marks_of (16 - (c + 1)) (n / 2))
      ∙ ap (λ (x : Bool). take c copies ++ x ∷ marks_of (16 - (c + 1)) (n / 2)) (sym is)
      ∙ ap (λ (xs : List Bool). take c copies ++ xs) (again (16 - c) (16 - (c + 1)) (omega (arith, lt))) ∙ so_far
    where
      again : (m k : ℕ) → m ≡ suc k → (n % 2 == 1) ∷ marks_of k (n / 2) ≡ marks_of m n
      again m k is = rw is refl

  pub none_behind : drop (c + 1) copies ≡ replicate (16 - (c + 1)) false
  none_behind = (heads (get_or copies c false) false (drop (c + 1) copies) (replicate (16 - (c + 1)) false) rest).1

  pub not_marked : take (c + 1) copies ≡ take c copies ++ false ∷ []
  not_marked =
      let next : c + 1 ≡ suc c = omega arith in
      ap (λ (k : ℕ). take k copies) next ∙ take-suc copies c false (omega (arith, lt, long))
      ∙ ap (λ (b : Bool). take c copies ++ b ∷ []) (heads (get_or copies c false) false (drop (c + 1) copies) (replicate (16 - (c + 1)) false) rest).0

  pub is_marked : take (c + 1) (slice_set copies c true) ≡ take c copies ++ true ∷ []
  is_marked = take_more_set copies c true (omega (arith, lt, long))

  pub none_behind_set : drop (c + 1) (slice_set copies c true) ≡ replicate (16 - (c + 1)) false
  none_behind_set = drop-set-lt (c + 1) copies c true (omega arith) ∙ none_behind
