-- The copies that were not asked get fewer with each request.
use Rattle.std.proofs.Common.{◌≡◌, ℕ, ◌+◌, ◌<◌, ◌≤◌, Bool, true, false, List, [], ◌∷◌, ◌++◌, refl, sym, ap, ◌∙◌, arith, inl, inr}
use Rattle.std.specs.Prelude.{◌==◌, ◌&&◌, ◌||◌, not, nat_lt, cond, find, Some}
use Rattle.std.proofs.lemmas.Bool.{true≢false, and_parts, eq-eqb, or_right}
use Rattle.qc_config.specs.Config.{Voting, votes_of}
use Rattle.qc_event.specs.Manager.{all_copies}
use Rattle.qc_event.proofs.Found.{found_cases, found_passes, found_within}
use Rattle.qc_managers.specs.Told.{Told, was_asked, next_in}
use Rattle.qc_managers.proofs.OneMore.{asked_more}

abbrev pub one_if : Bool → ℕ
one_if b = cond b 1 0

-- how many pass a test
abbrev pub count : {X : Type 0} → (X → Bool) → List X → ℕ
count p [] = 0
count p (x ∷ xs) = one_if (p x) + count p xs

-- how many copies were not asked
unfoldable pub unasked : List Told → ℕ
unasked told = count (λ copy. not (was_asked told copy)) all_copies

-- WHAT IS FOUND

-- a copy that is asked next is one of sixteen
pub next_within : (config : Voting) (told : List Told) (copy : ℕ) → next_in config told ≡ Some copy → copy < 16
next_within config told copy is = found_within (λ c. nat_lt 0 (votes_of config c) && not (was_asked told c)) 0 16 copy is

-- FEWER

one_if_less : (b c : Bool) → (b ≡ true → c ≡ true) → one_if b ≤ one_if c
one_if_less true true h = omega arith
one_if_less true false h = absurd (true≢false (sym (h refl)))
one_if_less false true h = omega arith
one_if_less false false h = omega arith

count_less : {X : Type 0} (p q : X → Bool) → ((x : X) → q x ≡ true → p x ≡ true) → (xs : List X) → count q xs ≤ count p xs
count_less p q less [] = omega arith
count_less p q less (x ∷ xs) =
    let here : one_if (q x) ≤ one_if (p x) = one_if_less (q x) (p x) (less x) in
    let below = count_less p q less xs in
    omega arith

-- where one that passed a test no longer does, and nothing else passes anew, fewer pass
count_fewer : {X : Type 0} (p q : X → Bool) → ((x : X) → q x ≡ true → p x ≡ true) → (r : X → Bool) (xs : List X) (c : X) → find r xs ≡ Some c → p c ≡ true → q c ≡ false → count q xs < count p xs
count_fewer p q less r [] c is had lost = absurd cc
count_fewer p q less r (x ∷ xs) c is had lost = elim (found_cases (r x) x c (find r xs) is) [
  | inl here ↦
      let new : one_if (q x) ≡ 0 = ap one_if (ap q here.1 ∙ lost) in
      let old : one_if (p x) ≡ 1 = ap one_if (ap p here.1 ∙ had) in
      let below = count_less p q less xs in
      omega arith
  | inr further ↦
      let here : one_if (q x) ≤ one_if (p x) = one_if_less (q x) (p x) (less x) in
      let below = count_fewer p q less r xs c further.1 had lost in
      omega arith
]

still_asked : (a b : Bool) → not (a || b) ≡ true → not a ≡ true
still_asked true b h = h
still_asked false b h = refl

pub unasked_fewer : (config : Voting) (told : List Told) (t : Told) (copy : ℕ) → next_in config told ≡ Some copy → t.copy ≡ copy → unasked (told ++ t ∷ []) < unasked told
unfolding unasked
unasked_fewer config told t copy is its =
    let had = and_parts (nat_lt 0 (votes_of config copy)) (not (was_asked told copy)) (found_passes (λ c. nat_lt 0 (votes_of config c) && not (was_asked told c)) all_copies copy is) in
    count_fewer (λ c. not (was_asked told c)) (λ c. not (was_asked (told ++ t ∷ []) c))
    (λ c h. still_asked (was_asked told c) (t.copy == c) (ap not (sym (asked_more told t c)) ∙ h))
    (λ c. nat_lt 0 (votes_of config c) && not (was_asked told c)) all_copies copy is had.1
    (ap not (asked_more told t copy ∙ or_right (was_asked told copy) (t.copy == copy) (eq-eqb t.copy copy its)))
