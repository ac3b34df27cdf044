-- Each copy's queue gets an end of a session, the first copy's first.
use Rattle.std.proofs.Common.{◌≡◌, ℕ, ◌+◌, ◌≤◌, ◌<◌, List, [], ◌∷◌, ◌++◌, length, map, get_or, set, take, drop, All, refl, sym, ap, ◌∙◌, arith}
use Rattle.std.specs.List.{range_with_len}
use Rattle.std.proofs.lemmas.List.{drop_more, drop-set-lt, length-map, take_all, take_more_set}
use Rattle.std.proofs.lemmas.List.Elements.{All-head, All-push, All-same, All-tail}
use Rattle.std.proofs.lemmas.List.FromFn.{length-range_with_len}

module _ (made : List ℕ) (at session : ℕ) (within : at < length made) (left : All (λ m. m ≡ session) (drop at made)) where
  all_left : All (λ m. m ≡ session) (get_or made at 0 ∷ drop (at + 1) made)
  all_left = All-same (λ m. m ≡ session) (get_or made at 0 ∷ drop (at + 1) made) (drop at made) (sym (drop_more made at 0 within)) left

  next_of : get_or made at 0 ≡ session
  next_of = All-head (λ m. m ≡ session) (get_or made at 0) (drop (at + 1) made) all_left

  done_of : All (λ m. m ≡ session + 1) (take at made) → All (λ m. m ≡ session + 1) (take (at + 1) (set made at (session + 1)))
  done_of done = All-same (λ m. m ≡ session + 1) (take (at + 1) (set made at (session + 1))) (take at made ++ (session + 1) ∷ []) (take_more_set made at (session + 1) within)
      (All-push (λ m. m ≡ session + 1) (take at made) (session + 1) done refl)

  left_of : All (λ m. m ≡ session) (drop (at + 1) (set made at (session + 1)))
  left_of = All-same (λ m. m ≡ session) (drop (at + 1) (set made at (session + 1))) (drop (at + 1) made) (drop-set-lt (at + 1) made at (session + 1) (omega arith))
      (All-tail (λ m. m ≡ session) (get_or made at 0) (drop (at + 1) made) all_left)

module _ {X : Type 0} (number made : X → ℕ) (xs : List X) (n at session : ℕ) (are : map number xs ≡ range_with_len 0 n) where
  as_many : length (map made xs) ≡ n
  as_many = length-map xs made ∙ sym (length-map xs number) ∙ ap length are ∙ length-range_with_len 0 n

  within_made : at < n → at < length (map made xs)
  within_made within = omega (arith, within, as_many)

  pub made_next : at < n → All (λ m. m ≡ session) (drop at (map made xs)) → get_or (map made xs) at 0 ≡ session
  made_next within left = next_of (map made xs) at session (within_made within) left

  pub done_more : (zs : List X) → map made zs ≡ set (map made xs) at (session + 1) → at < n → All (λ m. m ≡ session) (drop at (map made xs)) → All (λ m. m ≡ session + 1) (take at (map made xs))
      → All (λ m. m ≡ session + 1) (take (at + 1) (map made zs))
  done_more zs is within left done = All-same (λ m. m ≡ session + 1) (take (at + 1) (map made zs)) (take (at + 1) (set (map made xs) at (session + 1))) (ap (take (at + 1)) is)
      (done_of (map made xs) at session (within_made within) left done)

  pub left_less : (zs : List X) → map made zs ≡ set (map made xs) at (session + 1) → at < n → All (λ m. m ≡ session) (drop at (map made xs))
      → All (λ m. m ≡ session) (drop (at + 1) (map made zs))
  left_less zs is within left = All-same (λ m. m ≡ session) (drop (at + 1) (map made zs)) (drop (at + 1) (set (map made xs) at (session + 1))) (ap (drop (at + 1)) is)
      (left_of (map made xs) at session (within_made within) left)

  pub all_done : n ≤ at → All (λ m. m ≡ session + 1) (take at (map made xs)) → All (λ m. m ≡ session + 1) (map made xs)
  all_done past done = All-same (λ m. m ≡ session + 1) (map made xs) (take at (map made xs)) (sym (take_all at (map made xs) (omega (arith, past, as_many)))) done
