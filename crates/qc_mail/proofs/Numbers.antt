-- What stands at a copy's number is of that copy, and what holds of all ends where one of them changes.
use Rattle.std.proofs.Common.{◌≡◌, ℕ, ◌<◌, List, [], ◌∷◌, ◌++◌, length, map, get_or, set, All, sym, ap, ◌∙◌, subst, arith}
use Rattle.std.specs.List.{range_with_len}
use Rattle.std.proofs.lemmas.List.{get_or-map, length-map, map-set}
use Rattle.std.proofs.lemmas.List.Elements.{All-get_or, All-set}
use Rattle.std.proofs.lemmas.List.FromFn.{get_or-range_with_len, length-range_with_len}
use Rattle.std.proofs.Math.Seq.{map-set_same}
use Rattle.qc_event.specs.declared.event.Ask.{Ask}
use Rattle.qc_mail.specs.Mails.{with_sent}

pub as_many : {X : Type 0} (xs : List X) (number : X → ℕ) (n : ℕ) → map number xs ≡ range_with_len 0 n → length xs ≡ n
as_many xs number n is = sym (length-map xs number) ∙ ap length is ∙ length-range_with_len 0 n

module _ {X : Type 0} (xs : List X) (i : ℕ) where
  pub reaches : (number : X → ℕ) (n copy : ℕ) → map number xs ≡ range_with_len 0 n → i ≡ copy → copy < n → i < length xs
  reaches number n copy is same within =
      omega (arith, same, within, as_many xs number n is)

  pub number_is : (number : X → ℕ) (n copy : ℕ) (x : X) → map number xs ≡ range_with_len 0 n → i ≡ copy → copy < n → x ≡ get_or xs i x → number x ≡ copy
  number_is number n copy x is same within at =
      ap number at ∙ sym (get_or-map number xs i x 0 (reaches number n copy is same within))
      ∙ ap (λ (l : List ℕ). get_or l i 0) is ∙ get_or-range_with_len 0 n i 0 (omega (arith, same, within)) ∙ omega (arith, same)

  pub map_kept : {Y : Type 0} (f : X → Y) (x y : X) → x ≡ get_or xs i x → f y ≡ f x → map f (set xs i y) ≡ map f xs
  map_kept f x y at same = map-set_same f xs i y x (same ∙ ap f at)

  pub at_place : (P : X → Type 0) (x : X) → i < length xs → x ≡ get_or xs i x → All P xs → P x
  at_place P x within at all = subst P (sym at) (All-get_or P xs i x within all)

  -- what a list of numbers, one of each, has at the number
  pub told_at : (told : X → ℕ) (copy : ℕ) (x : X) → i < length xs → i ≡ copy → x ≡ get_or xs i x → told x ≡ get_or (map told xs) copy 0
  told_at told copy x within same at =
      ap told at ∙ sym (get_or-map told xs i x 0 within) ∙ ap (λ (k : ℕ). get_or (map told xs) k 0) same

  pub all_same : (number : X → ℕ) (n : ℕ) (x y : X) → i < length xs → x ≡ get_or xs i x → number y ≡ number x → All (λ e. number e ≡ n) xs → All (λ e. number e ≡ n) (set xs i y)
  all_same number n x y within at same all =
      All-set (λ e. number e ≡ n) xs i y (same ∙ at_place (λ e. number e ≡ n) x within at all) all

  pub all_taken : (known : X → ℕ) (put : X → List Ask) (x y : X) → i < length xs → x ≡ get_or xs i x → known y ≡ known x → put y ≡ put x
      → All (λ e. known e ≡ length (put e)) xs → All (λ e. known e ≡ length (put e)) (set xs i y)
  all_taken known put x y within at knows puts all =
      let was : known x ≡ length (put x) = at_place (λ e. known e ≡ length (put e)) x within at all in
      All-set (λ e. known e ≡ length (put e)) xs i y (knows ∙ was ∙ ap length (sym puts)) all

  pub sent_one : (put : X → List Ask) (x y : X) (ask : Ask) → i < length xs → x ≡ get_or xs i x → put y ≡ put x ++ ask ∷ [] → map put (set xs i y) ≡ with_sent i ask (map put xs)
  sent_one put x y ask within at one =
      map-set put xs i y ∙ ap (set (map put xs) i) (one ∙ ap (λ l. l ++ ask ∷ []) (ap put at ∙ sym (get_or-map put xs i x [] within)))
