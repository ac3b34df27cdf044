-- The newest and the greatest of a collection are among it and above each of it; so is the greatest version of all copies.
use Rattle.std.proofs.Common.{◌≡◌, ℕ, ◌<◌, ◌≤◌, Bool, true, false, List, [], ◌∷◌, length, refl, arith, get_or}
use Rattle.std.specs.Prelude.{All, nat_lt, if◌then◌else◌, fold}
use Rattle.std.proofs.lemmas.Bool.{ltb-true, ltb-false}
use Rattle.std.proofs.lemmas.List.Elements.{All-nil, All-cons, All-head, All-tail}
use Rattle.std.proofs.lemmas.List.Recursion.{max_bounds, max_least}
use Rattle.qc_config.specs.declared.tuple.Tuple.{Tuple}
use Rattle.qc_event.specs.Base.{no_tuple}
use Rattle.qc_event.specs.Manager.{Newest, Greatest, newer, greater, greatest_among}
use Rattle.qc_event.specs.Sound.{greatest_version}

abbrev pub newest_in : Tuple → Newest
newest_in t = record { generation = t.generation; config = t.config }

abbrev pub greatest_in : Tuple → Greatest
greatest_in t = record { version = t.version; value = t.value }

one_of : {A : Type 0} (P : A → Type 0) (b : Bool) (x y : A) → P x → P y → P (if b then x else y)
one_of P true x y px py = px
one_of P false x y px py = py

pub newest_among : (P : Newest → Type 0) (best : Newest) (ts : List Tuple) → P best → All (λ t. P (newest_in t)) ts → P (fold newer best ts)
newest_among P best [] first rest = first
newest_among P best (t ∷ ts) first rest =
    newest_among P (newer best t) ts
    (one_of P (nat_lt best.generation t.generation) (newest_in t) best (All-head (λ x. P (newest_in x)) t ts rest) first)
    (All-tail (λ x. P (newest_in x)) t ts rest)

record Newer (best later : Newest) (t : Tuple) : Type 0 where
  grows : best.generation ≤ later.generation
  above : t.generation ≤ later.generation

newer_above : (best : Newest) (t : Tuple) → Newer best (newer best t) t
newer_above best t = by_test (nat_lt best.generation t.generation) refl
  where
    by_test : (b : Bool) → nat_lt best.generation t.generation ≡ b → Newer best (if b then newest_in t else best) t
    by_test true e = let h = ltb-true best.generation t.generation e in record { grows = omega arith; above = omega arith }
    by_test false e = let h = ltb-false best.generation t.generation e in record { grows = omega arith; above = omega arith }

pub newest_grows : (best : Newest) (ts : List Tuple) → best.generation ≤ (fold newer best ts).generation
newest_grows best [] = omega arith
newest_grows best (t ∷ ts) = let a = (newer_above best t).grows in let b = newest_grows (newer best t) ts in omega (arith, a, b)

pub newest_above : (best : Newest) (ts : List Tuple) → All (λ t. t.generation ≤ (fold newer best ts).generation) ts
newest_above best [] = All-nil _
newest_above best (t ∷ ts) =
    let a = (newer_above best t).above in
    let b = newest_grows (newer best t) ts in
    All-cons (λ x. x.generation ≤ (fold newer best (t ∷ ts)).generation) t ts (omega (arith, a, b)) (newest_above (newer best t) ts)

greatest_fold : (P : Greatest → Type 0) (best : Greatest) (ts : List Tuple) → P best → All (λ t. P (greatest_in t)) ts → P (fold greater best ts)
greatest_fold P best [] first rest = first
greatest_fold P best (t ∷ ts) first rest =
    greatest_fold P (greater best t) ts
    (one_of P (nat_lt best.version t.version) (greatest_in t) best (All-head (λ x. P (greatest_in x)) t ts rest) first)
    (All-tail (λ x. P (greatest_in x)) t ts rest)

pub greatest_one : (P : Greatest → Type 0) (ts : List Tuple) → 0 < length ts → All (λ t. P (greatest_in t)) ts → P (greatest_among ts)
greatest_one P [] some all = absurd (omega arith)
greatest_one P (t ∷ ts) some all = greatest_fold P (greatest_in t) ts (All-head (λ x. P (greatest_in x)) t ts all) (All-tail (λ x. P (greatest_in x)) t ts all)

record Greater (best later : Greatest) (t : Tuple) : Type 0 where
  grows : best.version ≤ later.version
  above : t.version ≤ later.version

greater_above : (best : Greatest) (t : Tuple) → Greater best (greater best t) t
greater_above best t = by_test (nat_lt best.version t.version) refl
  where
    by_test : (b : Bool) → nat_lt best.version t.version ≡ b → Greater best (if b then greatest_in t else best) t
    by_test true e = let h = ltb-true best.version t.version e in record { grows = omega arith; above = omega arith }
    by_test false e = let h = ltb-false best.version t.version e in record { grows = omega arith; above = omega arith }

greatest_grows : (best : Greatest) (ts : List Tuple) → best.version ≤ (fold greater best ts).version
greatest_grows best [] = omega arith
greatest_grows best (t ∷ ts) = let a = (greater_above best t).grows in let b = greatest_grows (greater best t) ts in omega (arith, a, b)

fold_above : (best : Greatest) (ts : List Tuple) → All (λ t. t.version ≤ (fold greater best ts).version) ts
fold_above best [] = All-nil _
fold_above best (t ∷ ts) =
    let a = (greater_above best t).above in
    let b = greatest_grows (greater best t) ts in
    All-cons (λ x. x.version ≤ (fold greater best (t ∷ ts)).version) t ts (omega (arith, a, b)) (fold_above (greater best t) ts)

pub greatest_above : (ts : List Tuple) → All (λ t. t.version ≤ (greatest_among ts).version) ts
greatest_above [] = All-nil _
greatest_above (t ∷ ts) = All-cons (λ x. x.version ≤ (greatest_among (t ∷ ts)).version) t ts (greatest_grows (greatest_in t) ts) (fold_above (greatest_in t) ts)

-- THE GREATEST VERSION OF ALL COPIES

abbrev version_in : Tuple → ℕ
version_in t = t.version

pub version_bounds : (tuples : List Tuple) (c : ℕ) → c < length tuples → (get_or tuples c no_tuple).version ≤ greatest_version tuples
version_bounds tuples c lt = max_bounds greatest_version version_in refl (λ t ts. refl) tuples c no_tuple lt

-- a version that a copy has, and that none is above
pub version_is : (tuples : List Tuple) (n c : ℕ) → ((k : ℕ) → k < length tuples → (get_or tuples k no_tuple).version ≤ n) → c < length tuples → (get_or tuples c no_tuple).version ≡ n → greatest_version tuples ≡ n
version_is tuples n c most lt is =
    let low = version_bounds tuples c lt in
    let high = max_least greatest_version version_in refl (λ t ts. refl) tuples no_tuple n most in
    omega (arith, low, high, is)
