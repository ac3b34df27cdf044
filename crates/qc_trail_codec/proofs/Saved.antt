-- The form of a trail is exact.
use Rattle.std.proofs.Common.{◌≡◌, ℕ, ◌≤◌, List, [], length, refl, ap₂, arith}
use Rattle.std.specs.Prelude.{nat_le, slice_index_or}
use Rattle.std.proofs.lemmas.Bool.{and_parts, leb-true}
use Rattle.qc_config.specs.declared.tuple.Tuple.{Tuple}
use Rattle.qc_codec.specs.Form.{Form, Any, byte, pair, only, times}
use Rattle.qc_codec.specs.Fields.{long, tuple}
use Rattle.qc_codec.specs.Bodies.{is_between}
use Rattle.qc_codec.proofs.Exact.{IsExact, exact_byte, exact_long, exact_pair, exact_as, exact_only, exact_times, exact_counted}
use Rattle.qc_codec.proofs.Fields.{exact_tuple}
use Rattle.qc_trail_codec.specs.Trail.{layout_of, base_of, parts_of_base, base, trail}
use Rattle.qc_trail_codec.proofs.Events.{exact_entry}

parts : ℕ → Form (ℕ × (ℕ × List (List Tuple)))
parts format = pair (only (is_between 1 16) byte) (λ copies. pair (only (is_between 1 64) byte) (λ records. times copies (times records (tuple (layout_of format copies)))))

exact_parts : (format : ℕ) → IsExact (parts format)
unfolding parts
exact_parts format =
    exact_pair _ _ (exact_only (is_between 1 16) byte exact_byte) (λ copies.
    exact_pair _ _ (exact_only (is_between 1 64) byte exact_byte) (λ records.
    exact_times _ (exact_times _ (exact_tuple (layout_of format copies)) records) copies))

exact_base : (format : ℕ) → IsExact (base format)
unfolding base parts
exact_base format = exact_as base_of parts_of_base Any _ (exact_parts format) (λ b fits any. refl) forth
  where
    forth : (p : ℕ × (ℕ × List (List Tuple))) → (parts format).fits p → (parts_of_base (base_of p) ≡ p) × Any (base_of p)
    forth p fits =
        let many : length p.1.1 ≡ p.0 = fits.1.1.0 in
        let least : 1 ≤ p.0 = leb-true 1 p.0 (and_parts (nat_le 1 p.0) _ fits.0.1).0 in
        let wide : length (slice_index_or p.1.1 0 []) ≡ p.1.0 = (fits.1.1.1 0 [] (omega (arith, many, least))).0 in
        (ap₂ (λ (n k : ℕ). (n, (k, p.1.1))) many wide, tt)

pub exact_trail : (format : ℕ) → IsExact (trail format)
unfolding trail
exact_trail format =
    exact_as _ _ Any _ (exact_pair (base format) _ (exact_base format) (λ b. exact_counted long _ exact_long (exact_entry (layout_of format (length b)))))
    (λ t fits any. refl) (λ p fits. (refl, tt))
