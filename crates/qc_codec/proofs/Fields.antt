-- Names, configurations and tuples are exact.
use mathlib.Core.Bool.{true≢false}
use Rattle.std.proofs.Common.{◌≡◌, ℕ, ◌-◌, ◌<◌, Bool, true, false, Some, List, [], ◌∷◌, length, refl, sym, ap, arith}
use Rattle.std.specs.Prelude.{◌==◌, nat_lt}
use Rattle.std.proofs.lemmas.Bool.{and_parts, ltb-true}
use Rattle.qc_config.specs.Val.{Datum, Number, Text, number_of, bytes_of}
use Rattle.qc_event.specs.History.{Name}
use Rattle.qc_codec.specs.Form.{Form, Any, byte, run, pair, only, times, text}
use Rattle.qc_codec.specs.Fields.{Layout, half, long, top_number, some_number, is_top, is_some_number, is_length, name_of, parts_of_name, has_no_fault, name, is_short, number_datum, text_datum, datum_tag, datum_by, datum, config, tuple, word}
use Rattle.qc_codec.proofs.Exact.{IsExact, exact_byte, exact_half, exact_word, exact_long, exact_run, exact_pair, exact_as, exact_only, exact_marked, exact_times, exact_text, exact_variant, variant_tag, exact_choose, tagged_under, tagged_nothing}

pub exact_top_number : IsExact top_number
exact_top_number = exact_only is_top long exact_long

pub exact_some_number : IsExact some_number
exact_some_number = exact_only is_some_number word exact_word

parts : ℕ → Form (ℕ × (ℕ × List ℕ))
parts least = pair (only (is_length least) byte) (λ n. pair top_number (λ top. times (n - 1) some_number))

exact_parts : (least : ℕ) → IsExact (parts least)
unfolding parts
exact_parts least =
    exact_pair _ _ (exact_only (is_length least) byte exact_byte) (λ n.
    exact_pair _ _ exact_top_number (λ top.
    exact_times some_number exact_some_number (n - 1)))

pub exact_name : (least : ℕ) → IsExact (name least)
unfolding name parts
exact_name least = exact_as name_of parts_of_name Any _ (exact_parts least) back forth
  where
    back : (n : Name) → (parts least).fits (parts_of_name n) → Any n → name_of (parts_of_name n) ≡ n
    back [] fits any = absurd (true≢false (sym fits.0.1))
    back (x ∷ n) fits any = refl

    forth : (p : ℕ × (ℕ × List ℕ)) → (parts least).fits p → (parts_of_name (name_of p) ≡ p) × Any (name_of p)
    forth p fits =
        let some : 0 < p.0 = ltb-true 0 p.0 (and_parts (nat_lt 0 p.0) _ fits.0.1).0 in
        let rest : length p.1.1 ≡ p.0 - 1 = fits.1.1.0 in
        let same : length (p.1.0 ∷ p.1.1) ≡ p.0 = omega (arith, some, rest) in
        (ap (λ (k : ℕ). (k, p.1)) same, tt)

number_back : (v : Datum) (n : ℕ) → number_of v ≡ Some n → Number n ≡ v
number_back (Number m) n is = cc
number_back (Text bytes) n is = absurd cc

text_back : (v : Datum) (bytes : List ℕ) → bytes_of v ≡ Some bytes → Text bytes ≡ v
text_back (Number n) bytes is = absurd cc
text_back (Text other) bytes is = cc

exact_number : IsExact number_datum
unfolding number_datum
exact_number = exact_variant Number number_of long exact_long (λ n fits. refl) number_back

number_tagged : (v : Datum) → number_datum.fits v → datum_tag v ≡ 0
unfolding number_datum
number_tagged = variant_tag Number number_of long datum_tag 0 (λ n. refl) number_back

short_text : Form (List ℕ)
short_text = text (only is_short half)

exact_of_text : IsExact text_datum
unfolding text_datum short_text
exact_of_text = exact_variant Text bytes_of short_text (exact_text _ (exact_only is_short half exact_half)) (λ bytes fits. refl) text_back

text_tagged : (v : Datum) → text_datum.fits v → datum_tag v ≡ 1
unfolding text_datum short_text
text_tagged = variant_tag Text bytes_of short_text datum_tag 1 (λ bytes. refl) text_back

exact_datum_by : (b : Bool) → IsExact (datum_by b)
exact_datum_by true = exact_number
exact_datum_by false = exact_choose datum_tag _
    (tagged_under datum_tag 0 _ _ exact_number number_tagged
    (tagged_under datum_tag 1 _ _ exact_of_text text_tagged
    (tagged_nothing datum_tag)))

pub exact_datum : (format : ℕ) → IsExact (datum format)
unfolding datum
exact_datum format = exact_datum_by (format == 1)

pub exact_config : (layout : Layout) → IsExact (config layout)
unfolding config
exact_config layout =
    exact_only has_no_fault _ (exact_as _ _ Any _
    (exact_marked layout.copies _ (exact_pair (run layout.copies) _ (exact_run layout.copies) (λ votes. exact_pair half _ exact_half (λ read. exact_half))))
    (λ c fits any. refl) (λ p fits. (refl, tt)))

pub exact_tuple : (layout : Layout) → IsExact (tuple layout)
unfolding tuple
exact_tuple layout =
    exact_as _ _ Any _
    (exact_pair long _ exact_long (λ version. exact_pair (datum layout.format) _ (exact_datum layout.format) (λ value. exact_pair long _ exact_long (λ generation. exact_config layout))))
    (λ t fits any. refl) (λ p fits. (refl, tt))
