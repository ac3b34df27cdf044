-- The forms of reasons and lacks are exact.
use Rattle.std.proofs.Common.{◌≡◌, ℕ, Option, None, Some, refl, sym, ap}
use Rattle.qc_event.specs.declared.event.Why.{Why}
use Rattle.qc_event.specs.declared.event.Why.TheVariants.{Lost, Late, Down, Full, Strange}
use Rattle.qc_event.specs.declared.event.Phase.TheVariants.{Collect, Values, Configs}
use Rattle.qc_codec.specs.Form.{Form, Any, under, just}
use Rattle.qc_codec.specs.Fields.{half}
use Rattle.qc_codec.proofs.Exact.{IsExact, AreTagged, exact_half, exact_pair, exact_as, exact_only, exact_times, exact_just, exact_variant, exact_choose, tagged_under, tagged_nothing}
use Rattle.qc_trail_codec.specs.Reasons.{why_tag, whys, why, is_inability, inability, missing_tag, some_of, reason, marks_of, number_of, IsWhole, copies, phase_tag, phase, lack}
use Rattle.qc_trail_codec.proofs.Marks.{marks_long, marks_back, number_back}

-- one value under its tag
pub tagged_just : {A : Type 0} (tag : A → ℕ) (a : A) (others : ℕ → Form A) → AreTagged tag others → AreTagged tag (under (tag a) (just a) others)
tagged_just {A} tag a others rest = tagged_under tag (tag a) (just a) others (exact_just a) (λ b fits. ap tag fits) rest

tagged_whys : AreTagged why_tag whys
tagged_whys =
    tagged_just why_tag Lost _
    (tagged_just why_tag Late _
    (tagged_just why_tag Down _
    (tagged_just why_tag Full _
    (tagged_just why_tag Strange _
    (tagged_nothing why_tag)))))

pub exact_why : IsExact why
unfolding why
exact_why = exact_choose why_tag whys tagged_whys

pub exact_inability : IsExact inability
unfolding inability
exact_inability = exact_only is_inability why exact_why

tagged_some : AreTagged missing_tag (some_of whys)
tagged_some = record { each = λ n. exact_variant (λ (w : Why). Some w) (λ (o : Option Why). o) (whys n) (tagged_whys.each n) (λ w fits. refl) (λ o w is. sym is); own = owned }
  where
    owned : (n : ℕ) (o : Option Why) → (some_of whys n).fits o → missing_tag o ≡ n
    owned n None fits = absurd fits
    owned n (Some w) fits = tagged_whys.own n w fits

exact_reason : IsExact reason
unfolding reason
exact_reason = exact_choose missing_tag _ (tagged_just missing_tag None _ tagged_some)

exact_copies : IsExact copies
unfolding copies half
exact_copies = exact_as (marks_of 16) number_of IsWhole half exact_half (λ marks fits whole. marks_back 16 marks whole) (λ n fits. (number_back 16 n fits, marks_long 16 n))

exact_phase : IsExact phase
unfolding phase
exact_phase = exact_choose phase_tag _ (tagged_just phase_tag Collect _ (tagged_just phase_tag Values _ (tagged_just phase_tag Configs _ (tagged_nothing phase_tag))))

pub exact_lack : IsExact lack
unfolding lack
exact_lack =
    exact_as _ _ Any _ (exact_pair phase _ exact_phase (λ p. exact_pair copies _ exact_copies (λ replied. exact_times reason exact_reason 16)))
    (λ l fits any. refl) (λ p fits. (refl, tt))
