-- What is written behind a base keeps which image of a pair is active.
use Rattle.std.proofs.Common.{◌≡◌, ℕ, ◌+◌, ◌<◌, Bool, true, false, List, [], ◌∷◌, ◌++◌, length, refl, sym, ap, ◌∙◌, subst, arith}
use Rattle.std.specs.Prelude.{if◌then◌else◌, map, nat_lt, Option, None, Some}
use Rattle.std.specs.Option.{option_and_then}
use Rattle.qc_codec.specs.Base.{active, active_disk, base_in, copy_base, is_swapped, number_of_base}
use Rattle.qc_codec.specs.Bodies as body
use Rattle.qc_codec.specs.Copy.{grant_form}
use Rattle.qc_codec.specs.Fields.{current_format}
use Rattle.qc_codec.specs.Form.{Form, all_of}
use Rattle.qc_codec.specs.declared.record.BaseRecord.{BaseRecord}
use Rattle.qc_codec.specs.declared.record.Made.{Made}
use Rattle.qc_codec.proofs.Bases.{grant_no_base}
use Rattle.qc_event.specs.declared.event.Grant.{Grant}
use Rattle.qc_event.specs.declared.table.Table.{Table}
use Rattle.qc_journal.specs.Image.{HasRecords}
use Rattle.qc_refine.specs.Pairs.{TellsPair}
use Rattle.qc_refine.proofs.Restoring.Actives.{AreOfImage}

-- WHAT KEEPS A BASE

-- whatever stands behind two bodies
pub same_behind_two : (form : Made → Form BaseRecord) (bodies more : List (List ℕ)) → 1 < length bodies → base_in form (bodies ++ more) ≡ base_in form bodies
same_behind_two form [] more two = absurd (omega (arith, two))
same_behind_two form (first ∷ []) more two = absurd (omega (arith, two))
same_behind_two form (first ∷ second ∷ bodies) more two = refl

-- and grants behind one
pub same_behind_grants : (table : Table) (bodies : List (List ℕ)) (granted : List Grant) → 0 < length bodies → base_in copy_base (bodies ++ map (grant_form table).spell granted) ≡ base_in copy_base bodies
same_behind_grants table [] granted one = absurd (omega (arith, one))
same_behind_grants table (first ∷ second ∷ bodies) granted one = refl
same_behind_grants table (first ∷ []) [] one = refl
same_behind_grants table (first ∷ []) (g ∷ granted) one = none (all_of body.made first)
  where
    none : (made : Option Made) → option_and_then (λ (m : Made). all_of (copy_base m) ((grant_form table).spell g)) made ≡ None
    none None = refl
    none (Some m) = grant_no_base current_format m table g

-- WHICH IS ACTIVE

-- what stands in a pair, where it is known which is active
pub by_swapped : (form : Made → Form BaseRecord) (disk : ℕ) (Tells : ℕ → List (List ℕ) → Type 0) (own spare : List (List ℕ)) (is_spare : Bool) → is_swapped form own spare ≡ is_spare
    → Tells (if is_spare then disk + 17 else disk) (if is_spare then spare else own) → Tells (active_disk form own spare disk) (active form own spare)
by_swapped form disk Tells own spare is_spare is t = subst (λ (b : Bool). Tells (if b then disk + 17 else disk) (if b then spare else own)) (sym is) t

module _ (form : Made → Form BaseRecord) (disk : ℕ) (own spare more : List (List ℕ)) (image other : List ℕ) where
  -- A pair whose active bodies grew without a new base: the image that has them is still the active one.
  pub grown_active : (is_spare : Bool) → is_swapped form own spare ≡ is_spare
      → base_in form ((if is_spare then spare else own) ++ more) ≡ base_in form (if is_spare then spare else own)
      → HasRecords ((if is_spare then spare else own) ++ more) image → HasRecords (if is_spare then own else spare) other
      → TellsPair form disk (AreOfImage (if is_spare then disk + 17 else disk) image) (if is_spare then other else image) (if is_spare then image else other)
  grown_active true is same has has_other = record {
    own = own;
    spare = spare ++ more;
    has = has_other;
    has_spare = has;
    tells = by_swapped form disk (AreOfImage (disk + 17) image) own (spare ++ more) true (ap (λ b. nat_lt (number_of_base (base_in form own)) (number_of_base b)) same ∙ is) (refl, has);
  }
  grown_active false is same has has_other = record {
    own = own ++ more;
    spare = spare;
    has = has;
    has_spare = has_other;
    tells = by_swapped form disk (AreOfImage disk image) (own ++ more) spare false (ap (λ b. nat_lt (number_of_base b) (number_of_base (base_in form spare))) same ∙ is) (refl, has);
  }
