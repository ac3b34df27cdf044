-- Which image of a pair is active where one was kept, and the other one folded into or not.
use Rattle.std.proofs.Common.{◌≡◌, ℕ, ◌+◌, ◌<◌, ◌≤◌, inl, inr, Bool, true, false, List, [], ◌∷◌, refl, sym, ap, ◌∙◌, subst, arith}
use Rattle.std.specs.Prelude.{if◌then◌else◌, not, Option}
use Rattle.std.proofs.lemmas.Bool.{le-ltb, lt-ltb, ltb-false, ltb-true}
use Rattle.qc_codec.specs.Base.{is_swapped, number_of_base}
use Rattle.qc_codec.specs.Bodies as body
use Rattle.qc_codec.specs.Form.{Form, all_of}
use Rattle.qc_codec.specs.Ledger.{made_for}
use Rattle.qc_codec.specs.declared.record.BaseRecord.{BaseRecord}
use Rattle.qc_codec.proofs.Bases.{base_behind}
use Rattle.qc_codec.proofs.Exact.{IsExact, all_again}
use Rattle.qc_event.specs.declared.table.Table.{Table}
use Rattle.qc_journal.specs.Image.{HasRecords}
use Rattle.qc_opening.specs.Pairs.{IsUnfolded}
use Rattle.qc_pair.specs.Front.{base_form, current_base, number_in}
use Rattle.qc_pair.specs.Opening.{HaveActive}
use Rattle.qc_pair.specs.Pair.{number_at}
use Rattle.qc_pair.specs.declared.kind.Kind.{Kind}
use Rattle.qc_pair.specs.declared.kind.Kind.TheVariants.{Copy, Ledger}
use Rattle.qc_pair.proofs.Halves.{active_by}
use Rattle.qc_refine.specs.Pairs.{TellsPair}
use Rattle.qc_refine.proofs.Restoring.GrownImages.{by_swapped}
use Rattle.qc_refine.proofs.Restoring.ImageReadings.{exact_copy_base, exact_ledger_base}

-- the number of a base is ahead of that on the other disk: a spare's where it is greater, and the disk's own where it is no less
abbrev IsAhead : Bool → ℕ → ℕ → Type 0
IsAhead true number other = other < number
IsAhead false number other = other ≤ number

-- it is ahead of one that is no greater, too
less_behind : (is_spare : Bool) (number other less : ℕ) → IsAhead is_spare number other → less ≤ other → IsAhead is_spare number less
less_behind true number other less ahead le = omega (arith, ahead, le)
less_behind false number other less ahead le = omega (arith, ahead, le)

module _ (kind : Kind) (who : ℕ) where
  -- WHICH IS ACTIVE

  -- active bodies are ahead
  ahead : (own spare : List (List ℕ)) (is_spare : Bool) → is_swapped (base_form kind) own spare ≡ is_spare → IsAhead is_spare (number_in kind (if is_spare then spare else own)) (number_in kind (if is_spare then own else spare))
  ahead own spare true is = ltb-true (number_in kind own) (number_in kind spare) is
  ahead own spare false is = ltb-false (number_in kind own) (number_in kind spare) is

  found_ahead : (told spare_told : Option (List ℕ)) (is_spare : Bool) (found : List (List ℕ)) (have : HaveActive kind who told spare_told is_spare found)
      → IsAhead is_spare (number_in kind found) (number_in kind (if is_spare then have.own else have.spare))
  found_ahead told spare_told is_spare found have =
      subst (λ bodies. IsAhead is_spare (number_in kind bodies) (number_in kind (if is_spare then have.own else have.spare))) (sym (active_by kind who told spare_told is_spare found have))
      (ahead have.own have.spare is_spare (sym have.swapped_is))

  -- bodies that are ahead are the active ones
  ahead_active : (Tells : ℕ → List (List ℕ) → Type 0) (image spare : List ℕ) (is_spare : Bool) (bodies others : List (List ℕ)) → IsAhead is_spare (number_in kind bodies) (number_in kind others)
      → HasRecords bodies (if is_spare then spare else image) → HasRecords others (if is_spare then image else spare) → Tells (number_at is_spare who) bodies → TellsPair (base_form kind) who Tells image spare
  ahead_active Tells image spare true bodies others first has has_other t = record {
    own = others;
    spare = bodies;
    has = has_other;
    has_spare = has;
    tells = by_swapped (base_form kind) who Tells others bodies true (lt-ltb (number_in kind others) (number_in kind bodies) first) t;
  }
  ahead_active Tells image spare false bodies others first has has_other t = record {
    own = bodies;
    spare = others;
    has = has;
    has_spare = has_other;
    tells = by_swapped (base_form kind) who Tells bodies others false (le-ltb (number_in kind bodies) (number_in kind others) first) t;
  }

  -- those of the next number on the other disk are
  pub next_active : (Tells : ℕ → List (List ℕ) → Type 0) (image spare : List ℕ) (is_spare : Bool) (bodies others : List (List ℕ)) → number_in kind bodies ≡ number_in kind others + 1
      → HasRecords bodies (if is_spare then image else spare) → HasRecords others (if is_spare then spare else image) → Tells (number_at (not is_spare) who) bodies → TellsPair (base_form kind) who Tells image spare
  next_active Tells image spare true bodies others next has has_other t = ahead_active Tells image spare false bodies others (omega (arith, next)) has has_other t
  next_active Tells image spare false bodies others next has has_other t = ahead_active Tells image spare true bodies others (omega (arith, next)) has has_other t

  -- WHERE NO FOLD WAS FINISHED

  -- the other image has bodies of a base whose number is no greater than before
  no_greater : (had : List (List ℕ)) (made image : List ℕ) → IsUnfolded had made image → (bodies : List (List ℕ)) × HasRecords bodies image × (number_in kind bodies ≤ number_in kind had)
  no_greater had made image (inl has) = (had, has, omega arith)
  no_greater had made image (inr (inl has)) = ([], has, omega arith)
  no_greater had made image (inr (inr has)) = (made ∷ [], has, omega arith)

  -- then bodies with the base of those that were found on the active disk are still active
  pub still_active : (Tells : ℕ → List (List ℕ) → Type 0) (told spare_told : Option (List ℕ)) (is_spare : Bool) (found bodies : List (List ℕ)) (image spare made : List ℕ) (have : HaveActive kind who told spare_told is_spare found)
      → number_in kind bodies ≡ number_in kind found → HasRecords bodies (if is_spare then spare else image) → IsUnfolded (if is_spare then have.own else have.spare) made (if is_spare then image else spare)
      → Tells (number_at is_spare who) bodies → TellsPair (base_form kind) who Tells image spare
  still_active Tells told spare_told is_spare found bodies image spare made have same has unfolded t =
      let (others, has_other, less) = no_greater (if is_spare then have.own else have.spare) made (if is_spare then image else spare) unfolded in
      ahead_active Tells image spare is_spare bodies others
      (less_behind is_spare (number_in kind bodies) (number_in kind (if is_spare then have.own else have.spare)) (number_in kind others)
      (subst (λ n. IsAhead is_spare n (number_in kind (if is_spare then have.own else have.spare))) (sym same) (found_ahead told spare_told is_spare found have)) less)
      has has_other t

-- WHAT WAS FOLDED

exact_base : (kind : Kind) (table : Table) → IsExact (current_base kind table)
exact_base Ledger table = exact_ledger_base (made_for 0 table)
exact_base Copy table = exact_copy_base (made_for 0 table)

-- the base behind a made record of the current format
base_now : (kind : Kind) (table : Table) (disk : ℕ) → base_form kind (made_for disk table) ≡ current_base kind table
base_now Ledger table disk = refl
base_now Copy table disk = refl

-- behind a made record a base has its number
pub number_behind : (kind : Kind) (table : Table) (disk : ℕ) (b : BaseRecord) → body.made.fits (made_for disk table) → (current_base kind table).fits b
    → number_in kind (body.made.spell (made_for disk table) ∷ (current_base kind table).spell b ∷ []) ≡ b.number
number_behind kind table disk b made_fits fits =
    ap number_of_base (base_behind (base_form kind) (made_for disk table) ((current_base kind table).spell b) [] made_fits
    ∙ ap (λ (f : Form BaseRecord). all_of f ((current_base kind table).spell b)) (base_now kind table disk) ∙ all_again (current_base kind table) (exact_base kind table) b fits)
