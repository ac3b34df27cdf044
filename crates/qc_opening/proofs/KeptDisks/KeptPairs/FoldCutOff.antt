-- A copy's pair that is left amid the fold of its active disk into the other one restores what it did.
use Rattle.std.proofs.Common.{◌≡◌, ℕ, ◌+◌, ◌<◌, inl, inr, List, [], ◌∷◌, length, refl, sym, ap, ap₂, ◌∙◌, subst, arith}
use Rattle.std.specs.Prelude.{Bool, true, false, not, if◌then◌else◌, nat_lt, All, Option, Some}
use Rattle.std.proofs.lemmas.Bool.{lt-ltb, ltb-true}
use Rattle.std.proofs.lemmas.List.Elements.{All-nil, All-cons}
use Rattle.qc_codec.specs.Base.{active, base_in, copy_base, current_copy_base, is_swapped, number_of_base, tuples_of_base}
use Rattle.qc_codec.specs.Copy.{grant_form, granted_in}
use Rattle.qc_codec.specs.Restored.{is_kept, restored_row}
use Rattle.qc_codec.specs.declared.past.Past.{Past}
use Rattle.qc_codec.specs.declared.record.BaseRecord.{BaseRecord}
use Rattle.qc_config.specs.declared.tuple.Tuple.{Tuple}
use Rattle.qc_desk.specs.Held.{from_row}
use Rattle.qc_desk.proofs.Rows.{row_none}
use Rattle.qc_event.specs.declared.event.Grant.{Grant}
use Rattle.qc_event.specs.declared.table.Table.{Table}
use Rattle.qc_journal.specs.Image.{HasRecords}
use Rattle.qc_opening.specs.Pairs.{IsFoldCutOff}
use Rattle.qc_pair.specs.Pair.{number_at}
use Rattle.qc_refine.specs.Images.{IsCopyBodies}
use Rattle.qc_refine.specs.Pairs.{TellsPair}
use Rattle.qc_refine.proofs.Restoring.ImageReadings.{copy_base_read, copy_told}
use Rattle.qc_site.specs.Image.{made_body}
use Rattle.qc_site.specs.Renewal.{renewed, renewed_base, renewed_body, restored_in}
use Rattle.qc_site.proofs.RestoredFit.{restored_size}

-- of which base a copy's bodies are
abbrev number_of : List (List ℕ) → ℕ
number_of bodies = number_of_base (base_in copy_base bodies)

module _ (table : Table) (past : Past) (copy : ℕ) (image image' later later' : List ℕ) (cut : IsFoldCutOff table past copy image image' later later') where
  abbrev other_disk : ℕ
  other_disk = number_at (not cut.is_spare) (copy + 1)

  abbrev folded : List (List ℕ)
  folded = renewed table past cut.found other_disk

  abbrev held : List Tuple
  held = restored_in past.tops table cut.found

  -- what was folded are a copy's bodies
  tells : IsCopyBodies table held [] other_disk folded
  tells = record {
    base = Some (renewed_base table past cut.found);
    begin_is = refl;
    made_fits = cut.made_fits;
    base_fits = All-cons (current_copy_base table).fits (renewed_base table past cut.found) [] cut.base_fits (All-nil (current_copy_base table).fits);
    grants_fit = All-nil (grant_form table).fits;
    are = refl;
  }

  -- their number is the next one
  next_number : number_of folded ≡ number_of cut.found + 1
  unfolding tells
  next_number = ap number_of_base (copy_base_read table held [] other_disk folded tells)

  -- and they restore the same
  same_restored : restored_in past.tops table folded ≡ held
  same_restored =
      let told = copy_told table held [] other_disk folded tells in
      ap₂ (λ (gs : List Grant) (row : List Tuple). restored_row past.tops (length table.records) (from_row row) gs) told.0 told.1
      ∙ ap (λ (n : ℕ). restored_row past.tops n (from_row held) []) (sym (restored_size table past.tops cut.found))
      ∙ row_none (is_kept past.tops) held

  -- THE ACTIVE ONE

  abbrev Tells : List (List ℕ) → Type 0
  Tells bodies = restored_in past.tops table bodies ≡ held

  -- Bodies stand on the other disk, beside the active ones: which then are active restore the same.
  record Stands (bodies : List (List ℕ)) : Type 0 where
    own_active : cut.is_spare ≡ false → Tells (active copy_base cut.found bodies)
    spare_active : cut.is_spare ≡ true → Tells (active copy_base bodies cut.found)

  picked : (a b : List (List ℕ)) (swapped : Bool) → is_swapped copy_base a b ≡ swapped → Tells (if swapped then b else a) → Tells (active copy_base a b)
  picked a b swapped is told = subst (λ (s : Bool). Tells (if s then b else a)) (sym is) told

  not_below : (n m : ℕ) → (n < m → ⊥) → nat_lt n m ≡ false
  not_below n m never = by (nat_lt n m) refl
    where
      by : (b : Bool) → nat_lt n m ≡ b → nat_lt n m ≡ false
      by true is = absurd (never (ltb-true n m is))
      by false is = is

  -- the active ones are the spare's, or the disk's own
  found_is : (s : Bool) → cut.is_spare ≡ s → cut.found ≡ (if s then cut.have.spare else cut.have.own)
  found_is s is = cut.have.are_active ∙ ap (λ (b : Bool). if b then cut.have.spare else cut.have.own) (sym cut.have.swapped_is ∙ is)

  -- those that were there
  before : Stands (if cut.is_spare then cut.have.own else cut.have.spare)
  before = record {
    own_active = λ is. ap (restored_in past.tops table)
        (ap₂ (λ (f : List (List ℕ)) (b : Bool). active copy_base f (if b then cut.have.own else cut.have.spare)) (found_is false is) is ∙ sym cut.have.are_active);
    spare_active = λ is. ap (restored_in past.tops table)
        (ap₂ (λ (f : List (List ℕ)) (b : Bool). active copy_base (if b then cut.have.own else cut.have.spare) f) (found_is true is) is ∙ sym cut.have.are_active);
  }

  -- none with a base
  unfinished : (bodies : List (List ℕ)) → number_of bodies ≡ 0 → Stands bodies
  unfinished bodies none = record {
    own_active = λ is. picked cut.found bodies false (not_below (number_of cut.found) (number_of bodies) (λ less. omega (arith, less, none))) refl;
    spare_active = λ is.
        let greater = ltb-true (number_of cut.have.own) (number_of cut.have.spare) (sym cut.have.swapped_is ∙ is) in
        picked bodies cut.found true (lt-ltb (number_of bodies) (number_of cut.found) (omega (arith, none, greater, ap number_of (found_is true is)))) refl;
  }

  -- both that were folded
  finished : Stands folded
  finished = record {
    own_active = λ is. picked cut.found folded true (lt-ltb (number_of cut.found) (number_of folded) (omega (arith, next_number))) same_restored;
    spare_active = λ is. picked folded cut.found false (not_below (number_of folded) (number_of cut.found) (λ less. omega (arith, less, next_number))) same_restored;
  }

  left : (bodies : List (List ℕ)) → Stands bodies → HasRecords bodies (if cut.is_spare then later else later') → TellsPair copy_base (copy + 1) (λ number bodies. Tells bodies) later later'
  left bodies stands has = by cut.is_spare refl has cut.same
    where
      by : (s : Bool) → cut.is_spare ≡ s → HasRecords bodies (if s then later else later') → HasRecords cut.found (if s then later' else later) → TellsPair copy_base (copy + 1) (λ number bodies. Tells bodies) later later'
      by true is has same = record { own = bodies; spare = cut.found; has = has; has_spare = same; tells = stands.spare_active is }
      by false is has same = record { own = cut.found; spare = bodies; has = same; has_spare = has; tells = stands.own_active is }

  -- at each moment the active bodies restore what they did
  pub fold_restores : TellsPair copy_base (copy + 1) (λ number bodies. restored_in past.tops table bodies ≡ restored_in past.tops table cut.found) later later'
  fold_restores = elim cut.folding [
    | inl has ↦ left (if cut.is_spare then cut.have.own else cut.have.spare) before has
    | inr (inl has) ↦ left [] (unfinished [] refl) has
    | inr (inr (inl has)) ↦ left (made_body other_disk table ∷ []) (unfinished (made_body other_disk table ∷ []) refl) has
    | inr (inr (inr has)) ↦ left folded finished has
  ]
