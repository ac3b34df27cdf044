-- What a mounting found on the other disk of each pair.
use Rattle.std.proofs.Common.{◌≡◌, ◌⊎◌, ℕ, zero, suc, ◌+◌, ◌<◌, ◌≤◌, inl, inr, true, List, [], refl, sym, ap, ◌∙◌, subst, arith}
use Rattle.std.specs.Prelude.{Bool, false, if◌then◌else◌, Option, IfSome, is_some}
use Rattle.std.proofs.Props.{props}
use Rattle.std.proofs.lemmas.Bool.{cases_lt}
use Rattle.qc_config.specs.declared.tuple.Tuple.{Tuple}
use Rattle.qc_event.specs.declared.table.Table.{Table}
use Rattle.qc_journal.specs.Image.{HasRecords}
use Rattle.qc_opening.specs.Pairs.{of_other, AreOthers, MountedInPairs}
use Rattle.qc_opening.proofs.ReadBodies.{bodies_told, told_read}

-- they are those that are read of what it told
one_read : (told spare_told : Option (List ℕ)) (own spare : List (List ℕ)) (is_spare : Bool) → IfSome told (HasRecords own) → IfSome spare_told (HasRecords spare) → is_some (if is_spare then told else spare_told) ≡ true
    → bodies_told (if is_spare then told else spare_told) ≡ (if is_spare then own else spare)
one_read told spare_told own spare true has has_spare tells = told_read told own has tells
one_read told spare_told own spare false has has_spare tells = told_read spare_told spare has_spare tells

module _ (table : Table) (told : ℕ → Option (List ℕ)) (records : ℕ → List (List ℕ)) (epoch : ℕ) (base : List (List Tuple)) (m : MountedInPairs table told records epoch base) where
  copy_other : (copy : ℕ) → copy < table.copies → List (List ℕ)
  copy_other copy there = if m.swapped (copy + 1) then (m.copies copy there).own else (m.copies copy there).spare

  -- of a copy that may not be there
  maybe_other : (copy : ℕ) → (copy < table.copies) ⊎ (table.copies ≤ copy) → List (List ℕ)
  maybe_other copy (inl there) = copy_other copy there
  maybe_other copy (inr past) = []

  pub others_of : ℕ → List (List ℕ)
  others_of zero = if m.swapped 0 then m.ledger.own else m.ledger.spare
  others_of (suc copy) = maybe_other copy (cases_lt copy table.copies)

  there_other : (copy : ℕ) (there : copy < table.copies) (where_is : (copy < table.copies) ⊎ (table.copies ≤ copy)) → maybe_other copy where_is ≡ copy_other copy there
  unfolding maybe_other
  there_other copy there (inl too) = let one : IsProp (copy < table.copies) = hlevel props in ap (copy_other copy) (one too there)
  there_other copy there (inr past) = absurd (omega (arith, there, past))

  pub others_are : AreOthers m others_of
  unfolding others_of copy_other
  others_are = record {
    ledger = refl;
    copies = λ copy there.
        let next : copy + 1 ≡ suc copy = omega arith in
        ap others_of next ∙ there_other copy there (cases_lt copy table.copies);
  }

  -- whichever the bodies are called, they are read
  module _ (others : ℕ → List (List ℕ)) (are : AreOthers m others) where
    pub others_read : (pair : ℕ) → pair ≤ table.copies → is_some (of_other table m.swapped told pair) ≡ true → bodies_told (of_other table m.swapped told pair) ≡ others pair
    others_read zero low tells = one_read (told 0) (told (table.copies + 1 + 0)) m.ledger.own m.ledger.spare (m.swapped 0) m.ledger.has_own m.ledger.has_spare tells ∙ sym are.ledger
    others_read (suc copy) low tells =
        let there : copy < table.copies = omega (arith, low) in
        let next : copy + 1 ≡ suc copy = omega arith in
        let have = m.copies copy there in
        subst (λ n. is_some (of_other table m.swapped told n) ≡ true → bodies_told (of_other table m.swapped told n) ≡ others n) next
        (λ some. one_read (told (copy + 1)) (told (table.copies + 1 + (copy + 1))) have.own have.spare (m.swapped (copy + 1)) have.has_own have.has_spare some ∙ sym (are.copies copy there)) tells
