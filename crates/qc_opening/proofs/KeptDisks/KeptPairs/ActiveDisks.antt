-- Which images of pairs are active: those of the disks that a mounting found active.
use Rattle.std.proofs.Common.{◌≡◌, ℕ, ◌+◌, ◌<◌, Bool, true, false, List, [], length, get_or, refl, sym, arith}
use Rattle.std.specs.Prelude.{if◌then◌else◌, Some}
use Rattle.std.proofs.lemmas.List.FromFn.{get_or-map-range_with_len, length-map-range_with_len}
use Rattle.qc_event.specs.declared.table.Table.{Table}
use Rattle.qc_journal.specs.Image.{HasRecords}
use Rattle.qc_opening.specs.Pairs.{active_images, of_active}
use Rattle.qc_pair.specs.Front.{base_form}
use Rattle.qc_pair.specs.Opening.{HaveActive}
use Rattle.qc_pair.specs.Pair.{number_at}
use Rattle.qc_pair.specs.declared.kind.Kind.{Kind}
use Rattle.qc_refine.specs.Pairs.{TellsPair, image_of}
use Rattle.qc_refine.proofs.Restoring.Actives.{AreOfImage}
use Rattle.qc_refine.proofs.Restoring.GrownImages.{by_swapped}

-- THE ACTIVE IMAGES

-- there is one of each pair
pub active_many : (table : Table) (swapped : ℕ → Bool) (images : List (List ℕ)) → length (active_images table swapped images) ≡ table.copies + 1
active_many table swapped images = length-map-range_with_len (of_active table swapped (image_of table images)) 0 (table.copies + 1)

pub active_at : (table : Table) (swapped : ℕ → Bool) (images : List (List ℕ)) (pair : ℕ) → pair < table.copies + 1 → get_or (active_images table swapped images) pair [] ≡ of_active table swapped (image_of table images) pair
active_at table swapped images pair there = get_or-map-range_with_len (of_active table swapped (image_of table images)) 0 (table.copies + 1) pair pair [] there (omega arith)

-- ONE PAIR

module _ (kind : Kind) (who : ℕ) where
  -- the images of a pair are of bodies of which the active ones are those of this image
  abbrev pub HasActive : Bool → List ℕ → List ℕ → List ℕ → Type 0
  HasActive is_spare active image spare = TellsPair (base_form kind) who (AreOfImage (number_at is_spare who) active) image spare

  -- where images were told, the active one has the active bodies
  pub told_active : (image spare : List ℕ) (is_spare : Bool) (found : List (List ℕ)) → HaveActive kind who (Some image) (Some spare) is_spare found
      → HasActive is_spare (if is_spare then spare else image) image spare
  told_active image spare is_spare found have = record {
    own = have.own;
    spare = have.spare;
    has = have.has_own;
    has_spare = have.has_spare;
    tells = by_swapped (base_form kind) who (AreOfImage (number_at is_spare who) (if is_spare then spare else image)) have.own have.spare is_spare (sym have.swapped_is) (refl, one_has is_spare have.has_own have.has_spare);
  }
    where
      one_has : {own other : List (List ℕ)} (b : Bool) → HasRecords own image → HasRecords other spare → HasRecords (if b then other else own) (if b then spare else image)
      one_has true has has_spare = has_spare
      one_has false has has_spare = has
