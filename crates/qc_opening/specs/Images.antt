-- The first fault of the images of a store's disks.
use Rattle.std.specs.Prelude.{ℕ, ◌≡◌, ◌+◌, ◌⊎◌, Bool, List, [], ◌∷◌, length, map, Option, Some}
use Rattle.std.specs.List.{range_with_len}
use Rattle.qc_event.specs.declared.table.Table.{Table}
use Rattle.qc_codec.specs.Ledger.{past_in}
use Rattle.qc_codec.specs.declared.image.BadImage.{BadImage}
use Rattle.qc_codec.specs.declared.past.Past.{Past}
use Rattle.qc_ledger.specs.Image.{AreMountableAsLedger}
use Rattle.qc_ledger.specs.Pairs.{IsLedgerPairNo}
use Rattle.qc_opening.specs.Disks.{all_places, by_place}
use Rattle.qc_opening.specs.Numbered.{EachFrom}
use Rattle.qc_pair.specs.Opening.{HaveActive}
use Rattle.qc_pair.specs.Pair.{number_at}
use Rattle.qc_pair.specs.declared.fault.PairNo.TheVariants.{Image}
use Rattle.qc_pair.specs.declared.kind.Kind.{Kind}
use Rattle.qc_pair.specs.declared.kind.Kind.TheVariants as kind
use Rattle.qc_refine.specs.Pairs.{image_of, spare_image}
use Rattle.qc_site.specs.Pairs.{IsCopyPairNo}
use Rattle.qc_site.specs.Renewal.{AreMountableInPair}

-- A shop that offers this by the disks' numbers offers these images, one for each place of a store.
pub record Offers (table : Table) (offers : ℕ → Option (List ℕ)) (images : List (List ℕ)) : Type 0 where
  pub each : EachFrom (λ place image. by_place table.copies offers place ≡ Some image) 0 images
  pub all : length images ≡ all_places table.copies

-- Of the images of a pair, the disk's and the spare's, one is active, and its bodies are fine there.
pub record IsSoundPair (kind : Kind) (pair : ℕ) (Fine : Bool → List (List ℕ) → Type 0) (images : List ℕ × List ℕ) : Type 0 where
  pub is_spare : Bool
  pub found : List (List ℕ)
  pub have : HaveActive kind pair (Some images.0) (Some images.1) is_spare found
  pub fine : Fine is_spare found

module _ (table : Table) (limit : ℕ) where
  -- the images of a copy's pair, behind a ledger's past, have no fault
  abbrev pub IsSoundCopy : Past → ℕ → List ℕ × List ℕ → Type 0
  IsSoundCopy past copy images = IsSoundPair kind.Copy (copy + 1) (λ is_spare found. AreMountableInPair table past limit copy is_spare found) images

  -- the first fault of the images of copies' pairs from a copy on, behind a ledger's past
  abbrev pub IsCopiesFault : Past → BadImage → ℕ → List (List ℕ × List ℕ) → Type 0
  IsCopiesFault past bad copy [] = ⊥
  IsCopiesFault past bad copy (images ∷ more) =
      IsCopyPairNo copy table past limit (Some images.0) (Some images.1) (Image bad)
      ⊎ (IsSoundCopy past copy images × IsCopiesFault past bad (copy + 1) more)

  -- the images of the ledger's pair have no fault, and tell a past behind which it is so
  abbrev pub IsSoundLedger : (Past → Type 0) → List ℕ × List ℕ → Type 0
  IsSoundLedger Behind images = IsSoundPair kind.Ledger 0 (λ is_spare found. AreMountableAsLedger (number_at is_spare 0) table limit found × Behind (past_in found)) images

  -- the first fault of the images of pairs, the ledger's first and then each copy's
  abbrev pub IsFirstInPairs : BadImage → List (List ℕ × List ℕ) → Type 0
  IsFirstInPairs bad [] = ⊥
  IsFirstInPairs bad (images ∷ more) =
      IsLedgerPairNo table limit (Some images.0) (Some images.1) (Image bad)
      ⊎ IsSoundLedger (λ past. IsCopiesFault past bad 0 more) images

  -- the images of pairs have no fault
  abbrev pub AreSoundInPairs : List (List ℕ × List ℕ) → Type 0
  AreSoundInPairs [] = ⊥
  AreSoundInPairs (images ∷ more) = IsSoundLedger (λ past. EachFrom (IsSoundCopy past) 0 more) images

-- of each pair the image of the disk, beside that of the spare
abbrev pub images_in_pairs : Table → List (List ℕ) → List (List ℕ × List ℕ)
images_in_pairs table images = map (λ pair. (image_of table images pair, spare_image table images pair)) (range_with_len 0 (table.copies + 1))

module _ (table : Table) (limit : ℕ) where
  -- the first fault of a store's images, one for each place
  abbrev pub IsFirstFault : BadImage → List (List ℕ) → Type 0
  IsFirstFault bad images = IsFirstInPairs table limit bad (images_in_pairs table images)

  -- a store's images have no fault
  abbrev pub AreSound : List (List ℕ) → Type 0
  AreSound images = AreSoundInPairs table limit (images_in_pairs table images)
