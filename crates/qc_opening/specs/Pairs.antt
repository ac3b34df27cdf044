-- What the mountings of a store's pairs of disks found: pair 0 is the ledger's, pair c + 1 copy c's. What is of the disk of pair n
-- stands at place n, and what is of its spare at place copies + 1 + n.
use Rattle.std.specs.Prelude.{ℕ, ◌≡◌, ◌+◌, ◌<◌, ◌⊎◌, Bool, true, false, not, if◌then◌else◌, List, [], ◌∷◌, length, map, Option, Some}
use Rattle.std.specs.List.{range_with_len}
use Rattle.qc_codec.specs.Base.{active, copy_base, current_copy_base, is_swapped, ledger_base}
use Rattle.qc_codec.specs.Bodies as body
use Rattle.qc_codec.specs.Form.{Form}
use Rattle.qc_codec.specs.Ledger.{made_for, past_in}
use Rattle.qc_codec.specs.declared.past.Past.{Past as Logs}
use Rattle.qc_codec.specs.declared.record.BaseRecord.{BaseRecord}
use Rattle.qc_codec.specs.declared.record.Made.{Made}
use Rattle.qc_config.specs.declared.tuple.Tuple.{Tuple}
use Rattle.qc_event.specs.declared.table.Table.{Table}
use Rattle.qc_event.specs.History.{Past}
use Rattle.qc_event.specs.Standing.{HasEnded}
use Rattle.qc_event.specs.Tables.{setting_of}
use Rattle.qc_journal.specs.Image.{HasRecords}
use Rattle.qc_ledger.specs.Image as tops
use Rattle.qc_ledger.specs.Runs.{HasOrMore}
use Rattle.qc_opening.specs.Mountings.{AreKept, HaveNoGrantsOn, IsCutOff, MountedOn}
use Rattle.qc_pair.specs.Folding.{IsFolding}
use Rattle.qc_pair.specs.Front.{current_base, number_in}
use Rattle.qc_pair.specs.Opening.{HaveActive}
use Rattle.qc_pair.specs.Pair.{number_at}
use Rattle.qc_pair.specs.declared.kind.Kind.{Kind}
use Rattle.qc_pair.specs.declared.kind.Kind.TheVariants as kind
use Rattle.qc_refine.specs.Folded.{seen_row}
use Rattle.qc_refine.specs.Pairs.{image_of, spare_image, IsFoldedCopy, IsFoldedLedger, TellsCopy, TellsLedger}
use Rattle.qc_site.specs.Image as grants
use Rattle.qc_site.specs.Renewal.{renewed_base, renewed_body}

-- ONE OF EACH PAIR

-- by which spares are active, the number of a pair's active disk
abbrev pub active_number : (ℕ → Bool) → ℕ → ℕ
active_number swapped pair = number_at (swapped pair) pair

module _ (table : Table) where
  -- of what stands at each place, what is of a pair's active disk
  abbrev pub of_active : {A : Type 0} → (ℕ → Bool) → (ℕ → A) → ℕ → A
  of_active swapped at pair = if swapped pair then at (table.copies + 1 + pair) else at pair

  -- and what is of the other one
  abbrev pub of_other : {A : Type 0} → (ℕ → Bool) → (ℕ → A) → ℕ → A
  of_other swapped at pair = if swapped pair then at pair else at (table.copies + 1 + pair)

  -- of each pair the image of the active disk
  abbrev pub active_images : (ℕ → Bool) → List (List ℕ) → List (List ℕ)
  active_images swapped images = map (of_active swapped (image_of table images)) (range_with_len 0 (table.copies + 1))

-- THE PAIRS THAT WERE MOUNTED

-- A store was mounted over pairs of disks that told this: of each pair the active disk, with these records in the end.
pub record MountedInPairs (table : Table) (told : ℕ → Option (List ℕ)) (records : ℕ → List (List ℕ)) (epoch : ℕ) (base : List (List Tuple)) : Type 0 where
  pub swapped : ℕ → Bool
  pub mounted : MountedOn (active_number swapped) table (of_active table swapped told) records epoch base
  pub ledger : HaveActive kind.Ledger 0 (told 0) (told (table.copies + 1 + 0)) (swapped 0) mounted.ledger.found
  pub copies : (copy : ℕ) (there : copy < table.copies)
      → HaveActive kind.Copy (copy + 1) (told (copy + 1)) (told (table.copies + 1 + (copy + 1))) (swapped (copy + 1)) (mounted.copies copy there).found

-- Bodies are those that were found on the other disk of each pair.
pub record AreOthers {table : Table} {told : ℕ → Option (List ℕ)} {records : ℕ → List (List ℕ)} {epoch : ℕ} {base : List (List Tuple)} (m : MountedInPairs table told records epoch base) (others : ℕ → List (List ℕ)) : Type 0 where
  pub ledger : others 0 ≡ (if m.swapped 0 then m.ledger.own else m.ledger.spare)
  pub copies : (copy : ℕ) (there : copy < table.copies)
      → others (copy + 1) ≡ (if m.swapped (copy + 1) then (m.copies copy there).own else (m.copies copy there).spare)

-- These are the numbers of the bases of each pair's active disk, 0 where it has none.
pub record AreNumbers {table : Table} {told : ℕ → Option (List ℕ)} {records : ℕ → List (List ℕ)} {epoch : ℕ} {base : List (List Tuple)} (m : MountedInPairs table told records epoch base) (numbers : ℕ → ℕ) : Type 0 where
  pub ledger : numbers 0 ≡ number_in kind.Ledger m.mounted.ledger.found
  pub copies : (copy : ℕ) (there : copy < table.copies) → numbers (copy + 1) ≡ number_in kind.Copy (m.mounted.copies copy there).found

-- by which spares are active, how the other disk of a pair is made
abbrev pub made_other : Table → (ℕ → Bool) → ℕ → List ℕ
made_other table swapped pair = body.made.spell (made_for (number_at (not (swapped pair)) pair) table)

-- The copies' disks told images on which no grant stands, and so did their spares: they were empty, or of a store that was just
-- made.
abbrev pub HaveNoGrantsInPairs : Table → (ℕ → Option (List ℕ)) → Type 0
HaveNoGrantsInPairs table told = HaveNoGrantsOn (number_at false) table told × HaveNoGrantsOn (number_at true) table (λ pair. told (table.copies + 1 + pair))

-- PAIRS THAT WERE FOLDED

module _ (had : List (List ℕ)) (made : List ℕ) where
  -- No fold into a disk was finished: its image has the records that it had, or none, or only how the disk was made.
  abbrev pub IsUnfolded : List ℕ → Type 0
  IsUnfolded image = HasRecords had image ⊎ HasOrMore [] made image

-- the base to which bodies that were found are folded, of the next number and of a run's epoch
abbrev pub next_base : Kind → List (List ℕ) → ℕ → List Tuple → BaseRecord
next_base kind found epoch tuples = record { number = number_in kind found + 1; epoch = epoch; tuples = tuples }

-- A fold into a disk was finished: its image has how the disk was made and the next base, and no more.
pub record IsFolded (kind : Kind) (table : Table) (found : List (List ℕ)) (epoch : ℕ) (tuples : List Tuple) (made image : List ℕ) : Type 0 where
  pub fits : (current_base kind table).fits (next_base kind found epoch tuples)
  pub has : HasRecords (made ∷ (current_base kind table).spell (next_base kind found epoch tuples) ∷ []) image

module _ {table : Table} {told : ℕ → Option (List ℕ)} {records : ℕ → List (List ℕ)} {epoch : ℕ} {base : List (List Tuple)} (m : MountedInPairs table told records epoch base) (past : Past) (images : List (List ℕ)) where
  -- of a pair's other disk the image, and how it was made
  abbrev pub other_image : ℕ → List ℕ
  other_image pair = of_other table m.swapped (image_of table images) pair

  abbrev pub other_made : ℕ → List ℕ
  other_made pair = made_other table m.swapped pair

  -- the ledger's pair was folded, which keeps nothing but the epoch
  abbrev pub IsLedgerFolded : Type 0
  IsLedgerFolded = IsFolded kind.Ledger table m.mounted.ledger.found epoch [] (other_made 0) (other_image 0)

  -- a copy's pair was folded, to what the copy holds at the end of the history
  abbrev pub IsCopyFolded : (copy : ℕ) → copy < table.copies → Type 0
  IsCopyFolded copy there = IsFolded kind.Copy table (m.mounted.copies copy there).found epoch (seen_row (setting_of table base) past copy) (other_made (copy + 1)) (other_image (copy + 1))

  -- Of each disk of these pairs one image: that of an active one tells what it keeps of a history behind the records. Into
  -- another it was folded, once each top had its end, of the ledger's pair only where each copy's was; or no such fold was
  -- finished.
  pub record AreLeftByFolds : Type 0 where
    pub as_many : length images ≡ table.copies + 1 + (table.copies + 1)
    pub active : AreKept table base records past (active_images table m.swapped images)
    pub ledger : IsUnfolded (if m.swapped 0 then m.ledger.own else m.ledger.spare) (other_made 0) (other_image 0)
        ⊎ (HasEnded past × IsLedgerFolded × ((copy : ℕ) (there : copy < table.copies) → IsCopyFolded copy there))
    pub copies : (copy : ℕ) (there : copy < table.copies)
        → IsUnfolded (if m.swapped (copy + 1) then (m.copies copy there).own else (m.copies copy there).spare) (other_made (copy + 1)) (other_image (copy + 1))
        ⊎ (HasEnded past × IsCopyFolded copy there)

-- Of pairs of images each was folded, once a run over these tuples had ended with a history: the ledger's tells the epoch alone, and a
-- copy's what the copy holds, too.
abbrev pub AreFoldedInPairs : Table → List (List Tuple) → ℕ → Past → List (List ℕ) → Type 0
AreFoldedInPairs table base epoch past images = TellsLedger table images (IsFoldedLedger table epoch)
    × ((copy : ℕ) → copy < table.copies → TellsCopy table images copy (IsFoldedCopy table epoch (seen_row (setting_of table base) past copy)))

-- MOUNTINGS THAT WERE CUT OFF

-- The images of a pair are left of others by a mounting that was cut off: the active one has the same records, and some first
-- ones of those that a mounting writes behind them; the other one has the same records.
pub record IsPairCutOff (form : Made → Form BaseRecord) (pair : ℕ) (written : ℕ → List (List ℕ) → List (List ℕ)) (image image' later later' : List ℕ) : Type 0 where
  pub is_spare : Bool
  pub own : IsCutOff (λ found. if is_spare then [] else written (number_at false pair) found) image later
  pub spare : IsCutOff (λ found. if is_spare then written (number_at true pair) found else []) image' later'
  pub swapped_is : is_spare ≡ is_swapped form own.found spare.found

-- The images of a copy's pair are left of others by a mounting that was cut off while it folded the active one into the other, behind
-- a past: the active one has the same records, and the other one those that it had, none, the first of two others, or both.
pub record IsFoldCutOff (table : Table) (past : Logs) (copy : ℕ) (image image' later later' : List ℕ) : Type 0 where
  pub is_spare : Bool
  pub found : List (List ℕ)
  pub have : HaveActive kind.Copy (copy + 1) (Some image) (Some image') is_spare found
  pub made_fits : body.made.fits (made_for (number_at (not is_spare) (copy + 1)) table)
  pub base_fits : (current_copy_base table).fits (renewed_base table past found)
  pub same : HasRecords found (if is_spare then later' else later)
  pub folding : IsFolding (if is_spare then have.own else have.spare) (grants.made_body (number_at (not is_spare) (copy + 1)) table) (renewed_body table past found) (if is_spare then later else later')

-- The images of each pair are left so of others, a copy's behind the past that the ledger's tell.
pub record AreCutOffInPairs (table : Table) (images later : List (List ℕ)) : Type 0 where
  pub as_many : length later ≡ table.copies + 1 + (table.copies + 1)
  pub ledger : IsPairCutOff ledger_base 0 (λ number. tops.to_write number table) (image_of table images 0) (spare_image table images 0) (image_of table later 0) (spare_image table later 0)
  pub copies : (copy : ℕ) → copy < table.copies
      → IsPairCutOff copy_base (copy + 1) (λ number. grants.to_write number table) (image_of table images (copy + 1)) (spare_image table images (copy + 1)) (image_of table later (copy + 1)) (spare_image table later (copy + 1))
      ⊎ IsFoldCutOff table (past_in (active ledger_base ledger.own.found ledger.spare.found)) copy (image_of table images (copy + 1)) (spare_image table images (copy + 1)) (image_of table later (copy + 1)) (spare_image table later (copy + 1))

-- Mountings one after another were cut off, which left these images in turn, and then the last ones.
abbrev pub AreLeftInPairs : Table → List (List ℕ) → List (List (List ℕ)) → List (List ℕ) → Type 0
AreLeftInPairs table images [] last = last ≡ images
AreLeftInPairs table images (next ∷ later) last = AreCutOffInPairs table images next × AreLeftInPairs table next later last
