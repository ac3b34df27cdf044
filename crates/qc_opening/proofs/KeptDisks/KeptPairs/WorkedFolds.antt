-- The law on pairs says something where they were folded: both pairs of a store of one copy and one record, before anything ran.
use Rattle.std.proofs.Common.{◌≡◌, ℕ, zero, suc, ◌<◌, inr, List, [], ◌∷◌, length, get_or, refl, sym, subst, arith, rules}
use mathlib.Core.Bool.{true≢false}
use Rattle.std.specs.Prelude.{All, Some}
use Rattle.std.proofs.lemmas.List.Elements.{All-cons, All-nil}
use Rattle.qc_codec.specs.Bodies as body
use Rattle.qc_codec.specs.Fields.{config, datum, half, long, number_datum, tuple, word}
use Rattle.qc_config.specs.declared.tuple.Tuple.{Tuple}
use Rattle.qc_event.specs.Standing.{HasEnded}
use Rattle.qc_event.specs.Tables.{base_of, setting_of}
use Rattle.qc_journal.proofs.Readings.{records-same}
use Rattle.qc_journal.specs.Image.{HasRecords, IsShort}
use Rattle.qc_opening.specs.Pairs.{AreLeftByFolds, IsCopyFolded, IsFolded, next_base}
use Rattle.qc_opening.proofs.KeptDisks.KeptPairs.PairsStand.{stand}
use Rattle.qc_opening.proofs.KeptDisks.KeptPairs.WorkedPairs.{no_record, pairs_mounted}
use Rattle.qc_opening.proofs.KeptDisks.Worked.{images, kept, mounted, records}
use Rattle.qc_pair.specs.Front.{current_base}
use Rattle.qc_pair.specs.declared.kind.Kind.{Kind}
use Rattle.qc_pair.specs.declared.kind.Kind.TheVariants as kind
use Rattle.qc_refine.specs.Folded.{seen_row}
use Rattle.qc_refine.specs.Pairs.{StandInPairsWithin}
use Rattle.qc_refine.proofs.WorkedPairs.{has, image, made, made_short, table}

-- what the copy holds
abbrev held : List Tuple
held = seen_row (setting_of table (base_of table)) [] 0

-- into a disk the pair was folded
abbrev folded_bodies : Kind → ℕ → List Tuple → List (List ℕ)
folded_bodies form disk tuples = made disk ∷ (current_base form table).spell (next_base form [] 1 tuples) ∷ []

abbrev folded_images : List (List ℕ)
folded_images = get_or images 0 [] ∷ get_or images 1 [] ∷ image (folded_bodies kind.Ledger 17 []) ∷ image (folded_bodies kind.Copy 18 held) ∷ []

-- THE BASES

ledger_short : length ((current_base kind.Ledger table).spell (next_base kind.Ledger [] 1 [])) ≡ 13
unfolding body.base body.folded long word
ledger_short = refl

copy_short : length ((current_base kind.Copy table).spell (next_base kind.Copy [] 1 held)) ≡ 44
unfolding body.base body.folded tuple config datum number_datum half long word
copy_short = refl

ledger_fits : (current_base kind.Ledger table).fits (next_base kind.Ledger [] 1 [])
unfolding body.base body.folded long word
ledger_fits = search rules

copy_fits : (current_base kind.Copy table).fits (next_base kind.Copy [] 1 held)
unfolding body.base body.folded tuple config datum number_datum half long word
copy_fits = search rules

-- THE IMAGES

-- on an empty disk nothing was found
folded : (form : Kind) (disk : ℕ) (tuples : List Tuple) (found : List (List ℕ)) → HasRecords found [] → (current_base form table).fits (next_base form [] 1 tuples) → length ((current_base form table).spell (next_base form [] 1 tuples)) < 100
    → IsFolded form table found 1 tuples (made disk) (image (folded_bodies form disk tuples))
folded form disk tuples found none fits short =
    subst (λ (bodies : List (List ℕ)). IsFolded form table bodies 1 tuples (made disk) (image (folded_bodies form disk tuples))) (sym (records-same [] [] found no_record none))
    (record { fits = fits; has = has (folded_bodies form disk tuples) both_short })
  where
    both_short : All IsShort (folded_bodies form disk tuples)
    both_short =
        All-cons IsShort (made disk) ((current_base form table).spell (next_base form [] 1 tuples) ∷ []) (omega (arith, made_short disk))
        (All-cons IsShort ((current_base form table).spell (next_base form [] 1 tuples)) [] (omega (arith, short)) (All-nil IsShort))

pairs_folded : AreLeftByFolds pairs_mounted [] folded_images
pairs_folded = record {
  as_many = refl;
  active = kept;
  ledger = inr (none, folded kind.Ledger 17 [] mounted.ledger.found mounted.ledger.fine.0 ledger_fits (omega (arith, ledger_short)), each_copy);
  copies = λ copy there. inr (none, each_copy copy there);
}
  where
    none : HasEnded []
    none number began = absurd (true≢false (sym began))

    each_copy : (copy : ℕ) (there : copy < 1) → IsCopyFolded pairs_mounted [] folded_images copy there
    each_copy zero there = folded kind.Copy 18 held (mounted.copies zero there).found (mounted.copies zero there).fine.0 copy_fits (omega (arith, copy_short))
    each_copy (suc copy) there = absurd (omega (arith, there))

-- so they stand beside the empty history
stands : ∥ StandInPairsWithin 1 table (base_of table) 1 [] folded_images ∥₁
stands = stand table (λ place. Some []) records 1 (base_of table) pairs_mounted [] folded_images tt (omega arith) (λ number began. absurd (true≢false (sym began))) pairs_folded
