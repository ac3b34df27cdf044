-- The law on pairs says something: a store of one copy and one record, mounted over empty disks and spares.
use Rattle.std.proofs.Common.{ℕ, zero, suc, ◌+◌, ◌<◌, inl, false, List, [], ◌∷◌, get_or, refl, sym, arith}
use mathlib.Core.Bool.{true≢false}
use Rattle.std.specs.Prelude.{Bool, Some}
use Rattle.qc_event.specs.Tables.{base_of}
use Rattle.qc_journal.proofs.Readings.{records-same}
use Rattle.qc_journal.specs.Image.{HasRecords}
use Rattle.qc_opening.specs.Pairs.{AreLeftByFolds, MountedInPairs}
use Rattle.qc_opening.proofs.KeptDisks.KeptPairs.PairsStand.{stand}
use Rattle.qc_opening.proofs.KeptDisks.Worked.{images, kept, mounted, records, table}
use Rattle.qc_pair.specs.Opening.{HaveActive}
use Rattle.qc_pair.specs.declared.kind.Kind.{Kind}
use Rattle.qc_pair.specs.declared.kind.Kind.TheVariants as kind
use Rattle.qc_refine.specs.Pairs.{StandInPairsWithin}

-- of no pair the spare is active
abbrev none_swapped : ℕ → Bool
none_swapped pair = false

-- nothing was found
pub no_record : HasRecords [] []
no_record = inl (refl, omega arith)

pub own_active : (who : ℕ) (form : Kind) (found : List (List ℕ)) → HasRecords found [] → HaveActive form who (Some []) (Some []) false found
own_active who form found has = record {
  own = [];
  spare = [];
  has_own = no_record;
  has_spare = no_record;
  tell = record { own_begins = tt; spare_begins = tt; differ = λ one. omega (arith, one.1) };
  are_active = records-same [] [] found no_record has;
  swapped_is = refl;
}

abbrev pub pairs_mounted : MountedInPairs table (λ place. Some []) records 1 (base_of table)
pairs_mounted = record {
  swapped = none_swapped;
  mounted = mounted;
  ledger = own_active 0 kind.Ledger mounted.ledger.found mounted.ledger.fine.0;
  copies = λ copy there. own_active (copy + 1) kind.Copy (mounted.copies copy there).found (mounted.copies copy there).fine.0;
}

-- the images of the disks, and behind them those of the spares
abbrev pair_images : List (List ℕ)
pair_images = get_or images 0 [] ∷ get_or images 1 [] ∷ [] ∷ [] ∷ []

pairs_left : AreLeftByFolds pairs_mounted [] pair_images
unfolding own_active
pairs_left = record {
  as_many = refl;
  active = kept;
  ledger = inl (inl no_record);
  copies = λ copy there. inl (inl (each_copy copy there));
}
  where
    each_copy : (copy : ℕ) → copy < 1 → HasRecords [] (get_or pair_images (1 + 1 + (copy + 1)) [])
    each_copy zero there = no_record
    each_copy (suc copy) there = absurd (omega (arith, there))

-- so they stand beside the empty history
stands : ∥ StandInPairsWithin 1 table (base_of table) 1 [] pair_images ∥₁
stands = stand table (λ place. Some []) records 1 (base_of table) pairs_mounted [] pair_images tt (omega arith) (λ number began. absurd (true≢false (sym began)))
    pairs_left
