-- Where of each pair the active image, taken alone, stands beside a history, or the pair was folded, the pairs stand. What the
-- active images restore the pairs do.
use Rattle.std.proofs.Common.{◌≡◌, ℕ, ◌+◌, ◌<◌, ◌⊎◌, ⊎_elim, inl, inr, List, [], ◌++◌, length, get_or, sym, ap, ap₂, ◌∙◌, subst, arith}
use Rattle.std.specs.Prelude.{map}
use Rattle.std.specs.List.{filter_map, range_with_len}
use Rattle.std.proofs.lemmas.List.FromFn.{fill_by_all, get_or-map-range_with_len, length-map-range_with_len}
use Rattle.qc_codec.specs.Base.{base_in, copy_base, tuples_of_base}
use Rattle.qc_codec.specs.Bodies as body
use Rattle.qc_codec.specs.Copy.{granted_in}
use Rattle.qc_codec.specs.Ledger.{logged_in, readings}
use Rattle.qc_codec.specs.declared.past.Logged.{Logged}
use Rattle.qc_config.specs.declared.tuple.Tuple.{Tuple}
use Rattle.qc_event.specs.declared.event.Grant.{Grant}
use Rattle.qc_event.specs.declared.table.Table.{Table}
use Rattle.qc_event.specs.History.{Past}
use Rattle.qc_event.specs.Standing.{HasEnded}
use Rattle.qc_event.specs.Tables.{setting_of}
use Rattle.qc_journal.proofs.Readings.{records-same}
use Rattle.qc_refine.specs.Folded.{begins, seen_row}
use Rattle.qc_refine.specs.Images.{IsCopyBodies, IsLedgerBodies}
use Rattle.qc_refine.specs.Listed.{logged}
use Rattle.qc_refine.specs.Pairs.{IsFoldedCopy, IsFoldedLedger, RestoreInPairs, StandInPairsWithin, TellsCopy, TellsLedger, copy_bodies, first_in, kept_in_pairs, ledger_bodies}
use Rattle.qc_refine.specs.Restored.{Kept, granted_at, restored}
use Rattle.qc_refine.proofs.Restoring.Actives.{ActivesRestore, ActivesStand, AreActive, AreOfImage, first_told, kept_told}
use Rattle.qc_refine.proofs.Restoring.ImageReadings.{copy_tells, ledger_tells}
use Rattle.qc_refine.proofs.Restoring.PairImages.{HasSome, each_has, some_told, tells_read, told_too}

-- WHAT STANDS

module _ (table : Table) (base : List (List Tuple)) (epoch : ℕ) (past : Past) (images : List (List ℕ)) where
  -- a copy's pair was folded
  abbrev pub CopyFolded : ℕ → Type 0
  CopyFolded copy = TellsCopy table images copy (IsFoldedCopy table epoch (seen_row (setting_of table base) past copy))

  module _ (disk : ℕ → ℕ) (actives : List (List ℕ)) where
    -- this image is its active one, or it was folded once each top had its end
    abbrev pub CopyLeft : ℕ → Type 0
    CopyLeft copy = TellsCopy table images copy (AreOfImage (disk (copy + 1)) (get_or actives (copy + 1) [])) ⊎ (HasEnded past × CopyFolded copy)

    -- so is the ledger's, where each copy's was
    abbrev pub LedgerLeft : Type 0
    LedgerLeft = TellsLedger table images (AreOfImage (disk 0) (get_or actives 0 []))
        ⊎ (HasEnded past × TellsLedger table images (IsFoldedLedger table epoch) × ((copy : ℕ) → copy < table.copies → CopyFolded copy))

    module _ (most : ℕ) (s : ActivesStand disk most table base epoch past actives) where
      ledger_too : (number : ℕ) (bodies : List (List ℕ)) → AreOfImage (disk 0) (get_or actives 0 []) number bodies
          → IsLedgerBodies table epoch s.before.tops (logged past ++ s.beside.more) number bodies
      ledger_too number bodies is =
          subst (λ n. IsLedgerBodies table epoch s.before.tops (logged past ++ s.beside.more) n bodies) (sym is.0)
          (ledger_tells table (get_or actives 0 []) bodies is.1 (disk 0) epoch _ _ s.ledger)

      copy_too : (copy : ℕ) → copy < table.copies → (number : ℕ) (bodies : List (List ℕ)) → AreOfImage (disk (copy + 1)) (get_or actives (copy + 1) []) number bodies
          → IsCopyBodies table (begins s.first copy) (granted_at s.now copy) number bodies
      copy_too copy there number bodies is =
          subst (λ n. IsCopyBodies table (begins s.first copy) (granted_at s.now copy) n bodies) (sym is.0)
          (copy_tells table (get_or actives (copy + 1) []) bodies is.1 (disk (copy + 1)) _ _ (s.copies copy there))

      pub left_stand : length images ≡ table.copies + 1 + (table.copies + 1) → LedgerLeft → ((copy : ℕ) → copy < table.copies → CopyLeft copy) → StandInPairsWithin most table base epoch past images
      left_stand as_many ledger copies = record {
        standing = record {
          first = s.first;
          before = s.before;
          now = s.now;
          beside = s.beside;
          many = s.many;
          as_many = as_many;
          ledger = ⊎_elim (λ t. inl (told_too _ _ ledger_too t)) inr ledger;
          copies = λ copy there. ⊎_elim (λ t. inl (told_too _ _ (copy_too copy there) t)) inr (copies copy there);
        };
        few_tops = s.few_tops;
        few_grants = s.few_grants;
        asked = s.asked;
      }

-- WHAT IS RESTORED

module _ (table : Table) (disk : ℕ → ℕ) (images actives : List (List ℕ)) (are : AreActive table disk images actives) (tuples : List (List Tuple)) (r : ActivesRestore table actives tuples) where
  read : (place : ℕ) → HasSome images place
  read = each_has table images are.as_many (some_told _ are.ledger) (λ copy there. some_told _ (are.copies copy there))

  abbrev bodies : ℕ → List (List ℕ)
  bodies place = (read place).0

  same_ledger : r.bodies 0 ≡ ledger_bodies table bodies
  same_ledger =
      let is = tells_read _ _ _ _ _ (bodies 0) (bodies (table.copies + 1 + 0)) are.ledger (read 0).1 (read (table.copies + 1 + 0)).1 in
      records-same (get_or actives 0 []) (ledger_bodies table bodies) (r.bodies 0) is.1 (r.has 0)

  same_copy : (copy : ℕ) → copy < table.copies → r.bodies (copy + 1) ≡ copy_bodies table bodies copy
  same_copy copy there =
      let is = tells_read _ _ _ _ _ (bodies (copy + 1)) (bodies (table.copies + 1 + (copy + 1))) (are.copies copy there) (read (copy + 1)).1 (read (table.copies + 1 + (copy + 1))).1 in
      records-same (get_or actives (copy + 1) []) (copy_bodies table bodies copy) (r.bodies (copy + 1)) is.1 (r.has (copy + 1))

  -- what is read of each copy's bodies is read of both
  same_read : {X : Type 0} (f : List (List ℕ) → List X) → map (λ copy. f (r.bodies (copy + 1))) (range_with_len 0 table.copies) ≡ map (λ copy. f (copy_bodies table bodies copy)) (range_with_len 0 table.copies)
  same_read {X} f =
      fill_by_all (λ copy. f (copy_bodies table bodies copy)) _ table.copies []
      (length-map-range_with_len (λ copy. f (r.bodies (copy + 1))) 0 table.copies)
      (λ copy there. get_or-map-range_with_len (λ copy. f (r.bodies (copy + 1))) 0 table.copies copy copy [] there (omega arith) ∙ ap f (same_copy copy there))

  same_first : first_told table r.bodies ≡ first_in table bodies
  same_first = same_read (λ found. tuples_of_base table (base_in copy_base found))

  same_kept : kept_told table r.bodies ≡ kept_in_pairs table bodies
  same_kept = ap₂ (λ (tops : List Logged) (granted : List (List Grant)). record { tops = tops; granted = granted })
      (ap (λ found. filter_map logged_in (readings body.ledger found)) same_ledger) (same_read (granted_in table))

  pub active_restore : RestoreInPairs table images tuples
  active_restore = record {
    bodies = bodies;
    has = λ place. (read place).1;
    same = r.same ∙ ap₂ (λ (first : List (List Tuple)) (kept : Kept). restored first (length table.records) kept) same_first same_kept;
  }
