-- What is known of what a session left of a store.
use Rattle.std.proofs.Common.{◌≡◌, ℕ, ◌≤◌, true, List, length, subst, arith}
use Rattle.std.specs.Prelude.{Bool, IsOk, Option, is_some, OnOk, IsErrOf}
use Rattle.qc_config.specs.declared.tuple.Tuple.{Tuple}
use Rattle.qc_disk.specs.Disk.{DiskView}
use Rattle.qc_event.specs.declared.short.Short.TheVariants.{Room}
use Rattle.qc_event.specs.History.{limit}
use Rattle.qc_event.specs.Legal.{Legal}
use Rattle.qc_event.specs.Standing.{HasEnded}
use Rattle.qc_event.specs.Tables.{setting_of}
use Rattle.qc_interp.specs.FollowsScript.{BeginsScript, FollowsScript}
use Rattle.qc_journal.specs.Image.{HasRecords}
use Rattle.qc_script.specs.Plan.{ScriptPlan}
use Rattle.qc_opening.specs.Pairs.{made_other, of_active, of_other, AreNumbers, MountedInPairs}
use Rattle.qc_opening.specs.Stored.{disks_of, past_of, HasKept, HasRun, HavePaid, WasMounted, WereFolded}
use Rattle.qc_opening.specs.declared.stored.Stored.{Stored}
use Rattle.qc_opening.proofs.Freed.{are_free}
use Rattle.qc_opening.proofs.KeptDisks.KeptPairs.ImagesKept.{active_told, actives_kept, images_folded}
use Rattle.qc_opening.proofs.KeptDisks.KeptPairs.PairsStand.{tell_folded}
use Rattle.qc_opening.proofs.KeptOtherwise.{findings, keep_otherwise}
use Rattle.qc_opening.proofs.OtherBodies.{others_are, others_of, others_read}
use Rattle.qc_opening.proofs.Paid.{active_paid}
use Rattle.qc_opening.proofs.ReadBodies.{bodies_told}
use Rattle.qc_system.specs.Closing.{AllKeep}
use Rattle.qc_system.specs.Parts.{Findings}

module _ {D : Type 0} (view : D → DiskView) (plan : ScriptPlan) (most : ℕ) (told : ℕ → Option (List ℕ)) (counts : ℕ → ℕ) (stored : Stored D) (records : ℕ → List (List ℕ)) (numbers : ℕ → ℕ) (firsts other_firsts : ℕ → D) where
  abbrev known : (ℕ → Bool) → ℕ → (ℕ → List (List ℕ)) → Findings
  known swapped epoch others = findings swapped most epoch records (λ pair. view (firsts pair)) (λ pair. view (other_firsts pair)) (λ pair. is_some (of_active plan.table swapped told pair)) (λ pair. is_some (of_other plan.table swapped told pair)) others numbers
      (λ pair. made_other plan.table swapped pair)

  -- the bodies that are read of what the other disks told
  abbrev read : (ℕ → Bool) → ℕ → List (List ℕ)
  read swapped pair = bodies_told (of_other plan.table swapped told pair)

  -- no disk's count fell while it was mounted
  abbrev AreLater : (ℕ → Bool) → Type 0
  AreLater swapped = ((pair : ℕ) → pair ≤ plan.table.copies → of_active plan.table swapped counts pair ≤ (view (firsts pair)).faults)
      × ((pair : ℕ) → pair ≤ plan.table.copies → of_other plan.table swapped counts pair ≤ (view (other_firsts pair)).faults)

  module _ (mounted : MountedInPairs plan.table told records stored.epoch stored.ended.start) (numbers_are : AreNumbers mounted numbers) (was : (pair : ℕ) → pair ≤ plan.table.copies → WasMounted view (firsts pair) (records pair) (of_active plan.table mounted.swapped told pair))
      (other_was : (pair : ℕ) → pair ≤ plan.table.copies → WasMounted view (other_firsts pair) (read mounted.swapped pair) (of_other plan.table mounted.swapped told pair)) (found_epoch : ℕ) (same_epoch : found_epoch ≡ stored.epoch)
      (all_found : AllKeep (setting_of plan.table stored.ended.start) (known mounted.swapped found_epoch (read mounted.swapped)) view (IsOk stored.ended.ran) (disks_of stored) (past_of stored)) where
    abbrev others : ℕ → List (List ℕ)
    others = others_of plan.table told records stored.epoch stored.ended.start mounted

    are_read : (pair : ℕ) → pair ≤ plan.table.copies → is_some (of_other plan.table mounted.swapped told pair) ≡ true → read mounted.swapped pair ≡ others pair
    are_read = others_read plan.table told records stored.epoch stored.ended.start mounted others (others_are plan.table told records stored.epoch stored.ended.start mounted)

    all_read : AllKeep (setting_of plan.table stored.ended.start) (known mounted.swapped stored.epoch (read mounted.swapped)) view (IsOk stored.ended.ran) (disks_of stored) (past_of stored)
    all_read = subst (λ e. AllKeep (setting_of plan.table stored.ended.start) (known mounted.swapped e (read mounted.swapped)) view (IsOk stored.ended.ran) (disks_of stored) (past_of stored)) same_epoch all_found

    all : AllKeep (setting_of plan.table stored.ended.start) (known mounted.swapped stored.epoch others) view (IsOk stored.ended.ran) (disks_of stored) (past_of stored)
    all = keep_otherwise (setting_of plan.table stored.ended.start) mounted.swapped most stored.epoch records (λ pair. view (firsts pair)) (λ pair. view (other_firsts pair)) numbers (λ pair. made_other plan.table mounted.swapped pair)
        (λ pair. is_some (of_active plan.table mounted.swapped told pair)) (λ pair. is_some (of_active plan.table mounted.swapped told pair))
        (λ pair. is_some (of_other plan.table mounted.swapped told pair)) (λ pair. is_some (of_other plan.table mounted.swapped told pair)) (read mounted.swapped) others
        (λ pair low tells. tells) (λ pair low tells. tells) (λ pair low tells. are_read pair (omega (arith, low, mounted.mounted.as_many)) tells) view (past_of stored) (IsOk stored.ended.ran) (disks_of stored) all_read

    has_kept : HasKept view plan.table most told stored
    has_kept = record {
      records = records;
      others = others;
      numbers = numbers;
      firsts = firsts;
      other_firsts = other_firsts;
      mounted = mounted;
      others_are = others_are plan.table told records stored.epoch stored.ended.start mounted;
      numbers_are = numbers_are;
      was = was;
      other_was = λ pair low.
          let w = other_was pair low in
          record { tells = w.tells; had = λ tells image left. subst (λ bodies. HasRecords bodies image) (are_read pair low tells) (w.had tells image left) };
      kept = all;
    }

    module _ (later : AreLater mounted.swapped) where
      has_paid : HavePaid view plan.table told counts stored.epoch stored.ended.start (disks_of stored) (past_of stored)
      has_paid = record {
        records = records;
        mounted = mounted;
        paid = active_paid view (setting_of plan.table stored.ended.start) (known mounted.swapped stored.epoch others) plan.table (IsOk stored.ended.ran) (disks_of stored) (past_of stored) all mounted.mounted.as_many (of_active plan.table mounted.swapped counts) later.0;
      }

      has_folded : IsOk stored.ended.ran → HasEnded (past_of stored) → WereFolded view plan.table most told counts stored.epoch stored.ended.start (disks_of stored) (past_of stored)
      has_folded done ended = record {
        records = records;
        numbers = numbers;
        mounted = mounted;
        numbers_are = numbers_are;
        folded = λ tells short sound room images left.
            let free = are_free view (setting_of plan.table stored.ended.start) (known mounted.swapped stored.epoch others) plan.table (IsOk stored.ended.ran) (disks_of stored) (past_of stored) all mounted.mounted.as_many counts
            (active_told plan.table told mounted.swapped tells) later.0 later.1 sound room ended short in
            let folded = images_folded view plan.table told records stored.epoch stored.ended.start mounted others numbers numbers_are most (λ pair. view (firsts pair)) (λ pair. view (other_firsts pair)) (IsOk stored.ended.ran) (disks_of stored) (past_of stored)
            all tells images left (all.done done free) in
            tell_folded plan.table told records stored.epoch stored.ended.start mounted (past_of stored) images
            (actives_kept view plan.table told records stored.epoch stored.ended.start mounted others numbers numbers_are most (λ pair. view (firsts pair)) (λ pair. view (other_firsts pair)) (IsOk stored.ended.ran) (disks_of stored) (past_of stored) all tells images left)
            folded.0 folded.1;
      }

    has_run : (epoch : ℕ) → epoch ≡ stored.epoch → AreLater mounted.swapped → Legal (setting_of plan.table stored.ended.start) (past_of stored) → length stored.ended.trail ≤ limit
        → OnOk stored.ended.ran (FollowsScript epoch plan.patience plan.sessions (past_of stored)) → BeginsScript epoch plan.patience plan.sessions (past_of stored)
        → (IsErrOf stored.ended.ran Room → length stored.ended.trail ≡ limit) → HasRun view plan most told counts stored
    has_run epoch same later legal bounded follows begins room = record {
      legal = legal;
      bounded = bounded;
      epoch = (omega (arith, mounted.mounted.ledger.next), mounted.mounted.small);
      follows = subst (λ e. OnOk stored.ended.ran (FollowsScript e plan.patience plan.sessions (past_of stored))) same follows;
      begins = subst (λ e. BeginsScript e plan.patience plan.sessions (past_of stored)) same begins;
      room = room;
      kept = has_kept;
      paid = has_paid later;
      folded = has_folded later;
    }

  -- all is known of what a session left that ran from these tuples, of which pairs these spares are active
  abbrev Runs : List (List Tuple) → (ℕ → Bool) → Type 0
  Runs base swapped = ((pair : ℕ) → pair ≤ plan.table.copies → WasMounted view (firsts pair) (records pair) (of_active plan.table swapped told pair))
      → ((pair : ℕ) → pair ≤ plan.table.copies → WasMounted view (other_firsts pair) (read swapped pair) (of_other plan.table swapped told pair))
      → (found_epoch : ℕ) → found_epoch ≡ stored.epoch
      → AllKeep (setting_of plan.table base) (known swapped found_epoch (read swapped)) view (IsOk stored.ended.ran) (disks_of stored) (past_of stored) → (epoch : ℕ) → epoch ≡ stored.epoch
      → AreLater swapped → Legal (setting_of plan.table base) (past_of stored) → length stored.ended.trail ≤ limit
      → OnOk stored.ended.ran (FollowsScript epoch plan.patience plan.sessions (past_of stored)) → BeginsScript epoch plan.patience plan.sessions (past_of stored)
      → (IsErrOf stored.ended.ran Room → length stored.ended.trail ≡ limit) → HasRun view plan most told counts stored

  pub run_from : (base : List (List Tuple)) → stored.ended.start ≡ base → (mounted : MountedInPairs plan.table told records stored.epoch base) → AreNumbers mounted numbers → (swapped : ℕ → Bool) → mounted.swapped ≡ swapped → Runs base swapped
  run_from base start mounted numbers_are swapped is =
      subst (Runs base) is (subst (λ b. (m : MountedInPairs plan.table told records stored.epoch b) → AreNumbers m numbers → Runs b m.swapped) start has_run mounted numbers_are)
