-- What an opened pair tells of its active journal and of the other one.
use Rattle.std.proofs.Common.{◌≡◌, ℕ, List, sym, ap, ◌∙◌, subst}
use Rattle.std.specs.Prelude.{Bool, true, false, Option, IfSome, IsSome, if◌then◌else◌}
use Rattle.qc_disk.specs.declared.disk.Disk.{Ghosts}
use Rattle.qc_journal.specs.Image.{HasRecords}
use Rattle.qc_journal.specs.Journal.{Keeps}
use Rattle.qc_journal.specs.declared.journal.Journal.{Journal}
use Rattle.qc_pair.specs.Fold.{active_number, other_in, swapped_in}
use Rattle.qc_pair.specs.Opening.{active_told, other_told, HaveActive, OpensFold, OpensPair}
use Rattle.qc_pair.specs.Pair.{active_of, number_of, other_of, swapped}
use Rattle.qc_pair.specs.declared.fold.Fold.{Fold}
use Rattle.qc_pair.specs.declared.kind.Kind.{Kind}
use Rattle.qc_pair.specs.declared.pair.Pair.{Pair}

module _ (kind : Kind) (who : ℕ) (told spare_told : Option (List ℕ)) where
  -- the active bodies, by which disk is active
  pub active_by : (is_spare : Bool) (bodies : List (List ℕ)) (have : HaveActive kind who told spare_told is_spare bodies) → bodies ≡ (if is_spare then have.spare else have.own)
  active_by is_spare bodies have = have.are_active ∙ ap (λ (s : Bool). if s then have.spare else have.own) (sym have.swapped_is)

  told_by : (is_spare : Bool) (own spare : List (List ℕ)) → IfSome told (HasRecords own) → IfSome spare_told (HasRecords spare)
      → IfSome (active_told kind who told spare_told is_spare) (HasRecords (if is_spare then spare else own))
  told_by true own spare has_own has_spare = has_spare
  told_by false own spare has_own has_spare = has_own

  -- the active disk has the active bodies
  pub active_has : (is_spare : Bool) (bodies : List (List ℕ)) → HaveActive kind who told spare_told is_spare bodies
      → IfSome (active_told kind who told spare_told is_spare) (HasRecords bodies)
  active_has is_spare bodies have = subst (λ (b : List (List ℕ)). IfSome (active_told kind who told spare_told is_spare) (HasRecords b))
      (sym (active_by is_spare bodies have)) (told_by is_spare have.own have.spare have.has_own have.has_spare)

  module _ {D : Type 0} {g : Ghosts D} where
    -- the journals of both disks, and what each keeps
    abbrev KeepBoth : Bool → Journal D g → Journal D g → List (List ℕ) → List (List ℕ) → Type 0
    KeepBoth is_spare active other own spare = (IsSome told → Keeps (if is_spare then other else active) own) × (IsSome spare_told → Keeps (if is_spare then active else other) spare)

    active_one : (is_spare : Bool) (active other : Journal D g) (own spare : List (List ℕ)) → KeepBoth is_spare active other own spare
        → IsSome (active_told kind who told spare_told is_spare) → Keeps active (if is_spare then spare else own)
    active_one true active other own spare both = both.1
    active_one false active other own spare both = both.0

    other_one : (is_spare : Bool) (active other : Journal D g) (own spare : List (List ℕ)) → KeepBoth is_spare active other own spare
        → IsSome (other_told kind who told spare_told is_spare) → Keeps other (if is_spare then own else spare)
    other_one true active other own spare both = both.0
    other_one false active other own spare both = both.1

    -- the active journal keeps the active bodies
    pub active_keeps : (pair : Pair D g) (bodies : List (List ℕ)) → OpensPair kind who told spare_told pair bodies
        → IsSome (active_told kind who told spare_told (swapped pair)) → Keeps (active_of pair) bodies
    active_keeps pair bodies opens is = subst (λ (b : List (List ℕ)). Keeps (active_of pair) b) (sym (active_by (swapped pair) bodies opens.have))
        (active_one (swapped pair) (active_of pair) (other_of pair) opens.have.own opens.have.spare (opens.keeps_own, opens.keeps_spare) is)

    other_kept : (pair : Pair D g) (fold : Fold D g) (own spare : List (List ℕ)) → other_in fold ≡ other_of pair → swapped_in fold ≡ swapped pair
        → KeepBoth (swapped pair) (active_of pair) (other_of pair) own spare
        → IsSome (other_told kind who told spare_told (swapped_in fold)) → Keeps (other_in fold) (if swapped_in fold then own else spare)
    other_kept pair fold own spare other swapped_same both =
        other_one (swapped_in fold) (active_of pair) (other_in fold) own spare
        (subst (λ (j : Journal D g). KeepBoth (swapped_in fold) (active_of pair) j own spare) (sym other)
        (subst (λ (s : Bool). KeepBoth s (active_of pair) (other_of pair) own spare) (sym swapped_same) both))

    -- the other journal may be folded into
    pub opens_fold : (pair : Pair D g) (fold : Fold D g) (bodies : List (List ℕ)) → OpensPair kind who told spare_told pair bodies
        → other_in fold ≡ other_of pair → active_number fold ≡ number_of pair → swapped_in fold ≡ swapped pair
        → OpensFold kind who told spare_told fold bodies
    opens_fold pair fold bodies opens other number swapped_same =
        let have = opens.have in
        record {
          have = record {
            own = have.own;
            spare = have.spare;
            has_own = have.has_own;
            has_spare = have.has_spare;
            tell = have.tell;
            are_active = have.are_active;
            swapped_is = swapped_same ∙ have.swapped_is;
          };
          number_is = number ∙ opens.number_is;
          keeps_other = other_kept pair fold have.own have.spare other swapped_same (opens.keeps_own, opens.keeps_spare);
        }
