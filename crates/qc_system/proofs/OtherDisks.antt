-- The other disk of a pair is as it was found, and the active one stands at its place.
use Rattle.std.proofs.Common.{◌≡◌, ℕ, Bool, true, false, List, [], ◌++◌, refl, sym, ap, ◌∙◌, subst, append-nil}
use mathlib.Core.Bool.{Bool-set}
use Rattle.std.proofs.Math.Logic.{∥∥₁_elim, ∥∥₁_map}
use Rattle.std.specs.Prelude.{◌↔◌, cond, if◌then◌else◌}
use Rattle.qc_disk.specs.Disk.{DiskView as Disk}
use Rattle.qc_disk.specs.declared.disk.Disk.{Ghosts}
use Rattle.qc_event.specs.Base.{Setting}
use Rattle.qc_journal.specs.Image.{HasRecords}
use Rattle.qc_journal.specs.Journal.{disk_of}
use Rattle.qc_journal.specs.declared.journal.Journal.{Journal}
use Rattle.qc_ledger.proofs.Since.{grown_first}
use Rattle.qc_ledger.proofs.Writing.{kept_has}
use Rattle.qc_pair.specs.Fold.{other_in, swapped_in}
use Rattle.qc_pair.specs.declared.fold.Fold.{Fold}
use Rattle.qc_system.specs.Closing.{active_of, other_of}
use Rattle.qc_system.specs.Folds.{OtherKeeps}
use Rattle.qc_system.specs.Parts.{Findings, IsOther}

-- no record behind those from before
abbrev NoMore : List (List ℕ) → Type 0
NoMore more = more ≡ []

-- which of both is active
pub swapped_as : {D : Type 0} {g : Ghosts D} (copies : ℕ) (found : Findings) (pair : ℕ) (fold : Fold D g) → ∥ IsOther copies found pair fold ∥₁ → swapped_in fold ≡ found.swapped pair
swapped_as copies found pair fold other = ∥∥₁_elim other (hlevel (Bool-set)) (λ o. o.swapped)

module _ {D : Type 0} {g : Ghosts D} (copies : ℕ) (setting : Setting) (found : Findings) (pair : ℕ) (fold : Fold D g) where
  abbrev journal : Journal D g
  journal = other_in fold

  abbrev disk : Disk
  disk = g.view (disk_of journal)

  -- each image has what was found
  pub image_has : IsOther copies found pair fold → (found.other pair).told ≡ true → (image : List ℕ) → disk.may_leave image → HasRecords (found.other pair).before image
  image_has other told image left = kept_has journal (found.other pair).before image other.up (other.disk.keeps told) left

  pub other_keeps : ((c : List ℕ) → disk.left_at disk.moment c ↔ disk.may_leave c) → ∥ IsOther copies found pair fold ∥₁ → OtherKeeps setting found pair disk
  other_keeps now other = record {
    kept = ∥∥₁_map other image_has;
    grown = ∥∥₁_map other (λ o told. record {
      began = o.disk.left;
      grown = grown_first (found.other pair).first.moment (found.other pair).before g.view (disk_of journal) NoMore o.disk.at (λ c left. ([], refl, here c (image_has o told c ((now c).0 left))));
    });
  }
    where
      here : (c : List ℕ) → HasRecords (found.other pair).before c → HasRecords ((found.other pair).before ++ []) c
      here c has = subst (λ (b : List (List ℕ)). HasRecords b c) (sym (append-nil (found.other pair).before)) has

-- of a disk and its spare, which come out of a box, one is the active one
pub active_is : {B D : Type 0} (box : B → D) (view : D → Disk) (setting : Setting) (found : Findings) (pair : ℕ) (swapped : Bool) (active other : B) (own spare : D) → swapped ≡ found.swapped pair
    → own ≡ box (if swapped then other else active) → spare ≡ box (if swapped then active else other) → active_of setting found pair (view own) (view spare) ≡ view (box active)
active_is box view setting found pair swapped active other own spare is own_is spare_is = ap (λ b. cond b (view spare) (view own)) (sym is) ∙ by swapped own_is spare_is
  where
    by : (b : Bool) → own ≡ box (if b then other else active) → spare ≡ box (if b then active else other) → cond b (view spare) (view own) ≡ view (box active)
    by true first second = ap view second
    by false first second = ap view first

-- and the other the other one
pub other_is : {B D : Type 0} (box : B → D) (view : D → Disk) (setting : Setting) (found : Findings) (pair : ℕ) (swapped : Bool) (active other : B) (own spare : D) → swapped ≡ found.swapped pair
    → own ≡ box (if swapped then other else active) → spare ≡ box (if swapped then active else other) → other_of setting found pair (view own) (view spare) ≡ view (box other)
other_is box view setting found pair swapped active other own spare is own_is spare_is = ap (λ b. cond b (view own) (view spare)) (sym is) ∙ by swapped own_is spare_is
  where
    by : (b : Bool) → own ≡ box (if b then other else active) → spare ≡ box (if b then active else other) → cond b (view own) (view spare) ≡ view (box other)
    by true first second = ap view first
    by false first second = ap view second
