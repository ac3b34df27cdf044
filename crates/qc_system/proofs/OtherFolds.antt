-- The other disk of a pair, into which that was folded.
use Rattle.std.proofs.Common.{◌≡◌, ◌⊎◌, inl, inr, ℕ, ◌+◌, ◌-◌, ◌^◌, ◌<◌, ◌≤◌, true, List, [], ◌∷◌, length, refl, sym, ap, ◌∙◌, subst, arith}
use Rattle.std.specs.Prelude.{◌↔◌, All}
use Rattle.std.proofs.Math.Nat.{min-eq_left, min-eq_right, min-le_left, min-le_right}
use Rattle.std.proofs.lemmas.Bool.{cases_lt}
use Rattle.qc_codec.specs.Fields as field
use Rattle.qc_codec.specs.Fields.{current}
use Rattle.qc_config.specs.declared.tuple.Tuple.{Tuple}
use Rattle.qc_disk.specs.Disk.{DiskView as Disk, LeavesOnly, Rose}
use Rattle.qc_disk.specs.declared.disk.Disk.{Ghosts}
use Rattle.qc_event.specs.Base.{Setting}
use Rattle.qc_event.specs.History.{Past}
use Rattle.qc_event.specs.Standing.{HasEnded}
use Rattle.qc_journal.specs.Image.{HasRecords}
use Rattle.qc_journal.specs.Journal.{disk_of, limit_of, IsUp, Keeps}
use Rattle.qc_ledger.proofs.Writing.{kept_has}
use Rattle.qc_pair.specs.Fold.{active_number, folded_base, folded_bodies, made_in, other_in, IsFullFor}
use Rattle.qc_pair.specs.Folding.{HasNoRoom, IsFolding, next_base}
use Rattle.qc_pair.specs.declared.fold.Fold.{Fold}
use Rattle.qc_desk.specs.Entries.{IsOlder}
use Rattle.qc_codec.specs.declared.image.ImageFault.{ImageFault}
use Rattle.qc_codec.specs.declared.image.ImageFault.TheVariants.{Full}
use Rattle.qc_event.specs.declared.short.Short.TheVariants.{Memory, Room}
use Rattle.qc_event.specs.Wants.{IsWant}
use Rattle.qc_ledger.specs.Refusing.{IsCheckpointNo}
use Rattle.qc_ledger.specs.declared.fault.LedgerNo.{LedgerNo}
use Rattle.qc_ledger.specs.declared.fault.LedgerNo.TheVariants as ledger_no
use Rattle.qc_site.specs.Calls.{SiteState}
use Rattle.qc_site.specs.Checkpoint.{CheckpointSays, IsFullBy}
use Rattle.qc_site.specs.declared.fault.SiteNo.{SiteNo}
use Rattle.qc_site.specs.declared.fault.SiteNo.TheVariants as site_no
use Rattle.qc_system.specs.Folds.{base_in, held_in, IsFolded, IsLeftBy, OtherFolds, OtherKeeps, WasFolded}
use Rattle.qc_system.specs.Kept.{Pays}
use Rattle.qc_system.specs.Parts.{Findings, IsOther}
use Rattle.qc_system.proofs.Grown.{left_on}
use Rattle.qc_system.proofs.OtherDisks.{other_keeps}

-- a count of faults that paid for some since the first, and rose, rose since the first
pub rose_since : (first told old now : ℕ) → Pays first told old → Rose old now → Rose first now
rose_since first told old now pays rose = elim (cases_lt (old + 1) (2 ^ 64 - 1)) [
  | inl small ↦
      let is = min-eq_left {n = old + 1} {m = 2 ^ 64 - 1} (omega (arith, small)) in
      elim (cases_lt (first + told) (2 ^ 64 - 1)) [
        | inl few ↦ omega (arith, rose, pays, is, min-eq_left {n = first + told} {m = 2 ^ 64 - 1} (omega (arith, few)), min-le_left (first + 1) (2 ^ 64 - 1))
        | inr many ↦ absurd (omega (arith, small, pays, min-eq_right {n = 2 ^ 64 - 1} {m = first + told} many))
      ]
  | inr large ↦ omega (arith, rose, min-eq_right {n = 2 ^ 64 - 1} {m = old + 1} large, min-le_right (first + 1) (2 ^ 64 - 1))
]

module _ {D : Type 0} {g : Ghosts D} (setting : Setting) (found : Findings) (pair : ℕ) (tuples : List Tuple) (old new : Fold D g) (other : IsOther (length setting.base) found pair old) where
  abbrev disk : Fold D g → Disk
  disk fold = g.view (disk_of (other_in fold))

  -- what is written is what was found
  base_is : folded_base old tuples ≡ base_in setting found pair tuples
  base_is = ap (λ n. next_base n (active_number old) old.epoch tuples) other.many
      ∙ ap (λ n. next_base (length setting.base) n old.epoch tuples) other.number
      ∙ ap (λ n. next_base (length setting.base) (found.number pair) n tuples) other.epoch

  pub folds_other : ((c : List ℕ) → (disk old).left_at (disk old).moment c ↔ (disk old).may_leave c)
      → active_number old < 2 ^ 63 → All (field.tuple (current (length setting.base))).fits tuples
      → ((bodies : List (List ℕ)) → Keeps (other_in old) bodies → LeavesOnly g.view (disk_of (other_in old)) (disk_of (other_in new)) (IsFolding bodies (made_in old) (folded_base old tuples)))
      → OtherFolds setting found pair tuples (disk new)
  folds_other now next fit runs = record {
    next = subst (λ n. n < 2 ^ 63) other.number next;
    fit = fit;
    folds = ∣ (λ told.
        let run = runs (found.other pair).before (other.disk.keeps told) in
        let first : (found.other pair).first.moment ≡ (disk old).moment = other.disk.at in
        record {
          began = left_on (found.other pair).first (disk_of (other_in old)) (disk_of (other_in new)) g.view run.earlier (omega (arith, first)) other.disk.left;
          later = omega (arith, first, run.later);
          each = λ t since upto c left.
              subst (λ b. IsFolding (found.other pair).before (found.made pair) b c) base_is
              (subst (λ m. IsFolding (found.other pair).before m (folded_base old tuples) c) other.made
              (run.each t c (omega (arith, first, since)) upto left));
        }) ∣₁;
  }

  pub folded_other : active_number old < 2 ^ 63 → All (field.tuple (current (length setting.base))).fits tuples → IsUp (other_in new)
      → ((bodies : List (List ℕ)) → Keeps (other_in old) bodies → Keeps (other_in new) (folded_bodies old tuples))
      → IsFolded setting found pair tuples (disk new)
  folded_other next fit up keeps = record {
    next = subst (λ n. n < 2 ^ 63) other.number next;
    fit = fit;
    has = λ told image left.
        subst (λ b. HasRecords (found.made pair ∷ b ∷ []) image) base_is
        (subst (λ m. HasRecords (m ∷ folded_base old tuples ∷ []) image) other.made
        (kept_has (other_in new) (folded_bodies old tuples) image up (keeps (found.other pair).before (other.disk.keeps told)) left));
  }

  -- where it has no room, there is none by what was found
  pub no_room : (place : ℕ) → IsFullFor old tuples place → HasNoRoom (found.number pair) found.limit (found.made pair) (base_in setting found pair tuples) place
  no_room place full =
      subst (λ b. HasNoRoom (found.number pair) found.limit (found.made pair) b place) base_is
      (subst (λ m. HasNoRoom (found.number pair) found.limit m (folded_base old tuples) place) other.made
      (subst (λ l. HasNoRoom (found.number pair) l (made_in old) (folded_base old tuples) place) other.limit
      (subst (λ n. HasNoRoom n (limit_of (other_in old)) (made_in old) (folded_base old tuples) place) other.number full)))

  -- where there is room, there is a next number
  pub next_by : ((place : ℕ) → IsFullFor old tuples place → ⊥) → active_number old < 2 ^ 63
  next_by room = elim (cases_lt (active_number old) (2 ^ 63)) [ inl small ↦ small | inr last ↦ absurd (room 0 (inl (refl, last))) ]

  -- whose count rose, rose since the first
  pub other_rose : Rose (disk old).faults (disk new).faults → Rose (found.other pair).first.faults (disk new).faults
  other_rose rose = subst (λ n. Rose n (disk new).faults) (sym other.disk.count) rose

  -- what is untouched is as it was found
  pub keeps_still : ((c : List ℕ) → (disk old).left_at (disk old).moment c ↔ (disk old).may_leave c) → other_in new ≡ other_in old → OtherKeeps setting found pair (disk new)
  keeps_still now same = subst (λ j. OtherKeeps setting found pair (g.view (disk_of j))) (sym same) (other_keeps (length setting.base) setting found pair old now ∣ other ∣₁)

  module _ (since by past : Past) (is : tuples ≡ held_in setting found pair past) (later : IsOlder since by) (older : IsOlder by past) (ended : HasEnded by) (now : (c : List ℕ) → (disk old).left_at (disk old).moment c ↔ (disk old).may_leave c)
      (runs : (bodies : List (List ℕ)) → Keeps (other_in old) bodies → LeavesOnly g.view (disk_of (other_in old)) (disk_of (other_in new)) (IsFolding bodies (made_in old) (folded_base old tuples))) where
    -- it was folded by one who has seen that each top has its end
    pub was_folded : active_number old < 2 ^ 63 → All (field.tuple (current (length setting.base))).fits tuples → WasFolded setting found since pair (disk new) past
    was_folded next fit = record { by = by; later = later; older = older; ended = ended; folds = subst (λ ts. OtherFolds setting found pair ts (disk new)) is (folds_other now next fit runs) }

    pub left_so : (2 ^ 63 ≤ active_number old → other_in new ≡ other_in old) → (other_in new ≡ other_in old) ⊎ All (field.tuple (current (length setting.base))).fits tuples → IsLeftBy setting found since pair (disk new) past
    left_so last (inl same) = inl (keeps_still now same)
    left_so last (inr fit) = elim (cases_lt (active_number old) (2 ^ 63)) [ inl next ↦ inr (was_folded next fit) | inr used ↦ inl (keeps_still now (last used)) ]

-- WHY A FOLD WAS REFUSED

-- the ledger's for a fault of the disk, for want of room on it, or for memory
pub ledger_refused : (r : LedgerNo) → IsCheckpointNo r → (r ≡ ledger_no.Disk → ⊥) → ((place : ℕ) → r ≡ ledger_no.Full place → ⊥) → (r ≡ ledger_no.Short Memory → ⊥) → ⊥
ledger_refused ledger_no.Disk is disk full memory = disk refl
ledger_refused (ledger_no.Image bad) is disk full memory = is
ledger_refused (ledger_no.Full place) is disk full memory = full place refl
ledger_refused (ledger_no.Short Memory) is disk full memory = memory refl
ledger_refused (ledger_no.Short Room) is disk full memory = is

-- a copy's for a fault of a disk, for want of room on the other one, since it is strange, or for memory or room for entries
pub site_refused : {D : Type 0} {g : Ghosts D} (copy : ℕ) (fold : Fold D g) (tuples : List Tuple) (new : SiteState g) (r : SiteNo) → CheckpointSays copy fold tuples new r → (r ≡ site_no.Disk → ⊥) → ((place : ℕ) → IsFullFor fold tuples place → ⊥)
    → (new.strange ≡ true → ⊥) → (r ≡ site_no.Short Memory → ⊥) → (IsWant new.replica.pass.seen Room → ⊥) → ⊥
site_refused copy fold tuples new site_no.Disk says disk full strange memory room = disk refl
site_refused copy fold tuples new (site_no.Image bad) says disk full strange memory room = by_fault bad.fault says.1
  where
    by_fault : (fault : ImageFault) → IsFullBy fold tuples fault → ⊥
    by_fault (Full place) is = full place is
    by_fault _ is = is
site_refused copy fold tuples new site_no.Strange says disk full strange memory room = strange says
site_refused copy fold tuples new (site_no.Short Memory) says disk full strange memory room = memory refl
site_refused copy fold tuples new (site_no.Short Room) says disk full strange memory room = room says
