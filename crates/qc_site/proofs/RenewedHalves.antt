-- What the fold of an older format leaves of both disks of a pair.
use mathlib.Core.Bool.{true≢false}
use Rattle.std.proofs.Common.{◌≡◌, ℕ, ◌+◌, ◌<◌, ◌≤◌, ◌^◌, inl, inr, ◌⊎◌, List, refl, sym, ap, ap₂, ◌∙◌, subst, arith}
use Rattle.std.specs.Prelude.{Bool, true, false, not, if◌then◌else◌, Option, None, Some, IfSome, IsSome, Result, Ok, Err, IfErr}
use Rattle.std.specs.Result.{IsErrAnd}
use Rattle.std.proofs.lemmas.Bool.{cases_lt}
use Rattle.qc_codec.specs.Base.{current_copy_base}
use Rattle.qc_codec.specs.declared.image.ImageFault.{ImageFault}
use Rattle.qc_codec.specs.declared.image.ImageFault.TheVariants.{Broken, Grammar, Full, Table as OtherTable, Epoch}
use Rattle.qc_codec.specs.declared.past.Past.{Past}
use Rattle.qc_disk.specs.Disk.{CountsOnce, DiskView, HasCause, LeavesOnly}
use Rattle.qc_disk.specs.declared.disk.Disk.{Ghosts}
use Rattle.qc_event.specs.declared.table.Table.{Table}
use Rattle.qc_journal.specs.Image.{HasRecords}
use Rattle.qc_journal.specs.Journal.{disk_of, limit_of, Keeps}
use Rattle.qc_journal.proofs.Moments.{continues, weakened}
use Rattle.qc_ledger.specs.Pairs.{IsHalfLeft, MountsHalf}
use Rattle.qc_pair.specs.Fold.{active_number, other_in, own_disk, spare_disk, swapped_in}
use Rattle.qc_pair.specs.Folding.{HasNoRoom, IsFolding}
use Rattle.qc_pair.specs.Front.{number_in}
use Rattle.qc_pair.specs.Opening.{active_told}
use Rattle.qc_pair.specs.Pair.{number_at}
use Rattle.qc_pair.specs.declared.fault.PairNo.{PairNo}
use Rattle.qc_pair.specs.declared.fault.PairNo.TheVariants as no
use Rattle.qc_pair.specs.declared.fold.Fold.{Fold}
use Rattle.qc_pair.specs.declared.kind.Kind.TheVariants as kind
use Rattle.qc_site.specs.Image.{made_body, to_write, AreMountableAsCopy}
use Rattle.qc_site.specs.Mounted.{copy_of, journal_of, records_of}
use Rattle.qc_site.specs.Pairs.{own_after, spare_after, FindsCopyPair, IsCopyPairNo}
use Rattle.qc_site.specs.Renewal.{renewed_base, renewed_body, stood_on_other, AreOlder, IsOlderPair, IsRenewalFault, IsRenewing, MountsCopyHalf}
use Rattle.qc_site.specs.Renewing.{active_after, folded_after, other_number, IsFullFault, IsNotRenewed}
use Rattle.qc_site.specs.declared.mounted.Mounted.{Mounted}
use Rattle.qc_site.proofs.PairRenewals.{older_records}

module _ (copy : ℕ) (table : Table) (past : Past) (told spare_told : Option (List ℕ)) {D : Type 0} (view : D → DiskView) where
  abbrev Tells : Past → Type 0
  Tells p = p ≡ past

  abbrev Found : Bool → D → D → Type 0
  Found is_spare old new = MountsHalf kind.Copy (copy + 1) told spare_told (λ number. to_write number table) is_spare view ⊥ old new

  -- the disk that was active is left as it was found
  pub kept_half : (is_spare : Bool) (Failed : Type 0) (old mid new : D) → Found is_spare old mid → new ≡ mid → (Failed → ⊥) → MountsCopyHalf copy table told spare_told Tells is_spare view Failed old new
  kept_half is_spare Failed old mid new found same never = subst (λ (d : D). MountsCopyHalf copy table told spare_told Tells is_spare view Failed old d) (sym same) (record {
    any_moment = λ some. weakened view old mid _ _ (found.any_moment some) (λ image left. inl left);
    grows = λ some. inl (found.grows some);
    cause = record { later = found.cause.later; failed = λ failed. absurd (never failed) };
    counts_once = record { once = found.counts_once.once; spared = λ none. found.counts_once.spared (λ is. is) };
  })

  -- the other one is folded into, where there is a next number
  pub folded_half : (is_spare : Bool) (Failed : Type 0) (old mid new : D) (bodies : List (List ℕ)) (pair : IsOlderPair copy table told spare_told (not is_spare) bodies) → Found is_spare old mid
      → ((current_copy_base table).fits (renewed_base table past bodies)
      × (IsSome (view old).content → LeavesOnly view mid new (IsFolding (stood_on_other copy table told spare_told (not is_spare) bodies pair) (made_body (number_at (not (not is_spare)) (copy + 1)) table) (renewed_body table past bodies)))) ⊎ (new ≡ mid)
      → HasCause (view mid).faults (view new).faults Failed → CountsOnce (view mid).faults (view new).faults Failed → MountsCopyHalf copy table told spare_told Tells is_spare view Failed old new
  folded_half is_spare Failed old mid new bodies pair found folds cause counts =
      let spared = found.counts_once.spared (λ is. is) in
      record {
        any_moment = λ some. by folds some;
        grows = λ some. inr (bodies, pair);
        cause = subst (λ (n : ℕ). HasCause n (view new).faults Failed) spared cause;
        counts_once = subst (λ (n : ℕ). CountsOnce n (view new).faults Failed) spared counts;
      }
    where
      by : ((current_copy_base table).fits (renewed_base table past bodies)
          × (IsSome (view old).content → LeavesOnly view mid new (IsFolding (stood_on_other copy table told spare_told (not is_spare) bodies pair) (made_body (number_at (not (not is_spare)) (copy + 1)) table) (renewed_body table past bodies)))) ⊎ (new ≡ mid)
          → IsSome (view old).content → LeavesOnly view old new (λ image. IsHalfLeft kind.Copy (copy + 1) told spare_told (λ number. to_write number table) is_spare (view old) image ⊎ IsRenewing copy table told spare_told Tells (not is_spare) image)
      by (inl both) some = continues view old mid new _ _ _ (found.any_moment some) (both.1 some) (λ image left. inl left)
          (λ image amid. inr (record { found = bodies; pair = pair; past = past; tells = refl; fits = both.0; folding = amid }))
      by (inr same) some = subst (λ (d : D). LeavesOnly view old d (λ image. IsHalfLeft kind.Copy (copy + 1) told spare_told (λ number. to_write number table) is_spare (view old) image ⊎ IsRenewing copy table told spare_told Tells (not is_spare) image)) (sym same)
          (weakened view old mid _ _ (found.any_moment some) (λ image left. inl left))

module _ {D : Type 0} {g : Ghosts D} (copy : ℕ) (table : Table) (past : Past) (limit format : ℕ) (own spare : D) (m : Mounted D g) (f : Fold D g) (finds : FindsCopyPair copy table past limit format (g.view own).content (g.view spare).content m f)
    (older : AreOlder finds.mounts.found) (same_copy : copy_of m ≡ copy) (r : Result (Mounted D g × Fold D g) (D × D × PairNo)) (active : active_after f r ≡ disk_of (journal_of m)) (last : 2 ^ 63 ≤ active_number f → folded_after f r ≡ disk_of (other_in f))
    (fits : active_number f < 2 ^ 63 → (current_copy_base table).fits (renewed_base table past (records_of m)))
    (any_moment : (bodies : List (List ℕ)) → Keeps (other_in f) bodies → LeavesOnly g.view (disk_of (other_in f)) (folded_after f r) (IsFolding bodies (made_body (other_number table past m f) table) (renewed_body table past (records_of m))))
    (cause : HasCause (g.view (disk_of (other_in f))).faults (g.view (folded_after f r)).faults (IsErrAnd r (λ x. x.2 ≡ no.Disk (other_number table past m f))))
    (counts : CountsOnce (g.view (disk_of (other_in f))).faults (g.view (folded_after f r)).faults (IsErrAnd r (λ x. x.2 ≡ no.Disk (other_number table past m f))))
    (refused : IfErr r (λ x. IsNotRenewed table past m f x.2)) where
  abbrev told : Option (List ℕ)
  told = (g.view own).content

  abbrev spare_told : Option (List ℕ)
  spare_told = (g.view spare).content

  abbrev before : List (List ℕ)
  before = finds.mounts.found

  records_found : records_of m ≡ before
  records_found = finds.mounts.all ∙ older_records (number_at (swapped_in f) (copy + 1)) table before older

  -- no other disk than the one that is folded into fails
  other_fails : (n : ℕ) → IsErrAnd r (λ x. x.2 ≡ no.Disk n) → n ≡ other_number table past m f
  other_fails n failed = by r refused failed
    where
      named : (p : PairNo) → IsNotRenewed table past m f p → p ≡ no.Disk n → n ≡ other_number table past m f
      named (no.Disk k) is same = let one : k ≡ n = cc in sym one ∙ is
      named (no.Image bad) is same = absurd cc
      named no.Memory is same = absurd cc

      by : (x : Result (Mounted D g × Fold D g) (D × D × PairNo)) → IfErr x (λ e. IsNotRenewed table past m f e.2) → IsErrAnd x (λ e. e.2 ≡ no.Disk n) → n ≡ other_number table past m f
      by (Ok x) is failed = absurd failed
      by (Err e) is failed = named e.2 is failed

  -- the fold, where there is a next number
  abbrev Folds : (is_spare : Bool) → IsOlderPair copy table told spare_told is_spare before → Option (List ℕ) → D → D → Type 0
  Folds is_spare pair was mid new = ((current_copy_base table).fits (renewed_base table past before)
      × (IsSome was → LeavesOnly g.view mid new (IsFolding (stood_on_other copy table told spare_told is_spare before pair) (made_body (number_at (not is_spare) (copy + 1)) table) (renewed_body table past before)))) ⊎ (new ≡ mid)

  pair_by : (s : Bool) → swapped_in f ≡ s → IsOlderPair copy table told spare_told s before
  pair_by s is = record {
    have = record { own = finds.opens.have.own; spare = finds.opens.have.spare; has_own = finds.opens.have.has_own; has_spare = finds.opens.have.has_spare; tell = finds.opens.have.tell; are_active = finds.opens.have.are_active; swapped_is = sym is ∙ finds.opens.have.swapped_is };
    older = older;
  }

  number_by : (s : Bool) → swapped_in f ≡ s → other_number table past m f ≡ number_at (not s) (copy + 1)
  number_by s is = ap₂ (λ (b : Bool) (c : ℕ). number_at (not b) (c + 1)) is same_copy

  folds_by : (s : Bool) (is : swapped_in f ≡ s) (was : Option (List ℕ)) → was ≡ (if s then told else spare_told) → Folds s (pair_by s is) was (disk_of (other_in f)) (folded_after f r)
  unfolding pair_by
  folds_by s is was told_is = elim (cases_lt (active_number f) (2 ^ 63)) [
    | inl low ↦ inl (
      subst (λ (l : List (List ℕ)). (current_copy_base table).fits (renewed_base table past l)) records_found (fits low),
      λ some.
          subst (λ (n : ℕ). LeavesOnly g.view (disk_of (other_in f)) (folded_after f r) (IsFolding (if s then finds.opens.have.own else finds.opens.have.spare) (made_body n table) (renewed_body table past before))) (number_by s is)
          (subst (λ (l : List (List ℕ)). LeavesOnly g.view (disk_of (other_in f)) (folded_after f r) (IsFolding (if s then finds.opens.have.own else finds.opens.have.spare) (made_body (other_number table past m f) table) (renewed_body table past l))) records_found
          (any_moment (if s then finds.opens.have.own else finds.opens.have.spare)
          (subst (λ (b : Bool). IsSome (if b then told else spare_told) → Keeps (other_in f) (if b then finds.opens.have.own else finds.opens.have.spare)) is finds.opens.keeps_other (subst IsSome told_is some)))),
    )
    | inr high ↦ inr (last high)
  ]

  -- THE DISK ITSELF, AND ITS SPARE

  -- what the fold costs a disk of a number, which is the one that is folded into
  abbrev Cost : D → ℕ → Type 0
  Cost new n = HasCause (g.view (disk_of (other_in f))).faults (g.view new).faults (IsErrAnd r (λ x. x.2 ≡ no.Disk n)) × CountsOnce (g.view (disk_of (other_in f))).faults (g.view new).faults (IsErrAnd r (λ x. x.2 ≡ no.Disk n))

  cost_by : (s : Bool) → swapped_in f ≡ s → Cost (if s then own_after r else spare_after r) (number_at (not s) (copy + 1))
  cost_by s is = subst (λ (d : D). Cost d (number_at (not s) (copy + 1))) (ap (λ (b : Bool). if b then own_after r else spare_after r) is) (subst (Cost (folded_after f r)) (number_by s is) (cause, counts))

  pub own_half : MountsHalf kind.Copy (copy + 1) told spare_told (λ number. to_write number table) false g.view ⊥ own (own_disk f (disk_of (journal_of m)))
      → MountsCopyHalf copy table told spare_told (λ p. p ≡ past) false g.view (IsErrAnd r (λ x. x.2 ≡ no.Disk (copy + 1))) own (own_after r)
  own_half found = by (swapped_in f) refl
    where
      by : (s : Bool) → swapped_in f ≡ s → MountsCopyHalf copy table told spare_told (λ p. p ≡ past) false g.view (IsErrAnd r (λ x. x.2 ≡ no.Disk (copy + 1))) own (own_after r)
      by false is = kept_half copy table past told spare_told g.view false _ own (own_disk f (disk_of (journal_of m))) (own_after r) found
          (sym (ap (λ (s : Bool). if s then spare_after r else own_after r) is) ∙ active ∙ sym (ap (λ (s : Bool). if s then disk_of (other_in f) else disk_of (journal_of m)) is))
          (λ failed. omega (arith, other_fails (copy + 1) failed, ap (λ (s : Bool). number_at (not s) (copy_of m + 1)) is, same_copy))
      by true is =
          folded_half copy table past told spare_told g.view false _ own (disk_of (other_in f)) (own_after r) before (pair_by true is)
          (subst (Found copy table past told spare_told g.view false own) (ap (λ (s : Bool). if s then disk_of (other_in f) else disk_of (journal_of m)) is) found)
          (subst (Folds true (pair_by true is) told (disk_of (other_in f))) (ap (λ (b : Bool). if b then own_after r else spare_after r) is) (folds_by true is told refl)) (cost_by true is).0 (cost_by true is).1

  pub spare_half : MountsHalf kind.Copy (copy + 1) told spare_told (λ number. to_write number table) true g.view ⊥ spare (spare_disk f (disk_of (journal_of m)))
      → MountsCopyHalf copy table told spare_told (λ p. p ≡ past) true g.view (IsErrAnd r (λ x. x.2 ≡ no.Disk (copy + 1 + 17))) spare (spare_after r)
  spare_half found = by (swapped_in f) refl
    where
      by : (s : Bool) → swapped_in f ≡ s → MountsCopyHalf copy table told spare_told (λ p. p ≡ past) true g.view (IsErrAnd r (λ x. x.2 ≡ no.Disk (copy + 1 + 17))) spare (spare_after r)
      by true is = kept_half copy table past told spare_told g.view true _ spare (spare_disk f (disk_of (journal_of m))) (spare_after r) found
          (sym (ap (λ (s : Bool). if s then spare_after r else own_after r) is) ∙ active ∙ sym (ap (λ (s : Bool). if s then disk_of (journal_of m) else disk_of (other_in f)) is))
          (λ failed. omega (arith, other_fails (copy + 1 + 17) failed, ap (λ (s : Bool). number_at (not s) (copy_of m + 1)) is, same_copy))
      by false is =
          folded_half copy table past told spare_told g.view true _ spare (disk_of (other_in f)) (spare_after r) before (pair_by false is)
          (subst (Found copy table past told spare_told g.view true spare) (ap (λ (s : Bool). if s then disk_of (journal_of m) else disk_of (other_in f)) is) found)
          (subst (Folds false (pair_by false is) spare_told (disk_of (other_in f))) (ap (λ (b : Bool). if b then own_after r else spare_after r) is) (folds_by false is spare_told refl)) (cost_by false is).0 (cost_by false is).1

  -- REFUSALS

  told_some : (o : Option (List ℕ)) (P : List ℕ → Type 0) (Q : Type 0) → IfSome o (λ bytes. P bytes × Q) → IsSome o → Q
  told_some None P Q has some = absurd (true≢false (sym some))
  told_some (Some bytes) P Q has some = has.1

  full_by : limit_of (other_in f) ≡ limit → (disk : ℕ) → disk ≡ other_number table past m f → (fault : ImageFault) → IsFullFault table past m f fault → IsRenewalFault table past limit disk before fault
  full_by limit_is disk at (Full place) full = (
    older,
    subst (λ (n : ℕ). HasNoRoom (number_in kind.Copy before) limit (made_body n table) (renewed_body table past before) place) (sym at)
        (subst (λ (l : List (List ℕ)). HasNoRoom (number_in kind.Copy l) limit (made_body (other_number table past m f) table) (renewed_body table past l) place) records_found
        (subst (λ (n : ℕ). HasNoRoom (number_in kind.Copy (records_of m)) n (made_body (other_number table past m f) table) (renewed_body table past (records_of m)) place) limit_is full)),
  )
  full_by limit_is disk at (Broken place) full = absurd full
  full_by limit_is disk at (Grammar index) full = absurd full
  full_by limit_is disk at (OtherTable kept asked) full = absurd full
  full_by limit_is disk at (Epoch epoch) full = absurd full

  disk_by : (s : Bool) (n : ℕ) → n ≡ number_at (not s) (copy + 1) → (n ≡ copy + 1) ⊎ (n ≡ copy + 1 + 17)
  disk_by true n is = inl is
  disk_by false n is = inr is

  pub refused_pair : limit_of (other_in f) ≡ limit → (p : PairNo) → IsNotRenewed table past m f p → IsCopyPairNo copy table past limit told spare_told p
  refused_pair limit_is (no.Disk n) is = inl (inl (disk_by (swapped_in f) n (is ∙ number_by (swapped_in f) refl)))
  refused_pair limit_is (no.Image bad) is = inr (
    swapped_in f,
    before,
    finds.opens.have,
    (λ some. told_some (active_told kind.Copy (copy + 1) told spare_told (swapped_in f)) (HasRecords before) (AreMountableAsCopy (number_at (swapped_in f) (copy + 1)) table past limit before) finds.mounts.fine some),
    is.0 ∙ number_by (swapped_in f) refl,
    full_by limit_is bad.disk is.0 bad.fault is.1,
  )
  refused_pair limit_is no.Memory is = inl (inl tt)
