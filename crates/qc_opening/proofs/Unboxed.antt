-- Disks in places of their own are mounted and left as the disks themselves are.
use Rattle.std.proofs.Common.{◌≡◌, ℕ, zero, suc, ◌+◌, inl, inr, ⊎_elim, List, [], ◌∷◌, ◌++◌, length, map, refl, sym, ap, ap₂, ◌∙◌, subst}
use Rattle.std.specs.Prelude.{Bool, Option}
use Rattle.std.proofs.lemmas.List.{length-map, map-append}
use Rattle.qc_codec.specs.declared.past.Past.{Past}
use Rattle.qc_disk.specs.Disk.{DiskView}
use Rattle.qc_disk.specs.declared.disk.Disk.{Ghosts}
use Rattle.qc_event.specs.declared.table.Table.{Table}
use Rattle.qc_journal.specs.Device.{LosesNoRecord}
use Rattle.qc_ledger.specs.Pairs.{MountsHalf}
use Rattle.qc_opening.specs.Boxes.{unboxed, unboxed_pairs}
use Rattle.qc_opening.specs.Disks.{told_by, IsLeft, IsMounted}
use Rattle.qc_opening.specs.Mounted.{IsStoreOf}
use Rattle.qc_opening.specs.Numbered.{PairsFrom}
use Rattle.qc_opening.specs.Parts.{IsStoreOver}
use Rattle.qc_opening.specs.Refusing.{reason_in, AreLeft, FailedAt, IsBehind}
use Rattle.qc_opening.specs.declared.mount_no.MountNo.{MountNo}
use Rattle.qc_opening.specs.declared.parts.Parts.{Parts}
use Rattle.qc_pair.specs.declared.kind.Kind.{Kind}
use Rattle.qc_system.specs.Pairs.{own_then_spares}
use Rattle.qc_system.specs.declared.boxed.Boxed.{Boxed}

-- pairs out of their places stand in a row as the disks do
pub row_unboxed : {D : Type 0} (pairs : List (Boxed D × Boxed D)) → own_then_spares (unboxed_pairs pairs) ≡ unboxed (own_then_spares pairs)
row_unboxed {D} pairs =
    ap₂ (λ (l m : List D). l ++ m) (firsts pairs) (seconds pairs)
    ∙ sym (map-append (λ (b : Boxed D). b.disk.value) (map (λ p. p.0) pairs) (map (λ p. p.1) pairs))
  where
    firsts : (all : List (Boxed D × Boxed D)) → map (λ p. p.0) (unboxed_pairs all) ≡ unboxed (map (λ p. p.0) all)
    firsts [] = refl
    firsts (p ∷ all) = ap (λ l. p.0.disk.value ∷ l) (firsts all)

    seconds : (all : List (Boxed D × Boxed D)) → map (λ p. p.1) (unboxed_pairs all) ≡ unboxed (map (λ p. p.1) all)
    seconds [] = refl
    seconds (p ∷ all) = ap (λ l. p.1.disk.value ∷ l) (seconds all)

module _ {D : Type 0} (view : D → DiskView) where
  abbrev pub boxed_view : Boxed D → DiskView
  boxed_view b = view b.disk.value

  -- what they tell
  contents_unboxed : (boxed : List (Boxed D)) → map (λ b. (view b.disk.value).content) boxed ≡ map (λ d. (view d).content) (unboxed boxed)
  contents_unboxed [] = refl
  contents_unboxed (b ∷ boxed) = ap (λ l. (view b.disk.value).content ∷ l) (contents_unboxed boxed)

  pub contents_boxed : (boxed : List (Boxed D)) (disks : List D) → unboxed boxed ≡ disks → map (λ b. (view b.disk.value).content) boxed ≡ map (λ d. (view d).content) disks
  contents_boxed boxed disks is = contents_unboxed boxed ∙ ap (map (λ d. (view d).content)) is

  -- how often they have failed
  faults_unboxed : (boxed : List (Boxed D)) → map (λ b. (view b.disk.value).faults) boxed ≡ map (λ d. (view d).faults) (unboxed boxed)
  faults_unboxed [] = refl
  faults_unboxed (b ∷ boxed) = ap (λ l. (view b.disk.value).faults ∷ l) (faults_unboxed boxed)

  pub faults_boxed : (boxed : List (Boxed D)) (disks : List D) → unboxed boxed ≡ disks → map (λ b. (view b.disk.value).faults) boxed ≡ map (λ d. (view d).faults) disks
  faults_boxed boxed disks is = faults_unboxed boxed ∙ ap (map (λ d. (view d).faults)) is

  half_unboxed : (form : Kind) (who : ℕ) (told spare_told : Option (List ℕ)) (written : ℕ → List (List ℕ) → List (List ℕ)) (is_spare : Bool) (Failed : Type 0) (old new : Boxed D) → MountsHalf form who told spare_told written is_spare boxed_view Failed old new
      → MountsHalf form who told spare_told written is_spare view Failed old.disk.value new.disk.value
  half_unboxed form who told spare_told written is_spare Failed old new m = record {
    any_moment = λ tells. let l = m.any_moment tells in record { later = l.later; each = l.each; earlier = l.earlier };
    grows = λ tells index had. let gr = m.grows tells index had in record { from_before = gr.from_before; within = gr.within };
    cause = m.cause;
    counts_once = m.counts_once;
  }

  mounted_unboxed : (table : Table) (Tells : Past → Type 0) (pair : ℕ) (told spare_told : Option (List ℕ)) (is_spare : Bool) (Failed : Type 0) (old new : Boxed D) → IsMounted boxed_view table Tells pair told spare_told is_spare Failed old new
      → IsMounted view table Tells pair told spare_told is_spare Failed old.disk.value new.disk.value
  mounted_unboxed table Tells zero told spare_told is_spare Failed old new m = half_unboxed _ _ _ _ _ _ _ old new m
  mounted_unboxed table Tells (suc copy) told spare_told is_spare Failed old new m = record {
    any_moment = λ tells. let l = m.any_moment tells in record { later = l.later; each = l.each; earlier = l.earlier };
    grows = λ tells. ⊎_elim (λ (grows : LosesNoRecord boxed_view old new). inl (λ index had. let gr = grows index had in record { from_before = gr.from_before; within = gr.within })) inr (m.grows tells);
    cause = m.cause;
    counts_once = m.counts_once;
  }

  module _ (table : Table) (told : ℕ → Option (List ℕ)) (Failed Behind : ℕ → Type 0) where
    each_unboxed : (place : ℕ) (old new : List (Boxed D)) → PairsFrom (IsLeft boxed_view table told Failed Behind) place old new → PairsFrom (IsLeft view table told Failed Behind) place (unboxed old) (unboxed new)
    each_unboxed place [] [] left = tt
    each_unboxed place [] (n ∷ new) left = absurd left
    each_unboxed place (o ∷ old) [] left = absurd left
    each_unboxed place (o ∷ old) (n ∷ new) left = (
      record {
        mounted = mounted_unboxed table _ _ _ _ _ _ o n left.0.mounted;
        behind = λ behind. ap (λ (b : Boxed D). b.disk.value) (left.0.behind behind);
      },
      each_unboxed (place + 1) old new left.1,
    )

  module _ {E : Type 0} (refused : MountNo E) (table : Table) where
    -- left of these disks, and handed back as those
    pub left_of : (back : MountNo D) (boxed new : List (Boxed D)) (disks returned : List D) → unboxed boxed ≡ disks → returned ≡ unboxed new → reason_in back ≡ reason_in refused → AreLeft boxed_view table (reason_in refused) boxed new
        → AreLeft view table (reason_in back) disks returned
    left_of back boxed new disks returned old_is new_is same left =
        subst (λ r. AreLeft view table r disks returned) (sym same)
        (subst (λ (l : List D). AreLeft view table (reason_in refused) l returned) old_is
        (subst (λ (l : List D). AreLeft view table (reason_in refused) (unboxed boxed) l) (sym new_is)
        (subst (λ (l : List (Option (List ℕ))). PairsFrom (IsLeft view table (told_by l) (FailedAt (reason_in refused)) (IsBehind (reason_in refused))) 0 (unboxed boxed) (unboxed new)) (contents_unboxed boxed)
        (each_unboxed table (told_by (map (λ b. (view b.disk.value).content) boxed)) (FailedAt (reason_in refused)) (IsBehind (reason_in refused)) 0 boxed new left))))

  pub boxed_length : (boxed : List (Boxed D)) (disks : List D) → unboxed boxed ≡ disks → length boxed ≡ length disks
  boxed_length boxed disks is = sym (length-map boxed (λ (b : Boxed D). b.disk.value)) ∙ ap length is

-- a store was mounted from disks that told this, and had failed so often
pub store_over : {B : Type 0} {g : Ghosts B} (table : Table) (limit : ℕ) (told : List (Option (List ℕ))) (counts : List ℕ) (disks : List B) (pairs : List (B × B)) (parts : Parts B g) → own_then_spares pairs ≡ disks → IsStoreOf table limit pairs parts
    → map (λ d. (g.view d).content) disks ≡ told → map (λ d. (g.view d).faults) disks ≡ counts → IsStoreOver table told counts parts
store_over {B} {g} table limit told counts disks pairs parts are store contents counted = record {
  limit = limit;
  pairs = pairs;
  mounted = store;
  contents = ap (map (λ (d : B). (g.view d).content)) are ∙ contents;
  counted = ap (map (λ (d : B). (g.view d).faults)) are ∙ counted;
}
