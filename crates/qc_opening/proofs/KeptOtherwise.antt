-- What disks keep, where less is known of what they told.
use Rattle.std.proofs.Common.{◌≡◌, ℕ, ◌+◌, ◌<◌, ◌≤◌, ⊎_elim, inl, inr, true, List, [], length, subst, arith}
use Rattle.std.proofs.Math.Logic.{∥∥₁_map}
use Rattle.std.proofs.lemmas.Option.{slice_get_within}
use Rattle.std.specs.Prelude.{Bool}
use Rattle.qc_config.specs.declared.tuple.Tuple.{Tuple}
use Rattle.qc_disk.specs.Disk.{DiskView as Disk}
use Rattle.qc_event.specs.Base.{Setting}
use Rattle.qc_event.specs.History.{Past}
use Rattle.qc_journal.specs.Image.{HasRecords}
use Rattle.qc_system.specs.Closing.{AllKeep, AreFolded, AreFree, CopyKeeps, DisksKeep, Keeping, LedgerKeeps}
use Rattle.qc_system.specs.Folds.{base_in, IsFree, OtherFolds, OtherKeeps}
use Rattle.qc_system.specs.Grown.{FoldedFrom, GrownFrom}
use Rattle.qc_system.specs.Parts.{Findings}

-- what was found, where these tell
abbrev pub findings : (ℕ → Bool) → ℕ → ℕ → (ℕ → List (List ℕ)) → (ℕ → Disk) → (ℕ → Disk) → (ℕ → Bool) → (ℕ → Bool) → (ℕ → List (List ℕ)) → (ℕ → ℕ) → (ℕ → List ℕ) → Findings
findings swapped limit epoch before first other_first told other_told others number made = record {
  swapped = swapped;
  active = λ pair. record { told = told pair; before = before pair; first = first pair };
  other = λ pair. record { told = other_told pair; before = others pair; first = other_first pair };
  number = number;
  made = made;
  limit = limit;
  epoch = epoch;
}

module _ (setting : Setting) (swapped : ℕ → Bool) (limit epoch : ℕ) (before : ℕ → List (List ℕ)) (first other_first : ℕ → Disk) (number : ℕ → ℕ) (made : ℕ → List ℕ) (more less other_more other_less : ℕ → Bool) (others others' : ℕ → List (List ℕ))
    (too : (pair : ℕ) → pair ≤ length setting.base → less pair ≡ true → more pair ≡ true) (other_too : (pair : ℕ) → pair ≤ length setting.base → other_less pair ≡ true → other_more pair ≡ true)
    (same : (pair : ℕ) → pair ≤ length setting.base → other_less pair ≡ true → others pair ≡ others' pair) where
  abbrev known : Findings
  known = findings swapped limit epoch before first other_first more other_more others number made

  abbrev less_known : Findings
  less_known = findings swapped limit epoch before first other_first less other_less others' number made

  ledger_so : (disk : Disk) (past : Past) → LedgerKeeps setting known disk past → LedgerKeeps setting less_known disk past
  ledger_so disk past l = record {
    kept = ∥∥₁_map l.kept (λ keeps some. keeps (too 0 (omega arith) some));
    grown = ∥∥₁_map l.grown (λ grown some. grown (too 0 (omega arith) some));
    paid = l.paid;
    full = λ some. l.full (too 0 (omega arith) some);
  }

  copy_so : (copy : ℕ) → copy < length setting.base → (disk : Disk) (past : Past) → CopyKeeps setting known copy disk past → CopyKeeps setting less_known copy disk past
  copy_so copy there disk past c =
      let told : less (copy + 1) ≡ true → more (copy + 1) ≡ true = too (copy + 1) (omega (arith, there)) in
      record {
        kept = ∥∥₁_map c.kept (λ keeps some. keeps (told some));
        grown = ∥∥₁_map c.grown (λ grown some. grown (told some));
        paid = c.paid;
        full = ∥∥₁_map c.full (λ full some. full (told some));
        plain = λ some. c.plain (told some);
      }

  other_so : (pair : ℕ) → pair ≤ length setting.base → (disk : Disk) → OtherKeeps setting known pair disk → OtherKeeps setting less_known pair disk
  other_so pair low disk o = record {
    kept = ∥∥₁_map o.kept (λ keeps some image left. subst (λ bodies. HasRecords bodies image) (same pair low some) (keeps (other_too pair low some) image left));
    grown = ∥∥₁_map o.grown (λ grown some. subst (λ bodies. GrownFrom (other_first pair) bodies (λ (more : List (List ℕ)). more ≡ []) disk) (same pair low some) (grown (other_too pair low some)));
  }

  folds_so : (pair : ℕ) → pair ≤ length setting.base → (tuples : List Tuple) (disk : Disk) → OtherFolds setting known pair tuples disk → OtherFolds setting less_known pair tuples disk
  folds_so pair low tuples disk o = record {
    next = o.next;
    fit = o.fit;
    folds = ∥∥₁_map o.folds (λ folds some. subst (λ bodies. FoldedFrom (other_first pair) bodies (made pair) (base_in setting known pair tuples) disk) (same pair low some) (folds (other_too pair low some)));
  }

  -- what is free of a fold still is where more is known
  free_so : (pair : ℕ) → pair ≤ length setting.base → (tuples : List Tuple) (active other : Disk) → IsFree setting less_known pair tuples active other → IsFree setting known pair tuples active other
  free_so pair low tuples active other f = record { told = too pair low f.told; sound = f.sound; sound_other = f.sound_other; room = f.room }

  module _ {D : Type 0} (view : D → Disk) (past : Past) where
    pair_so : (pairs : List (D × D)) (pair : ℕ) (keeps keeps' : Keeping) → pair ≤ length setting.base → ((disk : Disk) → keeps disk past → keeps' disk past) → DisksKeep setting known view pairs pair keeps past → DisksKeep setting less_known view pairs pair keeps' past
    pair_so pairs pair keeps keeps' low so d = record {
      own = d.own;
      spare = d.spare;
      there = d.there;
      kept = record { active = so _ d.kept.active; other = ⊎_elim (λ o. inl (other_so pair low _ o)) (λ o. inr (o.0, folds_so pair low _ _ o.1)) d.kept.other };
    }

    module _ (pairs : List (D × D)) (many : length pairs ≡ length setting.base + 1) where
      folded_so : (from : ℕ) → AreFolded setting known view from pairs past → AreFolded setting less_known view from pairs past
      folded_so from folded pair own spare low there =
          let within : pair < length pairs = slice_get_within pairs pair (own, spare) there in
          let f = folded pair own spare low there in
          record { next = f.next; fit = f.fit; has = λ some. f.has (other_too pair (omega (arith, within, many)) some) }

      all_free : AreFree setting less_known view pairs past → AreFree setting known view pairs past
      all_free free = record {
        ended = free.ended;
        room = free.room;
        each = λ pair own spare there.
            let within : pair < length pairs = slice_get_within pairs pair (own, spare) there in
            free_so pair (omega (arith, within, many)) _ _ _ (free.each pair own spare there);
      }

    pub keep_otherwise : (Done : Type 0) (disks : List D) → AllKeep setting known view Done disks past → AllKeep setting less_known view Done disks past
    unfolding pair_so
    keep_otherwise Done disks all = record {
      pairs = all.pairs;
      disks_are = all.disks_are;
      many = all.many;
      ledger = pair_so all.pairs 0 (LedgerKeeps setting known) (LedgerKeeps setting less_known) (omega arith) (λ disk l. ledger_so disk past l) all.ledger;
      copies = λ copy there. pair_so all.pairs (copy + 1) (CopyKeeps setting known copy) (CopyKeeps setting less_known copy) (omega (arith, there)) (λ disk c. copy_so copy there disk past c) (all.copies copy there);
      last = ⊎_elim (λ o. inl (other_so 0 (omega arith) _ o)) (λ folded. inr (folded_so all.pairs all.many 1 folded)) all.last;
      done = λ done free. folded_so all.pairs all.many 0 (all.done done (all_free all.pairs all.many free));
    }
