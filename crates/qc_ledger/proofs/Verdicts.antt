-- Bodies of a ledger's records have one verdict.
use Rattle.std.proofs.Common.{◌≡◌, ◌≢◌, ◌⊎◌, inl, inr, ℕ, List, [], ◌∷◌, ◌++◌, length, refl, sym, ap, ap₂, ◌∙◌, subst, arith}
use Rattle.std.specs.Prelude.{MatchOption, Some}
use Rattle.std.proofs.lemmas.Bool.{cases_eq}
use Rattle.qc_event.specs.declared.table.Table.{Table}
use Rattle.qc_codec.specs.Bodies as body
use Rattle.qc_codec.specs.Form.{all_of}
use Rattle.qc_codec.specs.Ledger.{IsMade, IsOutOfOrder, MayStand, made_in}
use Rattle.qc_codec.specs.declared.image.ImageFault.{ImageFault}
use Rattle.qc_codec.specs.declared.image.ImageFault.TheVariants.{Broken, Grammar, Full, Table as OtherTable, Epoch}
use Rattle.qc_codec.specs.declared.record.Made.{Made}
use Rattle.qc_codec.specs.declared.record.LedgerRecord.TheVariants as ledger_record
use Rattle.qc_codec.proofs.Order.{in_order, same_index}
use Rattle.qc_journal.specs.Image.{HasRecords, IsBroken}
use Rattle.qc_journal.proofs.Readings.{broken-same, records-same, records_not_broken}
use Rattle.qc_journal.specs.Journal.{IsTooLong}
use Rattle.qc_ledger.specs.Image.{AreMadeFor, AreMountableAsLedger, IsLedgerFault, IsFirstFault, IsFull}

-- HOW THE LEDGER WAS MADE

same_table : (disk : ℕ) (bodies : List (List ℕ)) (t k : Table) → bodies ≢ [] → AreMadeFor disk t bodies → AreMadeFor disk k bodies → k ≡ t
same_table disk [] t k some one two = absurd (some refl)
same_table disk (first ∷ bodies) t k some one two =
    let both : Some (ledger_record.Made (made_in two.0 disk k)) ≡ Some (ledger_record.Made (made_in one.0 disk t)) = sym two.1 ∙ one.1 in
    let made : made_in two.0 disk k ≡ made_in one.0 disk t = cc in
    ap (λ (m : Made). m.table) made

first_stands : (disk : ℕ) (bodies : List (List ℕ)) (k : Table) (i : ℕ) → AreMadeFor disk k bodies → IsOutOfOrder disk i bodies → i ≡ 0 → ⊥
first_stands disk bodies k i made out none = by bodies out.before out.after out.item made out.split (sym out.size ∙ none) out.breaks
  where
    by : (bs before after : List (List ℕ)) (bytes : List ℕ) → AreMadeFor disk k bs → bs ≡ before ++ bytes ∷ after → length before ≡ 0 → (MayStand disk before bytes → ⊥) → ⊥
    by [] [] after bytes m split size breaks = absurd cc
    by [] (b ∷ before) after bytes m split size breaks = absurd cc
    by (f ∷ bs) [] after bytes m split size breaks = let same : f ≡ bytes = cc in breaks (stands bytes (subst (λ (x : List ℕ). all_of body.ledger x ≡ Some (ledger_record.Made (made_in m.0 disk k))) same m.1))
      where
        stands : (x : List ℕ) → all_of body.ledger x ≡ Some (ledger_record.Made (made_in m.0 disk k)) → MayStand disk [] x
        stands x is = subst (λ o. MatchOption o ⊥ (IsMade disk)) (sym is) refl
    by (f ∷ bs) (b ∷ before) after bytes m split size breaks = absurd (omega (arith, size))

-- WANT OF ROOM

pub same_place : (limit : ℕ) (bodies more : List (List ℕ)) (p q : ℕ) → IsFull limit bodies more p → IsFull limit bodies more q → q ≡ p
same_place limit bodies [] p q one two = absurd one
same_place limit bodies (next ∷ more) p q (inl one) (inl two) = two.0 ∙ sym one.0
same_place limit bodies (next ∷ more) p q (inl one) (inr two) = absurd (two.0 (subst (λ n. IsTooLong n limit next) one.0 one.1))
same_place limit bodies (next ∷ more) p q (inr one) (inl two) = absurd (one.0 (subst (λ n. IsTooLong n limit next) two.0 two.1))
same_place limit bodies (next ∷ more) p q (inr one) (inr two) = same_place limit (bodies ++ next ∷ []) more p q one.1 two.1

-- ONE VERDICT

module _ (disk : ℕ) (table : Table) (limit : ℕ) (bodies : List (List ℕ)) where
  grammar_or_table : (i : ℕ) (kept : Table) → IsOutOfOrder disk i bodies → (i ≢ 0 → AreMadeFor disk table bodies) → kept ≢ table → bodies ≢ [] → AreMadeFor disk kept bodies → ⊥
  grammar_or_table i kept out made other some is = elim (cases_eq i 0) [
    | inl none ↦ first_stands disk bodies kept i is out none
    | inr later ↦ other (same_table disk bodies table kept some (made later) is)
  ]

  pub one_fault : (f other : ImageFault) → IsLedgerFault disk table limit bodies f → IsLedgerFault disk table limit bodies other → other ≡ f
  one_fault (Broken p) other one two = absurd one
  one_fault (Grammar i) (Broken p) one two = absurd two
  one_fault (Grammar i) (Grammar j) one two = ap Grammar (same_index (MayStand disk) bodies i j one.0 two.0)
  one_fault (Grammar i) (OtherTable kept asked) one two = absurd (grammar_or_table i kept one.0 one.1 two.1 two.2 two.3)
  one_fault (Grammar i) (Epoch e) one two = absurd (in_order (MayStand disk) bodies i one.0 two.0.order)
  one_fault (Grammar i) (Full p) one two = absurd (in_order (MayStand disk) bodies i one.0 two.0.order)
  one_fault (OtherTable kept asked) (Broken p) one two = absurd two
  one_fault (OtherTable kept asked) (Grammar j) one two = absurd (grammar_or_table j kept two.0 two.1 one.1 one.2 one.3)
  one_fault (OtherTable kept asked) (OtherTable other asks) one two = ap₂ OtherTable (same_table disk bodies kept other one.2 one.3 two.3) (two.0 ∙ sym one.0)
  one_fault (OtherTable kept asked) (Epoch e) one two = absurd (one.1 (same_table disk bodies table kept one.2 two.0.made one.3))
  one_fault (OtherTable kept asked) (Full p) one two = absurd (one.1 (same_table disk bodies table kept one.2 two.0.made one.3))
  one_fault (Epoch e) (Broken p) one two = absurd two
  one_fault (Epoch e) (Grammar j) one two = absurd (in_order (MayStand disk) bodies j two.0 one.0.order)
  one_fault (Epoch e) (OtherTable kept asked) one two = absurd (two.1 (same_table disk bodies table kept two.2 one.0.made two.3))
  one_fault (Epoch e) (Epoch n) one two = ap Epoch (sym two.1 ∙ one.1)
  one_fault (Epoch e) (Full p) one two = absurd (omega (arith, one.1, one.2, two.1))
  one_fault (Full p) (Broken q) one two = absurd two
  one_fault (Full p) (Grammar j) one two = absurd (in_order (MayStand disk) bodies j two.0 one.0.order)
  one_fault (Full p) (OtherTable kept asked) one two = absurd (two.1 (same_table disk bodies table kept two.2 one.0.made two.3))
  one_fault (Full p) (Epoch e) one two = absurd (omega (arith, two.1, two.2, one.1))
  one_fault (Full p) (Full q) one two = ap Full (same_place limit bodies _ p q one.2 two.2)

  pub fault_or_none : (f : ImageFault) → IsLedgerFault disk table limit bodies f → AreMountableAsLedger disk table limit bodies → ⊥
  fault_or_none (Broken p) one fine = one
  fault_or_none (Grammar i) one fine = in_order (MayStand disk) bodies i one.0 fine.ledgers.order
  fault_or_none (OtherTable kept asked) one fine = one.1 (same_table disk bodies table kept one.2 fine.ledgers.made one.3)
  fault_or_none (Epoch e) one fine = omega (arith, one.1, one.2, fine.epoch)
  fault_or_none (Full p) one fine = fine.room p one.2

-- OF IMAGES

module _ (Has : List (List ℕ) → ImageFault → Type 0) (image : List ℕ) where
  -- a fault of an image is that of its records, or the journal's
  apart : (f : ImageFault) → IsFirstFault Has f image → ((p : ℕ) × (f ≡ Broken p) × IsBroken p image) ⊎ ((b : List (List ℕ)) × HasRecords b image × Has b f)
  apart (Broken p) is = inl (p, refl, is)
  apart (Grammar i) is = inr is
  apart (OtherTable kept asked) is = inr is
  apart (Epoch e) is = inr is
  apart (Full p) is = inr is

  pub first_is_one : ((b : List (List ℕ)) (f other : ImageFault) → Has b f → Has b other → other ≡ f) → (f other : ImageFault) → IsFirstFault Has f image → IsFirstFault Has other image → other ≡ f
  first_is_one only f other one two = by (apart f one) (apart other two)
    where
      by : ((p : ℕ) × (f ≡ Broken p) × IsBroken p image) ⊎ ((b : List (List ℕ)) × HasRecords b image × Has b f)
          → ((p : ℕ) × (other ≡ Broken p) × IsBroken p image) ⊎ ((b : List (List ℕ)) × HasRecords b image × Has b other) → other ≡ f
      by (inl a) (inl b) = b.1 ∙ ap Broken (broken-same image a.0 b.0 a.2 b.2) ∙ sym a.1
      by (inl a) (inr b) = absurd (records_not_broken image b.0 a.0 b.1 a.2)
      by (inr a) (inl b) = absurd (records_not_broken image a.0 b.0 a.1 b.2)
      by (inr a) (inr b) = only a.0 f other a.2 (subst (λ (l : List (List ℕ)). Has l other) (records-same image a.0 b.0 a.1 b.1) b.2)

  pub first_or_else : (bodies : List (List ℕ)) (f : ImageFault) → HasRecords bodies image → (Has bodies f → ⊥) → IsFirstFault Has f image → ⊥
  first_or_else bodies f has none is = by (apart f is)
    where
      by : ((p : ℕ) × (f ≡ Broken p) × IsBroken p image) ⊎ ((b : List (List ℕ)) × HasRecords b image × Has b f) → ⊥
      by (inl a) = records_not_broken image bodies a.0 has a.2
      by (inr a) = none (subst (λ (l : List (List ℕ)). Has l f) (records-same image bodies a.0 has a.1) a.2)

module _ (disk : ℕ) (table : Table) (limit : ℕ) (image : List ℕ) where
  pub one_first : (f other : ImageFault) → IsFirstFault (IsLedgerFault disk table limit) f image → IsFirstFault (IsLedgerFault disk table limit) other image → other ≡ f
  one_first f other one two = first_is_one (IsLedgerFault disk table limit) image (one_fault disk table limit) f other one two

  pub first_or_none : (f : ImageFault) (bodies : List (List ℕ)) → IsFirstFault (IsLedgerFault disk table limit) f image → HasRecords bodies image → AreMountableAsLedger disk table limit bodies → ⊥
  first_or_none f bodies is has fine = first_or_else (IsLedgerFault disk table limit) image bodies f has (λ fault. fault_or_none disk table limit bodies f fault fine) is
