-- Bodies of a copy's records have one verdict.
use Rattle.std.proofs.Common.{◌≡◌, ◌≢◌, inl, inr, ℕ, List, [], ◌∷◌, ◌++◌, length, refl, sym, ap, ap₂, ◌∙◌, subst, arith}
use Rattle.std.specs.Prelude.{Some}
use Rattle.std.proofs.lemmas.Bool.{cases_eq}
use Rattle.qc_event.specs.declared.table.Table.{Table}
use Rattle.qc_codec.specs.Bodies as body
use Rattle.qc_codec.specs.Copy.{IsOutOfOrder, MayStand}
use Rattle.qc_codec.specs.Form.{all_of}
use Rattle.qc_codec.specs.Ledger.{made_in}
use Rattle.qc_codec.specs.declared.image.ImageFault.{ImageFault}
use Rattle.qc_codec.specs.declared.image.ImageFault.TheVariants.{Broken, Grammar, Full, Table as OtherTable, Epoch}
use Rattle.qc_codec.specs.declared.past.Past.{Past}
use Rattle.qc_codec.specs.declared.record.Made.{Made}
use Rattle.qc_codec.proofs.Order.{in_order, same_index}
use Rattle.qc_journal.specs.Image.{HasRecords}
use Rattle.qc_ledger.specs.Image.{IsFirstFault}
use Rattle.qc_ledger.proofs.Verdicts.{first_is_one, first_or_else, same_place}
use Rattle.qc_site.specs.Image.{AreMadeFor, AreMountableAsCopy, IsCopyFault}
use Rattle.qc_site.proofs.Rests.{made_stands}

module _ (disk : ℕ) where
  same_table : (bodies : List (List ℕ)) (t k : Table) → bodies ≢ [] → AreMadeFor disk t bodies → AreMadeFor disk k bodies → k ≡ t
  same_table [] t k some one two = absurd (some refl)
  same_table (first ∷ bodies) t k some one two =
      let both : Some (made_in two.0 disk k) ≡ Some (made_in one.0 disk t) = sym two.1 ∙ one.1 in
      let made : made_in two.0 disk k ≡ made_in one.0 disk t = cc in
      ap (λ (m : Made). m.table) made

  module _ (table : Table) (past : Past) where
    first_by : (bodies before after : List (List ℕ)) (bytes : List ℕ) (k : Table) → AreMadeFor disk k bodies → bodies ≡ before ++ bytes ∷ after → length before ≡ 0 → (MayStand disk table past before bytes → ⊥) → ⊥
    first_by [] [] after bytes k made split size breaks = absurd cc
    first_by [] (b ∷ before) after bytes k made split size breaks = absurd cc
    first_by (f ∷ bodies) [] after bytes k made split size breaks = let same : f ≡ bytes = cc in breaks (made_stands disk table past bytes made.0 k (subst (λ (x : List ℕ). all_of body.made x ≡ Some (made_in made.0 disk k)) same made.1))
    first_by (f ∷ bodies) (b ∷ before) after bytes k made split size breaks = absurd (omega (arith, size))

    first_stands : (bodies : List (List ℕ)) (k : Table) (i : ℕ) → AreMadeFor disk k bodies → IsOutOfOrder disk table past i bodies → i ≡ 0 → ⊥
    first_stands bodies k i made out none = first_by bodies out.before out.after out.item k made out.split (sym out.size ∙ none) out.breaks

    grammar_or_table : (bodies : List (List ℕ)) (i : ℕ) (kept : Table) → IsOutOfOrder disk table past i bodies → (i ≢ 0 → AreMadeFor disk table bodies) → kept ≢ table → bodies ≢ [] → AreMadeFor disk kept bodies → ⊥
    grammar_or_table bodies i kept out made other some is = elim (cases_eq i 0) [
      | inl none ↦ first_stands bodies kept i is out none
      | inr later ↦ other (same_table bodies table kept some (made later) is)
    ]

    module _ (limit : ℕ) where
      pub one_fault : (bodies : List (List ℕ)) (f other : ImageFault) → IsCopyFault disk table past limit bodies f → IsCopyFault disk table past limit bodies other → other ≡ f
      one_fault bodies (Broken p) other one two = absurd one
      one_fault bodies (Epoch e) other one two = absurd one
      one_fault bodies (Grammar i) (Broken p) one two = absurd two
      one_fault bodies (Grammar i) (Epoch e) one two = absurd two
      one_fault bodies (Grammar i) (Grammar j) one two = ap Grammar (same_index (MayStand disk table past) bodies i j one.0 two.0)
      one_fault bodies (Grammar i) (OtherTable kept asked) one two = absurd (grammar_or_table bodies i kept one.0 one.1 two.1 two.2 two.3)
      one_fault bodies (Grammar i) (Full p) one two = absurd (in_order (MayStand disk table past) bodies i one.0 two.0.order)
      one_fault bodies (OtherTable kept asked) (Broken p) one two = absurd two
      one_fault bodies (OtherTable kept asked) (Epoch e) one two = absurd two
      one_fault bodies (OtherTable kept asked) (Grammar j) one two = absurd (grammar_or_table bodies j kept two.0 two.1 one.1 one.2 one.3)
      one_fault bodies (OtherTable kept asked) (OtherTable other asks) one two = ap₂ OtherTable (same_table bodies kept other one.2 one.3 two.3) (two.0 ∙ sym one.0)
      one_fault bodies (OtherTable kept asked) (Full p) one two = absurd (one.1 (same_table bodies table kept one.2 two.0.made one.3))
      one_fault bodies (Full p) (Broken q) one two = absurd two
      one_fault bodies (Full p) (Epoch e) one two = absurd two
      one_fault bodies (Full p) (Grammar j) one two = absurd (in_order (MayStand disk table past) bodies j two.0 one.0.order)
      one_fault bodies (Full p) (OtherTable kept asked) one two = absurd (two.1 (same_table bodies table kept two.2 one.0.made two.3))
      one_fault bodies (Full p) (Full q) one two = ap Full (same_place limit bodies _ p q one.1 two.1)

      pub fault_or_none : (bodies : List (List ℕ)) (f : ImageFault) → IsCopyFault disk table past limit bodies f → AreMountableAsCopy disk table past limit bodies → ⊥
      fault_or_none bodies (Broken p) one fine = one
      fault_or_none bodies (Epoch e) one fine = one
      fault_or_none bodies (Grammar i) one fine = in_order (MayStand disk table past) bodies i one.0 fine.granted.order
      fault_or_none bodies (OtherTable kept asked) one fine = one.1 (same_table bodies table kept one.2 fine.granted.made one.3)
      fault_or_none bodies (Full p) one fine = fine.room p one.1

      pub one_first : (image : List ℕ) (f other : ImageFault) → IsFirstFault (IsCopyFault disk table past limit) f image → IsFirstFault (IsCopyFault disk table past limit) other image → other ≡ f
      one_first image f other one two = first_is_one (IsCopyFault disk table past limit) image one_fault f other one two

      pub first_or_none : (image : List ℕ) (f : ImageFault) (bodies : List (List ℕ)) → IsFirstFault (IsCopyFault disk table past limit) f image → HasRecords bodies image → AreMountableAsCopy disk table past limit bodies → ⊥
      first_or_none image f bodies is has fine = first_or_else (IsCopyFault disk table past limit) image bodies f has (λ fault. fault_or_none bodies f fault fine) is
