-- What a fold writes behind how a disk was made is the next base of its pair.
use Rattle.std.proofs.Common.{◌≡◌, ℕ, ◌<◌, ◌^◌, List, [], ◌∷◌, length, ap, ◌∙◌, subst, arith}
use Rattle.std.specs.Prelude.{All}
use Rattle.std.proofs.lemmas.List.{length-map}
use Rattle.std.proofs.lemmas.List.FromFn.{length-map-range_with_len}
use Rattle.qc_codec.specs.Bodies as body
use Rattle.qc_codec.specs.Fields.{current, tuple}
use Rattle.qc_codec.specs.Form.{Form}
use Rattle.qc_codec.specs.declared.record.BaseRecord.{BaseRecord}
use Rattle.qc_config.specs.declared.tuple.Tuple.{Tuple}
use Rattle.qc_event.specs.declared.table.Row.{Row}
use Rattle.qc_event.specs.declared.table.Table.{Table}
use Rattle.qc_event.specs.History.{Past}
use Rattle.qc_event.specs.Seen.{seen}
use Rattle.qc_event.specs.Tables.{first_configs, setting_of}
use Rattle.qc_journal.specs.Image.{HasRecords}
use Rattle.qc_opening.specs.Pairs.{next_base, IsFolded}
use Rattle.qc_pair.proofs.Bases.{base_fits}
use Rattle.qc_pair.specs.Folding as folding
use Rattle.qc_pair.specs.Front.{current_base, number_in}
use Rattle.qc_pair.specs.declared.kind.Kind.{Kind}
use Rattle.qc_pair.specs.declared.kind.Kind.TheVariants as kind
use Rattle.qc_refine.specs.Folded.{seen_row}

-- that of a copy has a tuple for each record
pub base_of_copy : (table : Table) (base : List (List Tuple)) (past : Past) (copy : ℕ) → body.base (current table.copies) (length (seen_row (setting_of table base) past copy)) ≡ current_base kind.Copy table
base_of_copy table base past copy =
    ap (body.base (current table.copies))
    (length-map-range_with_len (seen base past copy) 0 (length (first_configs table)) ∙ length-map table.records (λ (r : Row). r.config))

module _ (form : Kind) (table : Table) (found : List (List ℕ)) (epoch : ℕ) (tuples : List Tuple) (made image : List ℕ) (small : epoch < 2 ^ 32) (of_form : body.base (current table.copies) (length tuples) ≡ current_base form table) where
  pub folded_so : (copies number : ℕ) (held : List Tuple) → copies ≡ table.copies → number ≡ number_in form found → held ≡ tuples → number < 2 ^ 63 → All (tuple (current copies)).fits held → HasRecords (made ∷ folding.next_base copies number epoch held ∷ []) image
      → IsFolded form table found epoch tuples made image
  folded_so copies number held of_copies of_number of_held low fit has =
      let fit_so : All (tuple (current table.copies)).fits tuples = subst (All (tuple (current table.copies)).fits) of_held (subst (λ n. All (tuple (current n)).fits held) of_copies fit) in
      record {
        fits = subst (λ (f : Form BaseRecord). f.fits (next_base form found epoch tuples)) of_form
            (base_fits table.copies (next_base form found epoch tuples) (omega arith) (omega (arith, low, of_number)) small fit_so);
        has = subst (λ (f : Form BaseRecord). HasRecords (made ∷ f.spell (next_base form found epoch tuples) ∷ []) image) of_form
            (subst (λ (held : List Tuple). HasRecords (made ∷ folding.next_base table.copies (number_in form found) epoch held ∷ []) image) of_held
            (subst (λ n. HasRecords (made ∷ folding.next_base table.copies n epoch held ∷ []) image) of_number
            (subst (λ n. HasRecords (made ∷ folding.next_base n number epoch held ∷ []) image) of_copies has)));
      }
