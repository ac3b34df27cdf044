-- Bodies of bytes, and what holds of them in order, one behind another.
use Rattle.std.proofs.Common.{◌≡◌, ℕ, List, [], ◌∷◌, ◌++◌, length, refl, sym, subst, arith, append-nil, append_assoc}
use Rattle.std.specs.List.{All}
use Rattle.std.proofs.lemmas.List.Elements.{All-head, All-tail}
use Rattle.qc_event.specs.declared.table.Table.{Table}
use Rattle.qc_codec.specs.Bodies as body
use Rattle.qc_codec.specs.Ledger.{made_for}
use Rattle.qc_codec.specs.Order.{EachMay}
use Rattle.qc_codec.proofs.Exact.{IsBytes}
use Rattle.qc_codec.proofs.Fits.{made_proper}
use Rattle.qc_codec.specs.Fields.{current_format}
use Rattle.qc_site.proofs.OfBytes.{Bytes, are_bytes}

-- a made record of a proper table fits, where what it spells is of bytes: so is the disk's number
pub made_of_bytes : (disk : ℕ) (table : Table) → (body.table current_format).fits table → Bytes (body.made.spell (made_for disk table)) → body.made.fits (made_for disk table)
unfolding body.made body.making
made_of_bytes disk table proper bytes = made_proper disk table (bytes 2 0 (omega arith)) proper

-- what holds of the first bodies, and goes on to each further one that may stand, holds of all
module _ (May : List (List ℕ) → List ℕ → Type 0) (Holds : List (List ℕ) → Type 0) (next : (front : List (List ℕ)) (bytes : List ℕ) → Holds front → May front bytes → IsBytes bytes → Holds (front ++ bytes ∷ [])) where
  pub each_holds : (front rest : List (List ℕ)) → Holds front → EachMay May (front ++ rest) → All Bytes rest → Holds (front ++ rest)
  each_holds front [] holds order fit = subst Holds (sym (append-nil front)) holds
  each_holds front (b ∷ rest) holds order fit =
      let same : (front ++ b ∷ []) ++ rest ≡ front ++ b ∷ rest = append_assoc front (b ∷ []) rest in
      subst Holds same (
      each_holds (front ++ b ∷ []) rest
      (next front b holds (order front rest b refl) (are_bytes b (All-head Bytes b rest fit)))
      (subst (EachMay May) (sym same) order)
      (All-tail Bytes b rest fit)
      )
