-- What stands in the parts of a saved trail.
use Rattle.std.proofs.Common.{◌≡◌, ℕ, List, refl, sym, ap, subst}
use Rattle.std.specs.Prelude.{Err, IsErrOf}
use Rattle.qc_codec.specs.Bodies as body
use Rattle.qc_codec.specs.Gives.{Spells}
use Rattle.qc_codec.specs.Ledger.{made_in}
use Rattle.qc_codec.specs.declared.fault.CodecNo.{CodecNo}
use Rattle.qc_codec.specs.declared.fault.CodecNo.TheVariants.{Bad, Memory}
use Rattle.qc_codec.specs.declared.record.Made.{Made}
use Rattle.qc_codec.proofs.Bodies.{exact_made}
use Rattle.qc_event.specs.declared.table.Table.{Table}
use Rattle.qc_trail_codec.specs.Trail as saved
use Rattle.qc_trail_codec.specs.declared.record.SavedTrail.{SavedTrail}
use Rattle.qc_audit.specs.Saved.{AreParts, HasSizes, IsSaved}
use Rattle.qc_audit.proofs.Proper.{sizes_told}
use Rattle.qc_audit.proofs.Spelled.{one_parting, one_value}

-- what is bad for one reader is so for another
pub still_bad : {T U : Type 0} (f : CodecNo) → IsErrOf {T = T} (Err f) Bad → IsErrOf {T = U} (Err f) Bad
still_bad Bad is = refl
still_bad Memory is = absurd cc

-- bytes tell one made record
pub one_made : (bytes : List ℕ) (m n : Made) → Spells body.made bytes m → Spells body.made bytes n → m ≡ n
one_made = one_value body.made exact_made

module _ (bytes front back : List ℕ) (parts : AreParts bytes front back) (table : Table) (trail : SavedTrail) (s : IsSaved table trail bytes) where
  pub made_there : Spells body.made front (made_in s.format 0 table)
  made_there = subst (λ xs. Spells body.made xs (made_in s.format 0 table)) (sym (one_parting bytes front back s.front s.back parts s.parts).0) s.made

  -- the made record tells the table, and the format of the trail
  module _ (format : ℕ) (t : Table) (made : Spells body.made front (made_in format 0 t)) where
    same : made_in s.format 0 table ≡ made_in format 0 t
    same = one_made front (made_in s.format 0 table) (made_in format 0 t) made_there made

    pub trail_there : Spells (saved.trail format) back trail
    trail_there =
        subst (λ xs. Spells (saved.trail format) xs trail) (sym (one_parting bytes front back s.front s.back parts s.parts).1)
        (subst (λ n. Spells (saved.trail n) s.back trail) (ap (λ (m : Made). m.format) same) s.rest)

    pub sizes_there : (u : SavedTrail) → Spells (saved.trail format) back u → HasSizes t u.base
    sizes_there u rest =
        sizes_told format t back u trail rest trail_there (subst (λ (x : Table). HasSizes x trail.base) (ap (λ (m : Made). m.table) same) s.sizes)
