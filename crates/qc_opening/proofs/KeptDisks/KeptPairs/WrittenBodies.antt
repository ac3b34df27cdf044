-- What is written on an active disk is no base.
use Rattle.std.proofs.Common.{◌≡◌, ℕ, ◌+◌, ◌<◌, List, [], ◌∷◌, ◌++◌, length, refl, sym, ap, ◌∙◌, arith, append-nil}
use Rattle.std.specs.Prelude.{map, Option, None, Some}
use Rattle.std.specs.Option.{option_and_then}
use Rattle.qc_codec.specs.Base.{base_in, copy_base, ledger_base}
use Rattle.qc_codec.specs.Bodies as body
use Rattle.qc_codec.specs.Copy.{grant_form}
use Rattle.qc_codec.specs.Form.{all_of}
use Rattle.qc_codec.specs.Ledger.{past_in}
use Rattle.qc_codec.specs.declared.record.LedgerRecord.TheVariants.{Epoch}
use Rattle.qc_codec.specs.declared.record.Made.{Made}
use Rattle.qc_codec.proofs.Bases.{record_no_base}
use Rattle.qc_event.specs.declared.event.Grant.{Grant}
use Rattle.qc_event.specs.declared.table.Table.{Table}
use Rattle.qc_ledger.specs.Image as tops
use Rattle.qc_opening.proofs.KeptDisks.CutOff.{same_base}
use Rattle.qc_refine.proofs.Restoring.GrownImages.{same_behind_grants, same_behind_two}
use Rattle.qc_site.specs.Image as grants

-- THE LEDGER'S

-- an epoch behind a first body is no base, of whatever table that body is
epoch_no_base : (first : List ℕ) (epoch : ℕ) → base_in ledger_base (first ∷ tops.epoch_body epoch ∷ []) ≡ None
epoch_no_base first epoch = none (all_of body.made first)
  where
    none : (made : Option Made) → option_and_then (λ (m : Made). all_of (ledger_base m) (tops.epoch_body epoch)) made ≡ None
    none None = refl
    none (Some m) = record_no_base m (Epoch epoch)

-- some first ones of what a mounting writes behind bodies are no base
pub same_ledger_base : (disk : ℕ) (table : Table) (found first rest : List (List ℕ)) → tops.to_write disk table found ≡ first ++ rest → base_in ledger_base (found ++ first) ≡ base_in ledger_base found
same_ledger_base disk table found [] rest split = ap (base_in ledger_base) (append-nil found)
same_ledger_base disk table [] (b ∷ []) rest split = refl
same_ledger_base disk table [] (b ∷ c ∷ []) rest split =
    let epoch : tops.epoch_body ((past_in []).epoch + 1) ≡ c = cc in
    ap (λ (x : List ℕ). base_in ledger_base (b ∷ x ∷ [])) (sym epoch) ∙ epoch_no_base b ((past_in []).epoch + 1)
same_ledger_base disk table [] (b ∷ c ∷ d ∷ first) rest split = absurd cc
same_ledger_base disk table (x ∷ []) (b ∷ []) rest split =
    let epoch : tops.epoch_body ((past_in (x ∷ [])).epoch + 1) ≡ b = cc in
    ap (λ (y : List ℕ). base_in ledger_base (x ∷ y ∷ [])) (sym epoch) ∙ epoch_no_base x ((past_in (x ∷ [])).epoch + 1)
same_ledger_base disk table (x ∷ []) (b ∷ c ∷ first) rest split = absurd cc
same_ledger_base disk table (x ∷ y ∷ found) (b ∷ first) rest split = refl

-- a mounted disk has two bodies
two_written : (disk : ℕ) (table : Table) (found : List (List ℕ)) → 1 < length (found ++ tops.to_write disk table found)
two_written disk table [] = omega arith
two_written disk table (x ∷ []) = omega arith
two_written disk table (x ∷ y ∷ found) = omega arith

-- behind what a mounting writes whatever stands keeps the base
pub mounted_ledger_base : (disk : ℕ) (table : Table) (found more : List (List ℕ)) → base_in ledger_base ((found ++ tops.to_write disk table found) ++ more) ≡ base_in ledger_base found
mounted_ledger_base disk table found more =
    same_behind_two ledger_base (found ++ tops.to_write disk table found) more (two_written disk table found)
    ∙ same_ledger_base disk table found (tops.to_write disk table found) [] (sym (append-nil (tops.to_write disk table found)))

-- A COPY'S

one_written : (disk : ℕ) (table : Table) (found : List (List ℕ)) → 0 < length (found ++ grants.to_write disk table found)
one_written disk table [] = omega arith
one_written disk table (x ∷ found) = omega arith

-- grants keep it there
pub mounted_copy_base : (disk : ℕ) (table : Table) (found : List (List ℕ)) (granted : List Grant) → base_in copy_base ((found ++ grants.to_write disk table found) ++ map (grant_form table).spell granted) ≡ base_in copy_base found
mounted_copy_base disk table found granted =
    same_behind_grants table (found ++ grants.to_write disk table found) granted (one_written disk table found)
    ∙ same_base disk table found (grants.to_write disk table found) [] (sym (append-nil (grants.to_write disk table found)))
