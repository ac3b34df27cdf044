use Rattle.std.proofs.Common.{ℕ, ◌≡◌, ◌<◌, ◌^◌, length, ap, arith, sym, subst, Vec, Global, refl}
use Rattle.std.specs.Prelude.{Result, Ok, Err, IfOk}
use Rattle.qc_codec.specs.Bodies.{made, table}
use Rattle.qc_codec.specs.Gives.{Spells}
use Rattle.qc_codec.specs.Ledger.{made_for}
use Rattle.qc_event.specs.declared.table.Table.{Table}
use Rattle.qc_codec.proofs.Fits.{made_proper}
use Rattle.qc_audit.proofs.Fronts.{front_short}
use Rattle.qc_audit.proofs.saving.front.Goals as goal
use Rattle.qc_codec.specs.Fields.{current_format}

short : {E : Type 0} (written : Result (Vec ℕ Global) E) (t copied : Table) → copied ≡ t → (table current_format).fits t → IfOk written (λ bytes. Spells made bytes.items (made_for 0 copied)) → IfOk written (λ bytes. length bytes.items < 2 ^ 32)
short (Ok bytes) t copied same fits spelled = subst (λ n. n < 2 ^ 32) (sym (ap length spelled.0)) (subst (λ (u : Table). length (made.spell (made_for 0 u)) < 2 ^ 32) (sym same) (front_short t fits))
short (Err e) t copied same fits spelled = tt

pub write_made-requires : goal.write_made-requires
write_made-requires c = record {
  proper = subst (λ (t : Table). made.fits (made_for 0 t)) (sym c.in_ok-table.ensures) (made_proper 0 c.args.table.now (omega arith) c.requires);
  current = refl;
}

pub returns-clause-short : goal.returns-clause-short
returns-clause-short c = short c.write_made.result c.args.table.now c.in_ok-table.table c.in_ok-table.ensures c.requires c.write_made.ensures
