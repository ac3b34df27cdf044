-- The copied table is the table, and a made record is spelled as the ledger's.
use Rattle.std.proofs.Common.{arith, refl, ap, sym, subst, ◌∙◌}
use Rattle.qc_event.specs.declared.table.Table.{Table}
use Rattle.qc_codec.specs.Bodies as body
use Rattle.qc_codec.specs.Ledger.{made_for}
use Rattle.qc_codec.proofs.Fits.{made_proper}
use Rattle.qc_codec.proofs.Bases.{made_spelled}
use Rattle.qc_codec.specs.Fields.{current_format}
use Rattle.qc_ledger.specs.Image.{made_body}
use Rattle.qc_ledger.proofs.mounting.made_of.Goals as goal

pub write_made-requires : goal.write_made-requires
write_made-requires c = record {
  proper = made_proper c.args.who c.in_ok-copy_table.field-0 (omega arith) (subst (λ (t : Table). (body.table current_format).fits t) (sym c.in_ok-copy_table.ensures) c.requires.proper);
  current = refl;
}

pub returns-clause-body : goal.returns-clause-body
returns-clause-body c = c.in_ok-spelled.ensures.0 ∙ sym (made_spelled (made_for c.args.who c.in_ok-copy_table.field-0)) ∙ ap (made_body c.args.who) c.in_ok-copy_table.ensures
