-- How a copy's disk was made has a body.
use Rattle.std.proofs.Common.{arith, refl, sym, subst}
use Rattle.qc_event.specs.declared.table.Table.{Table}
use Rattle.qc_codec.specs.Bodies as body
use Rattle.qc_codec.proofs.Fits.{made_proper}
use Rattle.qc_codec.specs.Fields.{current_format}
use Rattle.qc_site.proofs.mounting.made_of.Goals as goal

pub write_made-requires : goal.write_made-requires
write_made-requires c = record {
  proper = made_proper c.args.who c.in_ok-copy_table.field-0 (omega arith) (subst (λ (t : Table). (body.table current_format).fits t) (sym c.in_ok-copy_table.ensures) c.requires.proper);
  current = refl;
}
