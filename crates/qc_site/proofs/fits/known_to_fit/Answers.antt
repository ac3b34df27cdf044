use Rattle.std.proofs.Common.{arith}
use Rattle.qc_codec.proofs.Fits.{value_fits}
use Rattle.qc_event.specs.Tables.{setting_of}
use Rattle.qc_site.proofs.GrantFits.{grant_fits}
use Rattle.qc_site.proofs.fits.known_to_fit.Goals as goal

pub returns : goal.returns
returns g c = record {
  fits = grant_fits (setting_of g.N.Store.table g.N.Store.base) c.args.pass.now.seen c.args.copies c.args.ask.now c.args.tuple.now
      c.requires.proper c.requires.legal c.requires.copies c.requires.asked c.requires.tuple (omega arith)
      c.name_in_range.ensures.first c.name_in_range.ensures.rest (omega arith) (value_fits c.args.tuple.now.value c.as_number-value.ensures.possible) (omega arith)
      (record { votes = c.config_in_range.ensures.votes; read = c.config_in_range.ensures.read; write = c.config_in_range.ensures.write });
}
