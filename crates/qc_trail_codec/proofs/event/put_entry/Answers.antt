use Rattle.std.proofs.Common.{arith}
use Rattle.qc_codec.specs.Fields.{current}
use Rattle.qc_codec.proofs.Puts.{on_ok}
use Rattle.qc_trail_codec.proofs.Fits.{entry_fits}
use Rattle.qc_trail_codec.proofs.event.put_entry.Goals as goal

pub returns-clause-fits : goal.returns-clause-fits
returns-clause-fits c = on_ok c.put_event.result (λ fits. entry_fits (current c.args.copies) c.args.entry.now (omega arith) fits) c.put_event.ensures.fits
