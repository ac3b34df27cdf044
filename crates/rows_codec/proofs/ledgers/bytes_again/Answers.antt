-- A made record of the ledger fits as each made record does.
use Rattle.std.proofs.Common.{subst}
use Rattle.qc_codec.specs.Bodies.{made, ledger}
use Rattle.qc_codec.specs.declared.record.LedgerRecord.{LedgerRecord}
use Rattle.qc_codec.proofs.Fits.{made_fits}
use Rattle.rows_codec.proofs.ledgers.bytes_again.Goals as goal

pub write_made_anew-requires : goal.write_made_anew-requires
unfolding made
write_made_anew-requires c = record { proper = made_fits c.in-Made.made (subst (λ (r : LedgerRecord). ledger.fits r) c.in-Made.is c.requires) }
