-- A grant of any format has bytes in the current one.
use Rattle.qc_codec.proofs.Fits.{grant_renewed}
use Rattle.rows_codec.proofs.grants.show.Goals as goal

pub print_both-requires-clause-fits : goal.print_both-requires-clause-fits
print_both-requires-clause-fits c = grant_renewed c.args.copies c.args.format c.in-Ok.grant c.in-Ok.ensures.found.1
