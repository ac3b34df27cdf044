use Rattle.qc_codec.specs.Fields.{current}
use Rattle.qc_codec.proofs.Puts.{if_ok}
use Rattle.qc_trail_codec.proofs.Fits.{gone_fits}
use Rattle.qc_trail_codec.proofs.event.put_gone.Goals as goal

pub returns-clause-fits : goal.returns-clause-fits
returns-clause-fits c =
    if_ok c.put_why.result (gone_fits (current c.args.copies) c.args.access.now c.args.why (c.in_ok-put_name.ensures.fits c.requires.numbered))
