use Rattle.std.proofs.Common.{sym, subst}
use Rattle.qc_codec.specs.Fields.{current}
use Rattle.qc_codec.proofs.Puts.{if_ok}
use Rattle.qc_trail_codec.specs.Events as events
use Rattle.qc_trail_codec.specs.Saving.{CanEventBeSaved}
use Rattle.qc_trail_codec.proofs.Fits.{unable_fits}
use Rattle.qc_trail_codec.proofs.event.put_event.Goals as goal

pub returns-in_ok-put_name-in-Unable-clause-fits : goal.returns-in_ok-put_name-in-Unable-clause-fits
returns-in_ok-put_name-in-Unable-clause-fits c =
    let can = subst (CanEventBeSaved c.args.copies) c.in-Unable.is c.requires.can in
    if_ok c.put_why.result
    (subst (events.event (current c.args.copies)).fits (sym c.in-Unable.is) (unable_fits (current c.args.copies) c.in-Unable.name c.in-Unable.why (c.in_ok-put_name-in-Unable.ensures.fits can.0) can.1))
