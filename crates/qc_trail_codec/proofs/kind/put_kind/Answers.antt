use Rattle.std.proofs.Common.{sym, subst, arith}
use Rattle.qc_codec.specs.Fields.{current}
use Rattle.qc_codec.proofs.Puts.{if_ok}
use Rattle.qc_trail_codec.specs.Events as events
use Rattle.qc_trail_codec.proofs.Fits.{user_fits, write_fits}
use Rattle.qc_trail_codec.proofs.kind.put_kind.Goals as goal

pub returns-in_ok-push-in-User-2-clause-fits : goal.returns-in_ok-push-in-User-2-clause-fits
returns-in_ok-push-in-User-2-clause-fits c =
    if_ok c.put_word.result (subst (events.kind (current c.args.copies)).fits (sym c.in-User.is) (user_fits (current c.args.copies) c.in-User.session c.in-User.body (omega arith) (omega arith)))

pub returns-in_ok-push-in-Write-2-clause-fits : goal.returns-in_ok-push-in-Write-2-clause-fits
returns-in_ok-push-in-Write-2-clause-fits c =
    if_ok c.put_value.result (subst (events.kind (current c.args.copies)).fits (sym c.in-Write.is) (write_fits (current c.args.copies) c.in-Write.rec c.in-Write.value (omega arith) c.put_value.ensures.fits))
