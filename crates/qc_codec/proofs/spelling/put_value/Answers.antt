use Rattle.qc_codec.proofs.Fits.{value_fits}
use Rattle.qc_codec.proofs.spelling.put_value.Goals as goal

pub returns-in_err-push-in-Some-clause-fits : goal.returns-in_err-push-in-Some-clause-fits
returns-in_err-push-in-Some-clause-fits c = value_fits c.args.value.now c.as_text.ensures.possible

pub returns-in_err-put_half-in-Some-clause-fits : goal.returns-in_err-put_half-in-Some-clause-fits
returns-in_err-put_half-in-Some-clause-fits c = value_fits c.args.value.now c.as_text.ensures.possible

pub returns-in_err-push-in-None-clause-fits : goal.returns-in_err-push-in-None-clause-fits
returns-in_err-push-in-None-clause-fits c = value_fits c.args.value.now c.as_text.ensures.possible

pub returns-in_ok-put_half-in-Some-clause-fits : goal.returns-in_ok-put_half-in-Some-clause-fits
returns-in_ok-put_half-in-Some-clause-fits c = value_fits c.args.value.now c.as_text.ensures.possible

pub returns-in_ok-push-in-None-clause-fits : goal.returns-in_ok-push-in-None-clause-fits
returns-in_ok-push-in-None-clause-fits c = value_fits c.args.value.now c.as_text.ensures.possible
