use Rattle.std.proofs.Common.{sym, subst, arith}
use Rattle.qc_codec.specs.Fields.{current}
use Rattle.qc_codec.proofs.Puts.{if_ok}
use Rattle.qc_trail_codec.specs.Events as events
use Rattle.qc_trail_codec.proofs.Fits.{value_fits, generation_fits}
use Rattle.qc_trail_codec.proofs.end.put_answer.Goals as goal

pub returns-in_ok-put_byte-in-Value-clause-fits : goal.returns-in_ok-put_byte-in-Value-clause-fits
returns-in_ok-put_byte-in-Value-clause-fits c =
    if_ok c.put_value.result (subst (events.answer (current c.args.copies)).fits (sym c.in-Value.is) (value_fits (current c.args.copies) c.in-Value.value c.put_value.ensures.fits))

pub returns-in_ok-put_byte-in-Generation-clause-fits : goal.returns-in_ok-put_byte-in-Generation-clause-fits
returns-in_ok-put_byte-in-Generation-clause-fits c =
    if_ok c.put_long.result (subst (events.answer (current c.args.copies)).fits (sym c.in-Generation.is) (generation_fits (current c.args.copies) c.in-Generation.generation (omega arith)))
