use Rattle.std.proofs.Common.{sym, subst, arith}
use Rattle.qc_codec.specs.Fields.{current}
use Rattle.qc_codec.proofs.Puts.{if_ok, on_ok}
use Rattle.qc_trail_codec.specs.Events as events
use Rattle.qc_trail_codec.proofs.Fits.{data_fits, put_config_fits}
use Rattle.qc_trail_codec.proofs.kind.put_op.Goals as goal

pub returns-in_ok-put_long-in-PutData-clause-fits : goal.returns-in_ok-put_long-in-PutData-clause-fits
returns-in_ok-put_long-in-PutData-clause-fits c =
    if_ok c.put_value.result (subst (events.op (current c.args.copies)).fits (sym c.in-PutData.is) (data_fits (current c.args.copies) c.in-PutData.version c.in-PutData.value (omega arith) c.put_value.ensures.fits))

pub returns-in_ok-put_long-in-PutConfig-clause-fits : goal.returns-in_ok-put_long-in-PutConfig-clause-fits
returns-in_ok-put_long-in-PutConfig-clause-fits c =
    on_ok c.put_config.result
    (λ fits. subst (events.op (current c.args.copies)).fits (sym c.in-PutConfig.is) (put_config_fits (current c.args.copies) c.in-PutConfig.generation c.in-PutConfig.config (omega arith) (fits c.requires.some)))
    c.put_config.ensures.fits
