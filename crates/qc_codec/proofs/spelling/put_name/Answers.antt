use Rattle.std.proofs.Common.{◌≡◌, arith}
use Rattle.std.specs.Prelude.{slice_index}
use Rattle.std.proofs.lemmas.Option.{unwrap_or-slice_get}
use Rattle.qc_codec.proofs.Fits.{name_fits, numbered_some}
use Rattle.qc_codec.proofs.spelling.put_name.Goals as goal

pub returns-clause-fits : goal.returns-clause-fits
returns-clause-fits c =
    let first : c.unwrap_or.result ≡ slice_index c.args.name.now 0 = rw (c.unwrap_or.ensures, c.number.ensures) (unwrap_or-slice_get c.args.name.now 0 0) in
    λ numbered. name_fits 1 c.args.name.now (numbered_some c.args.name.now numbered) (record { short = c.rest-number-items.ensures.bounded; first = omega arith; rest = c.rest-number-items.ensures.small }) numbered
