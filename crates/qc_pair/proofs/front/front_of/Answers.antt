-- The made record that was read says of which size its table is.
use Rattle.qc_codec.proofs.Fits.{made_sized}
use Rattle.qc_pair.proofs.front.front_of.Goals as goal

pub number_of_second-requires-clause-few : goal.number_of_second-requires-clause-few
number_of_second-requires-clause-few c = (made_sized c.in-Ok.made c.in-Ok.ensures.found.1).copies

pub number_of_second-requires-clause-small : goal.number_of_second-requires-clause-small
number_of_second-requires-clause-small c = (made_sized c.in-Ok.made c.in-Ok.ensures.found.1).records
