use Rattle.qc_history.proofs.GrantPlaces.{all_listed}
use Rattle.qc_history.proofs.grants.Grants.count_of.Goals as goal

pub returns : goal.returns
returns c = all_listed c.args.entries.now _ c.requires.kept c.args.copy _ c.places.ensures
