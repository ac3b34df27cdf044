use Rattle.std.proofs.Common.{rules}
use Rattle.qc_config.proofs.Padding.{kept_faultless}
use Rattle.qc_config.proofs.config.Config.new.Goals as goal

pub invariant_of-result : goal.invariant_of-result
invariant_of-result c =
    kept_faultless c.args.votes.now c.copy_from_slice.new.self c.args.read c.args.write c.copy_from_slice.ensures.after c.requires (search rules)
