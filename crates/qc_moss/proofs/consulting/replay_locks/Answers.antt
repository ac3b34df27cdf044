use Rattle.std.proofs.Common.{sym, ap, ◌∙◌, subst, arith}
use Rattle.std.proofs.lemmas.List.{take_all}
use Rattle.qc_moss.specs.Follows.{TableFollows}
use Rattle.qc_moss.specs.Locks.{unheld}
use Rattle.qc_moss.specs.Consulting.{all_granted}
use Rattle.qc_moss.proofs.Replaying.{replay_follows}
use Rattle.qc_moss.proofs.consulting.replay_locks.Goals as goal

pub returns-clause-follows : goal.returns-clause-follows
returns-clause-follows c = λ past.
    let all = take_all c.loop-grant.grant-index c.args.grants.now (omega arith) in
    subst (TableFollows past c.args.grants.now) (sym (c.loop-grant.invariant.table ∙ ap (all_granted (unheld c.args.start.items)) all)) (replay_follows past c.args.start.items c.args.grants.now c.requires)
