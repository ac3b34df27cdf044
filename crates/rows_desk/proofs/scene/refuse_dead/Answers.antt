use Rattle.std.proofs.Common.{sym, subst}
use Rattle.qc_event.specs.History.{grants}
use Rattle.qc_moss.specs.Follows.{TableFollows}
use Rattle.rows_desk.proofs.scene.refuse_dead.Goals as goal

pub consult-requires-clause-follows : goal.consult-requires-clause-follows
consult-requires-clause-follows g c = subst (λ n. TableFollows c.args.copy.now.seen (grants c.args.copy.now.seen n) c.args.locks.now) (sym c.in_ok-ask.ensures.asked.1) c.requires.follows

pub returns-clause-follows : goal.returns-clause-follows
returns-clause-follows g c = subst (λ n. TableFollows c.consult.new.pass.seen (grants c.consult.new.pass.seen n) c.consult.new.locks) c.in_ok-ask.ensures.asked.1 c.consult.ensures.follows
