-- A step that is a manager goes on behind it, whatever it answered, or has stopped there.
use Rattle.std.proofs.Common.{refl, subst}
use Rattle.qc_script.specs.Managers.{manager_for}
use Rattle.qc_interp.specs.Running.{HasCalled}
use Rattle.qc_interp.proofs.Stepping.ByAnswer.{by_here}
use Rattle.qc_interp.proofs.Stepping.Results.{any_err}
use Rattle.qc_interp.proofs.managing.manage.Goals as goal

pub returns-in-Answered-clause-ok : goal.returns-in-Answered-clause-ok
returns-in-Answered-clause-ok g c =
    let v = g.T.Tx.view c.args.tx.now in
    let w = g.T.Tx.view c.call.new.tx in
    let of = c.args.of.now in
    let kd = manager_for c.args.what.now in
    by_here v.client of kd c.in-Answered.field-0 v.seen w.seen (subst (HasCalled v.client of v.seen w.seen kd) c.in-Answered.is c.in_ok-call.ensures.ok) (λ rest given. rest) (λ rest. refl)

pub returns-in-Stopped-clause-ok : goal.returns-in-Stopped-clause-ok
returns-in-Stopped-clause-ok g c rest =
    let v = g.T.Tx.view c.args.tx.now in
    let w = g.T.Tx.view c.call.new.tx in
    let ended = subst (HasCalled v.client c.args.of.now v.seen w.seen (manager_for c.args.what.now)) c.in-Stopped.is c.in_ok-call.ensures.ok in
    ended (λ given. rest)

-- where it was cut off

pub returns-in_err-call-clause-cut : goal.returns-in_err-call-clause-cut
returns-in_err-call-clause-cut g c = any_err _ c.from_residual.result (λ rest. c.in_err-call.ensures.cut (λ given. rest))
