use Rattle.std.proofs.Common.{ap, sym, subst, ◌∙◌}
use Rattle.std.specs.Prelude.{if◌then◌else◌}
use Rattle.qc_event.specs.declared.event.Kind.TheVariants as kind
use Rattle.qc_script.specs.Plan.{Plan, is_enough}
use Rattle.qc_interp.specs.Running.{Ended, CutOff, HasCalled}
use Rattle.qc_interp.specs.declared.stops.Finish.TheVariants as finish
use Rattle.qc_interp.proofs.Stepping.ByAnswer.{by_here, by_ended, by_cut}
use Rattle.qc_interp.proofs.Stepping.Results.{any_err}
use Rattle.qc_interp.proofs.managing.need.Goals as goal

pub returns-then-is_enough-clause-ok : goal.returns-then-is_enough-clause-ok
returns-then-is_enough-clause-ok g c =
    let v = g.T.Tx.view c.args.tx.now in
    let w = g.T.Tx.view c.call.new.tx in
    let of = c.args.of.now in
    let least = c.args.least in
    by_here v.client of (kind.Read c.args.rec) c.in-Answered.given v.seen w.seen (subst (HasCalled v.client of v.seen w.seen (kind.Read c.args.rec)) c.in-Answered.is c.in_ok-given.ensures.ok)
    (λ rest given. if is_enough least given then rest else Plan.abort_then 0 rest)
    (λ rest. ap (λ b. if b then rest else Plan.abort_then 0 rest) (sym c.is_enough.ensures ∙ c.if-is_enough.true))

pub returns-in_ok-again-in-Answered-clause-ok : goal.returns-in_ok-again-in-Answered-clause-ok
returns-in_ok-again-in-Answered-clause-ok g c rest =
    let v = g.T.Tx.view c.args.tx.now in
    let w = g.T.Tx.view c.call.new.tx in
    let x = g.T.Tx.view c.ask.new.tx in
    let of = c.args.of.now in
    let least = c.args.least in
    by_ended v.client of (kind.Read c.args.rec) c.in-Answered.given v.seen w.seen (subst (HasCalled v.client of v.seen w.seen (kind.Read c.args.rec)) c.in-Answered.is c.in_ok-given.ensures.ok)
    x.seen (Plan.abort_then 0 rest) (λ given. if is_enough least given then rest else Plan.abort_then 0 rest) (finish.Stopped c.in_ok-again-in-Answered.again)
    (ap (λ b. if b then rest else Plan.abort_then 0 rest) (sym c.is_enough.ensures ∙ c.if-is_enough.false))
    (subst (λ d. Ended d of w.seen x.seen (Plan.abort_then 0 rest) (finish.Stopped c.in_ok-again-in-Answered.again)) c.call.ensures.client (c.in_ok-again-in-Answered.ensures.ok rest))

pub returns-in-Stopped-clause-ok : goal.returns-in-Stopped-clause-ok
returns-in-Stopped-clause-ok g c rest =
    let v = g.T.Tx.view c.args.tx.now in
    let w = g.T.Tx.view c.call.new.tx in
    let ended = subst (HasCalled v.client c.args.of.now v.seen w.seen (kind.Read c.args.rec)) c.in-Stopped.is c.in_ok-given.ensures.ok in
    ended (λ given. if is_enough c.args.least given then rest else Plan.abort_then 0 rest)

-- where it was cut off

pub returns-in_err-given-clause-cut : goal.returns-in_err-given-clause-cut
returns-in_err-given-clause-cut g c =
    any_err _ c.from_residual.result (λ rest. c.in_err-given.ensures.cut (λ given. if is_enough c.args.least given then rest else Plan.abort_then 0 rest))

pub returns-in_err-again-in-Answered-clause-cut : goal.returns-in_err-again-in-Answered-clause-cut
returns-in_err-again-in-Answered-clause-cut g c =
    let v = g.T.Tx.view c.args.tx.now in
    let w = g.T.Tx.view c.call.new.tx in
    let x = g.T.Tx.view c.ask.new.tx in
    let of = c.args.of.now in
    let least = c.args.least in
    any_err _ c.from_residual-in_err-again-in-Answered.result
    (λ rest.
    by_cut v.client of (kind.Read c.args.rec) c.in-Answered.given v.seen w.seen (subst (HasCalled v.client of v.seen w.seen (kind.Read c.args.rec)) c.in-Answered.is c.in_ok-given.ensures.ok)
    x.seen (Plan.abort_then 0 rest) (λ given. if is_enough least given then rest else Plan.abort_then 0 rest)
    (ap (λ b. if b then rest else Plan.abort_then 0 rest) (sym c.is_enough.ensures ∙ c.if-is_enough.false))
    (subst (λ d. CutOff d of w.seen x.seen (Plan.abort_then 0 rest)) c.call.ensures.client (c.in_err-again-in-Answered.ensures.cut rest)))
