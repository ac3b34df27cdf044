use Rattle.std.proofs.Common.{sym, ap, subst, ◌∙◌}
use Rattle.qc_event.specs.declared.event.Answer.{Answer}
use Rattle.qc_event.specs.declared.event.Kind.TheVariants as kind
use Rattle.qc_script.specs.Plan.{Plan, manage_then, change_then, number_in, write_changed}
use Rattle.qc_interp.specs.Change.{changed}
use Rattle.qc_interp.specs.Running.{CutOff, Ended, HasCalled, Stepped}
use Rattle.qc_interp.specs.declared.stops.Finish.TheVariants as finish
use Rattle.qc_interp.proofs.Stepping.ByAnswer.{by_stepped, by_ended, by_cut}
use Rattle.qc_interp.proofs.Stepping.Results.{any_err, if_ok, if_err}
use Rattle.qc_interp.proofs.managing.change_value.Goals as goal

-- a number was read, and is written changed

pub returns-in-Some-clause-ok : goal.returns-in-Some-clause-ok
returns-in-Some-clause-ok g c =
    let v = g.T.Tx.view c.args.tx.now in
    let w = g.T.Tx.view c.call.new.tx in
    let x = g.T.Tx.view c.manage.new.tx in
    let of = c.args.of.now in
    let rec = c.args.rec in
    let by = subst (HasCalled v.client of v.seen w.seen (kind.Read rec)) c.in-Answered.is c.in_ok-given.ensures.ok in
    let next : Plan → Answer → Plan = λ rest given. write_changed rec (changed c.args.by) rest (number_in given) in
    let number = sym c.number_in.ensures ∙ c.in-Some.is in
    let write = manage_then (kind.Write rec c.applied-value.result) in
    if_ok (Stepped w.client of w.seen x.seen write) (Stepped v.client of v.seen x.seen (change_then rec (changed c.args.by))) c.manage.result
    (λ r h. by_stepped v.client of (kind.Read rec) c.in-Answered.given v.seen w.seen by x.seen write next
    (λ rest. ap (write_changed rec (changed c.args.by) rest) number ∙ ap (λ value. manage_then (kind.Write rec value) rest) (sym c.applied-value.ensures)) r
    (subst (λ d. Stepped d of w.seen x.seen write r) c.call.ensures.client h)) c.manage.ensures.ok

-- a text was read

pub returns-in_ok-again-in-None-clause-ok : goal.returns-in_ok-again-in-None-clause-ok
returns-in_ok-again-in-None-clause-ok g c rest =
    let v = g.T.Tx.view c.args.tx.now in
    let w = g.T.Tx.view c.call.new.tx in
    let x = g.T.Tx.view c.ask.new.tx in
    let of = c.args.of.now in
    let rec = c.args.rec in
    let by = subst (HasCalled v.client of v.seen w.seen (kind.Read rec)) c.in-Answered.is c.in_ok-given.ensures.ok in
    let to = finish.Stopped c.in_ok-again-in-None.again in
    by_ended v.client of (kind.Read rec) c.in-Answered.given v.seen w.seen by x.seen (Plan.abort_then 0 rest) (λ given. write_changed rec (changed c.args.by) rest (number_in given)) to
    (ap (write_changed rec (changed c.args.by) rest) (sym c.number_in.ensures ∙ c.in-None.is))
    (subst (λ d. Ended d of w.seen x.seen (Plan.abort_then 0 rest) to) c.call.ensures.client (c.in_ok-again-in-None.ensures.ok rest))

pub returns-in-Stopped-clause-ok : goal.returns-in-Stopped-clause-ok
returns-in-Stopped-clause-ok g c rest =
    let v = g.T.Tx.view c.args.tx.now in
    let w = g.T.Tx.view c.call.new.tx in
    let ended = subst (HasCalled v.client c.args.of.now v.seen w.seen (kind.Read c.args.rec)) c.in-Stopped.is c.in_ok-given.ensures.ok in
    ended (λ given. write_changed c.args.rec (changed c.args.by) rest (number_in given))

-- where it was cut off

pub returns-in_err-given-clause-cut : goal.returns-in_err-given-clause-cut
returns-in_err-given-clause-cut g c =
    any_err _ c.from_residual.result (λ rest. c.in_err-given.ensures.cut (λ given. write_changed c.args.rec (changed c.args.by) rest (number_in given)))

pub returns-in-Some-clause-cut : goal.returns-in-Some-clause-cut
returns-in-Some-clause-cut g c =
    let v = g.T.Tx.view c.args.tx.now in
    let w = g.T.Tx.view c.call.new.tx in
    let x = g.T.Tx.view c.manage.new.tx in
    let of = c.args.of.now in
    let rec = c.args.rec in
    let by = subst (HasCalled v.client of v.seen w.seen (kind.Read rec)) c.in-Answered.is c.in_ok-given.ensures.ok in
    let number = sym c.number_in.ensures ∙ c.in-Some.is in
    let write = manage_then (kind.Write rec c.applied-value.result) in
    if_err ((rest : Plan) → CutOff w.client of w.seen x.seen (write rest)) ((rest : Plan) → CutOff v.client of v.seen x.seen (change_then rec (changed c.args.by) rest)) c.manage.result
    (λ h rest. by_cut v.client of (kind.Read rec) c.in-Answered.given v.seen w.seen by x.seen (write rest) (λ given. write_changed rec (changed c.args.by) rest (number_in given))
    (ap (write_changed rec (changed c.args.by) rest) number ∙ ap (λ value. manage_then (kind.Write rec value) rest) (sym c.applied-value.ensures))
    (subst (λ d. CutOff d of w.seen x.seen (write rest)) c.call.ensures.client (h rest))) c.manage.ensures.cut

pub returns-in_err-again-in-None-clause-cut : goal.returns-in_err-again-in-None-clause-cut
returns-in_err-again-in-None-clause-cut g c =
    let v = g.T.Tx.view c.args.tx.now in
    let w = g.T.Tx.view c.call.new.tx in
    let x = g.T.Tx.view c.ask.new.tx in
    let of = c.args.of.now in
    let rec = c.args.rec in
    let by = subst (HasCalled v.client of v.seen w.seen (kind.Read rec)) c.in-Answered.is c.in_ok-given.ensures.ok in
    any_err _ c.from_residual-in_err-again-in-None.result
    (λ rest. by_cut v.client of (kind.Read rec) c.in-Answered.given v.seen w.seen by x.seen (Plan.abort_then 0 rest) (λ given. write_changed rec (changed c.args.by) rest (number_in given))
    (ap (write_changed rec (changed c.args.by) rest) (sym c.number_in.ensures ∙ c.in-None.is))
    (subst (λ d. CutOff d of w.seen x.seen (Plan.abort_then 0 rest)) c.call.ensures.client (c.in_err-again-in-None.ensures.cut rest)))
