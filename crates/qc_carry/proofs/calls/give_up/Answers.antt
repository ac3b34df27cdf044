-- An access is given up, or memory or room was wanting.
use Rattle.std.proofs.lemmas.Result.{err_from_is_err_and}
use Rattle.qc_event.specs.declared.event.Event.TheVariants as event
use Rattle.qc_event.proofs.Wanting.{want_of}
use Rattle.qc_desk.specs.Refusing.{against_nothing}
use Rattle.qc_carry.proofs.OwnStays.{may_give_up}
use Rattle.qc_carry.proofs.Walking as walking
use Rattle.qc_carry.proofs.calls.give_up.Goals as goal

pub gone-requires-clause-may : goal.gone-requires-clause-may
gone-requires-clause-may g c = may_give_up c.args.pass.now.seen c.args.pass.now.number c.args.ask.now c.args.why c.requires.waits c.requires.told

pub returns-clause-ok : goal.returns-clause-ok
returns-clause-ok g c =
    walking.of_entered against_nothing (event.Gone c.args.ask.now.access c.args.why) c.args.pass.now c.gone.new.pass c.in_ok-gone.ensures.ok

pub returns-in_err-gone-clause-err : goal.returns-in_err-gone-clause-err
returns-in_err-gone-clause-err g c =
    let p = err_from_is_err_and c.from_residual.result c.from_residual.ensures.1 in
    let wanted = c.in_err-gone.ensures.err in
    rw (p.1, p.2) (walking.of_looked c.args.pass.now c.gone.new.pass wanted.0, want_of c.gone.new.pass.seen c.in_err-gone.field-0.0 wanted.1)
