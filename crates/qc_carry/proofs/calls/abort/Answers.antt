-- An access is aborted, or memory or room was wanting.
use Rattle.std.proofs.Common.{sym, subst}
use Rattle.qc_event.specs.declared.event.Event.TheVariants as event
use Rattle.qc_event.specs.declared.event.How.TheVariants.{Abort as Aborts}
use Rattle.qc_event.specs.Tables.{setting_of}
use Rattle.qc_desk.specs.Refusing.{against_abort}
use Rattle.qc_carry.specs.Access.{IsShort}
use Rattle.qc_carry.proofs.OwnStays.{licensed}
use Rattle.qc_carry.proofs.Refusing.{abort_short}
use Rattle.qc_carry.proofs.Walking as walking
use Rattle.qc_carry.proofs.calls.abort.Goals as goal

pub abort-aborted-requires-clause-licensed : goal.abort-aborted-requires-clause-licensed
abort-aborted-requires-clause-licensed g c =
    licensed (setting_of g.N.Store.table g.N.Store.base) c.args.pass.now.seen c.args.pass.now.number c.args.access.now c.args.why.now c.requires.own c.requires.licensed

pub returns-in-Ok-clause-ok : goal.returns-in-Ok-clause-ok
returns-in-Ok-clause-ok g c =
    walking.of_entered (against_abort c.args.access.now) (event.End c.args.access.now (Aborts c.args.why.now)) c.args.pass.now c.abort-aborted.new.pass c.in-Ok.ensures.ok

pub returns-in-Err-clause-err : goal.returns-in-Err-clause-err
returns-in-Err-clause-err g c =
    subst (IsShort c.args.pass.now c.abort-aborted.new.pass) (sym c.no_of.ensures) (abort_short c.args.access.now c.args.pass.now c.abort-aborted.new.pass c.in-Err.no c.in-Err.ensures.err)
