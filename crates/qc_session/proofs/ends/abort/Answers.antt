-- A transaction is aborted for its cause, or was not.
use Rattle.std.proofs.Common.{[], ◌∷◌, sym, subst}
use Rattle.std.specs.Prelude.{IfErr, OnOk}
use Rattle.qc_carry.specs.Walk.{Walk}
use Rattle.qc_event.specs.declared.event.Event.TheVariants as event
use Rattle.qc_event.specs.declared.event.How.TheVariants.{Abort as Aborts}
use Rattle.qc_event.specs.Tables.{setting_of}
use Rattle.qc_managers.specs.Carrying.{entry}
use Rattle.qc_session.specs.Acting.{IsUnfounded}
use Rattle.qc_session.proofs.Aborting.{aborted_made, all_licensed, grounded, is_other, none_aborted, all_unfounded}
use Rattle.qc_session.proofs.ends.abort.Goals as goal

pub abort_licensed-requires : goal.abort_licensed-requires
abort_licensed-requires g c =
    let v = c.args.line.now.pass in
    record {
      user = c.requires.user;
      licensed = all_licensed (setting_of g.N.Store.table g.N.Store.base) v.seen v.number c.args.target.now c.args.cause.now c.requires.user (λ s body k. grounded v.seen c.args.target.now c.args.cause.now (is_other c.args.cause.now c.in_default.not-Orphan c.in_default.not-Child) c.requires.grounded s body k);
    }

pub returns-in-Orphan-clause-ok : goal.returns-in-Orphan-clause-ok
returns-in-Orphan-clause-ok g c = λ client for.
    let v = c.args.line.now.pass in
    let w = c.abort_orphan.new.line.pass in
    aborted_made (setting_of g.N.Store.table g.N.Store.base) v w client for c.abort_orphan.ensures.went.legal c.args.target.now c.args.cause.now c.abort_orphan.result
    (subst (λ why. OnOk c.abort_orphan.result (Walk v w (entry v.number (event.End c.args.target.now (Aborts why)) ∷ []))) (sym c.in-Orphan.is) c.abort_orphan.ensures.ok)

pub returns-in-Orphan-clause-err : goal.returns-in-Orphan-clause-err
returns-in-Orphan-clause-err g c = λ client for.
    let v = c.args.line.now.pass in
    let w = c.abort_orphan.new.line.pass in
    all_unfounded (setting_of g.N.Store.table g.N.Store.base) v w client for c.abort_orphan.ensures.went.legal c.args.target.now c.args.cause.now c.abort_orphan.result
    (subst (λ why. IfErr c.abort_orphan.result (IsUnfounded v w c.args.target.now why)) (sym c.in-Orphan.is) c.abort_orphan.ensures.err)

pub returns-in-Child-clause-ok : goal.returns-in-Child-clause-ok
returns-in-Child-clause-ok g c = λ client for.
    let v = c.args.line.now.pass in
    let w = c.abort_for_child.new.line.pass in
    aborted_made (setting_of g.N.Store.table g.N.Store.base) v w client for c.abort_for_child.ensures.went.legal c.args.target.now c.args.cause.now c.abort_for_child.result
    (subst (λ why. OnOk c.abort_for_child.result (Walk v w (entry v.number (event.End c.args.target.now (Aborts why)) ∷ []))) (sym c.in-Child.is) c.abort_for_child.ensures.ok)

pub returns-in-Child-clause-err : goal.returns-in-Child-clause-err
returns-in-Child-clause-err g c = λ client for.
    let v = c.args.line.now.pass in
    let w = c.abort_for_child.new.line.pass in
    all_unfounded (setting_of g.N.Store.table g.N.Store.base) v w client for c.abort_for_child.ensures.went.legal c.args.target.now c.args.cause.now c.abort_for_child.result
    (subst (λ why. IfErr c.abort_for_child.result (IsUnfounded v w c.args.target.now why)) (sym c.in-Child.is) c.abort_for_child.ensures.err)

pub returns-in_default-clause-ok : goal.returns-in_default-clause-ok
returns-in_default-clause-ok g c = λ client for.
    aborted_made (setting_of g.N.Store.table g.N.Store.base) c.args.line.now.pass c.abort_licensed.new.line.pass client for c.abort_licensed.ensures.went.legal c.args.target.now c.args.cause.now c.abort_licensed.result c.abort_licensed.ensures.ok

pub returns-in_default-clause-err : goal.returns-in_default-clause-err
returns-in_default-clause-err g c = λ client for.
    none_aborted (setting_of g.N.Store.table g.N.Store.base) c.args.line.now.pass c.abort_licensed.new.line.pass client for c.abort_licensed.ensures.went.legal c.args.target.now c.args.cause.now c.abort_licensed.result c.abort_licensed.ensures.err
