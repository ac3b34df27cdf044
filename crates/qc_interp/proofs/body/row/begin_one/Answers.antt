use Rattle.std.proofs.Common.{sym, subst}
use Rattle.qc_event.specs.declared.short.Short.TheVariants.{Memory}
use Rattle.qc_script.specs.declared.tx.TxNo.TheVariants as tx_no
use Rattle.qc_script.specs.Steps.{numbered}
use Rattle.qc_interp.specs.AtOnce.{NotBegun}
use Rattle.qc_interp.proofs.Branching.Begins.{began, not_begun, none_begun}
use Rattle.qc_interp.proofs.Stepping.Plans.{number_of}
use Rattle.qc_interp.proofs.body.row.begin_one.Goals as goal

pub returns-in_default-branch-clause-err : goal.returns-in_default-branch-clause-err
returns-in_default-branch-clause-err g c =
    let v = g.T.Tx.view c.args.tx.now in
    subst (λ w. NotBegun v w c.args.of.now (tx_no.Short Memory)) (sym c.in_default-branch.ensures.err) (none_begun v c.args.of.now c.requires.legal)

pub returns-in-Ok-clause-ok : goal.returns-in-Ok-clause-ok
returns-in-Ok-clause-ok g c =
    let view = g.T.Tx.view in
    began (view c.args.tx.now) (view c.branch-branch.new.self) c.args.of.now (view c.in_Ok-branch.branch) c.in_Ok-branch.ensures.ok (view c.show.new.self) (view c.begin.new.self) (view c.show.new.branch) c.in-Ok.first _
    (numbered c.args.body.now) (sym (number_of c.args.body.now)) c.begin.ensures.client c.in-Ok.ensures.child c.in-Ok.ensures.ok c.show.ensures.showed c.show.ensures.branch_met

pub returns-in-Err-clause-err : goal.returns-in-Err-clause-err
returns-in-Err-clause-err g c =
    let view = g.T.Tx.view in
    not_begun (view c.args.tx.now) (view c.branch-branch.new.self) c.args.of.now (view c.in_Ok-branch.branch) c.in_Ok-branch.ensures.ok (numbered c.args.body.now) (view c.begin.new.self) (view c.merge.new.self) c.in-Err.why c.begin.ensures.client c.in-Err.ensures.err c.merge.ensures.merged
