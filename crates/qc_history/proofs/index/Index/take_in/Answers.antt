use Rattle.std.proofs.Common.{sym, ◌∙◌}
use Rattle.qc_event.specs.declared.event.Kind.TheVariants.{Access}
use Rattle.qc_event.specs.declared.event.How.TheVariants.{Commit, Abort}
use Rattle.std.proofs.Common.{refl}
use Rattle.qc_trail.proofs.Outlined.{is_abort, is_access, is_commit, is_ready, is_start}
use Rattle.qc_history.proofs.index.Index.take_in.Goals as goal

pub returns-in_ok-add-in-Start-clause-ok : goal.returns-in_ok-add-in-Start-clause-ok
returns-in_ok-add-in-Start-clause-ok c = λ e of.
    let started = is_start e.event c.in-Start.name (sym c.in-Start.is ∙ of) in
    c.in_ok-add-in-Start.ensures.ok e started.0 started.1

pub returns-in_ok-add-in-StartAccess-clause-ok : goal.returns-in_ok-add-in-StartAccess-clause-ok
returns-in_ok-add-in-StartAccess-clause-ok c = λ e of.
    c.in_ok-add-in-StartAccess.ensures.ok e Access (is_access e.event c.in-StartAccess.name (sym c.in-StartAccess.is ∙ of))

pub returns-in-Commit-clause-ok : goal.returns-in-Commit-clause-ok
returns-in-Commit-clause-ok c = λ e of.
    let ended = is_commit e.event c.in-Commit.name (sym c.in-Commit.is ∙ of) in
    c.close.ensures.index e (Commit ended.0) ended.1 refl

pub returns-in-Abort-clause-ok : goal.returns-in-Abort-clause-ok
returns-in-Abort-clause-ok c = λ e of.
    let ended = is_abort e.event c.in-Abort.name (sym c.in-Abort.is ∙ of) in
    c.close-in-Abort.ensures.index e (Abort ended.0) ended.1 refl

pub returns-in-Ready-clause-ok : goal.returns-in-Ready-clause-ok
returns-in-Ready-clause-ok c = λ e of. c.make_ready.ensures.index e (is_ready e.event c.in-Ready.top (sym c.in-Ready.is ∙ of))
