use Rattle.std.proofs.Common.{arith, sym, ◌∙◌}
use Rattle.qc_event.specs.declared.event.Answer.TheVariants.{Nothing}
use Rattle.qc_event.specs.declared.event.Event.TheVariants as event
use Rattle.qc_event.specs.declared.event.How.TheVariants.{Commit}
use Rattle.qc_event.specs.Standing.{IsUser}
use Rattle.qc_event.specs.History.{start}
use Rattle.qc_event.specs.Tables.{setting_of}
use Rattle.qc_event.proofs.Lawful.{started_some}
use Rattle.qc_desk.specs.Refusing.{against_commit, against_ready}
use Rattle.qc_desk.proofs.AskedTops.{entered_later, is_ready_now}
use Rattle.qc_desk.proofs.Seers.{older_trans}
use Rattle.qc_desk.proofs.Begun.{user_nonroot}
use Rattle.rows_serve.proofs.Commits.{user_commits}
use Rattle.rows_serve.proofs.commit.commit.Goals as goal

pub end-requires-clause-may : goal.end-requires-clause-may
end-requires-clause-may g c =
    let user = c.args.request.now.user in
    user_commits (setting_of g.N.Store.table g.N.Store.base) user c.args.pass.now c.requires.stands.begun
    (omega (arith, user_nonroot (setting_of g.N.Store.table g.N.Store.base) c.args.pass.now.seen user c.known.ensures.legal c.requires.stands.begun, c.len.ensures.length, c.if-len-ne1.true))

pub ready-requires-clause-started : goal.ready-requires-clause-started
ready-requires-clause-started g c = (sym c.len.ensures.length ∙ c.if-len-ne1.false, started_some (λ b. IsUser b.kind) (start c.args.pass.now.seen c.args.request.now.user) c.requires.stands.begun)

pub log-requires-clause-ready : goal.log-requires-clause-ready
log-requires-clause-ready g c =
    let user = c.args.request.now.user in
    is_ready_now (against_ready user) c.args.pass.now c.ready.new.pass user c.in_ok-aborted.ensures.ok

pub returns-clause-older : goal.returns-clause-older
returns-clause-older g c =
    let user = c.args.request.now.user in
    older_trans c.args.pass.now.seen c.ready.new.pass.seen c.log.new.pass.seen
    (entered_later (against_ready user) (event.Ready user) c.args.pass.now c.ready.new.pass c.in_ok-aborted.ensures.ok)
    c.in_ok-log.ensures.older

pub returns-then-len-ne1-clause-older : goal.returns-then-len-ne1-clause-older
returns-then-len-ne1-clause-older g c =
    let user = c.args.request.now.user in
    entered_later (against_commit user) (event.End user (Commit Nothing)) c.args.pass.now c.end.new.pass c.in_ok-end.ensures.ok
