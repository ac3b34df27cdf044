use Rattle.std.proofs.Common.{Err, sym, ap, subst, ◌∙◌}
use Rattle.qc_run.specs.Auditing.{IsAuditOf}
use Rattle.qc_run.proofs.Audits.{audited, unread}
use Rattle.qc_run.proofs.auditing.audit_source.Goals as goal

pub returns-in-Ok-clause-audited : goal.returns-in-Ok-clause-audited
returns-in-Ok-clause-audited g c =
    let before = g.S.Source.view c.args.source.now in
    let now = g.S.Source.view c.take_all.new.source in
    let sink = g.K.Sink.view c.args.sink.now in
    let sink_now = g.K.Sink.view c.over-status.new.sink in
    let bytes = c.in-Ok.bytes.items in
    audited before now bytes c.in-Ok.ensures.bytes c.in-Ok.ensures.left c.in-Ok.ensures.ended sink sink_now c.nothing.result
    (subst (IsAuditOf sink sink_now bytes) (sym c.nothing.ensures.status) c.over-status.ensures) c.nothing.ensures.none (ap (λ disks. disks.items) c.nothing.ensures.disks ∙ c.new.ensures.items)

pub returns-in-Err-Failed-clause-audited : goal.returns-in-Err-Failed-clause-audited
returns-in-Err-Failed-clause-audited g c =
    let before = g.S.Source.view c.args.source.now in
    let now = g.S.Source.view c.take_all.new.source in
    unread before now (g.K.Sink.view c.args.sink.now) (g.K.Sink.view c.refuse.new.sink) c.refuse.result
    (c.in-Err-Failed.ensures.cause.failed (ap Err c.in-Err-Failed.field-0-is)) c.refuse.ensures.answer c.refuse.ensures.refusal (ap (λ disks. disks.items) c.refuse.ensures.disks ∙ c.new-in-Err-Failed.ensures.items)
