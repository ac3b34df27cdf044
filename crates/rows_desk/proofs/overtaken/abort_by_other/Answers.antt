use Rattle.std.proofs.Common.{sym, subst}
use Rattle.qc_event.specs.Tables.{setting_of}
use Rattle.qc_event.specs.Standing.{IsUser}
use Rattle.qc_desk.specs.Entries.{IsOlder}
use Rattle.qc_desk.proofs.AskedTops.{may_ask_abort}
use Rattle.qc_desk.proofs.Entering.{started_later}
use Rattle.rows_desk.proofs.overtaken.abort_by_other.Goals as goal

pub abort-requires-clause-licensed : goal.abort-requires-clause-licensed
abort-requires-clause-licensed g c =
    let before = c.args.pass.now.seen in
    let other = c.show.new.seer in
    may_ask_abort (setting_of g.N.Store.table g.N.Store.base) other.seen other.number c.args.top.now
    (started_later before other.seen c.args.top.now (λ b. IsUser b.kind) (subst (IsOlder before) (sym c.show.ensures.same) c.show.ensures.pass.0) c.requires.top)
