use Rattle.qc_event.specs.History.{start}
use Rattle.qc_event.specs.Standing.{IsUser}
use Rattle.qc_event.proofs.Lawful.{started_some}
use Rattle.rows_desk.proofs.looks.make_ready.Goals as goal

pub ready-requires-clause-started : goal.ready-requires-clause-started
ready-requires-clause-started g c = (c.requires.top.0, started_some (λ b. IsUser b.kind) (start c.args.pass.now.seen c.args.top.now) c.requires.top.1)
