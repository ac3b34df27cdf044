use Rattle.crossbeam_queue.specs.Passes.{view}
use Rattle.qc_mail.proofs.Replies.{jobs_last}
use Rattle.qc_mail.proofs.server.next.Goals as goal

pub returns-clause-last : goal.returns-clause-last
returns-clause-last g c =
    let t = c.take-letter in
    jobs_last _ c.open.result t.result.1 t.result.0.request (view c.args.outlet.now.pass).got (view t.new.self.pass).got t.ensures.got t.ensures.item t.ensures.number c.open.ensures.some
