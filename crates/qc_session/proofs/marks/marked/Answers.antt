-- Its client looked.
use Rattle.qc_carry.proofs.Walking.{of_shown}
use Rattle.qc_event.specs.Tables.{setting_of}
use Rattle.qc_net.specs.Courier.{held_of, link_of}
use Rattle.qc_session.proofs.Going.{went_looking}
use Rattle.qc_session.proofs.marks.marked.Goals as goal

pub returns-clause-walk : goal.returns-clause-walk
returns-clause-walk g c = of_shown c.args.line.now.pass c.marked.new.self.pass c.args.line.now.client c.marked.ensures.looked

pub returns-clause-went : goal.returns-clause-went
returns-clause-went g c =
    let v = c.args.line.now.pass in
    let line = c.marked.new.self in
    went_looking (setting_of g.N.Store.table g.N.Store.base) v line.pass (λ k. (g.L.Link.view (link_of k)).plan) (of_shown v line.pass c.args.line.now.client c.marked.ensures.looked) c.marked.ensures.rest line.known (held_of line.courier) line.keeps
