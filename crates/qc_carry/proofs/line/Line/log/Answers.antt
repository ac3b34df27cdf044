-- The line stays one: the ledger acted, and its client has seen it.
use Rattle.qc_desk.proofs.Known.{known_again}
use Rattle.qc_carry.proofs.Acting.{none_still}
use Rattle.qc_carry.proofs.Walking.{of_seen}
use Rattle.qc_event.specs.Tables.{setting_of}
use Rattle.qc_net.specs.Courier.{held_of, link_of}
use Rattle.qc_carry.proofs.line.Line.log.Goals as goal

pub invariant_of-self : goal.invariant_of-self
invariant_of-self g c =
    let line = c.args.self.now in
    let setting = setting_of g.N.Store.table g.N.Store.base in
    let w = c.log_top.new.pass in
    let walk = of_seen line.pass w line.client (known_again setting line.pass line.known).mine c.log_top.ensures.known.mine c.log_top.ensures.pass in
    let still = none_still setting line.pass w line.client c.log_top.ensures.known (g.L.Link.view (link_of line.courier)).plan (held_of line.courier) line.patience line.torn line.held line.keeps walk in
    record { client = still.0; known = still.1; held = still.2; keeps = still.3 }

pub returns-clause-walk : goal.returns-clause-walk
returns-clause-walk g c =
    let line = c.args.self.now in
    of_seen line.pass c.log_top.new.pass line.client (known_again (setting_of g.N.Store.table g.N.Store.base) line.pass line.known).mine c.log_top.ensures.known.mine c.log_top.ensures.pass
