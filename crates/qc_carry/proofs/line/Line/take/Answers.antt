-- The line stays one that has taken another in.
use Rattle.qc_desk.proofs.Known.{known_again}
use Rattle.qc_carry.proofs.Branching.{taken_still, took}
use Rattle.qc_event.specs.Tables.{setting_of}
use Rattle.qc_net.specs.Courier.{held_of, link_of}
use Rattle.qc_carry.proofs.line.Line.take.Goals as goal

pub invariant_of-self : goal.invariant_of-self
invariant_of-self g c =
    let line = c.args.self.now in
    let other = c.args.other in
    let setting = setting_of g.N.Store.table g.N.Store.base in
    let w = c.join.new.pass in
    let taken = took line.pass other.pass w line.client.0 other.client.0 c.join.ensures.seen c.join.ensures.joined (known_again setting line.pass line.known).mine (known_again setting other.pass other.known).mine c.join.ensures.known in
    let still = taken_still setting line.pass w line.client (g.L.Link.view (link_of line.courier)).plan (held_of line.courier) line.patience line.torn line.held line.keeps other.pass c.join.ensures.known taken in
    record { client = still.0; known = still.1; held = still.2; keeps = still.3 }

pub returns-clause-taken : goal.returns-clause-taken
returns-clause-taken g c =
    let line = c.args.self.now in
    let other = c.args.other in
    let setting = setting_of g.N.Store.table g.N.Store.base in
    took line.pass other.pass c.join.new.pass line.client.0 other.client.0 c.join.ensures.seen c.join.ensures.joined (known_again setting line.pass line.known).mine (known_again setting other.pass other.known).mine c.join.ensures.known
