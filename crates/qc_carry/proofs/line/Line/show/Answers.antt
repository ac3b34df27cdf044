-- Both lines stay ones: their clients looked.
use Rattle.qc_carry.proofs.Acting.{none_still}
use Rattle.qc_carry.proofs.Walking.{of_shown}
use Rattle.qc_event.specs.Tables.{setting_of}
use Rattle.qc_net.specs.Courier.{held_of, link_of}
use Rattle.qc_carry.proofs.line.Line.show.Goals as goal

pub invariant_of-self : goal.invariant_of-self
invariant_of-self g c =
    let line = c.args.self.now in
    let w = c.show.new.pass in
    let still = none_still (setting_of g.N.Store.table g.N.Store.base) line.pass w line.client c.show.ensures.known.0 (g.L.Link.view (link_of line.courier)).plan (held_of line.courier) line.patience line.torn line.held line.keeps (of_shown line.pass w line.client c.show.ensures.pass) in
    record { client = still.0; known = still.1; held = still.2; keeps = still.3 }

pub invariant_of-other : goal.invariant_of-other
invariant_of-other g c =
    let line = c.args.other.now in
    let w = c.show.new.seer in
    let still = none_still (setting_of g.N.Store.table g.N.Store.base) line.pass w line.client c.show.ensures.known.1 (g.L.Link.view (link_of line.courier)).plan (held_of line.courier) line.patience line.torn line.held line.keeps (of_shown line.pass w line.client c.show.ensures.seer) in
    record { client = still.0; known = still.1; held = still.2; keeps = still.3 }

pub returns-clause-walk : goal.returns-clause-walk
returns-clause-walk g c =
    let line = c.args.self.now in
    let other = c.args.other.now in
    (of_shown line.pass c.show.new.pass line.client c.show.ensures.pass, of_shown other.pass c.show.new.seer other.client c.show.ensures.seer)
