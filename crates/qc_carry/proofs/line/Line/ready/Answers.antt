-- The line stays one: a top is ready, or nothing was entered.
use Rattle.std.proofs.Common.{refl}
use Rattle.qc_event.specs.declared.event.Event.TheVariants as event
use Rattle.qc_desk.specs.Refusing.{Refuses, against_ready}
use Rattle.qc_carry.proofs.Acting.{entered_still}
use Rattle.qc_event.specs.Tables.{setting_of}
use Rattle.qc_net.specs.Courier.{held_of, link_of}
use Rattle.qc_carry.proofs.line.Line.ready.Goals as goal

pub invariant_of-self : goal.invariant_of-self
invariant_of-self g c =
    let line = c.args.self.now in
    let w = c.ready.new.pass in
    let still = entered_still (setting_of g.N.Store.table g.N.Store.base) line.pass w line.client c.ready.ensures.known (g.L.Link.view (link_of line.courier)).plan (held_of line.courier) line.patience line.torn line.held line.keeps c.ready.result (Refuses (against_ready c.args.top.now) w.seen) (against_ready c.args.top.now) (event.Ready c.args.top.now) c.ready.ensures.ok c.ready.ensures.err refl (λ n access. (refl, refl)) in
    record { client = still.0; known = still.1; held = still.2; keeps = still.3 }
