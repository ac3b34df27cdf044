-- The line stays one: a session was marked, or nothing entered.
use Rattle.std.proofs.Common.{refl}
use Rattle.qc_event.specs.declared.event.Event.TheVariants as event
use Rattle.qc_desk.specs.Refusing.{against_nothing}
use Rattle.qc_carry.proofs.Acting.{entered_still}
use Rattle.qc_event.specs.Tables.{setting_of}
use Rattle.qc_event.specs.Wants.{IsExactWant}
use Rattle.qc_net.specs.Courier.{held_of, link_of}
use Rattle.qc_carry.proofs.line.Line.mark.Goals as goal

pub invariant_of-self : goal.invariant_of-self
invariant_of-self g c =
    let line = c.args.self.now in
    let w = c.mark.new.pass in
    let still = entered_still (setting_of g.N.Store.table g.N.Store.base) line.pass w line.client c.mark.ensures.known (g.L.Link.view (link_of line.courier)).plan (held_of line.courier) line.patience line.torn line.held line.keeps c.mark.result (IsExactWant w.seen) against_nothing (event.Mark c.args.by.now c.args.session) c.mark.ensures.ok c.mark.ensures.err refl (λ n access. (refl, refl)) in
    record { client = still.0; known = still.1; held = still.2; keeps = still.3 }
