-- The line stays one: who was aborted is no access.
use Rattle.std.proofs.Common.{refl}
use Rattle.qc_event.specs.declared.event.Event.TheVariants as event
use Rattle.qc_event.specs.declared.event.How.TheVariants.{Abort as Aborts}
use Rattle.qc_desk.specs.Refusing.{Refuses, against_abort}
use Rattle.qc_carry.proofs.Acting.{ends_no_access, entered_still}
use Rattle.qc_event.specs.Tables.{setting_of}
use Rattle.qc_net.specs.Courier.{held_of, link_of}
use Rattle.qc_carry.proofs.line.Line.abort.Goals as goal

pub invariant_of-self : goal.invariant_of-self
invariant_of-self g c =
    let line = c.args.self.now in
    let w = c.abort.new.pass in
    let still = entered_still (setting_of g.N.Store.table g.N.Store.base) line.pass w line.client c.abort.ensures.known (g.L.Link.view (link_of line.courier)).plan (held_of line.courier) line.patience line.torn line.held line.keeps c.abort.result (Refuses (against_abort c.args.name.now) w.seen) (against_abort c.args.name.now) (event.End c.args.name.now (Aborts c.args.cause.now)) c.abort.ensures.ok c.abort.ensures.err refl (ends_no_access line.pass.seen c.args.name.now (Aborts c.args.cause.now) c.requires.no_access) in
    record { client = still.0; known = still.1; held = still.2; keeps = still.3 }
