-- The line stays one: who committed is no access.
use Rattle.std.proofs.Common.{refl}
use Rattle.qc_event.specs.declared.event.Event.TheVariants as event
use Rattle.qc_event.specs.declared.event.How.TheVariants.{Commit as Commits}
use Rattle.qc_desk.specs.Refusing.{Refuses, against_commit}
use Rattle.qc_carry.proofs.Acting.{commits_no_access, ends_no_access, entered_still}
use Rattle.qc_event.specs.Tables.{setting_of}
use Rattle.qc_net.specs.Courier.{held_of, link_of}
use Rattle.qc_carry.proofs.line.Line.end.Goals as goal

pub invariant_of-self : goal.invariant_of-self
invariant_of-self g c =
    let line = c.args.self.now in
    let w = c.end.new.pass in
    let still = entered_still (setting_of g.N.Store.table g.N.Store.base) line.pass w line.client c.end.ensures.known (g.L.Link.view (link_of line.courier)).plan (held_of line.courier) line.patience line.torn line.held line.keeps c.end.result (Refuses (against_commit c.args.name.now) w.seen) (against_commit c.args.name.now) (event.End c.args.name.now (Commits c.args.answer.now)) c.end.ensures.ok c.end.ensures.err refl (ends_no_access line.pass.seen c.args.name.now (Commits c.args.answer.now) (commits_no_access (setting_of g.N.Store.table g.N.Store.base) line.pass.seen line.pass.number c.args.name.now c.args.answer.now c.requires.may)) in
    record { client = still.0; known = still.1; held = still.2; keeps = still.3 }
