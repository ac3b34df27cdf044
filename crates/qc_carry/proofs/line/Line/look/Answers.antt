-- The line stays one: its client looked.
use Rattle.std.proofs.Common.{subst}
use Rattle.qc_desk.specs.declared.view.View.{View}
use Rattle.qc_desk.specs.Calling.{Shown}
use Rattle.qc_carry.proofs.Acting.{none_still}
use Rattle.qc_carry.proofs.Walking.{of_shown}
use Rattle.qc_event.specs.Tables.{setting_of}
use Rattle.qc_net.specs.Courier.{held_of, link_of}
use Rattle.qc_carry.proofs.line.Line.look.Goals as goal

pub invariant_of-self : goal.invariant_of-self
invariant_of-self g c =
    let line = c.args.self.now in
    let w = c.show.new.seer in
    let still = none_still (setting_of g.N.Store.table g.N.Store.base) line.pass w line.client c.show.ensures.known.1 (g.L.Link.view (link_of line.courier)).plan (held_of line.courier) line.patience line.torn line.held line.keeps (of_shown line.pass w line.client (subst (λ (v : View). Shown v w) c.note-note.ensures.1 c.show.ensures.seer)) in
    record { client = still.0; known = still.1; held = still.2; keeps = still.3 }
