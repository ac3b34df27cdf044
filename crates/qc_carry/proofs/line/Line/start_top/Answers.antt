-- The line stays one: a top was started, or nothing entered.
use Rattle.std.proofs.Common.{◌≡◌, ◌+◌, [], length}
use Rattle.qc_event.specs.declared.event.Kind.TheVariants as kind
use Rattle.qc_event.specs.History.{children}
use Rattle.qc_event.specs.Seats.{top_name}
use Rattle.qc_desk.specs.Refusing.{against_nothing}
use Rattle.qc_carry.proofs.Acting.{started_still}
use Rattle.qc_event.specs.Tables.{setting_of}
use Rattle.qc_event.specs.Wants.{IsExactWant}
use Rattle.qc_net.specs.Courier.{held_of, link_of}
use Rattle.qc_carry.proofs.line.Line.start_top.Goals as goal

pub invariant_of-self : goal.invariant_of-self
invariant_of-self g c =
    let line = c.args.self.now in
    let w = c.start_top.new.pass in
    let still = started_still (setting_of g.N.Store.table g.N.Store.base) line.pass w line.client c.start_top.ensures.known (g.L.Link.view (link_of line.courier)).plan (held_of line.courier) line.patience line.torn line.held line.keeps c.start_top.result (IsExactWant w.seen) against_nothing (kind.User c.args.session c.args.body) (λ n past. n ≡ top_name c.desk.result.now.epoch (length (children past []) + 1)) c.start_top.ensures.ok c.start_top.ensures.err in
    record { client = still.0; known = still.1; held = still.2; keeps = still.3 }
