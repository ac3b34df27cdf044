-- The line stays one: a child was started, or nothing entered.
use Rattle.std.proofs.Common.{◌≡◌, ◌+◌, [], ◌∷◌, ◌++◌, length}
use Rattle.qc_event.specs.History.{children}
use Rattle.qc_desk.specs.Refusing.{Refuses, against_child}
use Rattle.qc_carry.proofs.Acting.{started_still}
use Rattle.qc_event.specs.Tables.{setting_of}
use Rattle.qc_net.specs.Courier.{held_of, link_of}
use Rattle.qc_carry.proofs.line.Line.start.Goals as goal

pub invariant_of-self : goal.invariant_of-self
invariant_of-self g c =
    let line = c.args.self.now in
    let w = c.start.new.pass in
    let still = started_still (setting_of g.N.Store.table g.N.Store.base) line.pass w line.client c.start.ensures.known (g.L.Link.view (link_of line.courier)).plan (held_of line.courier) line.patience line.torn line.held line.keeps c.start.result (Refuses (against_child c.args.parent.now) w.seen) (against_child c.args.parent.now) c.args.kind (λ n past. n ≡ c.args.parent.now ++ (length (children past c.args.parent.now) + 1) ∷ []) c.start.ensures.ok c.start.ensures.err in
    record { client = still.0; known = still.1; held = still.2; keeps = still.3 }
