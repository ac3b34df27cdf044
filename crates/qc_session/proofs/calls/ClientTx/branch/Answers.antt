-- A branch of a client, and the client beside it.
use Rattle.std.proofs.Common.{refl, sym, ap, subst, ◌∙◌}
use Rattle.qc_board.specs.Boards.{Seated}
use Rattle.qc_event.specs.Tables.{setting_of}
use Rattle.qc_carry.proofs.KeepsStill.{keeps_met}
use Rattle.qc_net.specs.Courier.{held_of, link_of}
use Rattle.qc_desk.specs.declared.view.View.{View}
use Rattle.qc_session.specs.Clients.{link_told}
use Rattle.qc_session.specs.Keeping.{IsClientPass}
use Rattle.qc_session.specs.Marking.{IsSeatAt}
use Rattle.qc_session.proofs.Branching.{anew_net, branch_keeps, branch_met, branched, left_keeps, still_met}
use Rattle.qc_session.proofs.calls.ClientTx.branch.Goals as goal
use Rattle.qc_session.proofs.Knowing.{seen_legal}

pub branch-self-requires : goal.branch-self-requires
branch-self-requires g c = record { high = c.args.self.now.kept.high c.args.self.now.line.pass.number (0, refl) }

pub invariant_of-self : goal.invariant_of-self
invariant_of-self g c =
    let me = c.args.self.now in
    let same = sym c.in_err-line.ensures.err in
    record {
      over = me.over;
      kept = subst (λ (v : View). IsClientPass v me.seat.marks) same me.kept;
      low = me.low;
      seated = me.seated;
      boarded = me.boarded;
    }

pub invariant_of-self-2 : goal.invariant_of-self-2
invariant_of-self-2 g c =
    let me = c.args.self.now in
    let now = c.branch-self.new.self in
    let line = c.in_ok-line.line in
    let is = c.in_ok-line.ensures.ok in
    record {
      over = me.over;
      kept = subst (λ (s : Seated). IsClientPass now.pass s.marks) (sym c.split.ensures.same) (left_keeps (setting_of g.N.Store.table g.N.Store.base) me.root c.args.of.now me.session me.line.pass now.pass line.pass is me.seat.marks me.kept);
      low = me.low;
      seated = subst (IsSeatAt me.board.now) (sym c.split.ensures.same) me.seated;
      boarded = me.boarded;
    }

pub invariant_of-result : goal.invariant_of-result
invariant_of-result g c =
    let me = c.args.self.now in
    let now = c.branch-self.new.self in
    let line = c.in_ok-line.line in
    let is = c.in_ok-line.ensures.ok in
    record {
      over = me.over;
      kept = branch_keeps (setting_of g.N.Store.table g.N.Store.base) me.root c.args.of.now me.session me.line.pass now.pass line.pass is (seen_legal line.known) c.split.result.marks;
      low = me.low;
      seated = subst (IsSeatAt me.board.now) (sym c.split.ensures.new) me.seated;
      boarded = me.boarded;
    }

pub returns-clause-met : goal.returns-clause-met
returns-clause-met g c =
    let me = c.args.self.now in
    let now = c.branch-self.new.self in
    let line = c.in_ok-line.line in
    let is = c.in_ok-line.ensures.ok in
    still_met (setting_of g.N.Store.table g.N.Store.base) me.root c.args.of.now me.session me.line.pass now.pass line.pass is me.line.system.now.desk.epoch now.system.now.desk.epoch (link_told (g.L.Link.view (link_of me.line.courier)).plan me.line.patience) (link_told (g.L.Link.view (link_of now.courier)).plan now.patience) (ap (λ k. link_told (g.L.Link.view (link_of k)).plan now.patience) c.branch-self.ensures.rest.0 ∙ ap (link_told (g.L.Link.view (link_of me.line.courier)).plan) c.branch-self.ensures.rest.1) c.requires.met

pub returns-clause-branch_met : goal.returns-clause-branch_met
returns-clause-branch_met g c =
    let me = c.args.self.now in
    let now = c.branch-self.new.self in
    let line = c.in_ok-line.line in
    let is = c.in_ok-line.ensures.ok in
    branch_met (setting_of g.N.Store.table g.N.Store.base) me.root c.args.of.now me.session me.line.pass now.pass line.pass is line.system.now.desk.epoch (g.L.Link.view (link_of line.courier)).plan line.patience (keeps_met line.pass.number (g.L.Link.view (link_of line.courier)).plan (held_of line.courier) line.patience line.pass.seen line.torn line.keeps)

pub returns-clause-ok : goal.returns-clause-ok
returns-clause-ok g c =
    let me = c.args.self.now in
    let now = c.branch-self.new.self in
    let line = c.in_ok-line.line in
    let is = c.in_ok-line.ensures.ok in
    branched (setting_of g.N.Store.table g.N.Store.base) me.root c.args.of.now me.session me.line.pass now.pass line.pass is me.line.system.now.desk.epoch now.system.now.desk.epoch line.system.now.desk.epoch (link_told (g.L.Link.view (link_of me.line.courier)).plan me.line.patience) (link_told (g.L.Link.view (link_of now.courier)).plan now.patience) (link_told (g.L.Link.view (link_of line.courier)).plan line.patience) (ap (λ s. s.now.desk.epoch) c.branch-self.ensures.rest.3) (ap (λ s. s.desk.epoch) c.in_ok-line.ensures.like.1) (ap (λ k. link_told (g.L.Link.view (link_of k)).plan now.patience) c.branch-self.ensures.rest.0 ∙ ap (link_told (g.L.Link.view (link_of me.line.courier)).plan) c.branch-self.ensures.rest.1)
    (anew_net (setting_of g.N.Store.table g.N.Store.base) me.root c.args.of.now me.session me.line.pass now.pass line.pass is (g.L.Link.view (link_of me.line.courier)).plan (g.L.Link.view (link_of line.courier)).plan me.line.patience line.patience c.in_ok-line.ensures.link c.in_ok-line.ensures.like.0)
