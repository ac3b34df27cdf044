-- Where a transaction is to be killed a mark is seen that licenses it; else its client has made none.
use Rattle.std.proofs.Common.{◌≤◌, [], refl, sym, ap, subst, ◌∙◌}
use Rattle.std.specs.Prelude.{nat_le}
use Rattle.qc_board.specs.Boards.{Seated}
use Rattle.qc_event.specs.History.{start}
use Rattle.qc_event.specs.Tables.{setting_of}
use Rattle.qc_event.specs.Users.{top_number}
use Rattle.qc_event.proofs.Lawful.{started_some}
use Rattle.qc_net.specs.Courier.{link_of}
use Rattle.qc_desk.proofs.Entering.{started_later}
use Rattle.qc_script.specs.Calls.{IsOfSession}
use Rattle.qc_session.specs.Clients.{client_of, link_told}
use Rattle.qc_session.specs.Keeping.{IsClientPass}
use Rattle.qc_session.specs.Marking.{IsSeatAt}
use Rattle.qc_session.proofs.Calling.{client_now, for, met_now, none_keeps}
use Rattle.qc_session.proofs.Killing.{killed_grounded, none_made, none_told}
use Rattle.qc_session.proofs.Own.{made_so}
use Rattle.qc_session.proofs.OwnMarks.{top_some}
use Rattle.qc_session.proofs.calls.ClientTx.killed.Goals as goal
use Rattle.qc_session.proofs.Knowing.{seen_legal}

pub look-requires-clause-top : goal.look-requires-clause-top
look-requires-clause-top g c =
    let line = c.args.self.now.line in
    subst (λ n. 1 ≤ n) (sym c.number_of_top-top.ensures) (top_some (setting_of g.N.Store.table g.N.Store.base) line.pass.seen c.args.of.now (seen_legal line.known) (started_some (λ b. IsOfSession c.args.self.now.session b.kind) (start line.pass.seen c.args.of.now) c.requires.own))

pub invariant_of-self : goal.invariant_of-self
invariant_of-self g c =
    let me = c.args.self.now in
    record {
      over = me.over;
      kept = subst (λ (s : Seated). IsClientPass me.line.pass s.marks) (sym c.look.ensures.same) me.kept;
      low = me.low;
      seated = subst (IsSeatAt me.board.now) (sym c.look.ensures.same) me.seated;
      boarded = me.boarded;
    }

pub invariant_of-self-2 : goal.invariant_of-self-2
invariant_of-self-2 g c =
    let me = c.args.self.now in
    record {
      over = me.over;
      kept = subst (λ (s : Seated). IsClientPass c.marked.new.line.pass s.marks) (sym c.look.ensures.same) (none_keeps c.marked.ensures.went me.kept.kin me.seat.marks c.marked.ensures.walk me.kept);
      low = me.low;
      seated = subst (IsSeatAt me.board.now) (sym c.look.ensures.same) me.seated;
      boarded = me.boarded;
    }

pub returns-then-not-look-clause-unmarked : goal.returns-then-not-look-clause-unmarked
returns-then-not-look-clause-unmarked g c = λ _.
    let me = c.args.self.now in
    let own = client_of (setting_of g.N.Store.table g.N.Store.base) me.root me.session me.line.system.now.desk.epoch (link_told (g.L.Link.view (link_of me.line.courier)).plan me.line.patience) me.line.pass in
    let told = c.look.ensures.word in
    none_told own me.line.pass.seen (top_number c.args.of.now) told.0 me.seat.may me.seat.marks told.1 (ap (λ n. nat_le n told.0) (sym c.number_of_top-top.ensures) ∙ sym told.2 ∙ c.if-not-look.true) me.kept.marks_known

pub returns-then-not-look-clause-made : goal.returns-then-not-look-clause-made
returns-then-not-look-clause-made g c =
    let line = c.args.self.now.line in
    record { newer = []; grown = refl; made = refl; legal = seen_legal line.known }

pub returns-clause-made : goal.returns-clause-made
returns-clause-made g c =
    let me = c.args.self.now in
    made_so (setting_of g.N.Store.table g.N.Store.base) me.line.pass c.marked.new.line.pass _ (for c.marked.ensures.went me.kept.kin _ _ _ _) c.marked.ensures.went.legal [] c.marked.ensures.walk

pub returns-clause-marked : goal.returns-clause-marked
returns-clause-marked g c = λ is. killed_grounded c.marked.new.line.pass.seen c.args.of.now (sym c.marked.ensures.marked ∙ is)

pub returns-clause-unmarked : goal.returns-clause-unmarked
returns-clause-unmarked g c = λ no.
    let me = c.args.self.now in
    let now = c.marked.new.line in
    let v = me.line.pass in
    let w = now.pass in
    let walk = c.marked.ensures.walk in
    let own = client_of (setting_of g.N.Store.table g.N.Store.base) me.root me.session now.system.now.desk.epoch (link_told (g.L.Link.view (link_of now.courier)).plan now.patience) w in
    none_made own w.seen c.args.of.now (started_later v.seen w.seen c.args.of.now (λ b. IsOfSession own.session b.kind) (walk.newer, walk.grown) c.requires.own) (sym c.marked.ensures.marked ∙ no)

pub returns-clause-met : goal.returns-clause-met
returns-clause-met g c =
    let me = c.args.self.now in
    met_now c.marked.ensures.went me.kept.kin me.root me.session (λ s. s.now.desk.epoch) c.requires.met

pub returns-clause-client : goal.returns-clause-client
returns-clause-client g c =
    let me = c.args.self.now in
    client_now c.marked.ensures.went me.kept.kin me.root me.session (λ s. s.now.desk.epoch)
