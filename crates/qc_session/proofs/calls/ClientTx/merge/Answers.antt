-- A client has merged a branch.
use Rattle.std.proofs.Common.{◌++◌, sym, ap, subst, ◌∙◌}
use Rattle.qc_carry.specs.Branching.{HasTaken}
use Rattle.qc_board.specs.Boards.{Seated}
use Rattle.qc_event.specs.Tables.{setting_of}
use Rattle.qc_net.specs.Courier.{link_of}
use Rattle.qc_desk.specs.declared.view.View.{View}
use Rattle.qc_desk.proofs.Known.{known_again}
use Rattle.qc_session.specs.Clients.{link_told}
use Rattle.qc_session.specs.Keeping.{IsClientPass}
use Rattle.qc_session.specs.Marking.{IsSeatAt}
use Rattle.qc_session.proofs.Merging.{merged, merged_keeps, merged_met}
use Rattle.qc_session.proofs.calls.ClientTx.merge.Goals as goal

pub invariant_of-self : goal.invariant_of-self
invariant_of-self g c =
    let me = c.args.self.now in
    let other = c.args.branch in
    let now = c.take.new.self in
    let known = known_again (setting_of g.N.Store.table g.N.Store.base) now.pass now.known in
    let took = subst (λ (v : View). HasTaken me.line.pass v now.pass) (ap (λ l. l.pass) c.into_parts-line.ensures.line) c.take.ensures.taken in
    let live = ap (λ (x : View). x.live) took.taken ∙ me.line.client.0 in
    let joins = c.join.ensures ∙ ap (λ (s : Seated). record me.seat { marks = me.seat.marks ++ s.marks }) c.into_parts-line.ensures.seat in
    record {
      over = me.over;
      kept = subst (λ (s : Seated). IsClientPass now.pass s.marks) (sym joins) (merged_keeps (setting_of g.N.Store.table g.N.Store.base) me.line.pass other.line.pass now.pass took live known.apart known.legal me.kept.kin other.kept.kin known.kin me.seat.marks other.seat.marks me.kept other.kept);
      low = me.low;
      seated = subst (IsSeatAt me.board.now) (sym joins) (record { sessions = me.seated.sessions; same = me.seated.same; may = me.seated.may });
      boarded = me.boarded;
    }

pub returns-clause-met : goal.returns-clause-met
returns-clause-met g c =
    let me = c.args.self.now in
    let other = c.args.branch in
    let now = c.take.new.self in
    let known = known_again (setting_of g.N.Store.table g.N.Store.base) now.pass now.known in
    let took = subst (λ (v : View). HasTaken me.line.pass v now.pass) (ap (λ l. l.pass) c.into_parts-line.ensures.line) c.take.ensures.taken in
    let live = ap (λ (x : View). x.live) took.taken ∙ me.line.client.0 in
    let joins = c.join.ensures ∙ ap (λ (s : Seated). record me.seat { marks = me.seat.marks ++ s.marks }) c.into_parts-line.ensures.seat in
    merged_met (setting_of g.N.Store.table g.N.Store.base) me.line.pass other.line.pass now.pass took live known.apart known.legal me.kept.kin other.kept.kin known.kin me.root other.root me.session other.session me.line.system.now.desk.epoch other.line.system.now.desk.epoch now.system.now.desk.epoch (link_told (g.L.Link.view (link_of me.line.courier)).plan me.line.patience) (link_told (g.L.Link.view (link_of other.line.courier)).plan other.line.patience) (link_told (g.L.Link.view (link_of now.courier)).plan now.patience) (ap (λ k. link_told (g.L.Link.view (link_of k)).plan now.patience) c.take.ensures.rest.0 ∙ ap (link_told (g.L.Link.view (link_of me.line.courier)).plan) c.take.ensures.rest.1) c.requires.net c.requires.met c.requires.branch_met

pub returns-clause-merged : goal.returns-clause-merged
returns-clause-merged g c =
    let me = c.args.self.now in
    let other = c.args.branch in
    let now = c.take.new.self in
    let known = known_again (setting_of g.N.Store.table g.N.Store.base) now.pass now.known in
    let took = subst (λ (v : View). HasTaken me.line.pass v now.pass) (ap (λ l. l.pass) c.into_parts-line.ensures.line) c.take.ensures.taken in
    let live = ap (λ (x : View). x.live) took.taken ∙ me.line.client.0 in
    let joins = c.join.ensures ∙ ap (λ (s : Seated). record me.seat { marks = me.seat.marks ++ s.marks }) c.into_parts-line.ensures.seat in
    merged (setting_of g.N.Store.table g.N.Store.base) me.line.pass other.line.pass now.pass took live known.apart known.legal me.kept.kin other.kept.kin known.kin me.root other.root me.session other.session me.line.system.now.desk.epoch other.line.system.now.desk.epoch now.system.now.desk.epoch (link_told (g.L.Link.view (link_of me.line.courier)).plan me.line.patience) (link_told (g.L.Link.view (link_of other.line.courier)).plan other.line.patience) (link_told (g.L.Link.view (link_of now.courier)).plan now.patience) (ap (λ s. s.now.desk.epoch) c.take.ensures.rest.3) (ap (λ k. link_told (g.L.Link.view (link_of k)).plan now.patience) c.take.ensures.rest.0 ∙ ap (link_told (g.L.Link.view (link_of me.line.courier)).plan) c.take.ensures.rest.1) c.take.ensures.bounded
