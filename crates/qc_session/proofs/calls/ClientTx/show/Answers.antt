-- A client and a branch have seen the same, and made nothing meanwhile.
use Rattle.std.proofs.Common.{[], subst}
use Rattle.qc_event.specs.Tables.{setting_of}
use Rattle.qc_net.specs.Courier.{held_of, link_of}
use Rattle.qc_script.specs.Client.{Made}
use Rattle.qc_session.specs.Clients.{client_of, link_told}
use Rattle.qc_session.proofs.Calling.{client_now, for, met_now, none_keeps}
use Rattle.qc_session.proofs.Going.{went_looking}
use Rattle.qc_session.proofs.Own.{made_so}
use Rattle.qc_session.proofs.calls.ClientTx.show.Goals as goal

pub invariant_of-self : goal.invariant_of-self
invariant_of-self g c =
    let me = c.args.self.now in
    let went = went_looking (setting_of g.N.Store.table g.N.Store.base) me.line.pass c.show.new.self.pass (λ k. (g.L.Link.view (link_of k)).plan) c.show.ensures.walk.0 c.show.ensures.rest c.show.new.self.known (held_of c.show.new.self.courier) c.show.new.self.keeps in
    record { over = me.over; kept = none_keeps went me.kept.kin me.seat.marks c.show.ensures.walk.0 me.kept; low = me.low; seated = me.seated; boarded = me.boarded }

pub invariant_of-branch : goal.invariant_of-branch
invariant_of-branch g c =
    let other = c.args.branch.now in
    let went = went_looking (setting_of g.N.Store.table g.N.Store.base) other.line.pass c.show.new.other.pass (λ k. (g.L.Link.view (link_of k)).plan) c.show.ensures.walk.1 c.show.ensures.other c.show.new.other.known (held_of c.show.new.other.courier) c.show.new.other.keeps in
    record { over = other.over; kept = none_keeps went other.kept.kin other.seat.marks c.show.ensures.walk.1 other.kept; low = other.low; seated = other.seated; boarded = other.boarded }

pub returns-clause-met : goal.returns-clause-met
returns-clause-met g c =
    let me = c.args.self.now in
    let went = went_looking (setting_of g.N.Store.table g.N.Store.base) me.line.pass c.show.new.self.pass (λ k. (g.L.Link.view (link_of k)).plan) c.show.ensures.walk.0 c.show.ensures.rest c.show.new.self.known (held_of c.show.new.self.courier) c.show.new.self.keeps in
    met_now went me.kept.kin me.root me.session (λ s. s.now.desk.epoch) c.requires.met

pub returns-clause-branch_met : goal.returns-clause-branch_met
returns-clause-branch_met g c =
    let other = c.args.branch.now in
    let went = went_looking (setting_of g.N.Store.table g.N.Store.base) other.line.pass c.show.new.other.pass (λ k. (g.L.Link.view (link_of k)).plan) c.show.ensures.walk.1 c.show.ensures.other c.show.new.other.known (held_of c.show.new.other.courier) c.show.new.other.keeps in
    met_now went other.kept.kin other.root other.session (λ s. s.now.desk.epoch) c.requires.branch_met

pub returns-clause-showed : goal.returns-clause-showed
returns-clause-showed g c =
    let me = c.args.self.now in
    let other = c.args.branch.now in
    let went = went_looking (setting_of g.N.Store.table g.N.Store.base) me.line.pass c.show.new.self.pass (λ k. (g.L.Link.view (link_of k)).plan) c.show.ensures.walk.0 c.show.ensures.rest c.show.new.self.known (held_of c.show.new.self.courier) c.show.new.self.keeps in
    let branch_went = went_looking (setting_of g.N.Store.table g.N.Store.base) other.line.pass c.show.new.other.pass (λ k. (g.L.Link.view (link_of k)).plan) c.show.ensures.walk.1 c.show.ensures.other c.show.new.other.known (held_of c.show.new.other.courier) c.show.new.other.keeps in
    let epoch = me.line.system.now.desk.epoch in
    let told = link_told (g.L.Link.view (link_of me.line.courier)).plan me.line.patience in
    let branch_epoch = other.line.system.now.desk.epoch in
    let branch_told = link_told (g.L.Link.view (link_of other.line.courier)).plan other.line.patience in
    let own = client_of (setting_of g.N.Store.table g.N.Store.base) me.root me.session epoch told me.line.pass in
    let branch_own = client_of (setting_of g.N.Store.table g.N.Store.base) other.root other.session branch_epoch branch_told other.line.pass in
    record {
      client = client_now went me.kept.kin me.root me.session (λ s. s.now.desk.epoch);
      branch_client = client_now branch_went other.kept.kin other.root other.session (λ s. s.now.desk.epoch);
      seen = c.show.ensures.same;
      made = made_so (setting_of g.N.Store.table g.N.Store.base) me.line.pass c.show.new.self.pass own (for went me.kept.kin me.root me.session epoch told) went.legal [] c.show.ensures.walk.0;
      branch_made = subst (Made branch_own [] other.line.pass.seen) c.show.ensures.same (made_so (setting_of g.N.Store.table g.N.Store.base) other.line.pass c.show.new.other.pass branch_own (for branch_went other.kept.kin other.root other.session branch_epoch branch_told) branch_went.legal [] c.show.ensures.walk.1);
    }
