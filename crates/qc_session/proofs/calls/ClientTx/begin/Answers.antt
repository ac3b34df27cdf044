-- A top or a child is what its client made.
use Rattle.std.proofs.Common.{[], refl, sym, subst}
use Rattle.std.specs.Prelude.{IfErr, IfOk, IsTrue}
use Rattle.std.proofs.lemmas.Result.{IfOk-weaker}
use Rattle.qc_event.specs.declared.event.Kind.TheVariants as kind
use Rattle.qc_event.specs.History.{is_child}
use Rattle.qc_event.specs.Tables.{setting_of}
use Rattle.qc_net.specs.Courier.{link_of}
use Rattle.qc_script.specs.Calls.{RefusesChild, WasRefused}
use Rattle.qc_session.specs.Clients.{client_of, link_told}
use Rattle.qc_session.proofs.Beginning.{child_begun, child_is, child_numbers}
use Rattle.qc_session.proofs.Calling.{begun_keeps, client_now, for, met_now}
use Rattle.qc_session.proofs.Starting.{not_root}
use Rattle.qc_session.proofs.calls.ClientTx.begin.Goals as goal

pub invariant_of-self : goal.invariant_of-self
invariant_of-self g c =
    let me = c.args.self.now in
    record {
      over = me.over;
      kept = begun_keeps c.start_top.ensures.went me.kept.kin me.seat.marks c.start_top.result [] (kind.User me.session c.args.body) c.start_top.ensures.ok c.start_top.ensures.err me.kept;
      low = me.low;
      seated = me.seated;
      boarded = me.boarded;
    }

pub returns-then-is_empty-clause-ok : goal.returns-then-is_empty-clause-ok
returns-then-is_empty-clause-ok g c =
    let me = c.args.self.now in
    c.start_top.ensures.ok _ (for c.start_top.ensures.went me.kept.kin _ _ _ _)

pub returns-then-is_empty-clause-err : goal.returns-then-is_empty-clause-err
returns-then-is_empty-clause-err g c =
    let me = c.args.self.now in
    let epoch = me.line.system.now.desk.epoch in
    let told = link_told (g.L.Link.view (link_of me.line.courier)).plan me.line.patience in
    let own = client_of (setting_of g.N.Store.table g.N.Store.base) me.root me.session epoch told me.line.pass in
    subst (λ n. IfErr c.start_top.result (WasRefused own n me.line.pass.seen c.start_top.new.line.pass.seen)) (sym (c.is_empty.ensures.0 c.if-is_empty.true)) (c.start_top.ensures.err own (for c.start_top.ensures.went me.kept.kin me.root me.session epoch told))

pub returns-then-is_empty-clause-number : goal.returns-then-is_empty-clause-number
returns-then-is_empty-clause-number g c =
    let me = c.args.self.now in
    let epoch = me.line.system.now.desk.epoch in
    let told = link_told (g.L.Link.view (link_of me.line.courier)).plan me.line.patience in
    let own = client_of (setting_of g.N.Store.table g.N.Store.base) me.root me.session epoch told me.line.pass in
    c.start_top.ensures.number own (for c.start_top.ensures.went me.kept.kin me.root me.session epoch told) refl

pub returns-then-is_empty-clause-child : goal.returns-then-is_empty-clause-child
returns-then-is_empty-clause-child g c = subst (λ n. IfOk c.start_top.result (λ m. IsTrue (is_child n m))) (sym (c.is_empty.ensures.0 c.if-is_empty.true)) c.start_top.ensures.child

pub returns-then-is_empty-clause-met : goal.returns-then-is_empty-clause-met
returns-then-is_empty-clause-met g c =
    let me = c.args.self.now in
    met_now c.start_top.ensures.went me.kept.kin me.root me.session (λ s. s.now.desk.epoch) c.requires.met

pub returns-then-is_empty-clause-client : goal.returns-then-is_empty-clause-client
returns-then-is_empty-clause-client g c =
    let me = c.args.self.now in
    client_now c.start_top.ensures.went me.kept.kin me.root me.session (λ s. s.now.desk.epoch)

pub invariant_of-self-2 : goal.invariant_of-self-2
invariant_of-self-2 g c =
    let me = c.args.self.now in
    record {
      over = me.over;
      kept = begun_keeps c.start_child.ensures.went me.kept.kin me.seat.marks c.start_child.result c.args.parent.now (kind.User me.session c.args.body)
          (λ client is. IfOk-weaker c.start_child.result _ _ (child_begun (setting_of g.N.Store.table g.N.Store.base) me.line.pass c.start_child.new.line.pass c.args.parent.now (kind.User me.session c.args.body) c.start_child.ensures.went.legal (not_root c.args.parent.now c.is_empty.result c.is_empty.ensures c.if-is_empty.false) client is) c.start_child.ensures.ok) c.start_child.ensures.err me.kept;
      low = me.low;
      seated = me.seated;
      boarded = me.boarded;
    }

pub returns-clause-child : goal.returns-clause-child
returns-clause-child g c =
    let me = c.args.self.now in
    IfOk-weaker c.start_child.result _ _ (child_is (setting_of g.N.Store.table g.N.Store.base) me.line.pass c.start_child.new.line.pass c.args.parent.now (kind.User me.session c.args.body) c.start_child.ensures.went.legal (not_root c.args.parent.now c.is_empty.result c.is_empty.ensures c.if-is_empty.false)) c.start_child.ensures.ok

pub returns-clause-ok : goal.returns-clause-ok
returns-clause-ok g c =
    let me = c.args.self.now in
    IfOk-weaker c.start_child.result _ _ (child_begun (setting_of g.N.Store.table g.N.Store.base) me.line.pass c.start_child.new.line.pass c.args.parent.now (kind.User me.session c.args.body) c.start_child.ensures.went.legal (not_root c.args.parent.now c.is_empty.result c.is_empty.ensures c.if-is_empty.false) _ (for c.start_child.ensures.went me.kept.kin _ _ _ _)) c.start_child.ensures.ok

pub returns-clause-number : goal.returns-clause-number
returns-clause-number g c =
    let me = c.args.self.now in
    let epoch = me.line.system.now.desk.epoch in
    let told = link_told (g.L.Link.view (link_of me.line.courier)).plan me.line.patience in
    let own = client_of (setting_of g.N.Store.table g.N.Store.base) me.root me.session epoch told me.line.pass in
    IfOk-weaker c.start_child.result _ _ (child_numbers (setting_of g.N.Store.table g.N.Store.base) me.line.pass c.start_child.new.line.pass c.args.parent.now (kind.User me.session c.args.body) c.start_child.ensures.went.legal (not_root c.args.parent.now c.is_empty.result c.is_empty.ensures c.if-is_empty.false) own (for c.start_child.ensures.went me.kept.kin me.root me.session epoch told)) c.start_child.ensures.ok

pub returns-clause-err : goal.returns-clause-err
returns-clause-err g c =
    let me = c.args.self.now in
    c.start_child.ensures.err _ (for c.start_child.ensures.went me.kept.kin _ _ _ _)

pub returns-clause-met : goal.returns-clause-met
returns-clause-met g c =
    let me = c.args.self.now in
    met_now c.start_child.ensures.went me.kept.kin me.root me.session (λ s. s.now.desk.epoch) c.requires.met

pub returns-clause-client : goal.returns-clause-client
returns-clause-client g c =
    let me = c.args.self.now in
    client_now c.start_child.ensures.went me.kept.kin me.root me.session (λ s. s.now.desk.epoch)

pub returns-then-is_empty-clause-refused : goal.returns-then-is_empty-clause-refused
returns-then-is_empty-clause-refused g c =
    subst (λ n. IfErr c.start_top.result (RefusesChild c.start_top.new.line.pass.seen n)) (sym (c.is_empty.ensures.0 c.if-is_empty.true)) c.start_top.ensures.refused
