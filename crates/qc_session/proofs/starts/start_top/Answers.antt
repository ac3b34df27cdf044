-- What a top is once it has started, or why it has not.
use Rattle.qc_carry.proofs.Walking.{of_entered_as, of_looked}
use Rattle.qc_event.specs.Tables.{setting_of}
use Rattle.qc_event.specs.declared.event.Kind.TheVariants as kind
use Rattle.qc_event.proofs.Wanting.{want_of}
use Rattle.qc_desk.specs.declared.view.View.{View}
use Rattle.qc_session.proofs.Beginning.{top_begun, top_numbers}
use Rattle.qc_session.proofs.Own.{made_so}
use Rattle.qc_session.proofs.Tidy.{start_tidy}
use Rattle.std.proofs.Common.{[], ap, inl, refl}
use Rattle.std.proofs.lemmas.Result.{err_from_is_err_and}
use Rattle.qc_net.specs.Courier.{held_of, link_of}
use Rattle.qc_session.proofs.Going.{went_by, went_looking}
use Rattle.qc_desk.specs.Refusing.{against_nothing}
use Rattle.qc_session.proofs.starts.start_top.Goals as goal
use Rattle.qc_session.proofs.Knowing.{seen_legal}

pub returns-clause-ok : goal.returns-clause-ok
returns-clause-ok g c = λ client for.
    top_begun (setting_of g.N.Store.table g.N.Store.base) c.args.line.now.pass c.start_top-started.new.self.pass c.args.line.now.system.now.desk.epoch c.args.session c.args.body (seen_legal c.start_top-started.new.self.known) client for c.in_ok-name.name c.in_ok-name.ensures.ok

pub returns-clause-number : goal.returns-clause-number
returns-clause-number g c = λ client for same.
    top_numbers (setting_of g.N.Store.table g.N.Store.base) c.args.line.now.pass c.start_top-started.new.self.pass c.args.line.now.system.now.desk.epoch c.args.session c.args.body (seen_legal c.start_top-started.new.self.known) client for c.in_ok-name.name same c.in_ok-name.ensures.ok

pub returns-in_err-name-clause-err : goal.returns-in_err-name-clause-err
returns-in_err-name-clause-err g c = λ client for.
    let v = c.args.line.now.pass in
    let w = c.start_top-started.new.self.pass in
    let r = c.in_err-name.ensures.err in
    let p = err_from_is_err_and c.from_residual.result c.from_residual.ensures.1 in
    rw (p.1, p.2) (made_so (setting_of g.N.Store.table g.N.Store.base) v w client for (seen_legal c.start_top-started.new.self.known) [] (of_looked v w r.0), want_of w.seen c.in_err-name.field-0.0 r.1)

pub returns-clause-went : goal.returns-clause-went
returns-clause-went g c =
    let v = c.args.line.now.pass in
    let line = c.start_top-started.new.self in
    let s = c.in_ok-name.ensures.ok in
    went_by (setting_of g.N.Store.table g.N.Store.base) v line.pass (λ k. (g.L.Link.view (link_of k)).plan) _ (of_entered_as against_nothing _ v line.pass s) c.start_top-started.ensures.rest line.known (held_of line.courier) line.keeps
    (λ was. start_tidy (setting_of g.N.Store.table g.N.Store.base) v line.pass (seen_legal c.start_top-started.new.self.known) (ap (λ (x : View). x.number) s.5) was s.1 s.0 s.3 (ap (λ (x : View). x.seen) s.5) c.in_ok-name.name (kind.User c.args.session c.args.body) s.2.1)

pub returns-in_err-name-clause-went : goal.returns-in_err-name-clause-went
returns-in_err-name-clause-went g c =
    let v = c.args.line.now.pass in
    let line = c.start_top-started.new.self in
    went_looking (setting_of g.N.Store.table g.N.Store.base) v line.pass (λ k. (g.L.Link.view (link_of k)).plan) (of_looked v line.pass c.in_err-name.ensures.err.0) c.start_top-started.ensures.rest line.known (held_of line.courier) line.keeps

pub returns-in_err-name-clause-refused : goal.returns-in_err-name-clause-refused
returns-in_err-name-clause-refused g c =
    let r = c.in_err-name.ensures.err in
    let p = err_from_is_err_and c.from_residual.result c.from_residual.ensures.1 in
    rw (p.1, p.2) (inl refl, want_of c.start_top-started.new.self.pass.seen c.in_err-name.field-0.0 r.1)
