use Rattle.std.proofs.Common.{ap}
use Rattle.qc_desk.specs.declared.view.View.{View}
use Rattle.qc_site.specs.Replica.{Standing}
use Rattle.qc_event.specs.Tables.{setting_of}
use Rattle.qc_site.proofs.Replicas.{kept_on, looked_none, only_looks, shown_looked}
use Rattle.qc_site.proofs.replica.Replica.held.Goals as goal

pub invariant_of-self : goal.invariant_of-self
invariant_of-self g c =
    let setting = setting_of g.N.Store.table g.N.Store.base in
    let was = c.self.invariant in
    kept_on setting g.row.C c.self.inside.pass _ c.held.ensures.known.legal
    (looked_none setting g.row.C c.self.inside.pass _ was.number c.held.ensures.known.legal (shown_looked c.self.inside.pass _ was.live c.held.ensures.looked))
    c.held.ensures.known c.self.inside.start.items c.self.inside.locks c.self.inside.hand was

pub returns-clause-looks : goal.returns-clause-looks
returns-clause-looks g c =
    let setting = setting_of g.N.Store.table g.N.Store.base in
    let was = c.self.invariant in
    let looked = shown_looked c.self.inside.pass _ was.live c.held.ensures.looked in
    only_looks setting g.row.C c.args.self.now _ c.self.inside.pass (ap (λ (x : Standing). x.pass) c.self.view_is) c.held.ensures.known.legal
    (looked_none setting g.row.C c.self.inside.pass _ was.number c.held.ensures.known.legal looked) (ap (λ (x : View). x.mine) looked.1)
