use Rattle.std.proofs.Common.{◌++◌, ◌∙◌, ap}
use Rattle.qc_event.specs.History.{grants}
use Rattle.qc_site.specs.Replica.{Standing}
use Rattle.qc_event.specs.Tables.{setting_of}
use Rattle.qc_site.proofs.Replicas.{kept_on, leaves_known, same_grants, unable_none}
use Rattle.qc_site.proofs.replica.Replica.unable.Goals as goal

pub invariant_of-self : goal.invariant_of-self
invariant_of-self g c =
    let setting = setting_of g.N.Store.table g.N.Store.base in
    let was = c.self.invariant in
    kept_on setting g.row.C c.self.inside.pass _ c.unable.ensures.known.0.legal
    (unable_none setting g.row.C c.self.inside.pass _ c.args.ask.now.access c.args.why c.unable.result was.number c.unable.ensures.known.0.legal c.unable.ensures.ok c.unable.ensures.err)
    c.unable.ensures.known.0 c.self.inside.start.items c.self.inside.locks c.self.inside.hand was

pub returns-clause-grants : goal.returns-clause-grants
returns-clause-grants g c =
    let setting = setting_of g.N.Store.table g.N.Store.base in
    let v = c.self.inside.pass in
    same_grants setting g.row.C v _ c.unable.ensures.known.0.legal
    (unable_none setting g.row.C v _ c.args.ask.now.access c.args.why c.unable.result c.self.invariant.number c.unable.ensures.known.0.legal c.unable.ensures.ok c.unable.ensures.err)
    ∙ ap (λ (x : Standing). grants x.pass.seen g.row.C) c.self.view_is

pub returns-clause-seen : goal.returns-clause-seen
returns-clause-seen g c =
    let setting = setting_of g.N.Store.table g.N.Store.base in
    let v = c.self.inside.pass in
    let more = unable_none setting g.row.C v c.unable.new.pass c.args.ask.now.access c.args.why c.unable.result c.self.invariant.number c.unable.ensures.known.0.legal c.unable.ensures.ok c.unable.ensures.err in
    (more.newer, more.seen ∙ ap (λ (x : Standing). more.newer ++ x.pass.seen) c.self.view_is)

pub returns-clause-known : goal.returns-clause-known
returns-clause-known g c =
    let kept = invariant_of-self g c in
    leaves_known (setting_of g.N.Store.table g.N.Store.base) g.row.C c.unable.new.pass c.unable.new.seer kept.live kept.number c.unable.ensures.known
