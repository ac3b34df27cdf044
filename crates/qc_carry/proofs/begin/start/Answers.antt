-- A manager's next access starts, or it does not.
use Rattle.std.proofs.Common.{sym, ap, subst}
use Rattle.qc_event.specs.declared.event.Ask.{Ask}
use Rattle.qc_event.specs.Tables.{setting_of}
use Rattle.qc_event.specs.History.{Name}
use Rattle.qc_managers.specs.Carrying.{next_ask}
use Rattle.qc_names.specs.Name as name
use Rattle.qc_desk.specs.Own.{MayAskOwn}
use Rattle.qc_carry.specs.Access.{CutUnasked}
use Rattle.qc_carry.proofs.Beginning as beginning
use Rattle.qc_carry.proofs.begin.start.Goals as goal

pub returns-in-Ok-clause-request : goal.returns-in-Ok-clause-request
returns-in-Ok-clause-request g c =
    let next = c.args.next.now in
    ap (λ (x : Name). record { access = x; copy = next.copy; rec = next.rec; op = next.op })
    (beginning.started_next (setting_of g.N.Store.table g.N.Store.base) c.args.pass.now c.start-started.new.pass next.manager next.copy next.rec next.op c.requires.client c.requires.may c.start-started.ensures.known.legal c.in-Ok.access c.in-Ok.ensures.ok)

pub returns-in-Ok-clause-walk : goal.returns-in-Ok-clause-walk
returns-in-Ok-clause-walk g c =
    let next = c.args.next.now in
    beginning.started_walk (setting_of g.N.Store.table g.N.Store.base) c.args.pass.now c.start-started.new.pass next.manager next.copy next.rec next.op c.requires.client c.requires.may c.start-started.ensures.known.legal c.in-Ok.access c.in-Ok.ensures.ok

pub returns-in-Ok-clause-may_ask : goal.returns-in-Ok-clause-may_ask
returns-in-Ok-clause-may_ask g c =
    let next = c.args.next.now in
    let setting = setting_of g.N.Store.table g.N.Store.base in
    subst (λ (q : Ask). MayAskOwn setting c.start-started.new.pass.seen c.start-started.new.pass.number (name.front q.access) q) (sym (returns-in-Ok-clause-request g c))
    (beginning.may_ask setting c.args.pass.now c.start-started.new.pass next.manager next.copy next.rec next.op c.requires.client c.requires.may c.start-started.ensures.known.legal c.in-Ok.access c.in-Ok.ensures.ok)

pub returns-in-Err-clause-cut : goal.returns-in-Err-clause-cut
returns-in-Err-clause-cut g c =
    let v = c.args.pass.now in
    let next = c.args.next.now in
    subst (CutUnasked v c.start-started.new.pass next.manager (next_ask v.seen next.manager next.copy next.rec next.op)) (sym c.no_of.ensures)
    (beginning.cut_at_start (setting_of g.N.Store.table g.N.Store.base) v c.start-started.new.pass next.manager next.copy next.rec next.op c.requires.client c.requires.may c.start-started.ensures.known.legal c.in-Err.no c.in-Err.ensures.err)
