-- A manager's next access asks, or is stopped before.
use Rattle.std.proofs.Common.{sym, [], ◌∷◌, subst}
use Rattle.qc_event.specs.declared.event.Ask.{Ask}
use Rattle.qc_event.specs.declared.event.Event.TheVariants as event
use Rattle.qc_event.specs.declared.event.Kind.TheVariants as kind
use Rattle.qc_event.specs.Tables.{setting_of}
use Rattle.qc_managers.specs.Carrying.{entry}
use Rattle.qc_desk.specs.Own.{IsOwnAccess}
use Rattle.qc_desk.specs.Refusing.{against_access}
use Rattle.qc_carry.specs.Access.{IsStopped}
use Rattle.qc_carry.specs.Walk.{Walk}
use Rattle.qc_carry.proofs.Beginning as beginning
use Rattle.qc_carry.proofs.Course.{go_on}
use Rattle.qc_carry.proofs.Walking as walking
use Rattle.qc_carry.proofs.begin.begin.Goals as goal

pub returns-in-Ok-clause-walk : goal.returns-in-Ok-clause-walk
returns-in-Ok-clause-walk g c =
    let ask = c.in_ok-ask.ask in
    go_on c.args.pass.now c.start.new.pass c.ask-asked.new.pass _ (λ k. entry k (event.Ask ask) ∷ []) c.in_ok-ask.ensures.walk
    (walking.of_entered (against_access ask.access) (event.Ask ask) c.start.new.pass c.ask-asked.new.pass c.in-Ok.ensures.ok)

pub stopped-requires-clause-own : goal.stopped-requires-clause-own
stopped-requires-clause-own g c =
    let v = c.args.pass.now in
    let u = c.ask-asked.new.pass in
    let next = c.args.next.now in
    let first = subst (λ (q : Ask). Walk v c.start.new.pass (entry v.number (event.Start q.access kind.Access) ∷ [])) c.in_ok-ask.ensures.request c.in_ok-ask.ensures.walk in
    subst (λ (q : Ask). IsOwnAccess u.seen u.number q.access) (sym c.in_ok-ask.ensures.request)
    (beginning.started_own (setting_of g.N.Store.table g.N.Store.base) v u next.manager next.copy next.rec next.op c.requires.client c.requires.may c.ask-asked.ensures.known.legal
    (walking.walk_on v c.start.new.pass u _ [] first (walking.of_looked c.start.new.pass u c.in-Err.ensures.err.0)))

pub returns-in-Err-clause-cut : goal.returns-in-Err-clause-cut
returns-in-Err-clause-cut g c =
    let v = c.args.pass.now in
    let u = c.ask-asked.new.pass in
    let next = c.args.next.now in
    let first = subst (λ (q : Ask). Walk v c.start.new.pass (entry v.number (event.Start q.access kind.Access) ∷ [])) c.in_ok-ask.ensures.request c.in_ok-ask.ensures.walk in
    beginning.stopped_unasked (setting_of g.N.Store.table g.N.Store.base) v c.stopped.new.pass next.manager next.copy next.rec next.op c.requires.client c.requires.may c.stopped.ensures.known.legal u c.stopped.result
    (walking.walk_on v c.start.new.pass u _ [] first (walking.of_looked c.start.new.pass u c.in-Err.ensures.err.0))
    (subst (λ (q : Ask). IsStopped u c.stopped.new.pass q.access c.stopped.result) c.in_ok-ask.ensures.request c.stopped.ensures.stopped)
