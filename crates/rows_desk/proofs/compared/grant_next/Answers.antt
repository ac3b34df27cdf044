use Rattle.std.proofs.Common.{◌<◌, length, sym, ap, ◌∙◌, subst, arith}
use Rattle.qc_event.specs.declared.event.Grant.{Grant}
use Rattle.qc_event.specs.Grants.{MayGrant}
use Rattle.qc_event.specs.History.{grants}
use Rattle.qc_event.specs.Tables.{setting_of}
use Rattle.qc_moss.specs.Follows.{TableFollows}
use Rattle.qc_desk.specs.declared.view.View.{View}
use Rattle.qc_desk.specs.Consulting.{IsTold}
use Rattle.qc_desk.specs.declared.consult.Consulted.TheVariants.{Fresh}
use Rattle.qc_desk.specs.Entries.{IsOlder}
use Rattle.rows_request.proofs.OneCopy.{may_append}
use Rattle.rows_desk.proofs.Granting.{reserved_follows, reserved_start, follows_granted}
use Rattle.rows_desk.proofs.compared.grant_next.Goals as goal

pub consult-requires-clause-follows : goal.consult-requires-clause-follows
consult-requires-clause-follows g c = subst (λ n. TableFollows c.args.copy.now.seen (grants c.args.copy.now.seen n) c.args.locks.now) (sym c.in_ok-ask.ensures.asked.to_copy) c.requires.follows

pub append-requires-clause-free : goal.append-requires-clause-free
append-requires-clause-free g c =
    let s = setting_of g.N.Store.table g.N.Store.base in
    let v = c.args.copy.now in
    let w = c.consult.new.pass in
    let made = c.one_request.new.pass.seen in
    let r = c.in_ok-ask.ensures.asked in
    let told = subst (IsTold s c.in_ok-ask.ask v w) (c.in-Fresh.is ∙ ap (λ x. Fresh x) c.in-Free.is) c.in_ok-told.ensures.told in
    subst (MayGrant s w.seen w.number 0) (sym c.grant_of-grant.ensures)
    (may_append s v w made c.in_ok-ask.ask c.in-Free.tuple c.requires.copy.1 r.to_copy r.asked r.ungranted (subst (λ p. IsOlder p made) c.requires.seen c.in_ok-ask.ensures.older)
    (subst (IsOlder made) c.consult.ensures.same c.consult.ensures.shown.0) c.known.ensures.legal told.1.0 told.1.1)

pub returns-clause-follows : goal.returns-clause-follows
returns-clause-follows g c =
    let s = setting_of g.N.Store.table g.N.Store.base in
    let grant = c.grant_of-grant.result in
    let w = c.consult.new.pass in
    let v = c.append.new.pass in
    let locks = c.reserve.new.self in
    let told = subst (IsTold s c.in_ok-ask.ask c.args.copy.now w) (c.in-Fresh.is ∙ ap (λ x. Fresh x) c.in-Free.is) c.in_ok-told.ensures.told in
    let record_is = ap (λ (x : Grant). x.rec) c.grant_of-grant.ensures ∙ c.in_ok-ask.ensures.asked.of_record in
    let start_is = reserved_start c.reserve.result c.consult.new.locks locks c.reserve.ensures.ok c.reserve.ensures.err ∙ c.consult.ensures.start ∙ c.requires.start in
    let within : grant.rec < length locks.held = omega (arith, record_is, c.grant.ensures.lists, ap length start_is) in
    let follows = subst (λ n. TableFollows w.seen (grants w.seen n) c.consult.new.locks) c.in_ok-ask.ensures.asked.to_copy c.consult.ensures.follows in
    subst (TableFollows v.seen (grants v.seen 0)) (sym c.grant.ensures.granted)
    (follows_granted s w v grant locks (ap (λ (x : View). x.number) told.1.0.1 ∙ c.requires.copy.1) within c.in_ok-append.ensures.ok c.known-2.ensures.legal
    (reserved_follows c.reserve.result w.seen (grants w.seen 0) c.consult.new.locks locks c.reserve.ensures.ok c.reserve.ensures.err follows))
