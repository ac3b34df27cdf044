use Rattle.std.proofs.Common.{sym, subst, ap, ◌∙◌}
use Rattle.qc_event.specs.Grants.{MayGrant}
use Rattle.qc_event.specs.History.{grants}
use Rattle.qc_event.specs.Tables.{setting_of}
use Rattle.qc_moss.specs.Follows.{TableFollows}
use Rattle.qc_desk.specs.Consulting.{IsTold}
use Rattle.qc_desk.specs.declared.consult.Consulted.TheVariants.{Fresh}
use Rattle.qc_desk.specs.Entries.{IsOlder}
use Rattle.rows_request.proofs.OneCopy.{may_append}
use Rattle.rows_desk.proofs.scene.grant_free.Goals as goal

pub consult-requires-clause-follows : goal.consult-requires-clause-follows
consult-requires-clause-follows g c = subst (λ n. TableFollows c.args.copy.now.seen (grants c.args.copy.now.seen n) c.args.locks.now) (sym c.in_ok-ask.ensures.asked.to_copy) c.requires.follows

pub append-requires-clause-free : goal.append-requires-clause-free
append-requires-clause-free g c =
    let s = setting_of g.N.Store.table g.N.Store.base in
    let v = c.args.copy.now in
    let w = c.consult.new.pass in
    let made = c.one_request.new.pass.seen in
    let r = c.in_ok-ask.ensures.asked in
    let told = subst (IsTold s c.in_ok-ask.ask v w) (c.in-Fresh.is ∙ ap (λ x. Fresh x) c.in-Free.is) c.in_ok-told.ensures.told in
    subst (MayGrant s w.seen w.number 0) (sym c.grant_of.ensures)
    (may_append s v w made c.in_ok-ask.ask c.in-Free.tuple c.requires.copy.1 r.to_copy r.asked r.ungranted (subst (λ p. IsOlder p made) c.requires.seen c.in_ok-ask.ensures.older)
    (subst (IsOlder made) c.consult.ensures.same c.consult.ensures.shown.0) c.known.ensures.legal told.1.0 told.1.1)
