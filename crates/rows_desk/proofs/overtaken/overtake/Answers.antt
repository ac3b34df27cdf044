use Rattle.std.proofs.Common.{◌≡◌, sym, ◌∙◌, subst, ap}
use Rattle.std.specs.Prelude.{MatchOption, Some}
use Rattle.qc_event.specs.Grants.{grant_with, MayGrant}
use Rattle.qc_event.specs.declared.event.Event.TheVariants as event
use Rattle.qc_event.specs.History.{Begun, grants, granted as granted_of}
use Rattle.qc_event.specs.Legal.{Legal}
use Rattle.qc_event.specs.Standing.{IsUser}
use Rattle.qc_event.specs.Tables.{setting_of}
use Rattle.qc_event.proofs.Later.{earlier_legal}
use Rattle.qc_moss.specs.Follows.{TableFollows}
use Rattle.qc_desk.specs.Calling.{Entered}
use Rattle.qc_desk.specs.Consulting.{IsTold}
use Rattle.qc_desk.specs.declared.consult.Consulted.TheVariants.{Fresh}
use Rattle.qc_desk.specs.Entries.{IsOlder}
use Rattle.qc_desk.specs.Refusing.{against_nothing}
use Rattle.qc_desk.proofs.Entering.{started_later}
use Rattle.rows_request.proofs.OneCopy.{may_append}
use Rattle.rows_request.proofs.OwnAccess.{own_shown}
use Rattle.rows_desk.proofs.Replying.{shown_on, granted_is, may_reply}
use Rattle.rows_desk.proofs.overtaken.overtake.Goals as goal

pub consult-requires-clause-follows : goal.consult-requires-clause-follows
consult-requires-clause-follows g c = subst (λ n. TableFollows c.args.copy.now.seen (grants c.args.copy.now.seen n) c.args.locks.now) (sym c.in_ok-top.ensures.asked.to_copy) c.requires.follows

pub abort_by_other-requires-clause-top : goal.abort_by_other-requires-clause-top
abort_by_other-requires-clause-top g c =
    started_later c.one_request.new.pass.seen c.consult.new.seer.seen c.in_ok-top.top (λ b. IsUser b.kind) c.consult.ensures.shown.0
    (subst (λ o. MatchOption o ⊥ (λ (b : Begun). IsUser b.kind)) (sym c.in_ok-top.ensures.asked.begun) tt)

pub append-requires-clause-free : goal.append-requires-clause-free
append-requires-clause-free g c =
    let s = setting_of g.N.Store.table g.N.Store.base in
    let v = c.args.copy.now in
    let w = c.consult.new.pass in
    let made = c.one_request.new.pass.seen in
    let r = c.in_ok-top.ensures.asked in
    let told = subst (IsTold s c.in_ok-top.ask v w) (c.in-Fresh.is ∙ ap (λ x. Fresh x) c.in-Free.is) c.in_ok-told.ensures.told in
    subst (MayGrant s w.seen w.number 0) (sym c.grant_of.ensures)
    (may_append s v w made c.in_ok-top.ask c.in-Free.tuple c.requires.copy.1 r.to_copy r.asked r.ungranted (subst (λ p. IsOlder p made) c.requires.seen c.in_ok-top.ensures.older)
    (subst (IsOlder made) c.consult.ensures.same c.consult.ensures.shown.0) c.known.ensures.legal told.1.0 told.1.1)

pub take_reply-requires-clause-own : goal.take_reply-requires-clause-own
take_reply-requires-clause-own g c =
    let made = c.one_request.new.pass in
    let granted = c.append.new.seer in
    let now = c.dead-dead.new.pass in
    let shown = shown_on made c.consult.new.seer granted c.consult.ensures.shown (shown_on c.consult.new.seer c.abort_by_other.new.pass granted c.abort_by_other.ensures.shown c.append.ensures.shown) in
    own_shown (setting_of g.N.Store.table g.N.Store.base) made now c.args.pass.now.number c.in_ok-top.ask.access (c.in_ok-top.ensures.same.0 ∙ c.requires.client.0) c.in_ok-top.ensures.same.1
    (shown_on made granted now shown c.dead-dead.ensures.looked) c.known-2.ensures.legal c.in_ok-top.ensures.asked.own

pub take_reply-requires-clause-may : goal.take_reply-requires-clause-may
take_reply-requires-clause-may g c =
    let s = setting_of g.N.Store.table g.N.Store.base in
    let made = c.one_request.new.pass in
    let granted = c.append.new.seer in
    let now = c.dead-dead.new.pass in
    let grant = grant_with c.in_ok-top.ask c.in-Free.tuple in
    let shown = shown_on made c.consult.new.seer granted c.consult.ensures.shown (shown_on c.consult.new.seer c.abort_by_other.new.pass granted c.abort_by_other.ensures.shown c.append.ensures.shown) in
    let entered = subst (λ x. Entered against_nothing (event.Granted 0 x) c.consult.new.pass c.append.new.pass) c.grant_of.ensures c.in_ok-append.ensures.ok in
    let looked = c.dead-dead.ensures.looked in
    let legal = subst (Legal s) c.append.ensures.same (earlier_legal s looked.0.0 granted.seen (subst (Legal s) looked.0.1 c.known-2.ensures.legal)) in
    may_reply made granted now c.args.pass.now.number c.in_ok-top.ask c.in-Free.tuple c.in_ok-top.ensures.asked.asked_here c.in_ok-top.ensures.same.1 shown
    (subst (λ p. granted_of p c.in_ok-top.ask.access ≡ Some (record { copy = 0; grant = grant })) (sym c.append.ensures.same) (granted_is s against_nothing c.consult.new.pass c.append.new.pass 0 grant entered legal))
    looked
