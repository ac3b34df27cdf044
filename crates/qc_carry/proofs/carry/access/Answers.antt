-- An access is carried to its end, or told to be cut off where it was, and the courier stays in step.
use Rattle.std.proofs.Common.{[], sym, ap, subst}
use Rattle.std.specs.Prelude.{IfSome, None}
use Rattle.std.specs.Option.{option_map}
use Rattle.std.proofs.lemmas.Result.{err_from_is_err_and}
use Rattle.qc_event.specs.declared.event.Ask.{Ask}
use Rattle.qc_event.specs.History.{Asked}
use Rattle.qc_event.specs.Tables.{setting_of}
use Rattle.qc_managers.specs.Carrying.{began}
use Rattle.qc_net.specs.Courier.{held_of, link_of}
use Rattle.qc_net.specs.Plan.{Plan}
use Rattle.qc_net.specs.Sending.{IsSending, sending}
use Rattle.qc_desk.specs.Consulting.{HasAsked}
use Rattle.qc_desk.specs.Answers.{HasAnswered}
use Rattle.qc_carry.specs.Access.{Ends, Waits}
use Rattle.qc_carry.specs.Walk.{Walk}
use Rattle.qc_carry.proofs.Beginning as beginning
use Rattle.qc_carry.proofs.Course as course
use Rattle.qc_carry.proofs.Ending.{ends_walk}
use Rattle.qc_carry.proofs.Held.{held_on}
use Rattle.qc_carry.proofs.KeepsOn as keeps
use Rattle.qc_carry.proofs.Walking as walking
use Rattle.qc_carry.proofs.carry.access.Goals as goal

-- IT IS CUT OFF BEFORE IT ASKS

pub returns-in_err-ask-clause-held : goal.returns-in_err-ask-clause-held
returns-in_err-ask-clause-held g c = held_on c.args.pass.now c.begin.new.pass _ c.in_err-ask.ensures.cut.1 (held_of c.args.courier.now) c.requires.held

pub returns-in_err-ask-clause-keeps : goal.returns-in_err-ask-clause-keeps
returns-in_err-ask-clause-keeps g c =
    let next = c.args.next.now in
    keeps.unasked (setting_of g.N.Store.table g.N.Store.base) c.args.pass.now c.begin.new.pass next.manager next.copy next.rec next.op c.requires.client c.requires.may c.begin.ensures.known.legal c.args.patience
    _ _ (held_of c.args.courier.now) _ c.in_err-ask.ensures.cut c.requires.keeps

-- IT ASKS

pub send-requires-clause-held : goal.send-requires-clause-held
send-requires-clause-held g c = held_on c.args.pass.now c.begin.new.pass _ c.in_ok-ask.ensures.walk (held_of c.args.courier.now) c.requires.held

pub send-requires-clause-asked : goal.send-requires-clause-asked
send-requires-clause-asked g c =
    let v = c.args.pass.now in
    let u = c.begin.new.pass in
    let next = c.args.next.now in
    subst (λ (q : Ask). HasAsked u.seen q) (sym c.in_ok-ask.ensures.request)
    (ap (option_map (λ (a : Asked). a.ask)) (beginning.waits (setting_of g.N.Store.table g.N.Store.base) v u next.manager next.copy next.rec next.op c.requires.client c.requires.may c.begin.ensures.known.legal
    (subst (λ (q : Ask). Walk v u (began v.number q)) c.in_ok-ask.ensures.request c.in_ok-ask.ensures.walk)).asks_it)

pub returns-in_err-sent-clause-course : goal.returns-in_err-sent-clause-course
returns-in_err-sent-clause-course g c =
    let v = c.args.pass.now in
    let u = c.begin.new.pass in
    let next = c.args.next.now in
    let p = err_from_is_err_and c.from_residual-in_err-sent.result c.from_residual-in_err-sent.ensures.1 in
    rw (p.1, p.2) (course.cut_asked v u c.send.new.pass next.manager _ c.in_err-sent.field-0.0
    (subst (λ (q : Ask). Walk v u (began v.number q)) c.in_ok-ask.ensures.request c.in_ok-ask.ensures.walk) c.in_err-sent.ensures.err)

pub returns-in_err-sent-clause-keeps : goal.returns-in_err-sent-clause-keeps
returns-in_err-sent-clause-keeps g c =
    let v = c.args.pass.now in
    let u = c.begin.new.pass in
    let next = c.args.next.now in
    let p = err_from_is_err_and c.from_residual-in_err-sent.result c.from_residual-in_err-sent.ensures.1 in
    rw (p.1, p.2) (keeps.cut_short (setting_of g.N.Store.table g.N.Store.base) v c.send.new.pass next.manager next.copy next.rec next.op c.requires.client c.requires.may c.send.ensures.known.legal c.args.patience
    (g.L.Link.view (link_of c.args.courier.now)).plan (g.L.Link.view (link_of c.send.new.courier)).plan (held_of c.args.courier.now) (held_of c.send.new.courier) c.send.ensures.plan
    u c.in_err-sent.field-0.0 (subst (λ (q : Ask). Walk v u (began v.number q)) c.in_ok-ask.ensures.request c.in_ok-ask.ensures.walk) c.in_err-sent.ensures.err c.requires.keeps)

-- IT ENDS

pub finish-requires-clause-waits : goal.finish-requires-clause-waits
finish-requires-clause-waits g c =
    let v = c.args.pass.now in
    let x = c.send.new.pass in
    let next = c.args.next.now in
    subst (λ (q : Ask). Waits x.seen x.number q) (sym c.in_ok-ask.ensures.request)
    (beginning.waits (setting_of g.N.Store.table g.N.Store.base) v x next.manager next.copy next.rec next.op c.requires.client c.requires.may c.send.ensures.known.legal
    (walking.walk_on v c.begin.new.pass x _ [] (subst (λ (q : Ask). Walk v c.begin.new.pass (began v.number q)) c.in_ok-ask.ensures.request c.in_ok-ask.ensures.walk) c.send.ensures.walk))

pub returns-clause-course : goal.returns-clause-course
returns-clause-course g c =
    let v = c.args.pass.now in
    let x = c.send.new.pass in
    let next = c.args.next.now in
    course.course (setting_of g.N.Store.table g.N.Store.base) v x c.finish.new.pass next.manager next.copy next.rec next.op c.requires.client c.requires.may c.finish.ensures.known.legal
    (walking.walk_on v c.begin.new.pass x _ [] (subst (λ (q : Ask). Walk v c.begin.new.pass (began v.number q)) c.in_ok-ask.ensures.request c.in_ok-ask.ensures.walk) c.send.ensures.walk)
    c.finish.result (subst (λ (q : Ask). Ends x c.finish.new.pass q c.finish.result) c.in_ok-ask.ensures.request c.finish.ensures.ends)

pub returns-clause-held : goal.returns-clause-held
returns-clause-held g c =
    held_on c.send.new.pass c.finish.new.pass _ (ends_walk c.send.new.pass c.finish.new.pass c.in_ok-ask.ask c.finish.result c.finish.ensures.ends).1 (held_of c.send.new.courier) c.send.ensures.held

pub returns-clause-keeps : goal.returns-clause-keeps
returns-clause-keeps g c =
    let v = c.args.pass.now in
    let x = c.send.new.pass in
    let w = c.finish.new.pass in
    let next = c.args.next.now in
    let plan' = (g.L.Link.view (link_of c.send.new.courier)).plan in
    let held = held_of c.args.courier.now in
    let held' = held_of c.send.new.courier in
    let on = (ends_walk x w c.in_ok-ask.ask c.finish.result c.finish.ensures.ends).1 in
    keeps.sent (setting_of g.N.Store.table g.N.Store.base) v w next.manager next.copy next.rec next.op c.requires.client c.requires.may c.finish.ensures.known.legal c.args.patience
    (g.L.Link.view (link_of c.args.courier.now)).plan plan' held held' c.send.ensures.plan
    x (walking.walk_on v c.begin.new.pass x _ [] (subst (λ (q : Ask). Walk v c.begin.new.pass (began v.number q)) c.in_ok-ask.ensures.request c.in_ok-ask.ensures.walk) c.send.ensures.walk)
    (on.newer, on.grown) c.in_ok-sent.sent
    (subst (λ (q : Ask). IfSome (g.L.Link.view (link_of c.args.courier.now)).plan (λ (p : Plan). IsSending (sending p held q c.args.patience) plan' held' (λ (a : Ask). HasAnswered a.copy x.seen a) None None c.in_ok-sent.sent)) c.in_ok-ask.ensures.request c.in_ok-sent.ensures.told)
    c.finish.result (subst (λ (q : Ask). Ends x w q c.finish.result) c.in_ok-ask.ensures.request c.finish.ensures.ends) c.finish.ensures.tells c.requires.keeps
