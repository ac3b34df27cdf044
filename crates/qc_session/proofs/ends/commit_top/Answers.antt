-- A top is ready, and the ledger commits it, or was unable to.
use Rattle.qc_carry.proofs.Walking.{of_entered, of_looked, of_shown, still_client, walk_on}
use Rattle.qc_carry.specs.Walk.{Walk}
use Rattle.qc_codec.specs.Bodies as body
use Rattle.qc_codec.specs.declared.record.LedgerRecord.TheVariants.{Top}
use Rattle.qc_event.specs.History.{end, is_ready, start}
use Rattle.qc_event.specs.Listed.{listed}
use Rattle.qc_event.specs.Standing.{IsUser, Started}
use Rattle.qc_event.proofs.Later.{started_still}
use Rattle.qc_event.proofs.Lawful.{started_some}
use Rattle.qc_event.specs.Tables.{setting_of}
use Rattle.qc_event.specs.declared.event.Event.TheVariants as event
use Rattle.qc_managers.specs.Carrying.{entry}
use Rattle.qc_desk.specs.Refusing.{against_ready}
use Rattle.qc_desk.specs.declared.view.View.{View}
use Rattle.qc_script.specs.Calls.{Committed, NotCommitted, RefusesCommit}
use Rattle.qc_session.specs.Acting.{log_no}
use Rattle.qc_refine.proofs.Restoring.ListedNames.{number_top_fits}
use Rattle.qc_system.specs.Kept.{HasRefused}
use Rattle.qc_desk.proofs.Listed.{listed_stays}
use Rattle.qc_session.proofs.Committing.{ready_later, ready_seen, top_committed, top_uncommitted}
use Rattle.qc_session.proofs.Own.{made_so}
use Rattle.qc_session.proofs.Refused.{ready_refused}
use Rattle.qc_session.proofs.Tidy.{ready_tidy}
use Rattle.std.proofs.Common.{◌≡◌, ◌∷◌, true, [], ap, refl, sym, ◌∙◌, subst, arith}
use Rattle.std.specs.Prelude.{is_some}
use Rattle.qc_net.specs.Courier.{held_of, link_of}
use Rattle.qc_session.proofs.Going.{went_looking, went_on_from, went_then}
use Rattle.qc_session.proofs.ends.commit_top.Goals as goal
use Rattle.qc_session.proofs.Knowing.{seen_legal}
use Rattle.qc_session.proofs.Exact.{log_exact, ready_exact}

pub returns-in-Err-clause-err : goal.returns-in-Err-clause-err
returns-in-Err-clause-err g c = λ client for.
    let v = c.args.line.now.pass in
    let w = c.ready.new.self.pass in
    let r = c.in-Err.ensures.err in
    subst (NotCommitted client c.args.top.now v.seen w.seen) (sym c.no_of.ensures) (ready_refused client v.seen w.seen (made_so (setting_of g.N.Store.table g.N.Store.base) v w client for (seen_legal c.ready.new.self.known) [] (of_looked v w r.0)) c.args.top.now c.in-Err.no r.1)

pub log-logged-requires-clause-ready : goal.log-logged-requires-clause-ready
log-logged-requires-clause-ready g c =
    let v = c.args.line.now.pass in
    let u = c.ready.new.self.pass in
    let w = c.look.new.self.pass in
    let e = c.in-Ok.ensures.ok in
    let s = c.look.ensures.looked in
    let first = of_entered (against_ready c.args.top.now) (event.Ready c.args.top.now) v u e in
    let second = of_shown u w (still_client v u _ first c.args.line.now.client) s in
    let ready_u : is_ready u.seen c.args.top.now ≡ true = subst (λ p. is_ready p c.args.top.now ≡ true) (sym (ap (λ (x : View). x.seen) e.3)) (ready_seen (event.Ready c.args.top.now) c.args.top.now e.0 v.number refl) in
    let ready_w : is_ready w.seen c.args.top.now ≡ true = subst (λ p. is_ready p c.args.top.now ≡ true) (sym s.0.1) (ready_later s.0.0 u.seen c.args.top.now ready_u) in
    ready_w

pub log-logged-requires-clause-listed : goal.log-logged-requires-clause-listed
log-logged-requires-clause-listed g c =
    let v = c.args.line.now.pass in
    let u = c.ready.new.self.pass in
    let w = c.look.new.self.pass in
    let e = c.in-Ok.ensures.ok in
    let s = c.look.ensures.looked in
    let first = of_entered (against_ready c.args.top.now) (event.Ready c.args.top.now) v u e in
    let second = of_shown u w (still_client v u _ first c.args.line.now.client) s in
    let ready_u : is_ready u.seen c.args.top.now ≡ true = subst (λ p. is_ready p c.args.top.now ≡ true) (sym (ap (λ (x : View). x.seen) e.3)) (ready_seen (event.Ready c.args.top.now) c.args.top.now e.0 v.number refl) in
    let ready_w : is_ready w.seen c.args.top.now ≡ true = subst (λ p. is_ready p c.args.top.now ≡ true) (sym s.0.1) (ready_later s.0.0 u.seen c.args.top.now ready_u) in
    c.as_slice.ensures.value ∙ c.in-Ok.ensures.list ∙ sym (listed_stays (setting_of g.N.Store.table g.N.Store.base) u.seen w.seen c.args.top.now s.0 (seen_legal c.look.new.self.known) ready_u)

pub log-logged-requires-clause-proper : goal.log-logged-requires-clause-proper
log-logged-requires-clause-proper g c =
    let v = c.args.line.now.pass in
    let u = c.ready.new.self.pass in
    let w = c.look.new.self.pass in
    let e = c.in-Ok.ensures.ok in
    let s = c.look.ensures.looked in
    let first = of_entered (against_ready c.args.top.now) (event.Ready c.args.top.now) v u e in
    let second = of_shown u w (still_client v u _ first c.args.line.now.client) s in
    let ready_u : is_ready u.seen c.args.top.now ≡ true = subst (λ p. is_ready p c.args.top.now ≡ true) (sym (ap (λ (x : View). x.seen) e.3)) (ready_seen (event.Ready c.args.top.now) c.args.top.now e.0 v.number refl) in
    let ready_w : is_ready w.seen c.args.top.now ≡ true = subst (λ p. is_ready p c.args.top.now ≡ true) (sym s.0.1) (ready_later s.0.0 u.seen c.args.top.now ready_u) in
    let far = walk_on v u w _ [] first second in
    let user : Started w.seen c.args.top.now (λ b. IsUser b.kind) = subst (λ p. Started p c.args.top.now (λ b. IsUser b.kind)) (sym far.grown) (started_still far.newer v.seen c.args.top.now (λ b. IsUser b.kind) c.requires.user) in
    let began : is_some (start w.seen (c.args.number ∷ [])) ≡ true = subst (λ n. is_some (start w.seen n) ≡ true) c.requires.top (started_some (λ b. IsUser b.kind) (start w.seen c.args.top.now) user) in
    subst (λ l. body.ledger.fits (Top c.args.top.now l)) (sym (log-logged-requires-clause-listed g c))
    (subst (λ n. body.ledger.fits (Top n (listed w.seen n))) (sym c.requires.top)
    (number_top_fits (setting_of g.N.Store.table g.N.Store.base) w.seen (seen_legal c.look.new.self.known) c.look.ensures.bounded c.args.number (omega arith) began))

pub returns-in-Ok-logged-clause-ok : goal.returns-in-Ok-logged-clause-ok
returns-in-Ok-logged-clause-ok g c = λ client for.
    let v = c.args.line.now.pass in
    let u = c.ready.new.self.pass in
    let w = c.look.new.self.pass in
    let e = c.in-Ok.ensures.ok in
    let s = c.look.ensures.looked in
    let first = of_entered (against_ready c.args.top.now) (event.Ready c.args.top.now) v u e in
    let second = of_shown u w (still_client v u _ first c.args.line.now.client) s in
    let ready_u : is_ready u.seen c.args.top.now ≡ true = subst (λ p. is_ready p c.args.top.now ≡ true) (sym (ap (λ (x : View). x.seen) e.3)) (ready_seen (event.Ready c.args.top.now) c.args.top.now e.0 v.number refl) in
    let ready_w : is_ready w.seen c.args.top.now ≡ true = subst (λ p. is_ready p c.args.top.now ≡ true) (sym s.0.1) (ready_later s.0.0 u.seen c.args.top.now ready_u) in
    let y = c.log-logged.new.self.pass in
    let third = c.log-logged.ensures.walk in
    let whole = walk_on v w y _ [] (walk_on v u w _ [] first second) third in
    let walk : Walk v y (entry v.number (event.Ready (c.args.number ∷ [])) ∷ []) = subst (λ n. Walk v y (entry v.number (event.Ready n) ∷ [])) c.requires.top whole in
    let ready_y : is_ready y.seen (c.args.number ∷ []) ≡ true = subst (λ n. is_ready y.seen n ≡ true) c.requires.top (subst (λ p. is_ready p c.args.top.now ≡ true) (sym third.grown) (ready_later third.newer w.seen c.args.top.now ready_w)) in
    subst (λ n. Committed client n v.seen y.seen) (sym c.requires.top)
    (top_committed (setting_of g.N.Store.table g.N.Store.base) v y client for (seen_legal c.log-logged.new.self.known) c.args.number walk ready_y (subst (λ n. is_some (end y.seen n) ≡ true) c.requires.top c.in-Ok-logged.ensures.ended))

pub returns-clause-err : goal.returns-clause-err
returns-clause-err g c = λ client for.
    let v = c.args.line.now.pass in
    let u = c.ready.new.self.pass in
    let w = c.look.new.self.pass in
    let e = c.in-Ok.ensures.ok in
    let s = c.look.ensures.looked in
    let first = of_entered (against_ready c.args.top.now) (event.Ready c.args.top.now) v u e in
    let second = of_shown u w (still_client v u _ first c.args.line.now.client) s in
    let ready_u : is_ready u.seen c.args.top.now ≡ true = subst (λ p. is_ready p c.args.top.now ≡ true) (sym (ap (λ (x : View). x.seen) e.3)) (ready_seen (event.Ready c.args.top.now) c.args.top.now e.0 v.number refl) in
    let ready_w : is_ready w.seen c.args.top.now ≡ true = subst (λ p. is_ready p c.args.top.now ≡ true) (sym s.0.1) (ready_later s.0.0 u.seen c.args.top.now ready_u) in
    let y = c.log-logged.new.self.pass in
    let third = c.log-logged.ensures.walk in
    let whole = walk_on v w y _ [] (walk_on v u w _ [] first second) third in
    let walk : Walk v y (entry v.number (event.Ready (c.args.number ∷ [])) ∷ []) = subst (λ n. Walk v y (entry v.number (event.Ready n) ∷ [])) c.requires.top whole in
    let ready_y : is_ready y.seen (c.args.number ∷ []) ≡ true = subst (λ n. is_ready y.seen n ≡ true) c.requires.top (subst (λ p. is_ready p c.args.top.now ≡ true) (sym third.grown) (ready_later third.newer w.seen c.args.top.now ready_w)) in
    subst (NotCommitted client c.args.top.now v.seen y.seen) (sym c.log_no.ensures)
    (subst (λ n. NotCommitted client n v.seen y.seen (log_no c.in-Err-logged.no)) (sym c.requires.top)
    (top_uncommitted (setting_of g.N.Store.table g.N.Store.base) v y client for (seen_legal c.log-logged.new.self.known) c.args.number walk c.in-Err-logged.no (subst (λ n. HasRefused y.seen n c.in-Err-logged.no) c.requires.top c.in-Err-logged.ensures.refused)))

pub returns-in-Err-clause-went : goal.returns-in-Err-clause-went
returns-in-Err-clause-went g c =
    let v = c.args.line.now.pass in
    let line = c.ready.new.self in
    went_looking (setting_of g.N.Store.table g.N.Store.base) v line.pass (λ k. (g.L.Link.view (link_of k)).plan) (of_looked v line.pass c.in-Err.ensures.err.0) c.ready.ensures.rest line.known (held_of line.courier) line.keeps

pub returns-in-Ok-logged-clause-went : goal.returns-in-Ok-logged-clause-went
returns-in-Ok-logged-clause-went g c =
    let v = c.args.line.now.pass in
    let u = c.ready.new.self in
    let w = c.look.new.self in
    let y = c.log-logged.new.self in
    let e = c.in-Ok.ensures.ok in
    let first = of_entered (against_ready c.args.top.now) (event.Ready c.args.top.now) v u.pass e in
    let second = of_shown u.pass w.pass u.client c.look.ensures.looked in
    went_then (setting_of g.N.Store.table g.N.Store.base) v u.pass y.pass (λ k. (g.L.Link.view (link_of k)).plan) _ first c.ready.ensures.rest
    (λ was. ready_tidy (setting_of g.N.Store.table g.N.Store.base) v u.pass (seen_legal u.known) first.number was (event.Ready c.args.top.now) e.0 e.1 (ap (λ (x : View). x.seen) e.3) c.args.top.now refl)
    (went_on_from (setting_of g.N.Store.table g.N.Store.base) u.pass w.pass y.pass (λ k. (g.L.Link.view (link_of k)).plan) w.known second c.look.ensures.rest
    (went_looking (setting_of g.N.Store.table g.N.Store.base) w.pass y.pass (λ k. (g.L.Link.view (link_of k)).plan) c.log-logged.ensures.walk c.log-logged.ensures.rest y.known (held_of y.courier) y.keeps))

pub returns-clause-went : goal.returns-clause-went
returns-clause-went g c =
    let v = c.args.line.now.pass in
    let u = c.ready.new.self in
    let w = c.look.new.self in
    let y = c.log-logged.new.self in
    let e = c.in-Ok.ensures.ok in
    let first = of_entered (against_ready c.args.top.now) (event.Ready c.args.top.now) v u.pass e in
    let second = of_shown u.pass w.pass u.client c.look.ensures.looked in
    went_then (setting_of g.N.Store.table g.N.Store.base) v u.pass y.pass (λ k. (g.L.Link.view (link_of k)).plan) _ first c.ready.ensures.rest
    (λ was. ready_tidy (setting_of g.N.Store.table g.N.Store.base) v u.pass (seen_legal u.known) first.number was (event.Ready c.args.top.now) e.0 e.1 (ap (λ (x : View). x.seen) e.3) c.args.top.now refl)
    (went_on_from (setting_of g.N.Store.table g.N.Store.base) u.pass w.pass y.pass (λ k. (g.L.Link.view (link_of k)).plan) w.known second c.look.ensures.rest
    (went_looking (setting_of g.N.Store.table g.N.Store.base) w.pass y.pass (λ k. (g.L.Link.view (link_of k)).plan) c.log-logged.ensures.walk c.log-logged.ensures.rest y.known (held_of y.courier) y.keeps))

pub returns-in-Err-clause-refused : goal.returns-in-Err-clause-refused
returns-in-Err-clause-refused g c =
    let seen = c.ready.new.self.pass.seen in
    subst (RefusesCommit seen c.args.top.now) (sym c.no_of.ensures) (ready_exact seen c.args.top.now c.in-Err.no c.in-Err.ensures.err.1)

pub returns-clause-refused : goal.returns-clause-refused
returns-clause-refused g c =
    let v = c.args.line.now.pass in
    let u = c.ready.new.self.pass in
    let w = c.look.new.self.pass in
    let y = c.log-logged.new.self.pass in
    let e = c.in-Ok.ensures.ok in
    let s = c.look.ensures.looked in
    let ready_u : is_ready u.seen c.args.top.now ≡ true = subst (λ p. is_ready p c.args.top.now ≡ true) (sym (ap (λ (x : View). x.seen) e.3)) (ready_seen (event.Ready c.args.top.now) c.args.top.now e.0 v.number refl) in
    let ready_w : is_ready w.seen c.args.top.now ≡ true = subst (λ p. is_ready p c.args.top.now ≡ true) (sym s.0.1) (ready_later s.0.0 u.seen c.args.top.now ready_u) in
    let third = c.log-logged.ensures.walk in
    let ready_y : is_ready y.seen c.args.top.now ≡ true = subst (λ p. is_ready p c.args.top.now ≡ true) (sym third.grown) (ready_later third.newer w.seen c.args.top.now ready_w) in
    subst (RefusesCommit y.seen c.args.top.now) (sym c.log_no.ensures) (log_exact y.seen c.args.top.now c.in-Err-logged.no ready_y c.in-Err-logged.ensures.refused)
