use Rattle.std.proofs.Common.{sym, subst, ◌∙◌, ap, [], append-nil}
use Rattle.std.specs.Prelude.{not}
use Rattle.qc_event.specs.declared.event.Cause.TheVariants as cause
use Rattle.qc_event.specs.declared.event.How.TheVariants.{Abort}
use Rattle.qc_event.proofs.LastNumber.{is_ancestor-append}
use Rattle.qc_names.specs.Name as name
use Rattle.qc_script.specs.Plan.{Plan}
use Rattle.qc_script.specs.Client.{Made}
use Rattle.qc_interp.proofs.Scopes.Growth.{made_both}
use Rattle.qc_interp.specs.Running.{Runs, Quit, Ended, CutOff}
use Rattle.qc_interp.specs.declared.stops.Finish.TheVariants as finish
use Rattle.qc_interp.proofs.Stepping.Results.{if_ok, if_err}
use Rattle.qc_interp.proofs.Stepping.Ending.{user_is, runs_still, leaves_still, still, cut_still}
use Rattle.qc_interp.proofs.Stepping.Asked.{asked_made}
use Rattle.qc_interp.proofs.Stepping.Asking.{above_is, user_above, asked_orphan, runs_asked, leaves_asked, asked_one, same_asked, ended_asked, ask_no, ask_ended, asked_itself, asked_cut, not_aborted_made}
use Rattle.qc_interp.specs.Deeds.{deeds}
use Rattle.qc_interp.proofs.stops.ask.Goals as goal

pub quit-requires-clause-grounded : goal.quit-requires-clause-grounded
quit-requires-clause-grounded g c session =
    let v = g.T.Tx.view c.args.tx.now in
    (user_is v.client.session v.seen c.args.of.now c.requires.runs.user, ap (name.is_ancestor c.args.of.now) (sym (append-nil c.args.of.now)) ∙ is_ancestor-append c.args.of.now [])

pub abort-requires-clause-user : goal.abort-requires-clause-user
abort-requires-clause-user g c =
    let v = g.T.Tx.view c.args.tx.now in
    let up = above_is v.client c.args.of.now c.ancestor-ancestor.result c.args.levels c.len.result c.len.ensures.length c.ancestor-ancestor.ensures c.if-levels-eq0.false c.requires.within in
    user_above v.client c.args.of.now v.seen c.ancestor-ancestor.result c.args.levels c.requires.runs up

pub abort-requires-clause-grounded : goal.abort-requires-clause-grounded
abort-requires-clause-grounded g c session =
    let v = g.T.Tx.view c.args.tx.now in
    let up = above_is v.client c.args.of.now c.ancestor-ancestor.result c.args.levels c.len.result c.len.ensures.length c.ancestor-ancestor.ensures c.if-levels-eq0.false c.requires.within in
    (user_is v.client.session v.seen c.args.of.now c.requires.runs.user, up.is_ancestor)

pub quit-requires-in-Ok-clause-runs : goal.quit-requires-in-Ok-clause-runs
quit-requires-in-Ok-clause-runs g c =
    let v = g.T.Tx.view c.args.tx.now in
    let w = g.T.Tx.view c.abort.new.self in
    let up = above_is v.client c.args.of.now c.ancestor-ancestor.result c.args.levels c.len.result c.len.ensures.length c.ancestor-ancestor.ensures c.if-levels-eq0.false c.requires.within in
    subst (λ d. Runs d c.args.of.now w.seen) (sym c.abort.ensures.client)
    (runs_asked v.client c.args.of.now c.ancestor-ancestor.result up.rest up.is up.far up.nonroot v.seen w.seen c.in-Ok.ensures.ok c.requires.runs)

pub quit-requires-in-Ok-clause-grounded : goal.quit-requires-in-Ok-clause-grounded
quit-requires-in-Ok-clause-grounded g c =
    let v = g.T.Tx.view c.args.tx.now in
    let w = g.T.Tx.view c.abort.new.self in
    let up = above_is v.client c.args.of.now c.ancestor-ancestor.result c.args.levels c.len.result c.len.ensures.length c.ancestor-ancestor.ensures c.if-levels-eq0.false c.requires.within in
    (up.is_ancestor, ap not up.apart, ended_asked v.client c.args.of.now c.ancestor-ancestor.result up.rest up.is up.far up.nonroot v.seen w.seen c.in-Ok.ensures.ok)

pub quit-requires-in-Ended-clause-runs : goal.quit-requires-in-Ended-clause-runs
quit-requires-in-Ended-clause-runs g c =
    let v = g.T.Tx.view c.args.tx.now in
    let w = g.T.Tx.view c.abort.new.self in
    subst (λ d. Runs d c.args.of.now w.seen) (sym c.abort.ensures.client)
    (runs_still v.client c.args.of.now v.seen w.seen (ask_ended v.client c.args.of.now c.ancestor-ancestor.result v.seen w.seen c.in-Err.why c.in-Ended.is c.in-Err.ensures.err).0 c.requires.runs)

pub quit-requires-in-Ended-clause-grounded : goal.quit-requires-in-Ended-clause-grounded
quit-requires-in-Ended-clause-grounded g c =
    let v = g.T.Tx.view c.args.tx.now in
    let w = g.T.Tx.view c.abort.new.self in
    let up = above_is v.client c.args.of.now c.ancestor-ancestor.result c.args.levels c.len.result c.len.ensures.length c.ancestor-ancestor.ensures c.if-levels-eq0.false c.requires.within in
    (up.is_ancestor, ap not up.apart, (ask_ended v.client c.args.of.now c.ancestor-ancestor.result v.seen w.seen c.in-Err.why c.in-Ended.is c.in-Err.ensures.err).1)

pub returns-in-Ok-clause-ok : goal.returns-in-Ok-clause-ok
returns-in-Ok-clause-ok g c =
    let v = g.T.Tx.view c.args.tx.now in
    let w = g.T.Tx.view c.abort.new.self in
    let x = g.T.Tx.view c.quit-in-Ok.new.tx in
    let of = c.args.of.now in
    let t = c.ancestor-ancestor.result in
    let up = above_is v.client of t c.args.levels c.len.result c.len.ensures.length c.ancestor-ancestor.ensures c.if-levels-eq0.false c.requires.within in
    if_ok (Quit (g.T.Tx.view c.abort.new.self).client of (Abort (cause.Orphan t)) w.seen x.seen) (λ again. (rest : Plan) → Ended v.client of v.seen x.seen (Plan.abort_then c.args.levels rest) (finish.Stopped again)) c.quit-in-Ok.result
    (λ again quit rest.
    asked_orphan v.client of t c.args.levels up.named c.if-levels-eq0.false v.seen w.seen x.seen again rest (leaves_asked v.client of t up.rest up.is up.far up.nonroot v.seen w.seen c.in-Ok.ensures.ok)
    (asked_one v.client of t up.rest up.is up.far up.nonroot v.seen w.seen c.in-Ok.ensures.ok)
    (same_asked v.client of t up.rest up.is up.far up.nonroot v.seen w.seen c.in-Ok.ensures.ok)
    (subst (λ d. Quit d of (Abort (cause.Orphan t)) w.seen x.seen again) c.abort.ensures.client quit)) c.quit-in-Ok.ensures.ok

pub returns-in-Ended-clause-ok : goal.returns-in-Ended-clause-ok
returns-in-Ended-clause-ok g c =
    let v = g.T.Tx.view c.args.tx.now in
    let w = g.T.Tx.view c.abort.new.self in
    let x = g.T.Tx.view c.quit-in-Ended.new.tx in
    let of = c.args.of.now in
    let t = c.ancestor-ancestor.result in
    let up = above_is v.client of t c.args.levels c.len.result c.len.ensures.length c.ancestor-ancestor.ensures c.if-levels-eq0.false c.requires.within in
    let m = (ask_ended v.client of t v.seen w.seen c.in-Err.why c.in-Ended.is c.in-Err.ensures.err).0 in
    if_ok (Quit (g.T.Tx.view c.abort.new.self).client of (Abort (cause.Orphan t)) w.seen x.seen) (λ again. (rest : Plan) → Ended v.client of v.seen x.seen (Plan.abort_then c.args.levels rest) (finish.Stopped again)) c.quit-in-Ended.result
    (λ again quit rest.
    asked_orphan v.client of t c.args.levels up.named c.if-levels-eq0.false v.seen w.seen x.seen again rest (leaves_still v.client of v.seen w.seen m) (asked_made v.client [] v.seen w.seen _ m tt) (ap (λ h. deeds h of) (still v.client of v.seen w.seen m))
    (subst (λ d. Quit d of (Abort (cause.Orphan t)) w.seen x.seen again) c.abort.ensures.client quit)) c.quit-in-Ended.ensures.ok

pub returns-in_default : goal.returns-in_default
returns-in_default g c =
    let v = g.T.Tx.view c.args.tx.now in
    let w = g.T.Tx.view c.abort.new.self in
    let of = c.args.of.now in
    let t = c.ancestor-ancestor.result in
    let up = above_is v.client of t c.args.levels c.len.result c.len.ensures.length c.ancestor-ancestor.ensures c.if-levels-eq0.false c.requires.within in
    record { met = c.abort.ensures.met; client = c.abort.ensures.client; ok = λ rest. ask_no v.client of t c.args.levels v.seen w.seen c.in-Err.why rest up c.requires.runs c.in-Err.ensures.err c.in_default.not-Short c.in_default.not-Ended; cut = tt; room = tt }

pub returns-then-levels-eq0-clause-ok : goal.returns-then-levels-eq0-clause-ok
returns-then-levels-eq0-clause-ok g c =
    let v = g.T.Tx.view c.args.tx.now in
    let x = g.T.Tx.view c.quit.new.tx in
    let of = c.args.of.now in
    if_ok (Quit v.client of (Abort (cause.Asked of)) v.seen x.seen) (λ again. (rest : Plan) → Ended v.client of v.seen x.seen (Plan.abort_then c.args.levels rest) (finish.Stopped again)) c.quit.result
    (λ again quit rest. asked_itself v.client of c.args.levels v.seen x.seen again rest c.if-levels-eq0.true quit) c.quit.ensures.ok

-- WHERE IT WAS CUT OFF

pub returns-then-levels-eq0-clause-cut : goal.returns-then-levels-eq0-clause-cut
returns-then-levels-eq0-clause-cut g c =
    let v = g.T.Tx.view c.args.tx.now in
    let x = g.T.Tx.view c.quit.new.tx in
    let of = c.args.of.now in
    if_err (Made v.client [] v.seen x.seen) ((rest : Plan) → CutOff v.client of v.seen x.seen (Plan.abort_then c.args.levels rest)) c.quit.result
    (λ m rest. cut_still v.client of v.seen x.seen c.requires.runs m (Plan.abort_then c.args.levels rest)) c.quit.ensures.cut

pub returns-in-Ok-clause-cut : goal.returns-in-Ok-clause-cut
returns-in-Ok-clause-cut g c =
    let v = g.T.Tx.view c.args.tx.now in
    let w = g.T.Tx.view c.abort.new.self in
    let x = g.T.Tx.view c.quit-in-Ok.new.tx in
    let of = c.args.of.now in
    let t = c.ancestor-ancestor.result in
    let up = above_is v.client of t c.args.levels c.len.result c.len.ensures.length c.ancestor-ancestor.ensures c.if-levels-eq0.false c.requires.within in
    if_err (Made w.client [] w.seen x.seen) ((rest : Plan) → CutOff v.client of v.seen x.seen (Plan.abort_then c.args.levels rest)) c.quit-in-Ok.result
    (λ m rest.
    asked_cut v.client of t c.args.levels up.named v.seen w.seen x.seen rest
    (runs_asked v.client of t up.rest up.is up.far up.nonroot v.seen w.seen c.in-Ok.ensures.ok c.requires.runs)
    (leaves_asked v.client of t up.rest up.is up.far up.nonroot v.seen w.seen c.in-Ok.ensures.ok)
    (asked_one v.client of t up.rest up.is up.far up.nonroot v.seen w.seen c.in-Ok.ensures.ok)
    (same_asked v.client of t up.rest up.is up.far up.nonroot v.seen w.seen c.in-Ok.ensures.ok)
    (subst (λ d. Made d [] w.seen x.seen) c.abort.ensures.client m)) c.quit-in-Ok.ensures.cut

pub returns-in-Ended-clause-cut : goal.returns-in-Ended-clause-cut
returns-in-Ended-clause-cut g c =
    let v = g.T.Tx.view c.args.tx.now in
    let w = g.T.Tx.view c.abort.new.self in
    let x = g.T.Tx.view c.quit-in-Ended.new.tx in
    let of = c.args.of.now in
    if_err (Made w.client [] w.seen x.seen) ((rest : Plan) → CutOff v.client of v.seen x.seen (Plan.abort_then c.args.levels rest)) c.quit-in-Ended.result
    (λ m rest.
    cut_still v.client of v.seen x.seen c.requires.runs
    (made_both v.client v.seen w.seen x.seen (not_aborted_made v.client of c.ancestor-ancestor.result (cause.Asked of) v.seen w.seen c.in-Err.why c.in-Err.ensures.err) (subst (λ d. Made d [] w.seen x.seen) c.abort.ensures.client m)) (Plan.abort_then c.args.levels rest)) c.quit-in-Ended.ensures.cut

pub returns-in-Short-clause-cut : goal.returns-in-Short-clause-cut
returns-in-Short-clause-cut g c rest =
    let v = g.T.Tx.view c.args.tx.now in
    let w = g.T.Tx.view c.abort.new.self in
    let of = c.args.of.now in
    cut_still v.client of v.seen w.seen c.requires.runs (not_aborted_made v.client of c.ancestor-ancestor.result (cause.Asked of) v.seen w.seen c.in-Err.why c.in-Err.ensures.err) (Plan.abort_then c.args.levels rest)
