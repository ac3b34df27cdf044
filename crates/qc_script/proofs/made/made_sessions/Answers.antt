use Rattle.std.proofs.Common.{◌≡◌, map, ap, ◌∙◌, arith}
use Rattle.std.specs.List.{range_with_len}
use Rattle.qc_script.specs.MadePlan.{made_session}
use Rattle.qc_script.specs.Steps.{plan_of_session}
use Rattle.qc_script.proofs.MadeRows.{one_more_seen}
use Rattle.qc_script.proofs.made.made_sessions.Goals as goal

pub loop-session-preserved : goal.loop-session-preserved
loop-session-preserved c =
    let session = c.loop-session.session in
    ap (map plan_of_session) c.in_ok-push.ensures.items
    ∙ one_more_seen plan_of_session (made_session c.args.seed) 0 session session c.loop-session.sessions.items c.in_ok-made.made (omega arith) c.loop-session.invariant c.in_ok-made.ensures

pub returns : goal.returns
returns c =
    let all : c.loop-session.session ≡ 4 = omega (arith, c.loop-session.auto.session-end, c.loop-session-test.false) in
    c.loop-session.invariant ∙ ap (λ n. map (made_session c.args.seed) (range_with_len 0 n)) all
