use Rattle.std.proofs.Common.{◌≡◌, ◌-◌, true, take, sym, ap, ◌∙◌, subst}
use Rattle.std.specs.Prelude.{None, is_some}
use Rattle.std.proofs.lemmas.Option.{same_Some}
use Rattle.qc_names.specs.Name as name
use Rattle.qc_event.specs.Dead.{dead, outcome, is_committed}
use Rattle.qc_event.proofs.OneEntry.{no_some}
use Rattle.qc_moss.specs.Follows.{IsInherited}
use Rattle.qc_moss.proofs.Inheriting.{not_passed, passed_on, to_parent, still_alive}
use Rattle.qc_moss.proofs.settling.raised.Goals as goal

pub loop-to-init : goal.loop-to-init
loop-to-init g c = λ past tells. not_passed past c.args.at.now

pub loop-to-preserved : goal.loop-to-preserved
loop-to-preserved g c = λ past tells.
    let to = c.loop-to.to in
    let done : is_committed (outcome past to) ≡ true = ap is_committed (sym (c.outcome.ensures past tells)) ∙ sym c.is_committed.ensures ∙ c.if-is_committed.true in
    let parent : c.ancestor-to.result ≡ name.front to = c.ancestor-to.ensures ∙ ap (λ n. take (n - 1) to) c.len.ensures.length in
    subst (IsInherited past c.args.at.now) (sym parent) (passed_on past c.args.at.now to (name.front to) (c.loop-to.invariant past tells) (to_parent past to done))

pub returns-clause-alive : goal.returns-clause-alive
returns-clause-alive g c = λ past to tells is.
    let lives : dead past c.args.at.now ≡ None = no_some (dead past c.args.at.now) (ap is_some (sym (c.dead.ensures past tells)) ∙ sym c.is_some.ensures ∙ c.if-is_some.false) in
    ap (dead past) (sym (same_Some c.loop-to.to to is)) ∙ still_alive past c.args.at.now c.loop-to.to (c.loop-to.invariant past tells) lives
