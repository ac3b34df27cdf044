use Rattle.std.proofs.Common.{◌≡◌, true, false, sym, ap, ◌∙◌, subst}
use Rattle.qc_event.specs.Base.{Setting}
use Rattle.qc_event.specs.History.{Past}
use Rattle.qc_event.specs.Legal.{Allowed}
use Rattle.qc_looks.specs.Indexed.{Known}
use Rattle.qc_audit.proofs.Trails.{is_first}
use Rattle.qc_audit.proofs.illegal.look_through.Goals as goal

pub returns-then-not-is_allowed-clause-stop : goal.returns-then-not-is_allowed-clause-stop
returns-then-not-is_allowed-clause-stop c =
    let setting : Setting = record { firsts = c.args.firsts.now; base = c.args.base.now } in
    let e = c.index-trail-place.result in
    is_first setting c.args.trail.now c.loop-place.place e c.loop-place-test.true c.index-trail-place.is c.loop-place.invariant.legal
    (λ allowed.
    let there = subst (λ (p : Past). Allowed setting p e) (sym (ap (λ (k : Known). k.past) c.loop-place.invariant.known)) allowed in
    let told = c.is_allowed.ensures.allowed.1 (subst (λ (s : Setting). Allowed s c.loop-place.known.past e) (sym c.new-setting.ensures) there) in
    let clash : false ≡ true = sym c.if-not-is_allowed.true ∙ told in
    absurd cc)
