use Rattle.std.proofs.Common.{◌≡◌, false, true, reverse, take, sym, ◌∙◌, subst}
use Rattle.qc_event.specs.Base.{Setting}
use Rattle.qc_event.specs.Legal.{Allowed}
use Rattle.qc_check.proofs.Fronts.{allowed_at}
use Rattle.qc_check.proofs.checker.check_by_scans.Goals as goal

pub returns-then-not-is_allowed-clause-illegal : goal.returns-then-not-is_allowed-clause-illegal
returns-then-not-is_allowed-clause-illegal c =
    let setting : Setting = record { firsts = c.args.firsts.now; base = c.args.base.now } in
    let e = c.index-h-place.result in
    λ legal.
    let allowed = allowed_at setting c.args.h.now c.loop-place.place e c.loop-place-test.true c.index-h-place.is legal in
    let told = c.is_allowed.ensures.allowed.1 (subst (λ (s : Setting). Allowed s (reverse (take c.loop-place.place c.args.h.now)) e) (sym c.new-setting.ensures) allowed) in
    let clash : false ≡ true = sym c.if-not-is_allowed.true ∙ told in
    absurd cc
