use Rattle.std.proofs.Common.{get_or, refl, sym, ap, ◌∙◌, arith}
use Rattle.std.specs.Prelude.{None}
use Rattle.std.proofs.lemmas.List.FromFn.{fill_by_all, get_or-map-range_with_len}
use Rattle.qc_event.specs.Manager.{missing_at}
use Rattle.qc_check.proofs.aborts.tells_missing.Goals as goal

pub returns-then-not-is_why_at : goal.returns-then-not-is_why_at
returns-then-not-is_why_at g c =
    let why = missing_at (g.H.Looks.past c.args.h.now) c.args.m.now c.args.phase in (
      λ e. absurd cc,
      λ is. sym c.if-not-is_why_at.true ∙ c.is_why_at.ensures.1 (ap (λ l. get_or l c.loop-copy.copy None) is ∙ get_or-map-range_with_len why 0 16 c.loop-copy.copy c.loop-copy.copy None c.loop-copy-test.true (omega arith)),
    )

pub returns : goal.returns
returns g c =
    let why = missing_at (g.H.Looks.past c.args.h.now) c.args.m.now c.args.phase in
    (λ _. fill_by_all why c.args.missing.now 16 None (omega arith) (λ k lt. c.loop-copy.invariant k (omega arith)), λ _. refl)
