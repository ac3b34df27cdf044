use Rattle.std.proofs.Common.{subst}
use Rattle.std.specs.Prelude.{IsTrue, ◌↔◌}
use Rattle.qc_event.specs.declared.event.Kind.{Kind}
use Rattle.qc_event.specs.History.{Begun, start}
use Rattle.qc_check.specs.Breaks.{FallsShort}
use Rattle.qc_check.proofs.Decides.{decides_found}
use Rattle.qc_check.proofs.rule.is_incomplete.Goals as goal

pub returns-in-Some : goal.returns-in-Some
returns-in-Some g c =
    let short = FallsShort c.args.setting.now (g.H.Looks.past c.args.h.now) c.args.n.now in
    decides_found (λ (b : Begun). short b.kind) (start (g.H.Looks.past c.args.h.now) c.args.n.now) c.in-Some.begun c.falls_short.result c.in-Some.ensures
    (subst (λ (k : Kind). IsTrue c.falls_short.result ↔ short k) c.kind.ensures c.falls_short.ensures)
