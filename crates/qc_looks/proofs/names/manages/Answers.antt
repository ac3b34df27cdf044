use Rattle.std.proofs.Common.{false, sym, ◌∙◌, subst}
use Rattle.std.specs.Prelude.{◌↔◌, IsTrue, MatchOption}
use Rattle.qc_event.specs.declared.event.Kind.{Kind}
use Rattle.qc_event.specs.History.{Begun}
use Rattle.qc_event.specs.Standing.{IsManager}
use Rattle.qc_looks.proofs.names.manages.Goals as goal

pub returns-in-Some : goal.returns-in-Some
returns-in-Some c = λ setting legal.
    subst (λ o. IsTrue c.is_manager.result ↔ MatchOption o ⊥ (λ (b : Begun). IsManager b.kind)) (sym c.in-Some.is ∙ c.begun.ensures setting legal)
    (subst (λ (k : Kind). IsTrue c.is_manager.result ↔ IsManager k) c.kind.ensures c.is_manager.ensures)

pub returns-in-None : goal.returns-in-None
returns-in-None c = λ setting legal.
    subst (λ o. IsTrue false ↔ MatchOption o ⊥ (λ (b : Begun). IsManager b.kind)) (sym c.in-None.is ∙ c.begun.ensures setting legal) (λ e. absurd cc, λ e. absurd e)
