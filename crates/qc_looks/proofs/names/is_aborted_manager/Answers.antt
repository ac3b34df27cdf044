use Rattle.std.proofs.Common.{◌≡◌, true, false, sym, ◌∙◌}
use Rattle.qc_looks.proofs.names.is_aborted_manager.Goals as goal

pub returns-then-not-manages : goal.returns-then-not-manages
returns-then-not-manages c = λ setting legal. (
  λ e. absurd cc,
  λ is. let clash : false ≡ true = sym c.if-not-manages.true ∙ (c.manages.ensures setting legal).1 is.manages in absurd cc,
)

pub returns : goal.returns
returns c = λ setting legal. (
  λ e. record { manages = (c.manages.ensures setting legal).0 c.if-not-manages.false; ended = (c.was_aborted_for.ensures setting legal).0 e },
  λ is. (c.was_aborted_for.ensures setting legal).1 is.ended,
)
