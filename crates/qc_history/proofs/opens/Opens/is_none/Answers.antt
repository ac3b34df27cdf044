use Rattle.std.proofs.Common.{[], sym, ap, ◌∙◌}
use Rattle.std.specs.Prelude.{is_none, ◌==◌}
use Rattle.qc_event.specs.History.{end, children}
use Rattle.qc_history.proofs.OpenTops.{none_found}
use Rattle.qc_history.proofs.opens.Opens.is_none.Goals as goal

pub returns : goal.returns
returns c = λ setting past is legal. ap (λ n. n == 0) is ∙ sym (none_found (λ c. is_none (end past c)) (children past []))
