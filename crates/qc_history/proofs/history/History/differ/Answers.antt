use Rattle.std.proofs.Common.{subst}
use Rattle.qc_event.specs.History.{Past, grants}
use Rattle.qc_history.specs.Grants.{Differs}
use Rattle.qc_history.proofs.history.History.differ.Goals as goal

pub differ-requires-clause-kept : goal.differ-requires-clause-kept
differ-requires-clause-kept c = c.self.invariant.2

pub returns : goal.returns
returns c = subst (λ (p : Past). Differs c.args.given.now (grants p c.args.copy) c.differ.result) c.self.view_is c.differ.ensures
