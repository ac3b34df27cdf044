use Rattle.std.proofs.Common.{subst}
use Rattle.qc_event.specs.History.{Past, grants}
use Rattle.qc_history.specs.Grants.{Differs}
use Rattle.qc_desk.proofs.locked.Locked.differ.Goals as goal

pub returns : goal.returns
returns g c = subst (λ (p : Past). Differs c.args.given.now (grants p c.args.copy) c.differ.result) c.self.view_is c.differ.ensures
