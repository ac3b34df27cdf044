use Rattle.std.proofs.Common.{subst}
use Rattle.std.specs.Prelude.{◌↔◌, IsTrue}
use Rattle.qc_event.specs.Users.{ChildAborted}
use Rattle.qc_looks.specs.Indexed.{Known}
use Rattle.qc_looks.proofs.indexed.IndexedLooks.is_child_aborted.Goals as goal

pub is_child_aborted-requires : goal.is_child_aborted-requires
is_child_aborted-requires c = record { legal = (_, c.self.invariant.legal) }

pub returns : goal.returns
returns c =
    subst (λ (k : Known). IsTrue c.is_child_aborted.result ↔ ChildAborted k.past c.args.n.now c.args.cause.now) c.self.view_is c.is_child_aborted.ensures
