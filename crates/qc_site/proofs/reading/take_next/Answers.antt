-- What the bytes are was read.
use Rattle.std.proofs.Common.{sym, subst}
use Rattle.std.specs.Prelude.{◌↔◌, IfOk, IsTrue, MatchOption, Option}
use Rattle.qc_event.specs.declared.event.Grant.{Grant}
use Rattle.qc_codec.specs.Copy.{MayFollow}
use Rattle.qc_site.specs.Granted.{given_by}
use Rattle.qc_site.proofs.reading.take_next.Goals as goal

pub returns-in-Ok-clause-tells : goal.returns-in-Ok-clause-tells
returns-in-Ok-clause-tells c =
    subst (λ (o : Option Grant). IfOk c.take.result (λ taken. IsTrue taken ↔ MatchOption o ⊥ (MayFollow c.args.table.now c.args.past.now c.args.base (given_by c.args.granted.now))))
    (sym c.in-Ok.ensures.exact) c.take.ensures.tells
