use Rattle.std.proofs.Common.{◌≡◌, subst}
use Rattle.std.specs.Prelude.{IfOk}
use Rattle.qc_event.proofs.LegalAgain.{legal_again}
use Rattle.qc_event.specs.History.{Past}
use Rattle.qc_event.specs.Listed.{aborted_below}
use Rattle.qc_event.specs.Tables.{setting_of}
use Rattle.qc_desk.proofs.locked.Locked.aborted_below.Goals as goal

pub aborted_below-requires-clause-legal : goal.aborted_below-requires-clause-legal
aborted_below-requires-clause-legal g c =
    let setting = setting_of g.N.Store.table g.N.Store.base in
    (setting, legal_again setting c.self.inside.history c.self.invariant.2)

pub returns : goal.returns
returns g c = subst (λ (p : Past). IfOk c.aborted_below.result (λ found. found.items ≡ aborted_below p c.args.top.now)) c.self.view_is c.aborted_below.ensures
