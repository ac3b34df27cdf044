use Rattle.std.proofs.Common.{◌≡◌, subst}
use Rattle.qc_event.proofs.LegalAgain.{legal_again}
use Rattle.qc_event.specs.History.{Past}
use Rattle.qc_event.specs.Tables.{setting_of}
use Rattle.qc_history.specs.Looking.{is_marked_for}
use Rattle.qc_desk.proofs.locked.Locked.marked.Goals as goal

pub returns : goal.returns
returns g c =
    let setting = setting_of g.N.Store.table g.N.Store.base in
    subst (λ (p : Past). c.marked.result ≡ is_marked_for p c.args.of.now) c.self.view_is (c.marked.ensures setting (legal_again setting c.self.inside.history c.self.invariant.2))
