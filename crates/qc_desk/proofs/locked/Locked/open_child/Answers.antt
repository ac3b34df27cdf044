use Rattle.std.proofs.Common.{◌≡◌, subst}
use Rattle.qc_event.proofs.LegalAgain.{legal_again}
use Rattle.qc_event.specs.Standing.{open_child}
use Rattle.qc_event.specs.History.{Past}
use Rattle.qc_event.specs.Tables.{setting_of}
use Rattle.qc_desk.proofs.locked.Locked.open_child.Goals as goal

pub returns : goal.returns
returns g c =
    let setting = setting_of g.N.Store.table g.N.Store.base in
    subst (λ (p : Past). c.open_child.result ≡ open_child p c.args.name.now) c.self.view_is (c.open_child.ensures setting (legal_again setting c.self.inside.history c.self.invariant.2))
