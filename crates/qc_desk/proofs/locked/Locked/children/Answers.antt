use Rattle.std.proofs.Common.{◌≡◌, length, subst}
use Rattle.qc_event.proofs.LegalAgain.{legal_again}
use Rattle.qc_event.specs.History.{children, Past}
use Rattle.qc_event.specs.Tables.{setting_of}
use Rattle.qc_desk.proofs.locked.Locked.children.Goals as goal

pub returns : goal.returns
returns g c =
    let setting = setting_of g.N.Store.table g.N.Store.base in
    subst (λ (p : Past). c.children.result ≡ length (children p c.args.name.now)) c.self.view_is (c.children.ensures setting (legal_again setting c.self.inside.history c.self.invariant.2))
