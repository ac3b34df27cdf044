use Rattle.std.proofs.Common.{◌≡◌, subst}
use Rattle.qc_event.proofs.LegalAgain.{legal_again}
use Rattle.qc_event.specs.History.{Past, refused}
use Rattle.qc_event.specs.Tables.{setting_of}
use Rattle.qc_desk.proofs.locked.Locked.refusal.Goals as goal

pub returns : goal.returns
returns g c =
    let setting = setting_of g.N.Store.table g.N.Store.base in
    subst (λ (p : Past). c.refusal.result ≡ refused p c.args.access.now) c.self.view_is (c.refusal.ensures setting (legal_again setting c.self.inside.history c.self.invariant.2))
