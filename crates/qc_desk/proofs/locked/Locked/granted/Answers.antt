use Rattle.std.proofs.Common.{◌≡◌, subst}
use Rattle.std.specs.Prelude.{option_and_then}
use Rattle.qc_event.proofs.LegalAgain.{legal_again}
use Rattle.qc_event.specs.History.{Past, granted}
use Rattle.qc_event.specs.Tables.{setting_of}
use Rattle.qc_history.specs.Grants.{tuple_at}
use Rattle.qc_desk.proofs.locked.Locked.granted.Goals as goal

pub returns : goal.returns
returns g c =
    let setting = setting_of g.N.Store.table g.N.Store.base in
    subst (λ (p : Past). c.granted.result ≡ option_and_then (tuple_at c.args.copy) (granted p c.args.access.now)) c.self.view_is (c.granted.ensures setting (legal_again setting c.self.inside.history c.self.invariant.2))
