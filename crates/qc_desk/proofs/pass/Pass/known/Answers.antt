use Rattle.std.proofs.Common.{subst}
use Rattle.qc_event.specs.Tables.{setting_of}
use Rattle.qc_desk.specs.Known.{IsKnown}
use Rattle.qc_desk.proofs.Known.{known_at_rest}
use Rattle.qc_desk.proofs.pass.Pass.known.Goals as goal

pub returns : goal.returns
returns g c =
    let setting = setting_of g.N.Store.table g.N.Store.base in
    subst (IsKnown setting) c.self.view_is (known_at_rest setting c.self.inside.seat.me.0 c.self.invariant.4)
