-- What its pass has seen is legal.
use Rattle.qc_desk.proofs.Known.{known_again}
use Rattle.qc_event.specs.Tables.{setting_of}
use Rattle.qc_site.proofs.replica.Replica.held_fits.Goals as goal

pub held_to_fit-requires-clause-legal : goal.held_to_fit-requires-clause-legal
held_to_fit-requires-clause-legal g c = (known_again (setting_of g.N.Store.table g.N.Store.base) c.self.inside.pass c.self.invariant.known).legal
