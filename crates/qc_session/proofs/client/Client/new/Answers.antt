-- A client that has entered nothing is tidy, and knows of all that it marked.
use Rattle.std.proofs.Common.{sym, ◌∙◌}
use Rattle.qc_event.specs.Tables.{setting_of}
use Rattle.qc_desk.proofs.Known.{known_again}
use Rattle.qc_session.proofs.Keeping.{new_keeps}
use Rattle.qc_session.proofs.client.Client.new.Goals as goal

pub invariant_of-result : goal.invariant_of-result
invariant_of-result g c =
    let v = c.args.line.pass in
    let known = known_again (setting_of g.N.Store.table g.N.Store.base) v c.args.line.known in
    let none = sym (known.mine c.args.line.client.0) ∙ c.requires.fresh.2 in
    record {
      over = c.requires.over;
      kept = new_keeps (setting_of g.N.Store.table g.N.Store.base) v c.args.seat.marks c.requires.high c.requires.fresh.0 known.legal none;
      low = c.requires.session;
      seated = c.requires.seated;
      boarded = c.requires.boarded;
    }
