use Rattle.std.proofs.Common.{sym, ◌∙◌}
use Rattle.std.proofs.lemmas.Result.{on_ok_weaker}
use Rattle.qc_history.proofs.GrantPlaces.{spare_here}
use Rattle.qc_history.proofs.grants.Grants.make_room.Goals as goal

pub returns-clause-room : goal.returns-clause-room
returns-clause-room c =
    on_ok_weaker c.make_room.result
    (spare_here c.args.entry.now.event c.reach_copy.new.copies.items c.make_room.new.self c.in-Some.copy (sym c.copy_of.ensures ∙ c.in-Some.is) c.in_ok-reach_copy.ensures.reached)
    c.make_room.ensures.room
