use Rattle.std.proofs.Common.{subst}
use Rattle.std.proofs.lemmas.Result.{on_ok_weaker}
use Rattle.qc_event.specs.declared.event.Why.TheVariants.{Down, Full, Strange}
use Rattle.qc_history.specs.Grants.{granted_name}
use Rattle.qc_looks.specs.Subjects.{asked_name, gone_name, unable_name}
use Rattle.qc_history.specs.Slots.{Reaches}
use Rattle.qc_looks.proofs.requests.Requests.make_room.Goals as goal

pub returns-clause-same : goal.returns-clause-same
returns-clause-same c =
    on_ok_weaker c.make_room-6.result (λ room past was. record {
      asked = c.make_room.ensures.same asked_name past was.asked;
      gone = c.make_room-2.ensures.same gone_name past was.gone;
      granted = c.make_room-3.ensures.same granted_name past was.granted;
      down = c.make_room-4.ensures.same (unable_name Down) past was.down;
      full = c.make_room-5.ensures.same (unable_name Full) past was.full;
      strange = c.make_room-6.ensures.same (unable_name Strange) past was.strange;
    }) c.make_room-6.ensures.room

pub returns-clause-room : goal.returns-clause-room
returns-clause-room c =
    on_ok_weaker c.make_room-6.result (λ reaches setting past names legal. record {
      asked = subst (λ o. Reaches past o c.make_room.new.self.after.items) c.asked_name.ensures (c.in_ok-make_room.ensures.room setting past names legal);
      gone = subst (λ o. Reaches past o c.make_room-2.new.self.after.items) c.gone_name.ensures (c.in_ok-make_room-2.ensures.room setting past names legal);
      granted = subst (λ o. Reaches past o c.make_room-3.new.self.after.items) c.granted_name.ensures (c.in_ok-make_room-3.ensures.room setting past names legal);
      down = subst (λ o. Reaches past o c.make_room-4.new.self.after.items) c.unable_name.ensures (c.in_ok-make_room-4.ensures.room setting past names legal);
      full = subst (λ o. Reaches past o c.make_room-5.new.self.after.items) c.unable_name-2.ensures (c.in_ok-make_room-5.ensures.room setting past names legal);
      strange = subst (λ o. Reaches past o c.make_room-6.new.self.after.items) c.unable_name-3.ensures (reaches setting past names legal);
    }) c.make_room-6.ensures.room
