use Rattle.std.proofs.Common.{subst}
use Rattle.std.proofs.lemmas.Result.{on_ok_weaker}
use Rattle.qc_history.specs.Grants.{granted_name}
use Rattle.qc_history.specs.Refusals.{refused_name}
use Rattle.qc_history.specs.Slots.{Reaches}
use Rattle.qc_history.proofs.indexes.Indexes.make_room.Goals as goal

pub returns-in_err-make_room-clause-same : goal.returns-in_err-make_room-clause-same
returns-in_err-make_room-clause-same c = λ past was. record {
  opens = was.opens;
  refusals = c.make_room.ensures.same refused_name past was.refusals;
  first_grants = was.first_grants;
  marks = was.marks;
  aborts = was.aborts;
  grants = was.grants;
}

pub returns-in_err-make_room-2-clause-same : goal.returns-in_err-make_room-2-clause-same
returns-in_err-make_room-2-clause-same c = λ past was. record {
  opens = was.opens;
  refusals = c.make_room.ensures.same refused_name past was.refusals;
  first_grants = c.make_room-2.ensures.same granted_name past was.first_grants;
  marks = was.marks;
  aborts = was.aborts;
  grants = was.grants;
}

pub returns-in_err-make_room-3-clause-same : goal.returns-in_err-make_room-3-clause-same
returns-in_err-make_room-3-clause-same c = λ past was. record {
  opens = was.opens;
  refusals = c.make_room.ensures.same refused_name past was.refusals;
  first_grants = c.make_room-2.ensures.same granted_name past was.first_grants;
  marks = was.marks;
  aborts = c.make_room-3.ensures.same past was.aborts;
  grants = was.grants;
}

pub returns-clause-same : goal.returns-clause-same
returns-clause-same c = λ past was. record {
  opens = was.opens;
  refusals = c.make_room.ensures.same refused_name past was.refusals;
  first_grants = c.make_room-2.ensures.same granted_name past was.first_grants;
  marks = was.marks;
  aborts = c.make_room-3.ensures.same past was.aborts;
  grants = c.make_room-4.ensures.same past was.grants;
}

pub returns-clause-room : goal.returns-clause-room
returns-clause-room c =
    on_ok_weaker c.make_room-4.result (λ spare setting past names legal at. record {
      refusals = subst (λ o. Reaches past o c.make_room.new.self.after.items) c.refused_name.ensures (c.in_ok-make_room.ensures.room setting past names legal);
      first_grants = subst (λ o. Reaches past o c.make_room-2.new.self.after.items) c.granted_name.ensures (c.in_ok-make_room-2.ensures.room setting past names legal);
      aborts = c.in_ok-make_room-3.ensures.room setting past names legal at;
      grants = spare;
    }) c.make_room-4.ensures.room
