use Rattle.std.proofs.Common.{sym, subst}
use Rattle.qc_history.specs.Grants.{granted_name}
use Rattle.qc_history.specs.Refusals.{refused_name}
use Rattle.qc_history.specs.Slots.{Reaches}
use Rattle.qc_history.proofs.Answering.{granted_after_start, refused_after_start}
use Rattle.qc_history.proofs.indexes.Indexes.push.Goals as goal

pub returns : goal.returns
returns c = λ setting past ready names legal at.
    let was = ready.0 in
    let room = ready.1 in
    record {
      opens = c.push.ensures setting past was.opens legal;
      refusals = c.push-2.ensures refused_name setting past _ refused_after_start was.refusals (subst (λ o. Reaches past o c.args.self.now.refusals.after.items) (sym c.refused_name.ensures) room.refusals) names legal c.refused_name.ensures at;
      first_grants = c.push-3.ensures granted_name setting past _ granted_after_start was.first_grants (subst (λ o. Reaches past o c.args.self.now.first_grants.after.items) (sym c.granted_name.ensures) room.first_grants) names legal c.granted_name.ensures at;
      marks = c.push-4.ensures past was.marks;
      aborts = c.push-5.ensures setting past was.aborts room.aborts names legal at;
      grants = c.push-6.ensures past was.grants at;
    }
