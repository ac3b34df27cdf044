use Rattle.std.proofs.Common.{sym, subst}
use Rattle.qc_event.specs.declared.event.Why.TheVariants.{Down, Full, Strange}
use Rattle.qc_history.specs.Grants.{granted_name}
use Rattle.qc_looks.specs.Subjects.{asked_name, gone_name, unable_name}
use Rattle.qc_history.specs.Slots.{Reaches}
use Rattle.qc_history.proofs.Answering.{granted_after_start}
use Rattle.qc_looks.proofs.FirstTold.{asked_after_start, gone_after_start, unable_after_start}
use Rattle.qc_looks.proofs.requests.Requests.push.Goals as goal

pub returns : goal.returns
returns c = λ setting past was room names legal at. record {
  asked = c.push.ensures asked_name setting past _ asked_after_start was.asked (subst (λ o. Reaches past o c.args.self.now.asked.after.items) (sym c.asked_name.ensures) room.asked) names legal c.asked_name.ensures at;
  gone = c.push-2.ensures gone_name setting past _ gone_after_start was.gone (subst (λ o. Reaches past o c.args.self.now.gone.after.items) (sym c.gone_name.ensures) room.gone) names legal c.gone_name.ensures at;
  granted = c.push-3.ensures granted_name setting past _ granted_after_start was.granted (subst (λ o. Reaches past o c.args.self.now.granted.after.items) (sym c.granted_name.ensures) room.granted) names legal c.granted_name.ensures at;
  down = c.push-4.ensures (unable_name Down) setting past _ (unable_after_start Down) was.down (subst (λ o. Reaches past o c.args.self.now.down.after.items) (sym c.unable_name.ensures) room.down) names legal c.unable_name.ensures at;
  full = c.push-5.ensures (unable_name Full) setting past _ (unable_after_start Full) was.full (subst (λ o. Reaches past o c.args.self.now.full.after.items) (sym c.unable_name-2.ensures) room.full) names legal c.unable_name-2.ensures at;
  strange = c.push-6.ensures (unable_name Strange) setting past _ (unable_after_start Strange) was.strange (subst (λ o. Reaches past o c.args.self.now.strange.after.items) (sym c.unable_name-3.ensures) room.strange) names legal c.unable_name-3.ensures at;
}
