use Rattle.qc_event.specs.declared.event.Why.TheVariants.{Down, Full, Strange}
use Rattle.qc_history.specs.Grants.{granted_name}
use Rattle.qc_looks.specs.Subjects.{asked_name, gone_name, unable_name}
use Rattle.qc_looks.proofs.requests.Requests.new.Goals as goal

pub returns : goal.returns
returns c = record {
  asked = c.new.ensures asked_name;
  gone = c.new-2.ensures gone_name;
  granted = c.new-3.ensures granted_name;
  down = c.new-4.ensures (unable_name Down);
  full = c.new-5.ensures (unable_name Full);
  strange = c.new-6.ensures (unable_name Strange);
}
