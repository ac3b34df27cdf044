use Rattle.qc_history.specs.Grants.{granted_name}
use Rattle.qc_history.specs.Refusals.{refused_name}
use Rattle.qc_history.proofs.indexes.Indexes.new.Goals as goal

pub returns : goal.returns
returns c = record {
  opens = c.new.ensures;
  refusals = c.new-2.ensures refused_name;
  first_grants = c.new-3.ensures granted_name;
  marks = c.new-4.ensures;
  aborts = c.new-5.ensures;
  grants = c.new-6.ensures;
}
