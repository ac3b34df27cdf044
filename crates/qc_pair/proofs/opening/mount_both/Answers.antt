-- The bodies are those that both mountings told.
use Rattle.std.proofs.Common.{rules}
use Rattle.qc_journal.specs.Image.{bodies_of}
use Rattle.qc_pair.proofs.opening.mount_both.Goals as goal

pub returns-in-Ok-choose-clause-opens : goal.returns-in-Ok-choose-clause-opens
returns-in-Ok-choose-clause-opens g c = record {
  have = record {
    own = bodies_of c.in-Ok.mounted.1.items;
    spare = bodies_of c.in-Ok-mount.mounted.1.items;
    has_own = c.in-Ok.ensures.records;
    has_spare = c.in-Ok-mount.ensures.records;
    tell = search rules;
    are_active = search rules;
    swapped_is = search rules;
  };
  number_is = search rules;
  keeps_own = search rules;
  keeps_spare = search rules;
}
