-- The record's first configuration is the setting's.
use Rattle.qc_event.specs.Base.{Setting, first_of}
use Rattle.std.proofs.Common.{ap, sym, ◌∙◌}
use Rattle.qc_session.proofs.managers.ask.Goals as goal

pub read-value-requires-clause-first : goal.read-value-requires-clause-first
read-value-requires-clause-first g c = c.first_config-first.ensures c.requires.over.0 ∙ ap (λ (s : Setting). first_of s c.in-Read.rec) (sym c.requires.over.1)

pub write-version-requires-clause-first : goal.write-version-requires-clause-first
write-version-requires-clause-first g c = c.first_config-first-in-Write.ensures c.requires.over.0 ∙ ap (λ (s : Setting). first_of s c.in-Write.rec) (sym c.requires.over.1)

pub reconfigure-generation-requires-clause-first : goal.reconfigure-generation-requires-clause-first
reconfigure-generation-requires-clause-first g c = c.first_config-first-in-Reconf.ensures c.requires.over.0 ∙ ap (λ (s : Setting). first_of s c.in-Reconf.rec) (sym c.requires.over.1)
