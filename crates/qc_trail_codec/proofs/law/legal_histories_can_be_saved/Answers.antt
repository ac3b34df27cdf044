use Rattle.qc_trail_codec.proofs.LegalEntries.{base_saved, entries_saved}
use Rattle.qc_trail_codec.proofs.law.legal_histories_can_be_saved.Goals as goal

pub returns-clause-base : goal.returns-clause-base
returns-clause-base c = base_saved

pub returns-clause-entries : goal.returns-clause-entries
returns-clause-entries c = entries_saved
