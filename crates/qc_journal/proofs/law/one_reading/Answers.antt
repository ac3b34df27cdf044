-- Each image of bytes has one reading.
use Rattle.qc_journal.proofs.Readings.{one_of, records-same, records_not_broken, broken-same}
use Rattle.qc_journal.proofs.law.one_reading.Goals as goal

pub returns-clause-some : goal.returns-clause-some
returns-clause-some c = one_of

pub returns-clause-not_both : goal.returns-clause-not_both
returns-clause-not_both c = records_not_broken

pub returns-clause-records : goal.returns-clause-records
returns-clause-records c = records-same

pub returns-clause-place : goal.returns-clause-place
returns-clause-place c = broken-same
