-- How many tops some entries of a history started, committed and aborted, and how many they left in doubt.
use Rattle.std.specs.Prelude.{◌<◌, ◌-◌, ◌^◌, List}
use Rattle.qc_event.specs.declared.event.Entry.{Entry}
use Rattle.qc_report.specs.declared.tally.Tally.{Tally}
use Rattle.qc_report.specs.Report.{Text, entries_of, starts_top, commits_top, aborts_top, in_doubt, tally_line}

-- the counts of some entries of a history
abbrev pub counts : List Entry → List Entry → Tally
counts trail entries = record {
  started = entries_of starts_top entries;
  committed = entries_of commits_top entries;
  aborted = entries_of aborts_top entries;
  doubt = entries_of (in_doubt trail) entries;
}

-- each count may grow by one
pub record TallyHasRoom (tally : Tally) : Type 0 where
  pub started : tally.started < 2 ^ 64 - 1
  pub committed : tally.committed < 2 ^ 64 - 1
  pub aborted : tally.aborted < 2 ^ 64 - 1
  pub doubt : tally.doubt < 2 ^ 64 - 1

-- the line of the counts
abbrev pub tally_text : Tally → Text
tally_text tally = tally_line tally.started tally.committed tally.aborted tally.doubt
