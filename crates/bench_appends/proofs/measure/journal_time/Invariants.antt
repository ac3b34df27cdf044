-- It stays up, and how far the records came.
use Rattle.std.proofs.Common.{◌≡◌, ◌+◌, ◌*◌}
use Rattle.qc_journal.specs.Journal.{IsUp, place_of}
use Rattle.bench_appends.proofs.measure.journal_time.Given as goal

abbrev pub invariant-loop-turn : goal.invariant-loop-turn
invariant-loop-turn g l = record {
  up : IsUp l.journal;
  place : place_of l.journal ≡ place_of l.initial.journal + 37 * l._turn;
}
