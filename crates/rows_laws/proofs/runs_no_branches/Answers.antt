use Rattle.std.proofs.Common.{sym}
use mathlib.Core.Bool.{true≢false}
use Rattle.rows_laws.proofs.runs_no_branches.Goals as goal

pub returns-clause-one_seat_at_once : goal.returns-clause-one_seat_at_once
returns-clause-one_seat_at_once c = λ r. true≢false (sym r.turns)

pub returns-clause-parents_seat : goal.returns-clause-parents_seat
returns-clause-parents_seat c = λ r. true≢false (sym r.turns)

pub returns-clause-tried_at_once : goal.returns-clause-tried_at_once
returns-clause-tried_at_once c = λ r. true≢false (sym r.turns)

pub returns-clause-parent_marks : goal.returns-clause-parent_marks
returns-clause-parent_marks c = λ r. true≢false (sym r.turns)

pub returns-clause-parent_reads : goal.returns-clause-parent_reads
returns-clause-parent_reads c = λ r. true≢false (sym r.turns)
