use Rattle.std.proofs.Common.{reverse, take}
use Rattle.qc_event.specs.Legal.{Legal}
use Rattle.qc_check.proofs.checker.check_by_scans.Given as goal

-- the entries so far are legal
abbrev pub invariant-loop-place : goal.invariant-loop-place
invariant-loop-place l = Legal (record { firsts = l.firsts; base = l.base }) (reverse (take l.place l.h))
