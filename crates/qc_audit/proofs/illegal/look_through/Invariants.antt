use Rattle.std.proofs.Common.{◌≡◌, take, reverse}
use Rattle.qc_event.specs.Legal.{Legal}
use Rattle.qc_audit.proofs.illegal.look_through.Given as goal

-- the index knows the entries so far, which are legal
abbrev pub invariant-loop-place : goal.invariant-loop-place
invariant-loop-place l = record {
  known : l.known ≡ record { setting = record { firsts = l.firsts; base = l.base }; past = reverse (take l.place l.trail) };
  legal : Legal (record { firsts = l.firsts; base = l.base }) (reverse (take l.place l.trail));
}
