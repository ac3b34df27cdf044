use Rattle.std.proofs.Common.{◌≡◌, reverse, take}
use Rattle.std.specs.Prelude.{filter}
use Rattle.qc_event.specs.Base.{start_tuple}
use Rattle.qc_event.specs.History.{grants}
use Rattle.qc_event.specs.Seen.{changed_by, is_live_at}
use Rattle.qc_scan.proofs.held.held.Given as goal

-- the tuple is what the grants so far leave
abbrev pub invariant-loop-e : goal.invariant-loop-e
invariant-loop-e l = l.tuple ≡ changed_by (start_tuple l.setting.base l.copy l.rec) (filter (is_live_at (reverse l.h) l.rec) (grants (reverse (take l.e-index l.h)) l.copy))
