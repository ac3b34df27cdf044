use Rattle.std.proofs.Common.{◌≡◌, ◌-◌, [], map, All}
use Rattle.std.specs.List.{range_with_len}
use Rattle.qc_lane.specs.Ends.{queue_id}
use Rattle.qc_mail.specs.Mails.{got_at, made_at}
use Rattle.qc_mail.proofs.naming.name_all.Given as goal

abbrev pub invariant-loop-copy : goal.invariant-loop-copy
invariant-loop-copy g l = record {
  left : map (λ o. queue_id o.queue) l.opened.items ≡ map g.M.Mailed.lanes (range_with_len l.copy (l.copies - l.copy));
  trays : map (λ t. t.copy) l.trays.items ≡ range_with_len 0 l.copy;
  stubs : map (λ s. s.outlet.copy) l.stubs.items ≡ range_with_len 0 l.copy;
  none : All (λ s. got_at s.outlet.pass ≡ []) l.stubs.items;
  made : All (λ s. made_at s.outlet.pass ≡ 0) l.stubs.items;
}
