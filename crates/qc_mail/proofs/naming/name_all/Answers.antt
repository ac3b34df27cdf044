use Rattle.std.proofs.Common.{◌≡◌, [], map, ap, ◌∙◌, arith}
use Rattle.qc_lane.specs.Ends.{queue_id}
use Rattle.qc_mail.specs.Mails.{got_at, made_at}
use Rattle.qc_mail.proofs.Numbering.{all_more, next_lane, one_more}
use Rattle.qc_mail.proofs.naming.name_all.Goals as goal

pub remove-requires : goal.remove-requires
remove-requires g c = omega (arith, (next_lane (λ o. queue_id o.queue) g.M.Mailed.lanes c.loop-copy.opened.items c.loop-copy.copy c.args.copies c.loop-copy-test.true c.loop-copy.invariant.left).0)

pub name_one-tray-requires-clause-named : goal.name_one-tray-requires-clause-named
name_one-tray-requires-clause-named g c =
    (next_lane (λ o. queue_id o.queue) g.M.Mailed.lanes c.loop-copy.opened.items c.loop-copy.copy c.args.copies c.loop-copy-test.true c.loop-copy.invariant.left).1 c.remove.result c.remove.ensures.value

pub loop-copy-preserved : goal.loop-copy-preserved
loop-copy-preserved g c =
    let next = next_lane (λ o. queue_id o.queue) g.M.Mailed.lanes c.loop-copy.opened.items c.loop-copy.copy c.args.copies c.loop-copy-test.true c.loop-copy.invariant.left in
    let trays = c.in_ok-push.ensures.items in
    let stubs = c.in_ok-push-2.ensures.items in record {
      left = ap (map (λ o. queue_id o.queue)) c.remove.ensures.items ∙ next.2;
      trays = one_more c.loop-copy.trays.items c.push.new.self.items c.name_one-tray.result.0 trays (λ t. t.copy) c.loop-copy.copy c.loop-copy.invariant.trays c.name_one-tray.ensures.tray;
      stubs = one_more c.loop-copy.stubs.items c.push-in-loop-copy.new.self.items c.name_one-tray.result.1 stubs (λ s. s.outlet.copy) c.loop-copy.copy c.loop-copy.invariant.stubs c.name_one-tray.ensures.stub.0;
      none = all_more c.loop-copy.stubs.items c.push-in-loop-copy.new.self.items c.name_one-tray.result.1 stubs (λ s. got_at s.outlet.pass ≡ []) c.loop-copy.invariant.none c.name_one-tray.ensures.stub.1;
      made = all_more c.loop-copy.stubs.items c.push-in-loop-copy.new.self.items c.name_one-tray.result.1 stubs (λ s. made_at s.outlet.pass ≡ 0) c.loop-copy.invariant.made c.name_one-tray.ensures.stub.2;
    }
