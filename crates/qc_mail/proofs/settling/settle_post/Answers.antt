use Rattle.std.proofs.Common.{map, ◌∙◌, arith}
use Rattle.qc_mail.specs.Mails.{put_at, taken_at, HasAll}
use Rattle.qc_mail.proofs.Held.{all_held, one_held}
use Rattle.qc_mail.proofs.Numbers.{map_kept}
use Rattle.qc_mail.proofs.Whole.{same_all}
use Rattle.qc_mail.proofs.settling.settle_post.Goals as goal

pub loop-i-preserved : goal.loop-i-preserved
loop-i-preserved g c =
    let told = c.loop-i.invariant in
    let step = c.settle_one.ensures in record {
      session = step.post.0 ∙ told.session;
      sent = step.post.1 ∙ told.sent;
      stubs = map_kept c.loop-i.stubs.items c.loop-i.i (λ s. taken_at s.outlet.copy s.outlet.pass) c.index_mut.result.now c.settle_one.new.stub c.index_mut.ensures.value step.stub ∙ told.stubs;
      all = one_held (λ s. taken_at s.outlet.copy s.outlet.pass) (HasAll c.args.post.now.session (map (λ e. put_at e.pass) c.args.post.now.ends.items)) c.loop-i.stubs.items c.args.stubs.now.items c.loop-i.i c.index_mut.result.now told.stubs (omega (arith, c.loop-i-test.true, c.len-i-end.ensures))
          c.index_mut.ensures.value (same_all c.args.post.now.session c.loop-i.post.session (map (λ e. put_at e.pass) c.args.post.now.ends.items) (map (λ e. put_at e.pass) c.loop-i.post.ends.items) (taken_at c.index_mut.result.now.outlet.copy c.index_mut.result.now.outlet.pass) told.session told.sent step.all) told.all;
    }

pub returns-clause-all : goal.returns-clause-all
returns-clause-all g c =
    all_held (λ s. taken_at s.outlet.copy s.outlet.pass) (HasAll c.args.post.now.session (map (λ e. put_at e.pass) c.args.post.now.ends.items)) c.loop-i.stubs.items c.args.stubs.now.items c.loop-i.i
    (omega (arith, c.loop-i-test.false, c.len-i-end.ensures)) c.loop-i.invariant.all
