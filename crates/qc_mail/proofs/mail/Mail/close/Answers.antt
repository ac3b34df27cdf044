use Rattle.std.proofs.Common.{ℕ, List, map, All, sym, ◌∙◌, arith}
use Rattle.std.proofs.lemmas.List.Elements.{All-same}
use Rattle.qc_event.specs.declared.event.Ask.{Ask}
use Rattle.qc_mail.specs.Mails.{put_at, taken_at, HasAll}
use Rattle.qc_mail.proofs.Held.{each_held, one_held}
use Rattle.qc_mail.proofs.Numbers.{map_kept}
use Rattle.qc_mail.proofs.mail.Mail.close.Goals as goal

pub loop-i-preserved : goal.loop-i-preserved
loop-i-preserved g c =
    let told = c.loop-i.invariant in
    let step = c.settle_post.ensures in
    let post = c.index_mut.result.now in record {
      stubs = step.stubs ∙ told.stubs;
      posts = map_kept c.loop-i.posts.items c.loop-i.i {Y = ℕ × List (List Ask)} (λ p. (p.session, map (λ e. put_at e.pass) p.ends.items)) post c.settle_post.new.post c.index_mut.ensures.value (λ j. (step.post.0 j, step.post.1 j))
          ∙ told.posts;
      all = one_held {Y = ℕ × List (List Ask)} (λ p. (p.session, map (λ e. put_at e.pass) p.ends.items)) (λ t. All (HasAll t.0 t.1) (map (λ s. taken_at s.outlet.copy s.outlet.pass) c.args.stubs.items))
          c.loop-i.posts.items c.args.posts.items c.loop-i.i post told.posts (omega (arith, c.loop-i-test.true, c.len-i-end.ensures)) c.index_mut.ensures.value
          (All-same (HasAll post.session (map (λ e. put_at e.pass) post.ends.items)) (map (λ s. taken_at s.outlet.copy s.outlet.pass) c.args.stubs.items) (map (λ s. taken_at s.outlet.copy s.outlet.pass) c.loop-i.stubs.items) (sym told.stubs) step.all)
          told.all;
    }

pub returns : goal.returns
returns g c =
    each_held {Y = ℕ × List (List Ask)} (λ p. (p.session, map (λ e. put_at e.pass) p.ends.items)) (λ t. All (HasAll t.0 t.1) (map (λ s. taken_at s.outlet.copy s.outlet.pass) c.args.stubs.items))
    c.loop-i.posts.items c.args.posts.items c.loop-i.i (omega (arith, c.loop-i-test.false, c.len-i-end.ensures)) c.loop-i.invariant.all
