use Rattle.std.proofs.Common.{◌≡◌, [], All, ◌∙◌}
use Rattle.qc_mail.specs.Mails.{put_at}
use Rattle.qc_mail.proofs.Numbering.{all_more, one_more}
use Rattle.qc_mail.proofs.seating.seat_all.Goals as goal

pub loop-session-preserved : goal.loop-session-preserved
loop-session-preserved g c =
    let posts = c.in_ok-push.ensures.items in
    let seated = c.in_ok-seat_one in record {
      copies = seated.ensures.copies;
      got = seated.ensures.got ∙ c.loop-session.invariant.got;
      made = seated.ensures.made;
      posts = one_more c.loop-session.posts.items c.push.new.self.items seated.field-0 posts (λ p. p.session) c.loop-session.session c.loop-session.invariant.posts seated.ensures.post.0;
      none = all_more c.loop-session.posts.items c.push.new.self.items seated.field-0 posts (λ p. All (λ e. put_at e.pass ≡ []) p.ends.items) c.loop-session.invariant.none seated.ensures.post.1;
    }
