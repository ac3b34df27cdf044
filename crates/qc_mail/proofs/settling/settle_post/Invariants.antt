use Rattle.std.proofs.Common.{◌≡◌, map, take, All}
use Rattle.qc_mail.specs.Mails.{put_at, taken_at, HasAll}
use Rattle.qc_mail.proofs.settling.settle_post.Given as goal

abbrev pub invariant-loop-i : goal.invariant-loop-i
invariant-loop-i g l = record {
  session : l.post.session ≡ l.fn.post.session;
  sent : map (λ e. put_at e.pass) l.post.ends.items ≡ map (λ e. put_at e.pass) l.fn.post.ends.items;
  stubs : map (λ s. taken_at s.outlet.copy s.outlet.pass) l.stubs.items ≡ map (λ s. taken_at s.outlet.copy s.outlet.pass) l.fn.stubs.items;
  all : All (HasAll l.fn.post.session (map (λ e. put_at e.pass) l.fn.post.ends.items)) (take l.i (map (λ s. taken_at s.outlet.copy s.outlet.pass) l.fn.stubs.items));
}
