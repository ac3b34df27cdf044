use Rattle.std.proofs.Common.{◌≡◌, ℕ, List, map, take, All}
use Rattle.qc_event.specs.declared.event.Ask.{Ask}
use Rattle.qc_mail.specs.Mails.{put_at, taken_at, HasAll}
use Rattle.qc_mail.proofs.mail.Mail.close.Given as goal

abbrev pub invariant-loop-i : goal.invariant-loop-i
invariant-loop-i g l = record {
  stubs : map (λ s. taken_at s.outlet.copy s.outlet.pass) l.stubs.items ≡ map (λ s. taken_at s.outlet.copy s.outlet.pass) l.fn.stubs.items;
  posts : map {B = ℕ × List (List Ask)} (λ p. (p.session, map (λ e. put_at e.pass) p.ends.items)) l.posts.items
      ≡ map {B = ℕ × List (List Ask)} (λ p. (p.session, map (λ e. put_at e.pass) p.ends.items)) l.fn.posts.items;
  all : All (λ (t : ℕ × List (List Ask)). All (HasAll t.0 t.1) (map (λ s. taken_at s.outlet.copy s.outlet.pass) l.fn.stubs.items))
      (take l.i (map {B = ℕ × List (List Ask)} (λ p. (p.session, map (λ e. put_at e.pass) p.ends.items)) l.fn.posts.items));
}
