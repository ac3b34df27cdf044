use Rattle.std.proofs.Common.{◌≡◌, [], map, All}
use Rattle.std.specs.List.{range_with_len}
use Rattle.qc_mail.specs.Mails.{got_at, made_at, put_at}
use Rattle.qc_mail.proofs.seating.seat_all.Given as goal

abbrev pub invariant-loop-session : goal.invariant-loop-session
invariant-loop-session g l = record {
  copies : map (λ s. s.outlet.copy) l.stubs.items ≡ range_with_len 0 g.M.Mailed.copies;
  got : map (λ s. got_at s.outlet.pass) l.stubs.items ≡ map (λ s. got_at s.outlet.pass) l.fn.stubs.items;
  made : All (λ m. m ≡ l.session) (map (λ s. made_at s.outlet.pass) l.stubs.items);
  posts : map (λ p. p.session) l.posts.items ≡ range_with_len 0 l.session;
  none : All (λ p. All (λ e. put_at e.pass ≡ []) p.ends.items) l.posts.items;
}
