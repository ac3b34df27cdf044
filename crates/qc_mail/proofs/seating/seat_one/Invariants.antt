use Rattle.std.proofs.Common.{◌≡◌, ◌+◌, [], length, map, take, drop, All}
use Rattle.std.specs.List.{range_with_len}
use Rattle.qc_mail.specs.Mails.{got_at, known_at, made_at, put_at}
use Rattle.qc_mail.proofs.seating.seat_one.Given as goal

abbrev pub invariant-loop-copy : goal.invariant-loop-copy
invariant-loop-copy g l = record {
  copies : map (λ s. s.outlet.copy) l.stubs.items ≡ range_with_len 0 g.M.Mailed.copies;
  got : map (λ s. got_at s.outlet.pass) l.stubs.items ≡ map (λ s. got_at s.outlet.pass) l.fn.stubs.items;
  done : All (λ m. m ≡ l.session + 1) (take l.copy (map (λ s. made_at s.outlet.pass) l.stubs.items));
  left : All (λ m. m ≡ l.session) (drop l.copy (map (λ s. made_at s.outlet.pass) l.stubs.items));
  in_order : map (λ e. e.copy) l.ends.items ≡ range_with_len 0 l.copy;
  own : All (λ e. e.session ≡ l.session) l.ends.items;
  none : All (λ e. put_at e.pass ≡ []) l.ends.items;
  taken : All (λ e. known_at e.pass ≡ length (put_at e.pass)) l.ends.items;
}
