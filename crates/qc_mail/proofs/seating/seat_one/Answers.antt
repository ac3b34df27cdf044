use Rattle.std.proofs.Common.{◌≡◌, ◌<◌, [], length, sym, ap, ◌∙◌, arith}
use Rattle.qc_mail.specs.Mails.{known_at, made_at, put_at}
use Rattle.qc_mail.proofs.Made.{all_done, done_more, left_less, made_next}
use Rattle.qc_mail.proofs.Numbering.{all_more, one_more}
use Rattle.qc_mail.proofs.seating.seat_one.Goals as goal

pub seat_end-requires-clause-next : goal.seat_end-requires-clause-next
seat_end-requires-clause-next g c =
    made_next (λ s. s.outlet.copy) (λ s. made_at s.outlet.pass) c.loop-copy.stubs.items g.M.Mailed.copies c.loop-copy.copy c.args.session c.loop-copy.invariant.copies (omega (arith, c.loop-copy-test.true, c.requires.numbers.0))
    c.loop-copy.invariant.left

pub loop-copy-preserved : goal.loop-copy-preserved
loop-copy-preserved g c =
    let within : c.loop-copy.copy < g.M.Mailed.copies = omega (arith, c.loop-copy-test.true, c.requires.numbers.0) in
    let ends = c.in_ok-push.ensures.items in
    let e = c.seat_end.result in record {
      copies = c.seat_end.ensures.copies;
      got = c.seat_end.ensures.got ∙ c.loop-copy.invariant.got;
      done = done_more (λ s. s.outlet.copy) (λ s. made_at s.outlet.pass) c.loop-copy.stubs.items g.M.Mailed.copies c.loop-copy.copy c.args.session c.loop-copy.invariant.copies c.seat_end.new.stubs.items c.seat_end.ensures.made within
          c.loop-copy.invariant.left c.loop-copy.invariant.done;
      left = left_less (λ s. s.outlet.copy) (λ s. made_at s.outlet.pass) c.loop-copy.stubs.items g.M.Mailed.copies c.loop-copy.copy c.args.session c.loop-copy.invariant.copies c.seat_end.new.stubs.items c.seat_end.ensures.made within
          c.loop-copy.invariant.left;
      in_order = one_more c.loop-copy.ends.items c.push.new.self.items e ends (λ e. e.copy) c.loop-copy.copy c.loop-copy.invariant.in_order c.seat_end.ensures.inlet.0;
      own = all_more c.loop-copy.ends.items c.push.new.self.items e ends (λ e. e.session ≡ c.args.session) c.loop-copy.invariant.own c.seat_end.ensures.inlet.1;
      none = all_more c.loop-copy.ends.items c.push.new.self.items e ends (λ e. put_at e.pass ≡ []) c.loop-copy.invariant.none c.seat_end.ensures.put.0;
      taken = all_more c.loop-copy.ends.items c.push.new.self.items e ends (λ e. known_at e.pass ≡ length (put_at e.pass)) c.loop-copy.invariant.taken (c.seat_end.ensures.put.1 ∙ ap length (sym c.seat_end.ensures.put.0));
    }

pub returns-clause-made : goal.returns-clause-made
returns-clause-made g c =
    all_done (λ s. s.outlet.copy) (λ s. made_at s.outlet.pass) c.loop-copy.stubs.items g.M.Mailed.copies c.loop-copy.copy c.args.session c.loop-copy.invariant.copies (omega (arith, c.loop-copy-test.false, c.requires.numbers.0))
    c.loop-copy.invariant.done
