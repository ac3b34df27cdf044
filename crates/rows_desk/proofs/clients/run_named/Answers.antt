use Rattle.std.proofs.Common.{◌+◌, ap, ◌∙◌}
use Rattle.qc_desk.specs.declared.view.View.{View}
use Rattle.rows_desk.proofs.Tops.{IsFull, closes}
use Rattle.rows_desk.proofs.clients.run_named.Goals as goal

pub close-requires : goal.close-requires
close-requires g c =
    let full = c.give_low_numbers.ensures in
    let opened : IsFull c.give_low_numbers.new.pass = (full.0, full.1, full.2 ∙ ap (λ (v : View). v.out) c.name-desk.ensures.pass, full.4 ∙ ap (λ (v : View). v.count + 17) c.name-desk.ensures.pass) in
    record {
      first = closes c.give_low_numbers.new.pass c.split-one.new.pass c.split-two.new.pass c.split-one.result c.split-two.result c.join-one.result.0 c.join-one.result.1 c.join.new.pass c.join-2.new.pass
          opened c.split-one.ensures.split c.split-two.ensures.split c.join-one.ensures.first.1 c.join-one.ensures.second.1 c.join.ensures.joined c.join-2.ensures.joined;
    }
