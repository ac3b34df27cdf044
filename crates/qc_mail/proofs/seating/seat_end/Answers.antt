use Rattle.std.proofs.Common.{arith, map, set, sym, ap, ◌∙◌, ◌+◌}
use Rattle.std.proofs.lemmas.List.{map-set}
use Rattle.qc_mail.specs.Mails.{got_at, made_at}
use Rattle.qc_mail.proofs.Numbers.{map_kept, number_is, reaches, told_at}
use Rattle.qc_mail.proofs.seating.seat_end.Goals as goal

pub index_mut-requires : goal.index_mut-requires
index_mut-requires g c = omega (arith, reaches c.args.stubs.now.items c.from.result (λ s. s.outlet.copy) g.M.Mailed.copies c.args.copy c.requires.copies c.from.ensures c.requires.within)

pub seat-requires-clause-same : goal.seat-requires-clause-same
seat-requires-clause-same g c =
    c.tray.ensures
    ∙ sym (number_is c.args.stubs.now.items c.from.result (λ s. s.outlet.copy) g.M.Mailed.copies c.args.copy c.index_mut.result.now c.requires.copies c.from.ensures c.requires.within c.index_mut.ensures.value)

pub seat-requires-clause-next : goal.seat-requires-clause-next
seat-requires-clause-next g c =
    told_at c.args.stubs.now.items c.from.result (λ s. made_at s.outlet.pass) c.args.copy c.index_mut.result.now
    (reaches c.args.stubs.now.items c.from.result (λ s. s.outlet.copy) g.M.Mailed.copies c.args.copy c.requires.copies c.from.ensures c.requires.within) c.from.ensures c.index_mut.ensures.value
    ∙ c.requires.next

pub returns-clause-copies : goal.returns-clause-copies
returns-clause-copies g c =
    map_kept c.args.stubs.now.items c.from.result (λ s. s.outlet.copy) c.index_mut.result.now (record { outlet = c.seat.new.self }) c.index_mut.ensures.value c.seat.ensures.outlet.0 ∙ c.requires.copies

pub returns-clause-got : goal.returns-clause-got
returns-clause-got g c =
    map_kept c.args.stubs.now.items c.from.result (λ s. got_at s.outlet.pass) c.index_mut.result.now (record { outlet = c.seat.new.self }) c.index_mut.ensures.value c.seat.ensures.outlet.1

pub returns-clause-made : goal.returns-clause-made
returns-clause-made g c =
    map-set (λ s. made_at s.outlet.pass) c.args.stubs.now.items c.from.result (record { outlet = c.seat.new.self })
    ∙ ap (set (map (λ s. made_at s.outlet.pass) c.args.stubs.now.items) c.from.result) c.seat.ensures.made
    ∙ ap (λ k. set (map (λ s. made_at s.outlet.pass) c.args.stubs.now.items) k (c.args.session + 1)) c.from.ensures

pub returns-clause-inlet : goal.returns-clause-inlet
returns-clause-inlet g c =
    (c.seat.ensures.inlet.0 ∙ number_is c.args.stubs.now.items c.from.result (λ s. s.outlet.copy) g.M.Mailed.copies c.args.copy c.index_mut.result.now c.requires.copies c.from.ensures c.requires.within c.index_mut.ensures.value, c.seat.ensures.inlet.1)
