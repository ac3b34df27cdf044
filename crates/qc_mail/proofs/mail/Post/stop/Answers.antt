use Rattle.std.proofs.Common.{arith, sym, ◌∙◌}
use Rattle.qc_mail.specs.Mails.{known_at, put_at}
use Rattle.qc_mail.proofs.Numbers.{all_same, all_taken, map_kept, number_is, reaches}
use Rattle.qc_mail.proofs.mail.Post.stop.Goals as goal

pub index_mut-requires : goal.index_mut-requires
index_mut-requires g c = omega (arith, reaches c.args.self.now.ends.items c.from.result (λ e. e.copy) g.M.Mailed.copies c.args.copy c.args.self.now.in_order c.from.ensures c.requires.served)

pub stop-requires-2-clause-same : goal.stop-requires-2-clause-same
stop-requires-2-clause-same g c =
    c.tray.ensures
    ∙ sym (number_is c.args.self.now.ends.items c.from.result (λ e. e.copy) g.M.Mailed.copies c.args.copy c.index_mut.result.now c.args.self.now.in_order c.from.ensures c.requires.served c.index_mut.ensures.value)

pub invariant_of-self-clause-in_order : goal.invariant_of-self-clause-in_order
invariant_of-self-clause-in_order g c =
    map_kept c.args.self.now.ends.items c.from.result (λ e. e.copy) c.index_mut.result.now c.stop-2.new.self c.index_mut.ensures.value c.stop-2.ensures.same.0
    ∙ c.args.self.now.in_order

pub invariant_of-self-clause-own : goal.invariant_of-self-clause-own
invariant_of-self-clause-own g c =
    all_same c.args.self.now.ends.items c.from.result (λ e. e.session) c.args.self.now.session c.index_mut.result.now c.stop-2.new.self (reaches c.args.self.now.ends.items c.from.result (λ e. e.copy) g.M.Mailed.copies c.args.copy c.args.self.now.in_order c.from.ensures c.requires.served) c.index_mut.ensures.value c.stop-2.ensures.same.1 c.args.self.now.own

pub invariant_of-self-clause-taken : goal.invariant_of-self-clause-taken
invariant_of-self-clause-taken g c =
    all_taken c.args.self.now.ends.items c.from.result (λ e. known_at e.pass) (λ e. put_at e.pass) c.index_mut.result.now c.stop-2.new.self (reaches c.args.self.now.ends.items c.from.result (λ e. e.copy) g.M.Mailed.copies c.args.copy c.args.self.now.in_order c.from.ensures c.requires.served) c.index_mut.ensures.value c.stop-2.ensures.put.1 c.stop-2.ensures.put.0
    c.args.self.now.taken

pub returns-clause-sent : goal.returns-clause-sent
returns-clause-sent g c = map_kept c.args.self.now.ends.items c.from.result (λ e. put_at e.pass) c.index_mut.result.now c.stop-2.new.self c.index_mut.ensures.value c.stop-2.ensures.put.0
