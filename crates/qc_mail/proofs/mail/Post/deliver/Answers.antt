use Rattle.std.proofs.Common.{arith, ◌≡◌, sym, ap, ◌∙◌, length, map}
use Rattle.std.proofs.lemmas.List.Elements.{All-set}
use Rattle.qc_mail.specs.Mails.{known_at, put_at, with_sent}
use Rattle.qc_mail.proofs.Numbers.{all_same, map_kept, number_is, reaches, sent_one}
use Rattle.qc_mail.proofs.mail.Post.deliver.Goals as goal

pub index_mut-requires : goal.index_mut-requires
index_mut-requires g c = omega (arith, reaches c.args.self.now.ends.items c.from.result (λ e. e.copy) g.M.Mailed.copies c.args.ask.now.copy c.args.self.now.in_order c.from.ensures c.requires.served)

pub deliver-requires-clause-same : goal.deliver-requires-clause-same
deliver-requires-clause-same g c =
    c.tray.ensures
    ∙ sym (number_is c.args.self.now.ends.items c.from.result (λ e. e.copy) g.M.Mailed.copies c.args.ask.now.copy c.index_mut.result.now c.args.self.now.in_order c.from.ensures c.requires.served c.index_mut.ensures.value)

pub invariant_of-self-clause-in_order : goal.invariant_of-self-clause-in_order
invariant_of-self-clause-in_order g c =
    map_kept c.args.self.now.ends.items c.from.result (λ e. e.copy) c.index_mut.result.now c.deliver.new.inlet c.index_mut.ensures.value c.deliver.ensures.same.0
    ∙ c.args.self.now.in_order

pub invariant_of-self-clause-own : goal.invariant_of-self-clause-own
invariant_of-self-clause-own g c =
    all_same c.args.self.now.ends.items c.from.result (λ e. e.session) c.args.self.now.session c.index_mut.result.now c.deliver.new.inlet (reaches c.args.self.now.ends.items c.from.result (λ e. e.copy) g.M.Mailed.copies c.args.ask.now.copy c.args.self.now.in_order c.from.ensures c.requires.served) c.index_mut.ensures.value c.deliver.ensures.same.1 c.args.self.now.own

pub invariant_of-self-clause-taken : goal.invariant_of-self-clause-taken
invariant_of-self-clause-taken g c =
    All-set (λ e. known_at e.pass ≡ length (put_at e.pass)) c.args.self.now.ends.items c.from.result c.deliver.new.inlet c.deliver.ensures.taken c.args.self.now.taken

pub returns-clause-sent : goal.returns-clause-sent
returns-clause-sent g c =
    sent_one c.args.self.now.ends.items c.from.result (λ e. put_at e.pass) c.index_mut.result.now c.deliver.new.inlet c.args.ask.now (reaches c.args.self.now.ends.items c.from.result (λ e. e.copy) g.M.Mailed.copies c.args.ask.now.copy c.args.self.now.in_order c.from.ensures c.requires.served) c.index_mut.ensures.value c.deliver.ensures.put
    ∙ ap (λ i. with_sent i c.args.ask.now (map (λ e. put_at e.pass) c.args.self.now.ends.items)) c.from.ensures
