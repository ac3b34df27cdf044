use Rattle.std.proofs.Common.{◌≡◌, arith, length, refl, sym, ◌∙◌}
use Rattle.qc_mail.specs.Mails.{known_at, put_at, got_at}
use Rattle.qc_mail.proofs.Numbers.{all_same, all_taken, at_place, map_kept, number_is, reaches}
use Rattle.qc_mail.proofs.Whole.{has_all, whole}
use Rattle.qc_mail.proofs.settling.settle_one.Goals as goal

pub index_mut-requires : goal.index_mut-requires
index_mut-requires g c = omega (arith, reaches c.args.post.now.ends.items c.from.result (λ e. e.copy) g.M.Mailed.copies c.args.stub.now.outlet.copy c.args.post.now.in_order c.from.ensures c.args.stub.now.outlet.within)

pub settle-requires : goal.settle-requires
settle-requires g c =
    let there = number_is c.args.post.now.ends.items c.from.result (λ e. e.copy) g.M.Mailed.copies c.args.stub.now.outlet.copy c.index_mut.result.now c.args.post.now.in_order c.from.ensures c.args.stub.now.outlet.within c.index_mut.ensures.value in
    record { same = (c.tray.ensures ∙ sym there, sym there) }

pub invariant_of-post-clause-in_order : goal.invariant_of-post-clause-in_order
invariant_of-post-clause-in_order g c =
    map_kept c.args.post.now.ends.items c.from.result (λ e. e.copy) c.index_mut.result.now c.settle.new.self c.index_mut.ensures.value c.settle.ensures.same.0
    ∙ c.args.post.now.in_order

pub invariant_of-post-clause-own : goal.invariant_of-post-clause-own
invariant_of-post-clause-own g c =
    let within = reaches c.args.post.now.ends.items c.from.result (λ e. e.copy) g.M.Mailed.copies c.args.stub.now.outlet.copy c.args.post.now.in_order c.from.ensures c.args.stub.now.outlet.within in
    all_same c.args.post.now.ends.items c.from.result (λ e. e.session) c.args.post.now.session c.index_mut.result.now c.settle.new.self within c.index_mut.ensures.value c.settle.ensures.same.1 c.args.post.now.own

pub invariant_of-post-clause-taken : goal.invariant_of-post-clause-taken
invariant_of-post-clause-taken g c =
    let within = reaches c.args.post.now.ends.items c.from.result (λ e. e.copy) g.M.Mailed.copies c.args.stub.now.outlet.copy c.args.post.now.in_order c.from.ensures c.args.stub.now.outlet.within in
    all_taken c.args.post.now.ends.items c.from.result (λ e. known_at e.pass) (λ e. put_at e.pass) c.index_mut.result.now c.settle.new.self within c.index_mut.ensures.value c.settle.ensures.put.1 c.settle.ensures.put.0 c.args.post.now.taken

pub returns-clause-post : goal.returns-clause-post
returns-clause-post g c = (refl, map_kept c.args.post.now.ends.items c.from.result (λ e. put_at e.pass) c.index_mut.result.now c.settle.new.self c.index_mut.ensures.value c.settle.ensures.put.0)

pub returns-clause-all : goal.returns-clause-all
returns-clause-all g c =
    let ends = c.args.post.now.ends.items in
    let e = c.index_mut.result.now in
    let got = got_at c.args.stub.now.outlet.pass in
    let within = reaches ends c.from.result (λ e. e.copy) g.M.Mailed.copies c.args.stub.now.outlet.copy c.args.post.now.in_order c.from.ensures c.args.stub.now.outlet.within in
    let own = at_place ends c.from.result (λ e. e.session ≡ c.args.post.now.session) e within c.index_mut.ensures.value c.args.post.now.own in
    let taken = at_place ends c.from.result (λ e. known_at e.pass ≡ length (put_at e.pass)) e within c.index_mut.ensures.value c.args.post.now.taken in
    has_all (λ e. put_at e.pass) ends c.from.result c.args.stub.now.outlet.copy c.args.post.now.session e.session e got c.from.ensures within c.index_mut.ensures.value own
    (whole e.session (known_at e.pass) got c.settle.ensures.beginning.0 (put_at e.pass) c.settle.ensures.beginning.1 taken c.settle.ensures.known)
