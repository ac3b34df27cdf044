use Rattle.std.proofs.Common.{sym, ap, ◌∙◌}
use Rattle.qc_moss.specs.Locks.{test_of}
use Rattle.qc_config.specs.Tuple.{after}
use Rattle.qc_moss.specs.declared.consulting.Verdict.TheVariants as verdicts
use Rattle.qc_moss.proofs.Verdicts.{held_told, free_told}
use Rattle.qc_moss.proofs.consulting.consult_locks.Goals as goal

pub returns-in-Held-clause-verdict : goal.returns-in-Held-clause-verdict
returns-in-Held-clause-verdict g c = λ past given tells follows.
    let ask = c.args.ask.now in
    let settled = c.settle_by.ensures in
    sym (held_told past c.args.locks.now given ask (sym (c.dead.ensures past tells) ∙ c.in_default.is) c.settle_by.new.self
    (record { follows = settled.follows past given tells follows; settled = settled.settled past tells; same_start = settled.start })
    c.in-Held.first
    (ap (test_of c.settle_by.new.self ask.access ask.rec) (sym c.is_write.ensures) ∙ sym c.test.ensures ∙ c.in-Held.is))

pub returns-in-Free-clause-verdict : goal.returns-in-Free-clause-verdict
returns-in-Free-clause-verdict g c = λ past given tells follows.
    let ask = c.args.ask.now in
    let settled = c.settle_by.ensures in
    ap (λ t. verdicts.Free t) (c.after.ensures ∙ ap (λ t. after t ask.op) c.seen_by.ensures)
    ∙ sym (free_told past c.args.locks.now given ask (sym (c.dead.ensures past tells) ∙ c.in_default.is) c.settle_by.new.self
    (record { follows = settled.follows past given tells follows; settled = settled.settled past tells; same_start = settled.start })
    (ap (test_of c.settle_by.new.self ask.access ask.rec) (sym c.is_write.ensures) ∙ sym c.test.ensures ∙ c.in-Free.is))
