-- What stands second is a base, or there is none.
use Rattle.std.proofs.Common.{sym, ap, ◌∙◌, length}
use Rattle.qc_codec.specs.Bodies as body
use Rattle.qc_codec.specs.Fields.{layout}
use Rattle.qc_codec.specs.Form.{all_of}
use Rattle.qc_codec.specs.declared.past.Past.{Past}
use Rattle.qc_ledger.specs.Seen.{with_base}
use Rattle.qc_ledger.proofs.Firsts.{above_one, alone_read, no_base_read, two_read}
use Rattle.qc_ledger.proofs.reading.read_front.Goals as goal

pub returns-then-bodies-eq1-clause-read : goal.returns-then-bodies-eq1-clause-read
returns-then-bodies-eq1-clause-read c = alone_read c.args.who c.args.bodies.now c.new-seen.result c.if-bodies-eq1.true c.requires.made c.new-seen.ensures.none c.new-seen.ensures.numbers

pub returns-then-branch-clause-read : goal.returns-then-branch-clause-read
returns-then-branch-clause-read c =
    let took = c.in_ok-take_base.ensures in
    two_read c.args.who (layout c.args.copies c.args.format) c.index-bodies-1.result c.as_slice.result.now c.as_slice.ensures.value c.take_base.new.seen c.args.bodies.now (above_one (length c.args.bodies.now) c.requires.some c.if-bodies-eq1.false) c.index-bodies-1.is c.requires.made c.requires.over
    (sym took.tells ∙ c.if-branch.true)
    (took.taken ∙ ap (λ (p : Past). with_base p (all_of (body.base (layout c.args.copies c.args.format) 0) c.as_slice.result.now)) c.new-seen.ensures.none)
    took.numbers

pub returns-clause-read : goal.returns-clause-read
returns-clause-read c =
    let took = c.in_ok-take_base.ensures in
    no_base_read c.args.who (layout c.args.copies c.args.format) c.index-bodies-1.result c.as_slice.result.now c.as_slice.ensures.value c.take_base.new.seen c.args.bodies.now (above_one (length c.args.bodies.now) c.requires.some c.if-bodies-eq1.false) c.index-bodies-1.is c.requires.made c.requires.over
    (sym took.tells ∙ c.if-branch.false)
    (took.taken ∙ ap (λ (p : Past). with_base p (all_of (body.base (layout c.args.copies c.args.format) 0) c.as_slice.result.now)) c.new-seen.ensures.none)
    took.numbers
