-- The bodies so far with the next.
use Rattle.std.proofs.Common.{refl, sym, ◌∙◌, subst, arith}
use mathlib.Core.Bool.{true≢false}
use Rattle.std.proofs.lemmas.Bool.{OnTrue_at}
use Rattle.qc_codec.specs.Form.{all_of}
use Rattle.qc_codec.specs.Bodies as body
use Rattle.qc_codec.specs.Ledger.{MayFollow}
use Rattle.qc_journal.specs.Image.{bodies_of}
use Rattle.std.specs.Prelude.{MatchOption}
use Rattle.qc_ledger.specs.Reading.{IsLaterBad}
use Rattle.qc_ledger.specs.Refusing.{IsOfBytes}
use Rattle.qc_ledger.specs.Seen.{told_by}
use Rattle.qc_ledger.proofs.Firsts.{keeps_on, later_bad}
use Rattle.qc_ledger.proofs.reading.read_rest.Goals as goal

pub loop-index-init : goal.loop-index-init
loop-index-init c =
    let front = c.in_ok-seen.ensures.read in
    record { told = front.told; order = front.order; begun = front.some; base = front.base; numbers = front.numbers }

pub returns-then-not-branch-clause-fault : goal.returns-then-not-branch-clause-fault
returns-then-not-branch-clause-fault c =
    let bodies = c.args.bodies.now in
    let i = c.loop-index.index in
    let v = c.index-bodies-index.result in
    let tells = c.in_ok-take_next.ensures.tells in
    subst (IsOfBytes c.args.who (IsLaterBad c.args.who (bodies_of bodies))) (sym c.image_no.ensures) (
      refl,
      later_bad bodies i v c.loop-index-test.true c.index-bodies-index.is c.args.who c.loop-index.invariant.begun c.loop-index.invariant.base c.loop-index.invariant.order
          (λ may. true≢false (sym (tells.1 (subst (λ b. MatchOption (all_of body.ledger b) ⊥ (MayFollow (told_by c.loop-index.seen))) (sym c.as_slice.ensures.value) (subst (λ p. MatchOption (all_of body.ledger v.items) ⊥ (MayFollow p)) (sym c.loop-index.invariant.told) may))) ∙ c.if-not-branch.true)),
    )

pub loop-index-preserved : goal.loop-index-preserved
loop-index-preserved c =
    let went = c.in_ok-take_next.ensures in
    let next = keeps_on c.args.bodies.now c.loop-index.index c.index-bodies-index.result c.loop-index-test.true c.index-bodies-index.is c.args.who _ c.as_slice.result.now c.loop-index.invariant.begun c.as_slice.ensures.value
    c.loop-index.invariant.base c.loop-index.invariant.told c.loop-index.invariant.order (went.tells.0 c.if-not-branch.false) in
    record {
      told = OnTrue_at c.if-not-branch.false went.taken ∙ next.0;
      order = next.1;
      begun = omega (arith, c.loop-index.invariant.begun);
      base = next.2;
      numbers = OnTrue_at c.if-not-branch.false went.numbers;
    }
