-- The bodies so far with the next.
use Rattle.std.proofs.Common.{refl, sym, ◌∙◌, subst, arith, List, ℕ}
use mathlib.Core.Bool.{true≢false}
use Rattle.std.proofs.lemmas.Bool.{OnTrue_at}
use Rattle.std.specs.Prelude.{MatchOption}
use Rattle.qc_event.specs.declared.event.Grant.{Grant}
use Rattle.qc_codec.specs.Copy.{grant_in, MayFollow}
use Rattle.qc_codec.specs.Form.{all_of}
use Rattle.qc_journal.specs.Image.{bodies_of}
use Rattle.qc_site.specs.Granted.{given_by}
use Rattle.qc_site.specs.Reading.{IsLaterBad}
use Rattle.qc_site.specs.Refusing.{IsOfBytes}
use Rattle.qc_site.proofs.Rests.{HasBegun, base_kept, begun, keeps_on, later_bad}
use Rattle.qc_site.proofs.reading.read_rest.Goals as goal

pub loop-index-init : goal.loop-index-init
loop-index-init c =
    let disk = c.args.who in
    let table = c.args.table.now in
    let past = c.args.past.now in
    let bodies = c.args.bodies.now in
    let base = c.args.base.now in
    let b = subst (HasBegun disk table past c.args.format base bodies) (sym c.in_front-index.ensures) (begun disk table past c.args.format base bodies c.requires.some c.requires.made c.requires.base c.requires.old) in
    record { told = c.new-granted.ensures.none ∙ sym b.told; order = b.order; based = b.based; begun = b.some; accesses = c.new-granted.ensures.accesses }

pub returns-then-not-branch-clause-fault : goal.returns-then-not-branch-clause-fault
returns-then-not-branch-clause-fault c =
    let table = c.args.table.now in
    let past = c.args.past.now in
    let bodies = c.args.bodies.now in
    let epoch = c.epoch_of-epoch.result in
    let v = c.index-bodies-index.result in
    let tells = c.in_ok-take_next.ensures.tells in
    subst (IsOfBytes c.args.who (IsLaterBad c.args.who table past (bodies_of bodies))) (sym c.image_no.ensures) (
      refl,
      later_bad c.args.who table past bodies c.loop-index.index v c.loop-index-test.true c.index-bodies-index.is c.loop-index.invariant.begun c.loop-index.invariant.order
          c.args.format c.requires.format c.args.base.now c.requires.base c.loop-index.invariant.based epoch c.epoch_of-epoch.ensures
          (λ may. true≢false (sym (tells.1 (subst (λ (b : List ℕ). MatchOption (all_of (grant_in c.args.format table) b) ⊥ (MayFollow table past epoch (given_by c.loop-index.granted))) (sym c.as_slice.ensures.value) (subst (λ (gs : List Grant). MatchOption (all_of (grant_in c.args.format table) v.items) ⊥ (MayFollow table past epoch gs)) (sym c.loop-index.invariant.told) may))) ∙ c.if-not-branch.true)),
    )

pub loop-index-preserved : goal.loop-index-preserved
loop-index-preserved c =
    let disk = c.args.who in
    let table = c.args.table.now in
    let past = c.args.past.now in
    let bodies = c.args.bodies.now in
    let base = c.args.base.now in
    let epoch = c.epoch_of-epoch.result in
    let i = c.loop-index.index in
    let v = c.index-bodies-index.result in
    let was = c.loop-index.invariant in
    let went = c.in_ok-take_next.ensures in
    let next = keeps_on disk table past bodies i v c.loop-index-test.true c.index-bodies-index.is was.begun was.order c.args.format c.requires.format base c.requires.base was.based epoch c.epoch_of-epoch.ensures _ c.as_slice.result.now c.as_slice.ensures.value
    was.told (went.tells.0 c.if-not-branch.false) in
    record {
      told = OnTrue_at c.if-not-branch.false went.taken ∙ next.0;
      order = next.1;
      based = base_kept disk table past bodies i v c.loop-index-test.true c.index-bodies-index.is was.begun was.order c.args.format c.requires.format base c.requires.base was.based epoch c.epoch_of-epoch.ensures;
      begun = omega (arith, was.begun);
      accesses = OnTrue_at c.if-not-branch.false went.accesses;
    }
