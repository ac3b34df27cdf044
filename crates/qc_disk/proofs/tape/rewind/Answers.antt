-- One call more is undone, and the others are left.
use Rattle.std.proofs.Common.{◌≡◌, length, take, refl, sym, ◌∙◌, ap₂, arith}
use Rattle.std.proofs.lemmas.List.{take_all, take-take}
use Rattle.qc_disk.specs.Kept.{acts_of, past_kept}
use Rattle.qc_disk.proofs.Kept.{kept_count, acts_count, back-exact, back-first, back-acts}
use Rattle.qc_disk.proofs.tape.rewind.Goals as goal

pub loop-left-init : goal.loop-left-init
loop-left-init c =
    let past = c.args.past in
    let all = acts_of (past_kept past) c.args.bytes.now.items in
    record {
      within = c.requires.count;
      exact = c.requires.exact;
      first = refl;
      acts = sym (take_all (length past.calls.now) all (omega (arith, acts_count (past_kept past) c.args.bytes.now.items, kept_count past.calls.now past.changes.now past.lost.now)));
    }

pub loop-left-preserved : goal.loop-left-preserved
loop-left-preserved c =
    let left = c.loop-left.left in
    let before = c.in_ok-left.left in
    let now = c.loop-left.bytes.items in
    let was = c.step_back.new.bytes.items in
    let back = c.in_ok-left.ensures.back in
    let fewer = c.in_ok-left.ensures.calls in
    let was_more = c.loop-left-test.true in
    let count : length (past_kept before) ≡ length before.calls.now = kept_count before.calls.now before.changes.now before.lost.now in
    record {
      within = omega (arith, fewer, was_more);
      exact = back-exact (past_kept left) (past_kept before) now was back c.loop-left.invariant.exact;
      first = back-first (past_kept left) (past_kept before) now was back ∙ c.loop-left.invariant.first;
      acts = back-acts (past_kept left) (past_kept before) now was back
          ∙ ap₂ take count c.loop-left.invariant.acts
          ∙ take-take (length before.calls.now) (length left.calls.now) _ (omega (arith, fewer));
    }
