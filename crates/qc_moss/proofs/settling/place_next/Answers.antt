use Rattle.std.proofs.Common.{◌≡◌, suc, ◌+◌, ◌-◌, ◌<◌, true, length, take, get_or, sym, ap, ◌∙◌, arith}
use Rattle.std.specs.Prelude.{slice_set}
use Rattle.std.proofs.lemmas.List.{get_or_default}
use Rattle.qc_event.specs.History.{same}
use Rattle.qc_moss.specs.declared.holder.Holder.{Holder}
use Rattle.qc_moss.specs.Locks as locks
use Rattle.qc_moss.proofs.Placing.{place_joined, place_alone}
use Rattle.qc_moss.proofs.settling.place_next.Goals as goal
use Rattle.qc_moss.proofs.settling.place_next.Goals.{else-kept-gt0-via-then-kept-gt0+else-eq, else-kept-gt0-via-else-kept-gt0}

pub returns-then-eq-clause-first : goal.returns-then-eq-clause-first
returns-then-eq-clause-first c =
    let xs = c.args.held.now.items in
    let h = c.args.holder.now in
    let i = c.args.kept - 1 in
    let d = c.index.result.now in
    let kept : c.args.kept ≡ suc i = omega (arith, c.if-kept-gt0.true) in
    let inside : i < length xs = omega (arith, c.requires, c.args.held.now.ok) in
    let here : same (get_or xs i d).at h.at ≡ true = ap (λ (x : Holder). same x.at h.at) (sym c.index.ensures) ∙ sym c.eq.ensures ∙ c.if-eq.true in
    ap (λ k. take k (slice_set xs i c.joined.result)) kept
    ∙ ap (λ j. take (suc i) (slice_set xs i j)) (c.joined.ensures ∙ ap (λ x. locks.joined x h) (c.index-then-eq.ensures ∙ get_or_default xs i c.index-then-eq.result.now d inside))
    ∙ place_joined xs i h d inside here
    ∙ ap (λ k. locks.with_neighbour (take k xs) h) (sym kept)

pub returns-else-kept-gt0-clause-first : goal.returns-else-kept-gt0-clause-first
returns-else-kept-gt0-clause-first c =
    let xs = c.args.held.now.items in
    let h = c.args.holder.now in
    let k = c.args.kept in
    let more : k + 1 ≡ suc k = omega arith in
    ap (λ n. take n (slice_set xs k h)) more
    ∙ place_alone xs k h h (omega (arith, c.requires, c.args.held.now.ok)) (λ i is. elim c.else-kept-gt0.branch [
      | else-kept-gt0-via-then-kept-gt0+else-eq w ↦
          let last : i ≡ k - 1 = omega (arith, is) in
          ap (λ n. same (get_or xs n h).at h.at) last
          ∙ ap (λ (x : Holder). same x.at h.at) (get_or_default xs (k - 1) h w.index.result.now (omega (arith, is, c.requires, c.args.held.now.ok)) ∙ sym w.index.ensures)
          ∙ sym w.eq.ensures ∙ w.if-eq.false
      | else-kept-gt0-via-else-kept-gt0 w ↦ absurd (omega (arith, is, w.if-kept-gt0.false))
    ])
