use Rattle.std.proofs.Common.{◌≡◌, ◌+◌, ◌++◌, ◌∷◌, [], true, false, below_more, refl, sym, ◌∙◌, subst, arith}
use Rattle.qc_event.specs.Users.{ChildAborted}
use Rattle.qc_event.proofs.FewerChildren.{fewer}
use Rattle.qc_looks.specs.Names.{IsAbortedManager}
use Rattle.qc_looks.proofs.Depths.{none_aborted, none_at_root, counted, is_one, nonempty}
use Rattle.qc_looks.proofs.names.is_child_aborted.Goals as goal

pub returns-then-is_empty : goal.returns-then-is_empty
returns-then-is_empty c =
    let past = c.args.history.now in
    let cause = c.args.cause.now in (
      λ e. absurd cc,
      λ is. absurd (none_at_root c.requires.legal.0 past cause c.requires.legal.1 (subst (λ m. ChildAborted past m cause) (c.is_empty.ensures.0 c.if-is_empty.true) is)),
    )

pub returns-then-len-gt-DEEPEST : goal.returns-then-len-gt-DEEPEST
returns-then-len-gt-DEEPEST c = (
  λ e. absurd cc,
  λ is. absurd (none_aborted c.requires.legal.0 c.args.history.now c.args.n.now c.args.cause.now c.requires.legal.1 (omega (arith, c.if-len-gt-DEEPEST.true, c.len.ensures.length)) is),
)

pub overflow_cast-k : goal.overflow_cast-k
overflow_cast-k c =
    let many = c.children-k-end.ensures c.requires.legal.0 c.requires.legal.1 in
    omega (arith, c.loop-k-test.true, many, fewer c.args.history.now c.args.n.now, c.len-most.ensures.bounded)

pub overflow_add-k : goal.overflow_add-k
overflow_add-k c =
    let many = c.children-k-end.ensures c.requires.legal.0 c.requires.legal.1 in
    omega (arith, c.loop-k-test.true, many, fewer c.args.history.now c.args.n.now, c.len-most.ensures.bounded)

pub returns-then-is_aborted_manager : goal.returns-then-is_aborted_manager
returns-then-is_aborted_manager c =
    let past = c.args.history.now in
    let cause = c.args.cause.now in
    let found = (c.is_aborted_manager.ensures c.requires.legal.0 c.requires.legal.1).0 c.if-is_aborted_manager.true in
    (λ e. is_one c.requires.legal.0 past c.args.n.now (c.loop-k.k + 1) cause (subst (λ m. IsAbortedManager past m cause) c.child.ensures found), λ is. refl)

pub loop-k-preserved : goal.loop-k-preserved
loop-k-preserved c =
    let past = c.args.history.now in
    let cause = c.args.cause.now in
    below_more (λ j. IsAbortedManager past (c.args.n.now ++ (j + 1) ∷ []) cause → ⊥) c.loop-k.k c.loop-k.invariant (λ is.
    let told = (c.is_aborted_manager.ensures c.requires.legal.0 c.requires.legal.1).1 (subst (λ m. IsAbortedManager past m cause) (sym c.child.ensures) is) in
    let clash : false ≡ true = sym c.if-is_aborted_manager.false ∙ told in
    absurd cc)

pub returns : goal.returns
returns c =
    let past = c.args.history.now in
    let n = c.args.n.now in
    let cause = c.args.cause.now in
    let many = c.children-k-end.ensures c.requires.legal.0 c.requires.legal.1 in
    let pos = nonempty n (λ root. let clash : false ≡ true = sym c.if-is_empty.false ∙ c.is_empty.ensures.1 root in absurd cc) in (
      λ e. absurd cc,
      λ is.
          let at = counted c.requires.legal.0 past n cause c.requires.legal.1 pos is in
          absurd (c.loop-k.invariant at.0 (omega (arith, at.1, c.loop-k-test.false, many)) at.2),
    )
