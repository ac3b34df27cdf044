use Rattle.std.proofs.Common.{◌+◌, ◌∷◌, ◌++◌, ◌∙◌, [], refl, sym, ap, subst, map, append-nil, append_assoc, drop, take, length, length-append}
use Rattle.std.proofs.lemmas.List.{map-append, take-append-drop}
use Rattle.qc_script.specs.Steps.{numbered}
use Rattle.qc_interp.specs.AtOnce.{stands, BeganInTurn, BeganSome}
use Rattle.qc_interp.proofs.Branching.Begins.{begun_legal, begun_started, not_begun_legal}
use Rattle.qc_interp.proofs.Rows.Met.{all_met}
use Rattle.qc_interp.proofs.Listing.InOrder.{next_taken, some_left}
use Rattle.qc_interp.proofs.Stepping.Results.{any_err, same_err}
use Rattle.qc_interp.proofs.body.row.begin_all.Goals as goal

pub returns-in_err-begin_one-clause-err : goal.returns-in_err-begin_one-clause-err
returns-in_err-begin_one-clause-err g c =
    let view = g.T.Tx.view in
    let now = view c.loop-body.tx in
    same_err (λ why. BeganSome (view c.args.tx.now) c.args.of.now (map (stands view) c.loop-body.branches.items) (view c.begin_one.new.tx) why) c.from_residual.result c.in_err-begin_one.field-0.0 c.from_residual.ensures.1 (
      now,
      subst (λ l. BeganInTurn (view c.args.tx.now) c.args.of.now l now) (append-nil (map (stands view) c.loop-body.branches.items)) (c.loop-body.invariant.front [] now refl),
      c.in_err-begin_one.ensures.err,
    )

pub returns-in_err-begin_one-clause-first : goal.returns-in_err-begin_one-clause-first
returns-in_err-begin_one-clause-first g c =
    let i = c.loop-body.body-index in
    let bodies = c.args.bodies.now in
    any_err _ c.from_residual.result (
      map numbered (drop i bodies),
      some_left numbered bodies i c.loop-body-test.true,
      ap (map numbered) (sym (take-append-drop i bodies)) ∙ map-append numbered (take i bodies) (drop i bodies) ∙ ap (λ l. l ++ map numbered (drop i bodies)) (sym c.loop-body.invariant.bodies),
    )

pub loop-body-preserved : goal.loop-body-preserved
loop-body-preserved g c =
    let view = g.T.Tx.view in
    let inv = c.loop-body.invariant in
    let of = c.args.of.now in
    let b = c.in_ok-begin_one.field-0 in
    let u = view c.loop-body.tx in
    let w = view c.begin_one.new.tx in
    let items = c.push_reserved.ensures.items in
    record {
      met = c.begin_one.ensures.met;
      legal = begun_legal u w of (stands view b) c.in_ok-begin_one.ensures.ok;
      parent = begun_started u w of (stands view b) c.in_ok-begin_one.ensures.ok inv.parent;
      capacity = c.push_reserved.ensures.capacity ∙ inv.capacity;
      long = ap length items ∙ length-append c.loop-body.branches.items (b ∷ []) ∙ ap (λ n. n + 1) inv.long;
      bodies = ap (map (λ x. numbered x.body.now)) items ∙ map-append (λ x. numbered x.body.now) c.loop-body.branches.items (b ∷ [])
          ∙ ap (λ l. l ++ numbered b.body.now ∷ []) inv.bodies
          ∙ ap (λ n. map numbered (take c.loop-body.body-index c.args.bodies.now) ++ n ∷ []) (c.in_ok-begin_one.ensures.body.0 ∙ ap numbered c.body-item.is)
          ∙ sym (map-append numbered (take c.loop-body.body-index c.args.bodies.now) _)
          ∙ ap (map numbered) (sym (next_taken c.args.bodies.now c.loop-body.body-index c.body-item.result c.loop-body-test.true));
      front = λ rest x chain.
          subst (λ l. BeganInTurn (view c.args.tx.now) of l x)
          (ap (λ l. l ++ stands view b ∷ rest) refl ∙ sym (append_assoc (map (stands view) c.loop-body.branches.items) (stands view b ∷ []) rest) ∙ ap (λ l. l ++ rest) (sym (ap (map (stands view)) items ∙ map-append (stands view) c.loop-body.branches.items (b ∷ []))))
          (inv.front (stands view b ∷ rest) x (w, c.in_ok-begin_one.ensures.ok, chain));
    }

pub returns-clause-ok : goal.returns-clause-ok
returns-clause-ok g c =
    let view = g.T.Tx.view in
    subst (λ l. BeganInTurn (view c.args.tx.now) c.args.of.now l (view c.loop-body.tx)) (append-nil (map (stands view) c.loop-body.branches.items)) (c.loop-body.invariant.front [] (view c.loop-body.tx) refl)

pub returns-in_err-begin_one-clause-legal : goal.returns-in_err-begin_one-clause-legal
returns-in_err-begin_one-clause-legal g c = not_begun_legal (g.T.Tx.view c.loop-body.tx) (g.T.Tx.view c.begin_one.new.tx) c.args.of.now (numbered c.body-item.result) c.in_err-begin_one.field-0.0 c.in_err-begin_one.ensures.err

pub returns-in_err-begin_one-clause-all_met : goal.returns-in_err-begin_one-clause-all_met
returns-in_err-begin_one-clause-all_met g c =
    let view = g.T.Tx.view in
    let now = view c.loop-body.tx in
    all_met (view c.args.tx.now) now c.args.of.now (map (stands view) c.loop-body.branches.items)
    (subst (λ l. BeganInTurn (view c.args.tx.now) c.args.of.now l now) (append-nil (map (stands view) c.loop-body.branches.items)) (c.loop-body.invariant.front [] now refl))

pub returns-clause-all_met : goal.returns-clause-all_met
returns-clause-all_met g c =
    let view = g.T.Tx.view in
    let now = view c.loop-body.tx in
    all_met (view c.args.tx.now) now c.args.of.now (map (stands view) c.loop-body.branches.items)
    (subst (λ l. BeganInTurn (view c.args.tx.now) c.args.of.now l now) (append-nil (map (stands view) c.loop-body.branches.items)) (c.loop-body.invariant.front [] now refl))
