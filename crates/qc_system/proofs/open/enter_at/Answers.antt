-- The next copy is entered.
use Rattle.std.proofs.Common.{◌≡◌, ◌+◌, ◌<◌, eqb-true, sym, ap, ◌∙◌, subst, arith, length}
use Rattle.qc_event.specs.Seats.{copy_seat}
use Rattle.qc_desk.specs.declared.view.View.{View}
use Rattle.qc_system.specs.Parts.{HaveEntered, IsMounted}
use Rattle.qc_system.proofs.Opening.{copy_entered, copy_of_pair, first_waits, given_next, none_entered, none_waits, room_for, waits_below}
use Rattle.qc_system.proofs.open.enter_at.Goals as goal

pub push_reserved-requires : goal.push_reserved-requires
push_reserved-requires g c =
    let copies = c.args.copies.now.items in
    let some : 0 < length copies = omega (arith, c.remove-pair.ensures.len, c.args.copies.now.ok.0) in
    omega (arith, c.args.folds.now.ok.0, room_for g.N.Mounting.found g.N.Store.base g.row.C c.args.folds.now.items (waits_below g.N.Store.base g.N.Mounting.found g.row.C copies some c.requires.waiting) c.requires.entered, c.requires.room)

pub new-requires : goal.new-requires
new-requires g c =
    let copies = c.args.copies.now.items in
    let low = c.requires.low in
    let given = (given_next c.args.first.now c.split-pass.new.pass c.split-pass.result (g.row.C + 1) c.requires.first (omega (arith, low)) c.split-pass.ensures.split).1 in
    let number : c.split-pass.result.number ≡ copy_seat g.row.C = ap (λ (v : View). v.number) given ∙ omega arith in
    let some : 0 < length copies = omega (arith, c.remove-pair.ensures.len, c.args.copies.now.ok.0) in
    let mounted = subst (IsMounted g.N.Store.base g.N.Mounting.found g.row.C) (sym c.remove-pair.ensures.value) (first_waits g.N.Store.base g.N.Mounting.found g.row.C copies c.remove-pair.result some c.requires.waiting) in (
      omega arith,
      (
        low,
        (
          (ap (λ (v : View). v.live) given, number),
          (
            (ap (λ (v : View). v.mine) given, ap (λ (v : View). v.out) given),
            (ap (λ (v : View). v.kin) given, copy_of_pair g.N.Store.base g.N.Mounting.found g.row.C c.remove-pair.result mounted),
          ),
        ),
      ),
    )

pub returns-then-is_empty-clause-waiting : goal.returns-then-is_empty-clause-waiting
returns-then-is_empty-clause-waiting g c =
    none_waits g.N.Store.base g.N.Mounting.found g.row.C c.args.copies.now.items (sym c.args.copies.now.ok.0 ∙ eqb-true c.args.copies.now.len 0 (sym c.is_empty.ensures ∙ c.if-is_empty.true)) c.requires.waiting

pub returns-then-is_empty-clause-entered : goal.returns-then-is_empty-clause-entered
returns-then-is_empty-clause-entered g c =
    let none = sym c.args.copies.now.ok.0 ∙ eqb-true c.args.copies.now.len 0 (sym c.is_empty.ensures ∙ c.if-is_empty.true) in
    none_entered g.N.Mounting.found g.N.Store.base g.row.C c.args.folds.now.items (omega (arith, none, c.requires.waiting.0)) c.requires.entered

pub returns-clause-entered : goal.returns-clause-entered
returns-clause-entered g c =
    let copies = c.args.copies.now.items in
    let some : 0 < length copies = omega (arith, c.remove-pair.ensures.len, c.args.copies.now.ok.0) in
    let mounted = subst (IsMounted g.N.Store.base g.N.Mounting.found g.row.C) (sym c.remove-pair.ensures.value) (first_waits g.N.Store.base g.N.Mounting.found g.row.C copies c.remove-pair.result some c.requires.waiting) in
    subst (HaveEntered g.N.Store.base g.N.Mounting.found (g.row.C + 1)) (sym c.push_reserved.ensures.items)
    (copy_entered g.N.Mounting.found g.N.Store.base g.row.C c.args.folds.now.items c.remove-pair.result.fold (waits_below g.N.Store.base g.N.Mounting.found g.row.C copies some c.requires.waiting) c.requires.entered mounted.other)
