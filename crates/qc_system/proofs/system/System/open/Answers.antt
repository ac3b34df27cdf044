-- The ledger is entered, and then the copies, one after another.
use Rattle.std.proofs.Common.{◌≡◌, ◌∙◌, ap, arith, length, subst, sym}
use Rattle.qc_system.specs.Parts.{HaveEntered, IsOpening}
use Rattle.qc_system.proofs.Opening.{all_entered, given_next, ledger_entered, named_opens, opens_next}
use Rattle.qc_system.proofs.system.System.open.Goals as goal

pub push_reserved-requires : goal.push_reserved-requires
push_reserved-requires g c = omega (arith, c.args.parts.folds.ok.0, ap length c.requires.none.1, c.requires.room)

pub enter_four-from0-requires : goal.enter_four-from0-requires
enter_four-from0-requires g c =
    let named = c.name-desk.result.1 in
    let opens : IsOpening named 0 = named_opens named c.name-desk.ensures.pass in
    let first = opens_next named c.split-pass.new.pass 0 opens (given_next named c.split-pass.new.pass c.split-pass.result 0 opens (omega arith) c.split-pass.ensures.split).0 in
    let entered = subst (HaveEntered g.N.Store.base g.N.Mounting.found 0) (sym c.push_reserved.ensures.items) (ledger_entered g.N.Mounting.found g.N.Store.base c.args.parts.folds.items c.args.parts.ledger.fold c.requires.none.1 c.requires.ledger.other) in
    (omega arith, (omega arith, (omega arith, (first, ((omega (arith, c.requires.many), c.requires.copies), (entered, omega (arith, c.push_reserved.ensures.capacity, c.requires.room)))))))

pub enter_four-from4-requires : goal.enter_four-from4-requires
enter_four-from4-requires g c =
    (omega arith, (omega arith, (omega arith, (c.enter_four-from0.ensures.first, (c.enter_four-from0.ensures.waiting, (c.enter_four-from0.ensures.entered, c.enter_four-from0.ensures.room))))))

pub enter_four-from8-requires : goal.enter_four-from8-requires
enter_four-from8-requires g c =
    (omega arith, (omega arith, (omega arith, (c.enter_four-from4.ensures.first, (c.enter_four-from4.ensures.waiting, (c.enter_four-from4.ensures.entered, c.enter_four-from4.ensures.room))))))

pub enter_four-from12-requires : goal.enter_four-from12-requires
enter_four-from12-requires g c =
    (omega arith, (omega arith, (omega arith, (c.enter_four-from8.ensures.first, (c.enter_four-from8.ensures.waiting, (c.enter_four-from8.ensures.entered, c.enter_four-from8.ensures.room))))))

pub returns-clause-others : goal.returns-clause-others
returns-clause-others g c = record {
  many = all_entered g.N.Mounting.found g.N.Store.base c.enter_four-from12.new.folds.items c.requires.proper.base.most_copies c.enter_four-from12.ensures.entered;
  are = c.enter_four-from12.ensures.entered.1;
  none = c.requires.none.0;
}

pub invariant_of-result : goal.invariant_of-result
invariant_of-result g c =
    let whole : c.len-all.result ≡ length g.N.Store.base = c.len-all.ensures ∙ c.args.parts.copies.ok.0 ∙ c.requires.many in
    record {
      few = omega (arith, whole, c.requires.proper.base.most_copies);
      whole = whole;
      proper = c.requires.proper;
    }
