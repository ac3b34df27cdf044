-- What was found on the disk is kept, and nothing of this run.
use Rattle.std.proofs.Common.{sym, ap, ◌∙◌, subst}
use Rattle.qc_event.specs.Listed.{listed}
use Rattle.qc_journal.specs.Journal.{limit_of}
use Rattle.qc_ledger.specs.Entered.{KeepsLogged, tops_of}
use Rattle.qc_ledger.specs.Since.{TopsGrow}
use Rattle.qc_desk.specs.declared.view.View.{View}
use Rattle.qc_system.specs.Grown.{LeftAlike}
use Rattle.qc_system.specs.Kept.{HadNoRoom, Pays, downs}
use Rattle.qc_system.proofs.Grown.{disk_in}
use Rattle.qc_system.proofs.Paying.{faults_of, pays_first}
use Rattle.qc_system.proofs.held_ledger.HeldLedger.new.Goals as goal

pub invariant_of-result : goal.invariant_of-result
invariant_of-result g c =
    let found = c.requires.found in
    let ledger = c.enter.result in
    let told = listed ledger.pass.seen in
    let first = (g.N.Mounting.found.active 0).first in
    let none = ap (λ (v : View). downs v.mine) c.enter.ensures.pass ∙ ap downs c.requires.fresh.0 in
    record {
      keeps = ∣ (λ tells. (
        subst (λ b. KeepsLogged told b ledger.shelf (tops_of ledger.pass.mine)) (sym found.same) (c.enter.ensures.over told c.requires.fresh.0 (found.keeps tells)),
        record {
          began = subst (λ j. LeftAlike first (disk_in j)) (sym c.enter.ensures.journal) found.left;
          grown = subst (λ b. TopsGrow told b first.moment ledger.shelf ledger.pass.seen) (sym found.same) (c.enter.ensures.grown told first.moment found.at (found.keeps tells));
        },
      )) ∣₁;
      pays = subst (λ n. Pays first.faults n (faults_of ledger.shelf.journal)) (sym none) (pays_first first.faults (faults_of ledger.shelf.journal) (found.count ∙ sym (ap faults_of c.enter.ensures.journal)));
      limit = ap limit_of c.enter.ensures.journal ∙ c.requires.limit;
      full = ∣ (λ tells. subst (HadNoRoom told (g.N.Mounting.found.active 0).before g.N.Mounting.found.limit) (sym (ap (λ (v : View). v.mine) c.enter.ensures.pass ∙ c.requires.fresh.0)) tt) ∣₁;
    }
