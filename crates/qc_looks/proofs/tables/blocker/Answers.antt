use Rattle.std.proofs.Common.{◌≡◌, refl, ap, ◌∙◌}
use Rattle.qc_event.specs.Base.{Setting}
use Rattle.qc_event.specs.Legal.{Legal}
use Rattle.qc_event.proofs.RootAndTops.{root_alive}
use Rattle.qc_moss.specs.Consulting.{blocker}
use Rattle.qc_moss.specs.Locks.{test_of}
use Rattle.qc_moss.proofs.Answering.{free}
use Rattle.qc_looks.specs.Tables.{first_of}
use Rattle.qc_looks.proofs.Tabling.{first_tested}
use Rattle.qc_looks.proofs.tables.blocker.Goals as goal

pub returns-clause-follows : goal.returns-clause-follows
returns-clause-follows c = λ setting given legal follows. c.settle_by.ensures.follows c.args.history.now given (refl, (setting, legal)) follows

pub returns-clause-blocker : goal.returns-clause-blocker
returns-clause-blocker c = λ setting given legal follows.
    let past = c.args.history.now in
    let ask = c.args.ask.now in
    let tells : (past ≡ past) × ((s : Setting) × Legal s past) = (refl, (setting, legal)) in
    let table = c.settle_by.new.self in
    c.first_of.ensures
    ∙ ap first_of (c.test.ensures ∙ ap (test_of table ask.access ask.rec) c.is_write.ensures
    ∙ free past given table ask.access ask.rec ask.op (c.settle_by.ensures.follows past given tells follows) (c.settle_by.ensures.settled past tells) (root_alive setting past legal))
    ∙ first_tested (blocker past given ask)
