use Rattle.std.proofs.Common.{◌≡◌, List, refl, ap, ◌∙◌}
use Rattle.std.specs.Prelude.{filter}
use Rattle.qc_config.specs.declared.tuple.Tuple.{Tuple}
use Rattle.qc_event.specs.Seen.{changed_by, is_live_at}
use Rattle.qc_event.specs.Base.{Setting}
use Rattle.qc_event.specs.Legal.{Legal}
use Rattle.qc_event.proofs.RootAndTops.{root_alive}
use Rattle.qc_moss.specs.Locks.{Table, start_of}
use Rattle.qc_moss.proofs.Answering.{tuple}
use Rattle.qc_looks.proofs.tables.held.Goals as goal

pub returns-clause-follows : goal.returns-clause-follows
returns-clause-follows c = λ setting given legal follows. c.settle_by.ensures.follows c.args.history.now given (refl, (setting, legal)) follows

pub returns-clause-held : goal.returns-clause-held
returns-clause-held c = λ setting given legal follows.
    let past = c.args.history.now in
    let rec_ = c.args.ask.now.rec in
    let tells : (past ≡ past) × ((s : Setting) × Legal s past) = (refl, (setting, legal)) in
    let table : Table = c.settle_by.new.self in
    c.seen_by.ensures
    ∙ tuple past given table rec_ (c.settle_by.ensures.follows past given tells follows) (c.settle_by.ensures.settled past tells) (root_alive setting past legal)
    ∙ ap (λ (start : List Tuple). changed_by (start_of (record table { start = start }) rec_) (filter (is_live_at past rec_) given)) c.settle_by.ensures.start
