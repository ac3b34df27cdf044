use Rattle.std.proofs.Common.{[], ◌∙◌, ap, sym, subst}
use Rattle.std.specs.Prelude.{slice_index_or}
use Rattle.qc_event.specs.Tables.{setting_of}
use Rattle.qc_moss.specs.Locks.{Table}
use Rattle.qc_desk.specs.Consulting.{HasAsked}
use Rattle.qc_desk.proofs.Consulting.{asked_later}
use Rattle.qc_site.specs.Replica.{IsTableOf}
use Rattle.qc_site.proofs.Replicas.{looked_none, table_on, table_reserved}
use Rattle.qc_site.proofs.replica_desk.ask_desk.Goals as goal

pub consult-requires-clause-follows : goal.consult-requires-clause-follows
consult-requires-clause-follows g c =
    let copy = c.args.ask.now.copy in
    (table_reserved (slice_index_or g.N.Store.base copy []) c.args.pass.now.seen copy c.args.locks.now c.reserve.new.self c.in-Ok.ensures.ok c.requires.locks).follows

pub returns-in-Ok-clause-asked : goal.returns-in-Ok-clause-asked
returns-in-Ok-clause-asked g c =
    subst (λ p. HasAsked p c.args.ask.now) c.consult.ensures.same (asked_later c.args.seer.now.seen c.consult.new.seer.seen c.args.ask.now c.consult.ensures.shown.0 c.requires.asked)

pub returns-in-Ok-clause-locks : goal.returns-in-Ok-clause-locks
returns-in-Ok-clause-locks g c =
    let told = c.consult.ensures in
    record { same_start = told.start ∙ ap (λ (t : Table). t.start) c.in-Ok.ensures.ok ∙ c.requires.locks.same_start; follows = told.follows }

pub returns-in-Err-clause-locks : goal.returns-in-Err-clause-locks
returns-in-Err-clause-locks g c =
    let setting = setting_of g.N.Store.table g.N.Store.base in
    let copy = c.args.ask.now.copy in
    let row = slice_index_or g.N.Store.base copy [] in
    let v = c.args.pass.now in
    let w = c.ask_without_room.new.pass in
    let legal = c.ask_without_room.ensures.known.0.legal in
    let still = subst (IsTableOf row v.seen copy) (sym c.in-Err.ensures.err) c.requires.locks in
    table_on setting copy v w legal (looked_none setting copy v w c.requires.copy.1 legal c.ask_without_room.ensures.looked) row c.reserve.new.self still
