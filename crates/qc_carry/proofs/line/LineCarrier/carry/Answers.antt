-- What a line carried, as a carrier tells it.
use Rattle.std.proofs.Common.{ap, ◌==◌, not}
use Rattle.qc_event.specs.declared.event.Entry.{Entry}
use Rattle.qc_event.specs.Tables.{setting_of}
use Rattle.qc_carry.proofs.Course as course
use Rattle.qc_carry.proofs.line.LineCarrier.carry.Goals as goal

pub returns-clause-others : goal.returns-clause-others
returns-clause-others g c =
    let v = c.args.self.now.pass in
    let w = c.access-carried.new.pass in
    ap (λ n. λ (e : Entry). not (e.seat == n))
    (course.made_of (setting_of g.N.Store.table g.N.Store.base) v w c.args.manager.now c.args.copy c.args.rec c.args.op c.args.self.now.client c.requires c.access-carried.ensures.known.legal c.access-carried.result c.access-carried.ensures.course).1.number

pub returns-clause-grown : goal.returns-clause-grown
returns-clause-grown g c =
    let v = c.args.self.now.pass in
    let w = c.access-carried.new.pass in
    course.grown (setting_of g.N.Store.table g.N.Store.base) v w c.args.manager.now c.args.copy c.args.rec c.args.op c.args.self.now.client c.requires c.access-carried.ensures.known.legal c.access-carried.result c.access-carried.ensures.course

pub returns-clause-carried : goal.returns-clause-carried
returns-clause-carried g c =
    let v = c.args.self.now.pass in
    let w = c.access-carried.new.pass in
    course.carried (setting_of g.N.Store.table g.N.Store.base) v w c.args.manager.now c.args.copy c.args.rec c.args.op c.args.self.now.client c.requires c.access-carried.ensures.known.legal c.access-carried.result c.access-carried.ensures.course
