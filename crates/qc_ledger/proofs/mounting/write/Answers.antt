-- What one record more leaves.
use Rattle.qc_journal.specs.Image.{bodies_of}
use Rattle.qc_journal.specs.Journal.{disk_of}
use Rattle.qc_ledger.proofs.Writing.{one_written}
use Rattle.qc_ledger.proofs.mounting.write.Goals as goal

pub returns-in_err-append-clause-any_moment : goal.returns-in_err-append-clause-any_moment
returns-in_err-append-clause-any_moment g c = λ k.
    one_written g.D.Disk.view (disk_of c.args.journal.now) (disk_of c.append.new.self) (bodies_of c.args.bodies.now.items) c.deref.result.now c.args.next.items c.deref.ensures.value (c.append.ensures.any_moment (bodies_of c.args.bodies.now.items) k)

pub returns-in_err-append-clause-grows : goal.returns-in_err-append-clause-grows
returns-in_err-append-clause-grows g c = λ k index had. c.append.ensures.grows (bodies_of c.args.bodies.now.items) k index had

pub returns-in_err-append_moved-clause-any_moment : goal.returns-in_err-append_moved-clause-any_moment
returns-in_err-append_moved-clause-any_moment g c = λ k.
    one_written g.D.Disk.view (disk_of c.args.journal.now) (disk_of c.append.new.self) (bodies_of c.args.bodies.now.items) c.deref.result.now c.args.next.items c.deref.ensures.value (c.append.ensures.any_moment (bodies_of c.args.bodies.now.items) k)

pub returns-in_err-append_moved-clause-grows : goal.returns-in_err-append_moved-clause-grows
returns-in_err-append_moved-clause-grows g c = λ k index had. c.append.ensures.grows (bodies_of c.args.bodies.now.items) k index had

pub returns-clause-any_moment : goal.returns-clause-any_moment
returns-clause-any_moment g c = λ k.
    one_written g.D.Disk.view (disk_of c.args.journal.now) (disk_of c.append.new.self) (bodies_of c.args.bodies.now.items) c.deref.result.now c.args.next.items c.deref.ensures.value (c.append.ensures.any_moment (bodies_of c.args.bodies.now.items) k)

pub returns-clause-grows : goal.returns-clause-grows
returns-clause-grows g c = λ k index had. c.append.ensures.grows (bodies_of c.args.bodies.now.items) k index had
