-- What is wrong with the bodies is handed on.
use Rattle.std.proofs.Common.{arith, ap, subst, List, ℕ, sym}
use Rattle.std.specs.Prelude.{Err}
use Rattle.qc_journal.specs.Image.{bodies_of}
use Rattle.qc_journal.specs.Journal.{Keeps, disk_of, limit_of}
use Rattle.qc_journal.proofs.Moments.{started}
use Rattle.qc_ledger.specs.Mounted.{HasSome}
use Rattle.qc_ledger.proofs.Writing.{kept_has, some_of_none}
use Rattle.qc_codec.specs.declared.image.ImageFault.{ImageFault}
use Rattle.qc_ledger.specs.Image.{made_where_none, IsFull}
use Rattle.qc_ledger.specs.Runs.{KeepsAll}
use Rattle.qc_site.specs.Image.{IsCopyFault, AreGranted, to_write}
use Rattle.qc_site.specs.Refusing.{IsOfCopyImage}
use Rattle.qc_site.proofs.Faults.{no_disk, passed_on, write_refusal}
use Rattle.qc_site.proofs.mounting.begin.Goals as goal

pub returns-in_err-told-clause-refused : goal.returns-in_err-told-clause-refused
returns-in_err-told-clause-refused g c =
    let disk = c.args.who in
    let table = c.args.table.now in
    let past = c.args.past.now in
    let limit = limit_of c.args.journal.now in
    let bodies = bodies_of c.args.bodies.now.items in
    passed_on disk c.from_residual-in_err-told.result c.in_err-told.field-0.0 (IsCopyFault disk table past limit (bodies_of c.deref-2.result.now)) (λ fault. Keeps c.args.journal.now bodies → IsCopyFault disk table past limit bodies fault)
    (λ f is k. subst (λ (b : List (List ℕ)). IsCopyFault disk table past limit b f) (ap bodies_of c.deref-2.ensures.value) is)
    c.from_residual-in_err-told.ensures.1 (c.in_err-told.ensures.fault limit)

pub returns-clause-refused : goal.returns-clause-refused
returns-clause-refused g c =
    let disk = c.args.who in
    let table = c.args.table.now in
    let past = c.args.past.now in
    let limit = limit_of c.args.journal.now in
    let bodies = bodies_of c.args.bodies.now.items in
    let P = λ (fault : ImageFault). KeepsAll c.args.journal.now c.args.bodies.now → IsCopyFault disk table past limit bodies fault in
    let granted : AreGranted disk table past bodies = subst (λ (b : List (List ℕ)). AreGranted disk table past b) (ap bodies_of c.deref-2.ensures.value) c.in_ok-told.ensures.granted in
    subst (IsOfCopyImage disk P) (sym c.mount_no.ensures)
    (write_refusal disk P c.in-Err.fault c.in-Err.ensures.fault
    (λ place is k. (granted, subst (λ made. IsFull limit bodies (made_where_none made bodies) place) c.in_ok-made.ensures (c.in-Err.ensures.full place (ap Err is) k))))

pub returns-in_err-told-clause-cause : goal.returns-in_err-told-clause-cause
returns-in_err-told-clause-cause g c = record {
  later = omega arith;
  failed = λ is. absurd (no_disk c.args.who c.from_residual-in_err-told.result c.in_err-told.field-0.0 (IsCopyFault c.args.who c.args.table.now c.args.past.now 0 (bodies_of c.deref-2.result.now)) c.from_residual-in_err-told.ensures.1 (c.in_err-told.ensures.fault 0) is);
}

pub returns-in_err-made-clause-any_moment : goal.returns-in_err-made-clause-any_moment
returns-in_err-made-clause-any_moment g c = λ k.
    let disk = disk_of c.args.journal.now in
    let bodies = bodies_of c.args.bodies.now.items in
    let more = to_write c.args.who c.args.table.now bodies in
    started g.D.Disk.view disk (HasSome bodies more)
    (λ image left. some_of_none bodies more image (kept_has c.args.journal.now bodies image c.requires.up k ((g.met.D.Disk.leaves_now disk image).0 left)))

pub returns-in_err-told-clause-any_moment : goal.returns-in_err-told-clause-any_moment
returns-in_err-told-clause-any_moment g c = λ k.
    let disk = disk_of c.args.journal.now in
    let bodies = bodies_of c.args.bodies.now.items in
    let more = to_write c.args.who c.args.table.now bodies in
    started g.D.Disk.view disk (HasSome bodies more)
    (λ image left. some_of_none bodies more image (kept_has c.args.journal.now bodies image c.requires.up k ((g.met.D.Disk.leaves_now disk image).0 left)))

pub returns-in_err-start-clause-any_moment : goal.returns-in_err-start-clause-any_moment
returns-in_err-start-clause-any_moment g c = λ k.
    let disk = disk_of c.args.journal.now in
    let bodies = bodies_of c.args.bodies.now.items in
    let more = to_write c.args.who c.args.table.now bodies in
    started g.D.Disk.view disk (HasSome bodies more)
    (λ image left. some_of_none bodies more image (kept_has c.args.journal.now bodies image c.requires.up k ((g.met.D.Disk.leaves_now disk image).0 left)))
