-- What was found is what the disk tells.
use Rattle.std.proofs.Common.{Err, refl, ap, sym, subst}
use Rattle.std.specs.Prelude.{IfSome}
use Rattle.qc_journal.specs.Image.{bodies_of}
use Rattle.qc_journal.specs.Journal.{disk_of}
use Rattle.qc_site.specs.Back.{IsAnswer, Says}
use Rattle.qc_site.specs.declared.back.BackNo.{BackNo}
use Rattle.qc_site.proofs.Backs.{answer_told, fault_told, on_err}
use Rattle.qc_site.proofs.Found.{kept_answer, left_found, left_same}
use Rattle.qc_site.proofs.back.read_back.Goals as goal

pub returns-in-Ok-clause-keeps : goal.returns-in-Ok-clause-keeps
returns-in-Ok-clause-keeps g c =
    kept_answer c.args.copies c.args.old c.args.given.now c.args.hand.now c.args.journal.now c.reread.new.self (bodies_of c.in-Ok.found.items) c.said.result (subst (λ found. Says c.args.copies c.args.old c.args.given.now c.args.hand.now (bodies_of found) c.said.result) c.deref.ensures.value c.said.ensures.says)
    (λ bodies k. left_found c.args.journal.now bodies k (g.met.D.Disk.reads_as_image (disk_of c.args.journal.now)) c.reread.new.self (bodies_of c.in-Ok.found.items) c.in-Ok.ensures.records c.in-Ok.ensures.up (c.in-Ok.ensures.tells bodies k))
    (λ bodies k. refl)

pub returns-in-Ok-clause-says : goal.returns-in-Ok-clause-says
returns-in-Ok-clause-says g c =
    answer_told c.args.copies c.args.old c.args.given.now c.args.hand.now (g.D.Disk.view (disk_of c.args.journal.now)).content (bodies_of c.in-Ok.found.items) c.said.result c.in-Ok.ensures.records
    (subst (λ found. Says c.args.copies c.args.old c.args.given.now c.args.hand.now (bodies_of found) c.said.result) c.deref.ensures.value c.said.ensures.says)

pub returns-in-Ok-clause-kept : goal.returns-in-Ok-clause-kept
returns-in-Ok-clause-kept g c = on_err c.said.result (λ bodies k. left_found c.args.journal.now bodies k (g.met.D.Disk.reads_as_image (disk_of c.args.journal.now)) c.reread.new.self (bodies_of c.in-Ok.found.items) c.in-Ok.ensures.records c.in-Ok.ensures.up (c.in-Ok.ensures.tells bodies k))

pub returns-in-Err-clause-says : goal.returns-in-Err-clause-says
returns-in-Err-clause-says g c =
    let told = (g.D.Disk.view (disk_of c.args.journal.now)).content in
    subst (λ (e : BackNo). IfSome told (IsAnswer c.args.copies c.args.old c.args.given.now c.args.hand.now (Err e))) (sym c.back_no.ensures)
    (fault_told c.args.copies c.args.old c.args.given.now c.args.hand.now told c.in-Err.fault c.in-Err.ensures.fault (λ place is. c.in-Err.ensures.broken place (ap Err is)))

pub returns-in-Err-clause-kept : goal.returns-in-Err-clause-kept
returns-in-Err-clause-kept g c = λ bodies k. left_same c.args.journal.now c.reread.new.self bodies (c.in-Err.ensures.kept bodies k) c.in-Err.ensures.in_hand
