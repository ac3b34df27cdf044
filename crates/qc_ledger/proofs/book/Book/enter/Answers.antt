-- The disk leaves the records that were found, and no others.
use Rattle.std.proofs.Common.{sym, ap, ◌∙◌, subst}
use Rattle.qc_journal.specs.Journal.{Keeps, disk_of}
use Rattle.qc_ledger.specs.Mounted.{records_of}
use Rattle.qc_ledger.specs.Shelf.{journal_in}
use Rattle.qc_ledger.proofs.Since.{tops_first}
use Rattle.qc_ledger.proofs.book.Book.enter.Goals as goal

pub returns-clause-grown : goal.returns-clause-grown
returns-clause-grown g c = λ told since is keeps.
    let shelf = c.open.result in
    tops_first told (records_of c.args.self) since shelf c.args.pass.seen (is ∙ sym (ap (λ j. (g.D.Disk.view (disk_of j)).moment) c.open.ensures.journal)) c.open.ensures.up
    (subst (λ j. Keeps j (records_of c.args.self)) (sym c.open.ensures.journal) keeps) (g.met.D.Disk.leaves_now (disk_of (journal_in shelf)))
