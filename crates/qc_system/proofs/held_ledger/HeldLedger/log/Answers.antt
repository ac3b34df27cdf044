-- What the ledger logs its disk keeps and pays for.
use Rattle.std.proofs.Common.{sym, ◌∙◌, subst}
use Rattle.std.proofs.Math.Logic.{∥∥₁_elim, ∥∥₁_map}
use Rattle.qc_event.specs.Listed.{listed}
use Rattle.qc_journal.specs.Journal.{disk_of}
use Rattle.qc_ledger.specs.Shelf.{journal_in}
use Rattle.qc_system.specs.Kept.{HadNoRoom}
use Rattle.qc_system.proofs.Grown.{left_on}
use Rattle.qc_system.proofs.held_ledger.HeldLedger.log.Goals as goal

pub invariant_of-self : goal.invariant_of-self
invariant_of-self g c =
    let before = (g.N.Mounting.found.active 0).before in
    let first = (g.N.Mounting.found.active 0).first in
    let old = c.args.self.now.ledger in
    record {
      keeps = ∥∥₁_map c.args.self.now.keeps (λ k told. (
        c.log_listed.ensures.keeps before (k told).0,
        record {
          began = left_on first (disk_of (journal_in old.shelf)) (disk_of (journal_in c.log_listed.new.ledger.shelf)) (λ d. g.D.Disk.view d.disk.value) (c.log_listed.ensures.any_moment before (k told).0).earlier (k told).1.grown.later (k told).1.began;
          grown = c.log_listed.ensures.grown before first.moment (k told).0 (k told).1.grown;
        },
      ));
      pays = c.log_listed.ensures.pays first.faults c.args.self.now.pays;
      limit = c.log_listed.ensures.limit ∙ c.args.self.now.limit;
      full = ∥∥₁_elim c.args.self.now.keeps (hlevel) (λ k. ∥∥₁_map c.args.self.now.full (λ had told.
          subst (λ m. HadNoRoom (listed c.log_listed.new.ledger.pass.seen) before m c.log_listed.new.ledger.pass.mine) (c.log_listed.ensures.limit ∙ c.args.self.now.limit)
          (c.log_listed.ensures.full before (k told).0 (subst (λ m. HadNoRoom (listed old.pass.seen) before m old.pass.mine) (sym c.args.self.now.limit) (had told)))));
    }
