-- A crash leaves the disk as it is.
use Rattle.std.proofs.Common.{ℕ, ◌+◌, ◌∙◌, sym, ap, subst}
use Rattle.std.specs.Prelude.{is_some}
use Rattle.std.proofs.Math.Logic.{∥∥₁_map}
use Rattle.qc_event.specs.Tables.{setting_of}
use Rattle.qc_site.specs.Since.{AreGrantsBy}
use Rattle.qc_desk.specs.declared.view.View.{View}
use Rattle.qc_system.specs.Grown.{GrownFrom}
use Rattle.qc_system.specs.Kept.{CopyHadNoRoom, NoneStrange, Pays, downs}
use Rattle.qc_system.proofs.held.Held.crash.Goals as goal

pub invariant_of-self : goal.invariant_of-self
invariant_of-self g c = let setting = setting_of g.N.Store.table g.N.Store.base in record {
  keeps = ∥∥₁_map c.args.self.now.keeps (λ k told. (
    c.crash.ensures.over (g.N.Mounting.found.active (g.row.C + 1)).before (k told).0,
    subst (λ (v : View). GrownFrom (g.N.Mounting.found.active (g.row.C + 1)).first (g.N.Mounting.found.active (g.row.C + 1)).before (AreGrantsBy setting g.row.C v.seen) (g.D.Disk.view c.crash.new.self.log.journal.disk.disk.value)) (sym c.crash.ensures.pass)
        (subst (λ b. GrownFrom (g.N.Mounting.found.active (g.row.C + 1)).first (g.N.Mounting.found.active (g.row.C + 1)).before (AreGrantsBy setting g.row.C c.args.self.now.site.replica.pass.seen) (g.D.Disk.view b.disk.value)) (sym c.crash.ensures.disk) (k told).1),
  ));
  pays = subst (λ (p : View × ℕ). Pays (g.N.Mounting.found.active (g.row.C + 1)).first.faults (downs p.0.mine) p.1) (λ i. (sym c.crash.ensures.pass i, sym (ap (λ b. (g.D.Disk.view b.disk.value).faults) c.crash.ensures.disk) i)) c.args.self.now.pays;
  limit = c.crash.ensures.limit ∙ c.args.self.now.limit;
  full = ∥∥₁_map c.args.self.now.full (λ had told.
      subst (λ (v : View). CopyHadNoRoom setting g.row.C (g.N.Mounting.found.active (g.row.C + 1)).before g.N.Mounting.found.limit v.seen v.mine) (sym c.crash.ensures.pass) (had told));
  plain = ∥∥₁_map c.args.self.now.plain (λ was told. (ap is_some c.crash.ensures.strange ∙ (was told).0, subst (λ (v : View). NoneStrange v.mine) (sym c.crash.ensures.pass) (was told).1));
}
