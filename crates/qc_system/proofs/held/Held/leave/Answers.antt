-- What is kept is kept of what the pass has seen.
use Rattle.std.proofs.Common.{◌≡◌, ◌+◌, sym, ap, ◌∙◌, subst}
use Rattle.std.proofs.Math.Logic.{∥∥₁_elim, ∥∥₁_map}
use Rattle.std.specs.Prelude.{length, IsTrue}
use Rattle.qc_event.specs.declared.event.Why.TheVariants as why
use Rattle.qc_event.specs.Requests.{was_unable}
use Rattle.qc_event.specs.Seats.{copy_seat}
use Rattle.qc_event.specs.Tables.{setting_of}
use Rattle.qc_desk.specs.Entries.{entries_of}
use Rattle.qc_desk.specs.declared.view.View.{View}
use Rattle.qc_site.specs.Since.{AreGrantsBy}
use Rattle.qc_journal.specs.Journal.{disk_of}
use Rattle.qc_pair.specs.Fold.{own_disk, spare_disk}
use Rattle.qc_site.specs.Log.{log_journal}
use Rattle.qc_system.specs.Grown.{GrownFrom}
use Rattle.qc_system.specs.Kept.{CopyHadNoRoom, Pays, downs}
use Rattle.qc_system.specs.Left.{KeepsGrants}
use Rattle.qc_system.proofs.Left.{keeps_grants}
use Rattle.qc_system.proofs.held.Held.leave.Goals as goal

-- the pass's own entries are those seen under its number
pub returns-clause-mine : goal.returns-clause-mine
returns-clause-mine g c = let out = c.into_parts-active.result.1 in
    c.into_parts-active.ensures.known.mine c.into_parts-active.ensures.copy.0 ∙ ap (λ n. entries_of n out.seen) c.into_parts-active.ensures.copy.1

pub returns-clause-own : goal.returns-clause-own
returns-clause-own g c = c.into_disk.ensures ∙ ap (λ b. b.disk.value) (c.into_disks-disk.ensures.own ∙ ap (λ a. own_disk c.args.fold a) c.into_parts-active.ensures.disk)

pub returns-clause-spare : goal.returns-clause-spare
returns-clause-spare g c = c.into_disk-2.ensures ∙ ap (λ b. b.disk.value) (c.into_disks-disk.ensures.spare ∙ ap (λ a. spare_disk c.args.fold a) c.into_parts-active.ensures.disk)

pub returns-clause-kept : goal.returns-clause-kept
returns-clause-kept g c =
    let setting = setting_of g.N.Store.table g.N.Store.base in
    let site = c.args.self.site in
    let out = c.into_parts-active.result.1 in
    let before = (g.N.Mounting.found.active (g.row.C + 1)).before in
    let first = (g.N.Mounting.found.active (g.row.C + 1)).first in
    let disk = disk_of (log_journal site.log) in
    let pass = sym c.into_parts-active.ensures.pass in
    let own : out.mine ≡ entries_of (copy_seat g.row.C) out.seen = returns-clause-mine g c in
    record {
      kept = ∥∥₁_map c.args.self.keeps (λ k told.
          subst (λ (v : View). KeepsGrants setting (length g.N.Store.base) g.row.C before (g.D.Disk.view disk.disk.value).may_leave v.seen) pass
          (subst (λ n. KeepsGrants setting n g.row.C before (g.D.Disk.view disk.disk.value).may_leave site.replica.pass.seen) site.copies
          (keeps_grants setting g.row.C before site.log site.replica (k told).0 c.into_parts-active.ensures.may)));
      grown = ∥∥₁_map c.args.self.keeps (λ k told. subst (λ (v : View). GrownFrom first before (AreGrantsBy setting g.row.C v.seen) (g.D.Disk.view disk.disk.value)) pass (k told).1);
      paid = subst (λ p. Pays first.faults (downs p) (g.D.Disk.view disk.disk.value).faults) (ap (λ (v : View). v.mine) pass ∙ own) c.args.self.pays;
      full = ∥∥₁_map c.args.self.full (λ had told.
          subst (λ p. CopyHadNoRoom setting g.row.C before g.N.Mounting.found.limit out.seen p) own
          (subst (λ (v : View). CopyHadNoRoom setting g.row.C before g.N.Mounting.found.limit v.seen v.mine) pass (had told)));
      plain = λ told access unable. ∥∥₁_elim c.args.self.plain (hlevel) (λ none.
          (none told).1 access (subst (λ p. IsTrue (was_unable p access why.Strange)) (sym (ap (λ (v : View). v.mine) pass ∙ own)) unable));
    }
