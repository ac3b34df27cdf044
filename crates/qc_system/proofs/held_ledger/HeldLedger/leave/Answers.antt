-- What is kept is kept of what the pass has seen.
use Rattle.std.proofs.Common.{◌≡◌, sym, ap, ◌∙◌, subst}
use Rattle.std.proofs.Math.Logic.{∥∥₁_map}
use Rattle.qc_event.specs.Tables.{setting_of}
use Rattle.qc_event.specs.Listed.{listed}
use Rattle.qc_event.specs.Seats.{ledger_seat}
use Rattle.qc_desk.specs.Entries.{entries_of}
use Rattle.qc_desk.specs.declared.view.View.{View}
use Rattle.qc_journal.specs.Journal.{disk_of}
use Rattle.qc_ledger.specs.Shelf.{journal_in}
use Rattle.qc_pair.specs.Fold.{own_disk, spare_disk}
use Rattle.qc_system.specs.Kept.{HadNoRoom, NoRoomForTops, Pays, TopsSince, downs}
use Rattle.qc_system.proofs.Left.{keeps_tops}
use Rattle.qc_system.proofs.Room.{no_room_by}
use Rattle.qc_system.proofs.held_ledger.HeldLedger.leave.Goals as goal

-- the pass's own entries are those seen under its number
pub returns-clause-mine : goal.returns-clause-mine
returns-clause-mine g c = let pass = c.into_parts-active.result.1 in
    c.into_parts-active.ensures.known.mine c.into_parts-active.ensures.ledger.0 ∙ ap (λ n. entries_of n pass.seen) c.into_parts-active.ensures.ledger.1

pub returns-clause-own : goal.returns-clause-own
returns-clause-own g c = c.into_disk.ensures ∙ ap (λ b. b.disk.value) (c.into_disks-disk.ensures.own ∙ ap (λ a. own_disk c.args.fold a) c.into_parts-active.ensures.disk)

pub returns-clause-spare : goal.returns-clause-spare
returns-clause-spare g c = c.into_disk-2.ensures ∙ ap (λ b. b.disk.value) (c.into_disks-disk.ensures.spare ∙ ap (λ a. spare_disk c.args.fold a) c.into_parts-active.ensures.disk)

pub returns-clause-kept : goal.returns-clause-kept
returns-clause-kept g c =
    let setting = setting_of g.N.Store.table g.N.Store.base in
    let ledger = c.args.self.ledger in
    let pass = c.into_parts-active.result.1 in
    let before = (g.N.Mounting.found.active 0).before in
    let first = (g.N.Mounting.found.active 0).first in
    let own = disk_of (journal_in ledger.shelf) in
    let same = sym c.into_parts-active.ensures.pass in
    let entered : pass.mine ≡ entries_of ledger_seat pass.seen = returns-clause-mine g c in
    record {
      kept = ∥∥₁_map c.args.self.keeps (λ k told.
          keeps_tops setting before ledger.shelf pass c.into_parts-active.ensures.known.legal entered c.into_parts-active.ensures.may
          (subst (λ (v : View). TopsSince (g.N.Mounting.found.active 0) ledger.shelf v) same k told).0);
      grown = ∥∥₁_map c.args.self.keeps (λ k told. (subst (λ (v : View). TopsSince (g.N.Mounting.found.active 0) ledger.shelf v) same k told).1);
      paid = subst (λ p. Pays first.faults (downs p) (g.D.Disk.view own.disk.value).faults) (ap (λ (v : View). v.mine) same ∙ entered) c.args.self.pays;
      full = λ told.
          let f = listed pass.seen in
          let had = ∥∥₁_map c.args.self.full (λ had. subst (λ (v : View). NoRoomForTops (g.N.Mounting.found.active 0) g.N.Mounting.found.limit v) same had told) in
          subst (HadNoRoom f before g.N.Mounting.found.limit) entered (no_room_by f before g.N.Mounting.found.limit pass.mine had);
    }
