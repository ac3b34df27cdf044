use Rattle.std.proofs.Common.{refl, sym, ◌∙◌, subst}
use Rattle.std.specs.Prelude.{None, Ok, IsErrOf}
use Rattle.qc_event.specs.Tables.{setting_of}
use Rattle.qc_journal.specs.Journal.{disk_of}
use Rattle.qc_ledger.specs.Entered.{AtMost}
use Rattle.qc_ledger.specs.Runs.{CostsOnce}
use Rattle.qc_desk.proofs.Seers.{older_trans}
use Rattle.qc_desk.specs.Entries.{IsOlder}
use Rattle.qc_site.specs.AtDesk.{hand_entries}
use Rattle.qc_site.specs.Calls.{site_state}
use Rattle.qc_site.specs.Log.{log_journal}
use Rattle.qc_site.specs.declared.fault.SiteNo.TheVariants.{Disk}
use Rattle.qc_site.proofs.Calls.{became_last, became_on, looked, none_on}
use Rattle.qc_site.proofs.Checkpoints.{none_then}
use Rattle.qc_site.proofs.Refusals.{handed_refusal}
use Rattle.qc_site.proofs.site.Site.hold.Goals as goal

-- WHERE IT DOES NOT RISE

pub returns-in_err-rise-clause-older : goal.returns-in_err-rise-clause-older
returns-in_err-rise-clause-older g c = subst (λ p. IsOlder p c.rise.new.self.replica.pass.seen) (sym c.show.ensures.same) c.rise.ensures.became.seen

pub returns-in_err-rise-clause-became : goal.returns-in_err-rise-clause-became
returns-in_err-rise-clause-became g c =
    became_on (setting_of g.N.Store.table g.N.Store.base) g.row.C None (site_state c.args.self.now) (site_state c.show.new.self) (site_state c.rise.new.self)
    (g.met.D.Disk.leaves_now (disk_of (log_journal c.show.new.self.log))) c.show.ensures.became c.rise.ensures.became

pub returns-in_err-rise-clause-wrote_none : goal.returns-in_err-rise-clause-wrote_none
returns-in_err-rise-clause-wrote_none g c =
    none_then (setting_of g.N.Store.table g.N.Store.base) g.row.C (site_state c.args.self.now) (site_state c.show.new.self) (site_state c.rise.new.self)
    c.show.ensures.log c.show.ensures.looks.older c.rise.ensures.wrote_none

pub returns-in_err-rise-clause-counts_once : goal.returns-in_err-rise-clause-counts_once
returns-in_err-rise-clause-counts_once g c =
    subst (λ l. CostsOnce (log_journal l) (log_journal c.rise.new.self.log) (IsErrOf c.from_residual.result Disk)) c.show.ensures.log
    record {
      once = c.rise.ensures.counts_once.once;
      spared = λ never. c.rise.ensures.counts_once.spared (λ failed.
          never (handed_refusal c.from_residual.result c.in_err-rise.field-0.0 Disk c.from_residual.ensures.1 (sym c.in_err-rise.was ∙ failed)));
    }

-- WHERE IT DOES

pub invariant_of-self : goal.invariant_of-self
invariant_of-self g c = record {
  journal = λ up down. c.rise.new.self.journal (sym c.held.ensures.up ∙ up) down;
  sound = λ strange. c.held.ensures.up ∙ c.rise.new.self.sound strange;
  copies = c.rise.new.self.copies;
}

pub returns-in_err-held-clause-older : goal.returns-in_err-held-clause-older
returns-in_err-held-clause-older g c =
    older_trans c.show.new.seer.seen c.rise.new.self.replica.pass.seen c.held.new.self.pass.seen
    (subst (λ p. IsOlder p c.rise.new.self.replica.pass.seen) (sym c.show.ensures.same) c.rise.ensures.became.seen) c.held.ensures.looks.older

pub returns-clause-older : goal.returns-clause-older
returns-clause-older g c =
    older_trans c.show.new.seer.seen c.rise.new.self.replica.pass.seen c.held.new.self.pass.seen
    (subst (λ p. IsOlder p c.rise.new.self.replica.pass.seen) (sym c.show.ensures.same) c.rise.ensures.became.seen) c.held.ensures.looks.older

pub returns-in_err-held-clause-became : goal.returns-in_err-held-clause-became
returns-in_err-held-clause-became g c =
    let setting = setting_of g.N.Store.table g.N.Store.base in
    let law = g.met.D.Disk.leaves_now (disk_of (log_journal c.rise.new.self.log)) in
    became_last setting g.row.C None (site_state c.args.self.now) (site_state c.rise.new.self) _ law
    (became_on setting g.row.C None (site_state c.args.self.now) (site_state c.show.new.self) (site_state c.rise.new.self)
    (g.met.D.Disk.leaves_now (disk_of (log_journal c.show.new.self.log))) c.show.ensures.became c.rise.ensures.became)
    (looked setting g.row.C (site_state c.rise.new.self) _ law refl refl c.held.ensures.hand c.held.ensures.looks.same_grants c.held.ensures.looks.older)

pub returns-clause-became : goal.returns-clause-became
returns-clause-became g c =
    let setting = setting_of g.N.Store.table g.N.Store.base in
    let law = g.met.D.Disk.leaves_now (disk_of (log_journal c.rise.new.self.log)) in
    became_last setting g.row.C None (site_state c.args.self.now) (site_state c.rise.new.self) _ law
    (became_on setting g.row.C None (site_state c.args.self.now) (site_state c.show.new.self) (site_state c.rise.new.self)
    (g.met.D.Disk.leaves_now (disk_of (log_journal c.show.new.self.log))) c.show.ensures.became c.rise.ensures.became)
    (looked setting g.row.C (site_state c.rise.new.self) _ law refl refl c.held.ensures.hand c.held.ensures.looks.same_grants c.held.ensures.looks.older)

pub returns-in_err-held-clause-wrote_none : goal.returns-in_err-held-clause-wrote_none
returns-in_err-held-clause-wrote_none g c =
    let setting = setting_of g.N.Store.table g.N.Store.base in
    none_on setting g.row.C (site_state c.args.self.now) (site_state c.rise.new.self) _
    (none_then setting g.row.C (site_state c.args.self.now) (site_state c.show.new.self) (site_state c.rise.new.self) c.show.ensures.log c.show.ensures.looks.older c.rise.ensures.wrote_none)
    refl c.held.ensures.looks.older

pub returns-clause-wrote_none : goal.returns-clause-wrote_none
returns-clause-wrote_none g c =
    let setting = setting_of g.N.Store.table g.N.Store.base in
    none_on setting g.row.C (site_state c.args.self.now) (site_state c.rise.new.self) _
    (none_then setting g.row.C (site_state c.args.self.now) (site_state c.show.new.self) (site_state c.rise.new.self) c.show.ensures.log c.show.ensures.looks.older c.rise.ensures.wrote_none)
    refl c.held.ensures.looks.older

pub returns-in_err-held-clause-counts_once : goal.returns-in_err-held-clause-counts_once
returns-in_err-held-clause-counts_once g c =
    subst (λ l. CostsOnce (log_journal l) (log_journal c.rise.new.self.log) (IsErrOf c.from_residual-in_err-held.result Disk)) c.show.ensures.log
    record { once = c.in_ok-rise.ensures.counts_once.once; spared = λ never. c.in_ok-rise.ensures.counts_once.spared (λ failed. absurd cc) }

pub returns-clause-counts_once : goal.returns-clause-counts_once
returns-clause-counts_once g c =
    subst (λ l. CostsOnce (log_journal l) (log_journal c.rise.new.self.log) (IsErrOf (Ok c.in_ok-held.held) Disk)) c.show.ensures.log
    record { once = c.in_ok-rise.ensures.counts_once.once; spared = λ never. c.in_ok-rise.ensures.counts_once.spared (λ failed. absurd cc) }

pub returns-clause-enters : goal.returns-clause-enters
returns-clause-enters g c =
    let mine = c.held.new.self.pass.mine in
    subst (λ m. AtMost (hand_entries g.row.C c.args.self.now.replica.hand) m mine) c.show.ensures.looks.mine
    (subst (λ h. AtMost (hand_entries g.row.C h) c.show.new.self.replica.pass.mine mine) c.show.ensures.hand
    (subst (λ m. AtMost (hand_entries g.row.C c.show.new.self.replica.hand) c.show.new.self.replica.pass.mine m) (sym c.held.ensures.looks.mine) c.rise.ensures.enters))
