use Rattle.std.proofs.Common.{inr, refl, sym, ◌∙◌}
use Rattle.std.specs.Prelude.{None}
use Rattle.qc_event.specs.Tables.{setting_of}
use Rattle.qc_journal.specs.Journal.{disk_of}
use Rattle.qc_site.specs.Calls.{site_state}
use Rattle.qc_site.specs.Log.{log_journal}
use Rattle.qc_site.proofs.Calls.{became_on, nothing_done, same_pass}
use Rattle.qc_site.proofs.site.Site.restore.Goals as goal

pub returns-in_err-given-clause-became : goal.returns-in_err-given-clause-became
returns-in_err-given-clause-became g c = nothing_done (setting_of g.N.Store.table g.N.Store.base) g.row.C _ (g.met.D.Disk.leaves_now (disk_of (log_journal c.args.self.now.log)))

pub returns-in_err-restore-clause-became : goal.returns-in_err-restore-clause-became
returns-in_err-restore-clause-became g c =
    let setting = setting_of g.N.Store.table g.N.Store.base in
    let mid = c.enter_hand.new.self in
    let law = g.met.D.Disk.leaves_now (disk_of (log_journal mid.log)) in
    became_on setting g.row.C None (site_state c.args.self.now) (site_state mid) _ law c.enter_hand.ensures.became
    (same_pass setting g.row.C (site_state mid) _ law refl refl (c.restore.ensures.hand ∙ sym c.in_ok-enter_hand.ensures.none) c.restore.ensures.pass)

pub returns-clause-became : goal.returns-clause-became
returns-clause-became g c =
    let setting = setting_of g.N.Store.table g.N.Store.base in
    let mid = c.enter_hand.new.self in
    let law = g.met.D.Disk.leaves_now (disk_of (log_journal mid.log)) in
    became_on setting g.row.C None (site_state c.args.self.now) (site_state mid) _ law c.enter_hand.ensures.became
    (same_pass setting g.row.C (site_state mid) _ law refl refl (c.restore.ensures.hand ∙ sym c.in_ok-enter_hand.ensures.none) c.restore.ensures.pass)

pub returns-in_err-enter_hand-clause-hand : goal.returns-in_err-enter_hand-clause-hand
returns-in_err-enter_hand-clause-hand g c = inr c.in_err-enter_hand.ensures.keeps
