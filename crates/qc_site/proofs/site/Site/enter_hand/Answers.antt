use Rattle.std.proofs.Common.{refl}
use Rattle.qc_event.specs.Tables.{setting_of}
use Rattle.qc_journal.specs.Journal.{disk_of}
use Rattle.qc_site.specs.Log.{log_journal}
use Rattle.qc_site.proofs.Calls.{entered, looked}
use Rattle.qc_site.proofs.Refusals.{site_want}
use Rattle.qc_site.proofs.site.Site.enter_hand.Goals as goal

pub returns-clause-became : goal.returns-clause-became
returns-clause-became g c =
    entered (setting_of g.N.Store.table g.N.Store.base) g.row.C _ _ (g.met.D.Disk.leaves_now (disk_of (log_journal c.args.self.now.log))) c.requires.up refl refl c.in_ok-enter.ensures.none c.in_ok-enter.ensures.grants c.in_ok-enter.ensures.seen

pub returns-in_err-enter-clause-became : goal.returns-in_err-enter-clause-became
returns-in_err-enter-clause-became g c =
    looked (setting_of g.N.Store.table g.N.Store.base) g.row.C _ _ (g.met.D.Disk.leaves_now (disk_of (log_journal c.args.self.now.log))) refl refl c.in_err-enter.ensures.kept c.in_err-enter.ensures.err.same_grants c.in_err-enter.ensures.err.older

pub returns-in_err-enter-clause-refused : goal.returns-in_err-enter-clause-refused
returns-in_err-enter-clause-refused g c = site_want c.enter.new.self.pass.seen c.in_err-enter.field-0.0 c.from_residual.result c.from_residual.ensures.1 c.in_err-enter.ensures.want
