use Rattle.std.proofs.Common.{refl}
use Rattle.qc_event.specs.Tables.{setting_of}
use Rattle.qc_journal.specs.Journal.{disk_of}
use Rattle.qc_site.specs.Log.{log_journal}
use Rattle.qc_site.proofs.Calls.{looked}
use Rattle.qc_site.proofs.site.Site.show.Goals as goal

pub returns-clause-became : goal.returns-clause-became
returns-clause-became g c =
    looked (setting_of g.N.Store.table g.N.Store.base) g.row.C _ _ (g.met.D.Disk.leaves_now (disk_of (log_journal c.args.self.now.log))) refl refl c.show.ensures.hand c.show.ensures.looks.same_grants c.show.ensures.looks.older
